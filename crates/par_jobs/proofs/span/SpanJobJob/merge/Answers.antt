use Rattle.std.proofs.Common.{map, arith}
use mathlib.Core.Logic.{∥∥₁_elim, ∥∥₁_map, ∥∥₁_prop}
use Rattle.par_task.specs.Parts.{between}
use Rattle.par_task.specs.Marking.{low_flag, marks_of}
use Rattle.par_jobs.specs.Spanned.{spanned_whole}
use Rattle.par_jobs.proofs.Fronts.{length-between}
use Rattle.par_jobs.proofs.span.SpanJobJob.merge.Goals as goal

pub join-requires : goal.join-requires
join-requires g c =
    let source = g.S.Splitter.items c.args.self.now.marked.split in
    ∥∥₁_elim c.requires.6 ∥∥₁_prop
    (λ a. ∥∥₁_map c.requires.7
    (λ b. (
      _,
      _,
      omega (arith, length-between source c.requires.0 c.args.left.end, length-between source c.requires.1 c.args.right.end, a.from, a.within, b.from, b.within, c.requires.5, c.args.self.now.small),
      a.prefix_is,
      b.prefix_is,
    )))

pub join-requires-2 : goal.join-requires-2
join-requires-2 g c =
    let source = g.S.Splitter.items c.args.self.now.marked.split in
    ∥∥₁_map c.requires.7
    (λ b. (
      _,
      _,
      omega (arith, length-between source c.requires.1 c.args.right.end, length-between source c.args.right.end c.requires.2, b.from, b.within, c.requires.5, c.args.self.now.small),
      b.prefix_is,
      b.suffix_is,
    ))

pub join-requires-3 : goal.join-requires-3
join-requires-3 g c =
    let source = g.S.Splitter.items c.args.self.now.marked.split in
    let marks = marks_of low_flag (map (g.P.Test.verdict c.args.self.now.marked.inner) source) in
    ∥∥₁_elim c.requires.6 ∥∥₁_prop
    (λ a. ∥∥₁_map c.requires.7
    (λ b. (
      between source c.args.left.end c.requires.1,
      between source c.requires.1 c.requires.2,
      omega (arith, length-between source c.args.left.end c.requires.1, length-between source c.requires.1 c.requires.2, a.from, a.within, c.requires.4, c.requires.5, c.args.self.now.small),
      a.suffix_is,
      spanned_whole (g.B.Builder.built c.args.self.now.builder.now) (g.B.Builder.joined c.args.self.now.builder.now) (g.met.B.Builder.joins c.args.self.now.builder.now) source marks c.requires.0 c.requires.1 c.requires.2
          (record { prefix = g.B.Built.Shown.shown c.args.right.prefix; suffix = g.B.Built.Shown.shown c.args.right.suffix; end = c.args.right.end; whole = c.args.right.whole }) _ c.requires.4 b c.in_ok-rest.ensures,
    )))
