use Rattle.std.proofs.Common.{◌≡◌, map, subst, arith, rules}
use Rattle.std.proofs.lemmas.Bool.{false≢true}
use Rattle.par_signal.specs.Values.{IsLow}
use Rattle.par_task.specs.Marking.{low_flag, marks_of}
use Rattle.par_jobs.proofs.Fronts.{low_past, between_none, leaf_after_read}
use Rattle.par_jobs.proofs.low.pass_low.Goals as goal

pub returns-then-flag-lo-clause-passed : goal.returns-then-flag-lo-clause-passed
returns-then-flag-lo-clause-passed g c =
    let source = g.S.Splitter.items c.args.marked.now.split in
    let marks = marks_of low_flag (map (g.P.Test.verdict c.args.marked.now.inner) source) in
    let begun : c.span-lo.result.0 ≡ g.S.Splitter.lo c.args.input.now = c.span-lo.ensures.lo in
    let flag_is : IsLow marks c.read_low-flag.result = subst (λ m. IsLow m c.read_low-flag.result) c.requires.marks c.read_low-flag.ensures.names in
    rw c.leaf_did.ensures (rw begun (record {
      from = omega arith;
      within = omega arith;
      clear = λ k a b. absurd (omega arith);
      kept_is = subst (λ w. g.B.Builder.built c.args.builder.now w (g.B.Built.Shown.shown c.in_ok-none.none)) (between_none source (g.S.Splitter.lo c.args.input.now)) c.in_ok-none.ensures;
      all = λ t. absurd (false≢true t);
      cut = λ _. omega (arith, begun, c.if-flag-lo.true, low_past marks c.read_low-flag.result flag_is);
    }))

pub returns-clause-leaf : goal.returns-clause-leaf
returns-clause-leaf g c = rw (← c.take-asking.ensures.taken) (search (rules, leaf_after_read))
