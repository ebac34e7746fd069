use Rattle.std.proofs.Common.{◌≡◌, min, length, ap, ◌∙◌}
use Rattle.std.proofs.Math.Facts.{to_z-of_z}
use Rattle.par_lists.specs.Cuts.{place}
use Rattle.par_jobs.specs.Faults.{tried}
use Rattle.par_access.proofs.Firsts.{rest_is, segment_is}
use Rattle.par_access.proofs.indexes.segment_length_alone.Goals as goal

pub returns-clause-answer : goal.returns-clause-answer
returns-clause-answer g c =
    let V = g.P.Test.verdict c.args.test.now in
    let xs = g.S.Splitter.items c.args.source in
    let first : c.place_among-first.result ≡ min (place c.args.from) (length xs) = rw (to_z-of_z c.ranges.from) at c.place_among-first.ensures ∙ ap (λ n. min (place c.args.from) n) c.remaining.ensures in
    let rest = rest_is xs _ _ (place c.args.from) _ first c.cut_at-rest.ensures.parts.joined c.cut_at-rest.ensures.count in
    let fault = rw c.dup-whole.ensures.items_same at c.fault_here-fault.ensures in
    c.tried.ensures
    ∙ (ap (λ f. tried f c.in_ok-front.front.end) fault
    ∙ segment_is V xs _ (place c.args.from) _ c.in_ok-front.front.end first (c.new.ensures.list ∙ rest) c.in_ok-front.ensures.end)

pub returns-clause-audit : goal.returns-clause-audit
returns-clause-audit g c =
    let xs = g.S.Splitter.items c.args.source in
    let first : c.place_among-first.result ≡ min (place c.args.from) (length xs) = rw (to_z-of_z c.ranges.from) at c.place_among-first.ensures ∙ ap (λ n. min (place c.args.from) n) c.remaining.ensures in
    let rest = rest_is xs _ _ (place c.args.from) _ first c.cut_at-rest.ensures.parts.joined c.cut_at-rest.ensures.count in
    rw (c.new.ensures.list ∙ rest) at c.in_ok-front.ensures.audit
