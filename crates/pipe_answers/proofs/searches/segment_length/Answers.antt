use Rattle.std.proofs.Common.{◌≡◌, ◌∙◌, ◌+◌, List, drop, map, ap, rules}
use Rattle.std.proofs.Math.Facts.{to_z-of_z}
use Rattle.par_laws.specs.declared.test.Verdict.{Verdict}
use Rattle.par_laws.specs.Verdict.{contrary}
use Rattle.par_lists.specs.Cuts.{place, segment_length}
use Rattle.par_rows.specs.declared.row.Row.{Row}
use Rattle.par_task.specs.Marking.{low_flag, passes}
use Rattle.par_jobs.specs.Faults.{fault_at, tried}
use Rattle.par_jobs.specs.Runs.{IsRunOver}
use Rattle.pipe_answers.specs.Texts.{count_text}
use Rattle.pipe_answers.proofs.Tries.{fault_so, got_so, over}
use Rattle.par_pool.specs.Plans.{planned}
use Rattle.pipe_answers.proofs.searches.segment_length.Goals as goal

pub returns-in-Got : goal.returns-in-Got
returns-in-Got g c =
    let answer = over (λ (v : Row → Verdict) (xs : List Row). c.in_ok-tried.tried ≡ tried (fault_at (map v xs) (place c.args.from + segment_length (λ x. passes (v x)) (place c.args.from) xs)) (segment_length (λ x. passes (v x)) (place c.args.from) xs)) _ _ _ _ c.in_ok-test.ensures c.new-source.ensures.list (rw (to_z-of_z c.ranges.from) at c.in_ok-tried.ensures.answer) in
    let audit = over (λ (v : Row → Verdict) (xs : List Row). IsRunOver low_flag (λ x. contrary (v x)) (drop (place c.args.from) xs) (planned c.args.plan.now.workers c.args.plan.now.level) c.in_ok-tried.audit) _ _ _ _ c.in_ok-test.ensures c.new-source.ensures.list (rw (to_z-of_z c.ranges.from) at c.in_ok-tried.ensures.audit) in
    let got = got_so _ _ _ _ answer c.in-Got.is in
    let same : c.from.result ≡ c.in-Got.length = search rules in
    (got.0, c.in_ok-count-in-Got.ensures ∙ ap count_text (same ∙ got.1), audit)

pub returns : goal.returns
returns g c =
    let answer = over (λ (v : Row → Verdict) (xs : List Row). c.in_ok-tried.tried ≡ tried (fault_at (map v xs) (place c.args.from + segment_length (λ x. passes (v x)) (place c.args.from) xs)) (segment_length (λ x. passes (v x)) (place c.args.from) xs)) _ _ _ _ c.in_ok-test.ensures c.new-source.ensures.list (rw (to_z-of_z c.ranges.from) at c.in_ok-tried.ensures.answer) in
    fault_so _ _ _ _ answer c.in-Fault.is
