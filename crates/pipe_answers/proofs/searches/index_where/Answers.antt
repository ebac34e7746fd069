use Rattle.std.proofs.Common.{◌≡◌, ◌∙◌, List, map, ap, rules}
use Rattle.par_laws.specs.declared.test.Verdict.{Verdict}
use Rattle.par_lists.specs.Searches.{index_where}
use Rattle.par_rows.specs.declared.row.Row.{Row}
use Rattle.par_task.specs.Marking.{low_flag, passes}
use Rattle.par_jobs.specs.Faults.{fault_of, tried}
use Rattle.par_jobs.specs.Runs.{IsRunOver}
use Rattle.pipe_answers.specs.Texts.{number_text}
use Rattle.pipe_answers.proofs.Tries.{fault_so, got_so, over}
use Rattle.par_pool.specs.Plans.{planned}
use Rattle.pipe_answers.proofs.searches.index_where.Goals as goal

pub returns-in-Got : goal.returns-in-Got
returns-in-Got g c =
    let answer = over (λ (v : Row → Verdict) (xs : List Row). c.in_ok-tried.tried ≡ tried (fault_of low_flag (map v xs)) (index_where (λ x. passes (v x)) xs)) _ _ _ _ c.in_ok-test.ensures c.new-source.ensures.list c.in_ok-tried.ensures.answer in
    let audit = over (λ (v : Row → Verdict) (xs : List Row). IsRunOver low_flag v xs (planned c.args.plan.now.workers c.args.plan.now.level) c.in_ok-tried.audit) _ _ _ _ c.in_ok-test.ensures c.new-source.ensures.list c.in_ok-tried.ensures.audit in
    let got = got_so _ _ _ _ answer c.in-Got.is in
    let text : c.in_ok-number-in-Got.field-0.items ≡ number_text c.in-Got.index = search rules in
    (got.0, text ∙ ap number_text got.1, audit)

pub returns : goal.returns
returns g c =
    let answer = over (λ (v : Row → Verdict) (xs : List Row). c.in_ok-tried.tried ≡ tried (fault_of low_flag (map v xs)) (index_where (λ x. passes (v x)) xs)) _ _ _ _ c.in_ok-test.ensures c.new-source.ensures.list c.in_ok-tried.ensures.answer in
    fault_so _ _ _ _ answer c.in-Fault.is
