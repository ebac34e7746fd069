use Rattle.std.proofs.Common.{◌≡◌, ◌∙◌, List, map, ap}
use Rattle.std.specs.List.{list_all}
use Rattle.par_laws.specs.declared.test.Verdict.{Verdict}
use Rattle.par_laws.specs.Verdict.{contrary}
use Rattle.par_rows.specs.declared.row.Row.{Row}
use Rattle.par_task.specs.Marking.{abort_flag, passes}
use Rattle.par_jobs.specs.Faults.{fault_of, tried}
use Rattle.par_jobs.specs.Runs.{IsRunOver}
use Rattle.pipe_answers.specs.Texts.{truth_text}
use Rattle.pipe_answers.proofs.Tries.{fault_so, got_so, over}
use Rattle.par_task.specs.Manners.{alone}
use Rattle.pipe_answers.proofs.searches.forall_alone.Goals as goal

pub returns-in-Got : goal.returns-in-Got
returns-in-Got g c =
    let answer = over (λ (v : Row → Verdict) (xs : List Row). c.in_ok-tried.tried ≡ tried (fault_of abort_flag (map (λ x. contrary (v x)) xs)) (list_all (λ x. passes (v x)) xs)) _ _ _ _ c.in_ok-test.ensures c.new-source.ensures.list c.in_ok-tried.ensures.answer in
    let audit = over (λ (v : Row → Verdict) (xs : List Row). IsRunOver abort_flag (λ x. contrary (v x)) xs (alone c.args.level) c.in_ok-tried.audit) _ _ _ _ c.in_ok-test.ensures c.new-source.ensures.list c.in_ok-tried.ensures.audit in
    let got = got_so _ _ _ _ answer c.in-Got.is in
    (got.0, c.in_ok-truth-in-Got.ensures ∙ ap truth_text got.1, audit)

pub returns : goal.returns
returns g c =
    let answer = over (λ (v : Row → Verdict) (xs : List Row). c.in_ok-tried.tried ≡ tried (fault_of abort_flag (map (λ x. contrary (v x)) xs)) (list_all (λ x. passes (v x)) xs)) _ _ _ _ c.in_ok-test.ensures c.new-source.ensures.list c.in_ok-tried.ensures.answer in
    fault_so _ _ _ _ answer c.in-Fault.is
