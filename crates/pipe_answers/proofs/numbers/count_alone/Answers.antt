use Rattle.std.proofs.Common.{◌≡◌, ◌∙◌, List, map, ap}
use Rattle.std.specs.List.{count_by}
use Rattle.par_laws.specs.declared.test.Verdict.{Verdict}
use Rattle.par_rows.specs.declared.row.Row.{Row}
use Rattle.par_task.specs.Marking.{no_flag, passes}
use Rattle.par_jobs.specs.Faults.{fault_of, tried}
use Rattle.par_jobs.specs.Runs.{IsRunOver}
use Rattle.pipe_answers.specs.Texts.{count_text}
use Rattle.pipe_answers.proofs.Tries.{got_so, over}
use Rattle.par_task.specs.Manners.{alone}
use Rattle.pipe_answers.proofs.numbers.count_alone.Goals as goal

pub returns-in-Got : goal.returns-in-Got
returns-in-Got g c =
    let answer = over (λ (v : Row → Verdict) (xs : List Row). c.in_ok-tried.tried ≡ tried (fault_of no_flag (map v xs)) (count_by (λ x. passes (v x)) xs)) _ _ _ _ c.in_ok-test.ensures c.new-source.ensures.list c.in_ok-tried.ensures.answer in
    let audit = over (λ (v : Row → Verdict) (xs : List Row). IsRunOver no_flag v xs (alone c.args.level) c.in_ok-tried.audit) _ _ _ _ c.in_ok-test.ensures c.new-source.ensures.list c.in_ok-tried.ensures.audit in
    let got = got_so _ _ _ _ answer c.in-Got.is in
    (got.0, c.in_ok-count-in-Got.ensures ∙ ap count_text (c.from.ensures ∙ got.1), audit)
