use Rattle.std.proofs.Common.{◌≡◌, ◌∙◌, List, map, ap}
use Rattle.std.specs.Borrow.{Bor}
use Rattle.std.specs.Global.{Vec}
use Rattle.std.proofs.lemmas.List.{map-id}
use Rattle.par_laws.specs.declared.test.Verdict.{Verdict}
use Rattle.par_lists.specs.Choices.{partition}
use Rattle.par_rows.specs.declared.row.Row.{Row}
use Rattle.par_task.specs.Marking.{no_flag, passes}
use Rattle.par_jobs.specs.Faults.{IsTried, fault_of}
use Rattle.par_jobs.specs.Runs.{IsRunOver}
use Rattle.pipe_stages.specs.Rows.{pointed}
use Rattle.pipe_answers.specs.Texts.{parts_text}
use Rattle.pipe_answers.proofs.Tries.{fault_holds, got_holds, over}
use Rattle.par_task.specs.Manners.{alone}
use Rattle.pipe_answers.proofs.pairs.partition_alone.Goals as goal

pub returns-in-Got : goal.returns-in-Got
returns-in-Got g c =
    let answer = over (λ (v : Row → Verdict) (xs : List Row). IsTried (fault_of no_flag (map v xs)) (λ (out : Vec (Bor Row) × Vec (Bor Row)). (pointed out.0.items ≡ map (λ x. x) (partition (λ x. passes (v x)) xs).0) × (pointed out.1.items ≡ map (λ x. x) (partition (λ x. passes (v x)) xs).1)) c.in_ok-tried.tried) _ _ _ _ c.in_ok-test.ensures c.new-source.ensures.list c.in_ok-tried.ensures.answer in
    let audit = over (λ (v : Row → Verdict) (xs : List Row). IsRunOver no_flag v xs (alone c.args.level) c.in_ok-tried.audit) _ _ _ _ c.in_ok-test.ensures c.new-source.ensures.list c.in_ok-tried.ensures.audit in
    let got = got_holds _ _ _ _ answer c.in-Got.is in
    let first = ap pointed c.deref.ensures.value ∙ (got.1.0 ∙ map-id _) in
    let second = ap pointed c.deref-in-Got.ensures.value ∙ (got.1.1 ∙ map-id _) in
    (got.0, c.in_ok-parts-in-Got.ensures ∙ (λ i. parts_text (first i) (second i)), audit)

pub returns : goal.returns
returns g c =
    let answer = over (λ (v : Row → Verdict) (xs : List Row). IsTried (fault_of no_flag (map v xs)) (λ (out : Vec (Bor Row) × Vec (Bor Row)). (pointed out.0.items ≡ map (λ x. x) (partition (λ x. passes (v x)) xs).0) × (pointed out.1.items ≡ map (λ x. x) (partition (λ x. passes (v x)) xs).1)) c.in_ok-tried.tried) _ _ _ _ c.in_ok-test.ensures c.new-source.ensures.list c.in_ok-tried.ensures.answer in
    fault_holds _ _ _ _ answer c.in-Fault.is
