use Rattle.std.proofs.Common.{◌≡◌, ◌∙◌, ◌≤◌, ◌+◌, ℕ, List, Some, length, map, refl, subst, sym, arith}
use Rattle.std.proofs.lemmas.List.{length-map}
use Rattle.par_laws.specs.declared.tried.FaultAt.{FaultAt}
use Rattle.pipe_stages.specs.Rows.{pointed}
use Rattle.pipe_answers.specs.Makes.{made_fault}
use Rattle.pipe_answers.proofs.Guards.{folded_so}
use Rattle.pipe_answers.proofs.made.value_of.Goals as goal

pub overflow_cast-result : goal.overflow_cast-result
overflow_cast-result g c =
    let small : length (pointed c.args._rows.now) ≤ 4194304 = omega (arith, c.requires.small, length-map c.args._rows.now (λ r. r.now)) in
    let h = folded_so (g.M.Monoid.joined c.args._how.now) (g.F.Mapper.mapped c.args._of.now) (g.M.Monoid.unit c.args._how.now) (pointed c.args._rows.now) _ g.M.T.Shown.shown _ _ refl small c.in-Fault.is c.requires.folded in
    omega (arith, h.1, h.2, small, length-map (pointed c.args._rows.now) (g.F.Mapper.mapped c.args._of.now))

pub returns-in-Fine-clause-fine : goal.returns-in-Fine-clause-fine
returns-in-Fine-clause-fine g c =
    let small : length (pointed c.args._rows.now) ≤ 4194304 = omega (arith, c.requires.small, length-map c.args._rows.now (λ r. r.now)) in
    let h = folded_so (g.M.Monoid.joined c.args._how.now) (g.F.Mapper.mapped c.args._of.now) (g.M.Monoid.unit c.args._how.now) (pointed c.args._rows.now) _ g.M.T.Shown.shown _ _ refl small c.in-Fine.is c.requires.folded in
    h.0

pub returns-in-Fine-clause-value : goal.returns-in-Fine-clause-value
returns-in-Fine-clause-value g c =
    let small : length (pointed c.args._rows.now) ≤ 4194304 = omega (arith, c.requires.small, length-map c.args._rows.now (λ r. r.now)) in
    let h = folded_so (g.M.Monoid.joined c.args._how.now) (g.F.Mapper.mapped c.args._of.now) (g.M.Monoid.unit c.args._how.now) (pointed c.args._rows.now) _ g.M.T.Shown.shown _ _ refl small c.in-Fine.is c.requires.folded in
    h.1

pub returns-in-Fault-clause-stop : goal.returns-in-Fault-clause-stop
returns-in-Fault-clause-stop g c =
    let small : length (pointed c.args._rows.now) ≤ 4194304 = omega (arith, c.requires.small, length-map c.args._rows.now (λ r. r.now)) in
    let h = folded_so (g.M.Monoid.joined c.args._how.now) (g.F.Mapper.mapped c.args._of.now) (g.M.Monoid.unit c.args._how.now) (pointed c.args._rows.now) _ g.M.T.Shown.shown _ _ refl small c.in-Fault.is c.requires.folded in
    let at : h.0 ≡ c.in-Fault.at = omega (arith, h.1) in
    h.3 ∙ subst (λ (i : ℕ). Some (record { at = h.0; kind = c.in-Fault.kind }) ≡ Some (record { at = i; kind = c.in-Fault.kind })) at refl
