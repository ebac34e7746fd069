use Rattle.std.proofs.Common.{◌≡◌, ◌∙◌, sym}
use Rattle.pipe_expr.proofs.Basics.{some_inj}
use Rattle.pipe_steps.proofs.Again.{said-again}
use Rattle.pipe_steps.proofs.laws.saying_laws.Goals as goal

pub returns : goal.returns
returns c = record { one = λ x y ts a b. some_inj _ _ (sym (said-again x ts a) ∙ said-again y ts b) }
