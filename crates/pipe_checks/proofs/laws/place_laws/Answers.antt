use Rattle.std.proofs.Common.{List, inl, inr}
use Rattle.pipe_expr.specs.declared.token.Token.{Token}
use Rattle.pipe_checks.specs.Places.{Spot, Verdict, Right, Wrong, verdict}
use Rattle.pipe_checks.specs.Laws.{IsSettled}
use Rattle.pipe_checks.proofs.Least.{Meets, meets, not_both, one_accepted, one_refused}
use Rattle.pipe_checks.proofs.laws.place_laws.Goals as goal

settled : (p : Spot) (ts : List Token) (v : Verdict) → Meets p ts v → IsSettled p ts
settled p ts (Right y) m = inl (y, m)
settled p ts (Wrong k) m = inr (k, m)

pub returns-clause-settled : goal.returns-clause-settled
returns-clause-settled c = λ p ts. settled p ts (verdict p ts) (meets p ts)

pub returns-clause-unique : goal.returns-clause-unique
returns-clause-unique c = λ p ts. record {
  accepted = λ x y a b. one_accepted p x y ts a b;
  refused = λ j k a b. one_refused p j k ts a b;
  apart = λ x k a. not_both p x k ts a;
}
