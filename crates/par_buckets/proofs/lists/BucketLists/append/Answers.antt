use Rattle.std.proofs.Common.{sym, ap, subst, ◌+◌, arith}
use Rattle.par_buckets.specs.Held.{IsHeld}
use Rattle.par_buckets.proofs.Held.{held-together, few-at}
use Rattle.par_buckets.proofs.lists.BucketLists.append.Goals as goal

pub append_each-requires-clause-room : goal.append_each-requires-clause-room
append_each-requires-clause-room g c = λ i.
    omega (arith, few-at c.self.inside.lists.items i, few-at c.other.inside.lists.items i, c.self.invariant.total, c.other.invariant.total, ap (λ v. v.0) c.self.view_is, ap (λ v. v.0) c.other.view_is, c.requires)

pub invariant_of-self : goal.invariant_of-self
invariant_of-self g c = subst (IsHeld (c.self.inside.count + c.other.inside.count)) (sym c.append_each.ensures) (held-together c.self.inside.count c.other.inside.count c.self.inside.lists.items c.other.inside.lists.items c.self.invariant c.other.invariant (omega (arith, ap (λ v. v.0) c.self.view_is, ap (λ v. v.0) c.other.view_is, c.requires)))
