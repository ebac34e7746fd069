use Rattle.std.proofs.Common.{◌≡◌, subst, ◌<◌, length, ap, sym, ◌∙◌, List, [], ◌∷◌, Option, Some, rules, arith}
use Rattle.par_task.specs.Tails.{somes, IsPacked}
use Rattle.par_task.proofs.Places.{last_empty}
use Rattle.par_task.proofs.tails.Tails.push_front.Goals as goal

pub invariant_of-self : goal.invariant_of-self
invariant_of-self g c =
    let e : (c.replace-next.new.dest ∷ c.replace-next-2.new.dest ∷ c.replace-next-3.new.dest ∷ c.replace-next-4.new.dest ∷ c.replace-next-5.new.dest ∷ c.replace-next-6.new.dest ∷ c.replace-next-7.new.dest ∷ c.replace-next-8.new.dest ∷ c.replace-next-9.new.dest ∷ c.replace-last.new.dest ∷ []) ≡ (Some (c.args.node, c.args.part) ∷ c.self.inside.t0 ∷ c.self.inside.t1 ∷ c.self.inside.t2 ∷ c.self.inside.t3 ∷ c.self.inside.t4 ∷ c.self.inside.t5 ∷ c.self.inside.t6 ∷ c.self.inside.t7 ∷ c.self.inside.t8 ∷ []) = cc in
    subst IsPacked (sym e) ((last_empty (c.self.inside.t0 ∷ c.self.inside.t1 ∷ c.self.inside.t2 ∷ c.self.inside.t3 ∷ c.self.inside.t4 ∷ c.self.inside.t5 ∷ c.self.inside.t6 ∷ c.self.inside.t7 ∷ c.self.inside.t8 ∷ []) c.self.inside.t9 c.self.invariant (rw (← c.self.view_is) at c.requires)).1)

pub returns : goal.returns
returns g c =
    let e : (c.replace-next.new.dest ∷ c.replace-next-2.new.dest ∷ c.replace-next-3.new.dest ∷ c.replace-next-4.new.dest ∷ c.replace-next-5.new.dest ∷ c.replace-next-6.new.dest ∷ c.replace-next-7.new.dest ∷ c.replace-next-8.new.dest ∷ c.replace-next-9.new.dest ∷ c.replace-last.new.dest ∷ []) ≡ (Some (c.args.node, c.args.part) ∷ c.self.inside.t0 ∷ c.self.inside.t1 ∷ c.self.inside.t2 ∷ c.self.inside.t3 ∷ c.self.inside.t4 ∷ c.self.inside.t5 ∷ c.self.inside.t6 ∷ c.self.inside.t7 ∷ c.self.inside.t8 ∷ []) = cc in
    subst (λ v. somes v ≡ (c.args.node, c.args.part) ∷ c.args.self.now) (sym e)
    (rw (← c.self.view_is) (ap (λ v. (c.args.node, c.args.part) ∷ v) (last_empty (c.self.inside.t0 ∷ c.self.inside.t1 ∷ c.self.inside.t2 ∷ c.self.inside.t3 ∷ c.self.inside.t4 ∷ c.self.inside.t5 ∷ c.self.inside.t6 ∷ c.self.inside.t7 ∷ c.self.inside.t8 ∷ []) c.self.inside.t9 c.self.invariant (rw (← c.self.view_is) at c.requires)).0))
