use Rattle.std.proofs.Common.{◌≡◌, subst, MatchOption, ap, sym, ◌∙◌, List, [], ◌∷◌, Option, None, rules, arith}
use Rattle.par_task.specs.Tails.{somes, IsPacked}
use Rattle.par_task.proofs.Places.{packed_rest, first_out}
use Rattle.par_task.proofs.tails.Tails.pop_front.Goals as goal

pub invariant_of-self : goal.invariant_of-self
invariant_of-self g c =
    let e : (c.replace.new.dest ∷ c.replace-next-9.new.dest ∷ c.replace-next-8.new.dest ∷ c.replace-next-7.new.dest ∷ c.replace-next-6.new.dest ∷ c.replace-next-5.new.dest ∷ c.replace-next-4.new.dest ∷ c.replace-next-3.new.dest ∷ c.replace-next-2.new.dest ∷ c.replace-next.new.dest ∷ []) ≡ (c.self.inside.t1 ∷ c.self.inside.t2 ∷ c.self.inside.t3 ∷ c.self.inside.t4 ∷ c.self.inside.t5 ∷ c.self.inside.t6 ∷ c.self.inside.t7 ∷ c.self.inside.t8 ∷ c.self.inside.t9 ∷ None ∷ []) = cc in
    subst IsPacked (sym e) (packed_rest c.self.inside.t0 (c.self.inside.t1 ∷ c.self.inside.t2 ∷ c.self.inside.t3 ∷ c.self.inside.t4 ∷ c.self.inside.t5 ∷ c.self.inside.t6 ∷ c.self.inside.t7 ∷ c.self.inside.t8 ∷ c.self.inside.t9 ∷ []) c.self.invariant)

pub returns : goal.returns
returns g c =
    let e : (c.replace.new.dest ∷ c.replace-next-9.new.dest ∷ c.replace-next-8.new.dest ∷ c.replace-next-7.new.dest ∷ c.replace-next-6.new.dest ∷ c.replace-next-5.new.dest ∷ c.replace-next-4.new.dest ∷ c.replace-next-3.new.dest ∷ c.replace-next-2.new.dest ∷ c.replace-next.new.dest ∷ []) ≡ (c.self.inside.t1 ∷ c.self.inside.t2 ∷ c.self.inside.t3 ∷ c.self.inside.t4 ∷ c.self.inside.t5 ∷ c.self.inside.t6 ∷ c.self.inside.t7 ∷ c.self.inside.t8 ∷ c.self.inside.t9 ∷ None ∷ []) = cc in
    let r : c.replace.result ≡ c.self.inside.t0 = cc in
    subst (λ v. MatchOption c.replace.result ((c.args.self.now ≡ []) × (somes v ≡ [])) (λ x. c.args.self.now ≡ x ∷ somes v)) (sym e)
    (rw (r, ← c.self.view_is) (first_out c.self.inside.t0 (c.self.inside.t1 ∷ c.self.inside.t2 ∷ c.self.inside.t3 ∷ c.self.inside.t4 ∷ c.self.inside.t5 ∷ c.self.inside.t6 ∷ c.self.inside.t7 ∷ c.self.inside.t8 ∷ c.self.inside.t9 ∷ []) c.self.invariant))
