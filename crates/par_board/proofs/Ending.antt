-- What the rule says once a seat's nodes are all free or merged.
use Rattle.std.proofs.Common.{◌≡◌, ◌≢◌, ℕ, zero, suc, ◌<◌, List, [], ◌∷◌, get_or, sym, refl, ap, ◌∙◌, ◌⊎◌, inl, inr, ⊎_elim, arith, Bool, true, false, set}
use mathlib.Core.Option.{some, some-injective, some-ne-none}
use lib.ListN.{get_elem?}
use mathlib.Core.Logic.{dite}
use native.Mathlib.Decide.{ℕ_discrete}
use Rattle.par_board.specs.Calls.{OpensNothing, OwnsAll, IsLast}
use Rattle.std.specs.Prelude.{Option, None}
use Rattle.atomic_table.specs.Table.{State, Final, Seen}
use Rattle.par_board.specs.Seen.{not_owned, owned_free, owned_merged, owns_at, all_parts}
use Rattle.par_board.specs.declared.answers.NodeState.{NodeState}
use Rattle.par_board.specs.declared.answers.NodeState.TheVariants.{Free, Filling, Offered, Taken, Done, Merging, Merged}
use Rattle.par_board.specs.Words.{state_of, code}
use Rattle.par_board.specs.Rule.{Plain, Cell, entry, home_at, Kept, Known}
use Rattle.par_board.specs.Ends.{Ended}
use Rattle.par_board.proofs.Cells.{owned_by}
use Rattle.par_board.proofs.Shows.{shown}
use Rattle.par_board.proofs.Sums.{last_one}
use Rattle.par_board.proofs.Opened.{owner_is}

pub at_read : (l : List ℕ) (i a : ℕ) → get_elem? l i ≡ some a → get_or l i 0 ≡ a
at_read [] i a e = absurd (some-ne-none a (sym e))
at_read (x ∷ xs) zero a e = some-injective x a e
at_read (x ∷ xs) (suc i) a e = at_read xs i a e

Over : NodeState → Type 0
Over st = (st ≡ Free) ⊎ (st ≡ Merged)

over_of : (a b : ℕ) (st : NodeState) → (entry a b st ≡ owned_free) ⊎ (entry a b st ≡ owned_merged) → Over st
unfolding Over
over_of a b Free h = inl refl
over_of a b Filling h = absurd (⊎_elim (λ e. cc) (λ e. cc) h)
over_of a b Offered h = absurd (⊎_elim (λ e. cc) (λ e. cc) h)
over_of a b Taken h = absurd (⊎_elim (λ e. cc) (λ e. cc) h)
over_of a b Done h = absurd (⊎_elim (λ e. cc) (λ e. cc) h)
over_of a b Merging h = absurd (⊎_elim (λ e. cc) (λ e. cc) h)
over_of a b Merged h = inr refl

is_free : (st : NodeState) → code st ≡ 0 → st ≡ Free
is_free Free e = refl
is_free Filling e = absurd (omega arith)
is_free Offered e = absurd (omega arith)
is_free Taken e = absurd (omega arith)
is_free Done e = absurd (omega arith)
is_free Merging e = absurd (omega arith)
is_free Merged e = absurd (omega arith)

pub entry_some : (a b : ℕ) (st : NodeState) → entry a b st ≢ not_owned
entry_some a b Free e = cc
entry_some a b Filling e = cc
entry_some a b Offered e = cc
entry_some a b Taken e = cc
entry_some a b Done e = cc
entry_some a b Merging e = cc
entry_some a b Merged e = cc

pub positive : (n : ℕ) → n ≢ 0 → (j : ℕ) × (n ≡ suc j)
positive zero h = absurd (h refl)
positive (suc j) h = (j, refl)

module _ {J : Type 0} (job : Option J) (n id : ℕ) (v : Known J) (live : v.live ≡ true) (s : State (Option (Plain J)) (Known J)) (r : Kept job n s) (at : get_elem? s.views id ≡ some v) where
  -- a node that the seat owns, free or merged
  owned_over : (m : ℕ) → m < 2048 → (r.cells m).owner ≡ suc id → (owns_at v m ≡ owned_free) ⊎ (owns_at v m ≡ owned_merged) → Over (r.cells m).state
  owned_over m near mine free = let c : Cell = r.cells m in let is : entry c.lo c.hi c.state ≡ owns_at v m = sym (owned_by id c mine) ∙ sym ((r.each_view id v at live).owns m near) in
      over_of c.lo c.hi c.state (⊎_elim (λ e. inl (is ∙ e)) (λ e. inr (is ∙ e)) free)

  -- the seat owns every node
  all_over : OwnsAll v → (m : ℕ) → m < 2048 → Over (r.cells m).state
  all_over all m near = owned_over m near (⊎_elim (λ e. owner_is job n s r id m v near at live owned_free e (λ z. absurd cc)) (λ e. owner_is job n s r id m v near at live owned_merged e (λ z. absurd cc)) (all m near)) (all m near)

  -- no other seat is live, and this one has nothing open
  alone_over : v.parts ≡ all_parts → OpensNothing v → (m : ℕ) → m < 2048 → Over (r.cells m).state
  unfolding Over
  alone_over parts none m near = let c : Cell = r.cells m in dite (ℕ_discrete c.owner 0)
      (λ (e : c.owner ≡ 0). inl (is_free c.state (dite (ℕ_discrete (code c.state) 0) (λ z. z) (λ ne. absurd ((r.each_cell m near).bare ne e)))))
      (λ ne. let p = positive c.owner ne in let l = r.owned m p.0 near p.1 in let same : p.0 ≡ id = last_one s.views id p.0 v l.0 r.parted at live parts l.1 l.2 in let mine : c.owner ≡ suc id = p.1 ∙ ap suc same in
      ⊎_elim (λ e. absurd (entry_some c.lo c.hi c.state (sym (owned_by id c mine) ∙ sym ((r.each_view id v at live).owns m near) ∙ e))) (λ free. owned_over m near mine free) (none m near))

  last_over : IsLast v → (m : ℕ) → m < 2048 → Over (r.cells m).state
  last_over last = ⊎_elim (λ (h : (v.parts ≡ all_parts) × OpensNothing v). alone_over h.0 h.1) (λ (h : OwnsAll v). all_over h) last

pub ends : {J : Type 0} (job : Option J) (n id : ℕ) (v : Known J) (ws : List ℕ) (xs : List (Option (Plain J))) → v.live ≡ true → IsLast v → Final (Seen (Kept job n) id v) ws xs → Ended ws xs
unfolding Over
ends {J} job n id v ws xs live last f m near = let s : State (Option (Plain J)) (Known J) = f.0 in let r = f.1.0 in let at = f.1.1 in let c : Cell = r.cells m in let ok = r.each_cell m near in
    let over : Over c.state = last_over job n id v live s r at last m near in (
      (λ w e. let word : get_or s.words m 0 ≡ w = ap (λ (l : List ℕ). get_or l m 0) f.2 ∙ at_read ws m w e in
          ⊎_elim (λ z. inl (ap state_of (sym word) ∙ (shown job n s r m near).0 ∙ ap code z)) (λ z. inr (ap state_of (sym word) ∙ (shown job n s r m near).0 ∙ ap code z)) over),
      f.4 m None (ok.lies ∙ ⊎_elim (λ z. ap (λ (st : NodeState). some (home_at job c.lo c.hi c.out st)) z) (λ z. ap (λ (st : NodeState). some (home_at job c.lo c.hi c.out st)) z) over),
    )

pub set_false : (fs : List Bool) (i k : ℕ) → k ≡ i → get_or (set fs i false) k false ≡ false
set_false [] i k e = refl
set_false (x ∷ xs) zero zero e = refl
set_false (x ∷ xs) zero (suc k) e = absurd (omega arith)
set_false (x ∷ xs) (suc i) zero e = absurd (omega arith)
set_false (x ∷ xs) (suc i) (suc k) e = set_false xs i k (omega arith)
