-- The rule says what it means of nodes, seats and slots.
use Rattle.std.proofs.Common.{◌≡◌, ◌≢◌, ℕ, suc, ◌<◌, ◌⊎◌, inl, inr, ⊎_elim, Bool, sym, refl, ap, ◌∙◌, subst, arith, true, false, true≢false}
use mathlib.Core.Logic.{dite}
use mathlib.Core.Option.{some, none}
use native.Mathlib.Decide.{ℕ_discrete}
use lib.ListN.{get_elem?}
use Rattle.std.specs.Prelude.{Option, Some, None, slice_index}
use Rattle.atomic_table.specs.Table.{State}
use Rattle.par_board.specs.declared.answers.NodeState.{NodeState}
use Rattle.par_board.specs.declared.answers.NodeState.TheVariants.{Free, Filling, Offered, Taken, Done, Merging, Merged}
use Rattle.par_board.specs.Words.{state_of, pack, code}
use Rattle.par_board.specs.Seen.{Owned, not_owned, not_held, held_over, owns_at, holds_at}
use Rattle.par_board.specs.Rule.{Plain, Cell, hides, entry, face, home_at, home_of, Kept, Known}
use Rattle.par_board.specs.Points.{HasSpan, OwnedSays, IsKeptBack, SlotFits, EachLive, JustOne, Points}
use Rattle.par_board.proofs.Cells.{loose, held_by, unowned, owned_by}
use Rattle.par_board.proofs.Shows.{shown, shown_most}
use Rattle.par_board.proofs.Sums.{last_one}
use Rattle.par_board.proofs.Ending.{entry_some, positive}
use Rattle.par_board.proofs.Held.{word_held}

hides_of : (st : NodeState) → (code st ≡ 1) ⊎ (code st ≡ 2) → hides st ≡ true
hides_of Free e = absurd (⊎_elim (λ z. omega arith) (λ z. omega arith) e)
hides_of Filling e = refl
hides_of Offered e = refl
hides_of Taken e = absurd (⊎_elim (λ z. omega arith) (λ z. omega arith) e)
hides_of Done e = absurd (⊎_elim (λ z. omega arith) (λ z. omega arith) e)
hides_of Merging e = absurd (⊎_elim (λ z. omega arith) (λ z. omega arith) e)
hides_of Merged e = absurd (⊎_elim (λ z. omega arith) (λ z. omega arith) e)

hides_is : (st : NodeState) → hides st ≡ true → (code st ≡ 1) ⊎ (code st ≡ 2)
hides_is Free e = absurd (true≢false (sym e))
hides_is Filling e = inl refl
hides_is Offered e = inr refl
hides_is Taken e = absurd (true≢false (sym e))
hides_is Done e = absurd (true≢false (sym e))
hides_is Merging e = absurd (true≢false (sym e))
hides_is Merged e = absurd (true≢false (sym e))

-- what the owner of a node in such a state owns
entry_says : (w lo hi : ℕ) (st : NodeState) → HasSpan w lo hi → state_of w ≡ code st → (code st ≡ 0 → w ≡ 0) → OwnedSays (entry lo hi st) w
entry_says w lo hi Free span is free = free refl
entry_says w lo hi Filling span is free = (span, is)
entry_says w lo hi Offered span is free = (span, (omega arith, omega arith))
entry_says w lo hi Taken span is free = (span, (omega arith, omega arith))
entry_says w lo hi Done span is free = (span, (omega arith, omega arith))
entry_says w lo hi Merging span is free = (span, is)
entry_says w lo hi Merged span is free = is

-- what the slot of a node in such a state has
slot_says : {J : Type 0} (job : Option J) (w lo hi : ℕ) (out : Bool) (st : NodeState) → HasSpan w lo hi → state_of w ≡ code st → SlotFits job w (home_at job lo hi out st)
slot_says job w lo hi out Free span is = record { empty = λ _. refl; offered = λ e. absurd (omega arith); done = λ e. absurd (omega arith); taken = λ e. absurd (omega arith); out = λ e. absurd (⊎_elim (λ z. omega arith) (λ z. omega arith) e) }
slot_says job w lo hi out Filling span is = record { empty = λ e. absurd (⊎_elim (λ z. omega arith) (λ z. omega arith) e); offered = λ e. absurd (omega arith); done = λ e. absurd (omega arith); taken = λ e. absurd (omega arith); out = λ _. refl }
slot_says job w lo hi out Offered span is = record {
  empty = λ e. absurd (⊎_elim (λ z. omega arith) (λ z. omega arith) e);
  offered = λ _. (λ i. some (Some (job, sym span.0 i, sym span.1 i, false)));
  done = λ e. absurd (omega arith);
  taken = λ e. absurd (omega arith);
  out = λ e. absurd (⊎_elim (λ z. omega arith) (λ z. omega arith) e);
}
slot_says job w lo hi out Taken span is = record {
  empty = λ e. absurd (⊎_elim (λ z. omega arith) (λ z. omega arith) e);
  offered = λ e. absurd (omega arith);
  done = λ e. absurd (omega arith);
  taken = λ _. either_way out;
  out = λ e. absurd (⊎_elim (λ z. omega arith) (λ z. omega arith) e);
}
  where
    either_way : (b : Bool) → (home_at job lo hi b Taken ≡ none) ⊎ (home_at job lo hi b Taken ≡ some None)
    either_way true = inl refl
    either_way false = inr refl
slot_says job w lo hi out Done span is = record {
  empty = λ e. absurd (⊎_elim (λ z. omega arith) (λ z. omega arith) e);
  offered = λ e. absurd (omega arith);
  done = λ _. (λ i. some (Some (job, sym span.0 i, sym span.1 i, true)));
  taken = λ e. absurd (omega arith);
  out = λ e. absurd (⊎_elim (λ z. omega arith) (λ z. omega arith) e);
}
slot_says job w lo hi out Merging span is = record { empty = λ e. absurd (⊎_elim (λ z. omega arith) (λ z. omega arith) e); offered = λ e. absurd (omega arith); done = λ e. absurd (omega arith); taken = λ e. absurd (omega arith); out = λ _. refl }
slot_says job w lo hi out Merged span is = record { empty = λ _. refl; offered = λ e. absurd (omega arith); done = λ e. absurd (omega arith); taken = λ e. absurd (omega arith); out = λ e. absurd (⊎_elim (λ z. omega arith) (λ z. omega arith) e) }

module _ {J : Type 0} (job : Option J) (n : ℕ) (s : State (Option (Plain J)) (Known J)) (r : Kept job n s) where
  abbrev word : ℕ → ℕ
  word m = slice_index s.words m

  free_word : (m : ℕ) → m < 2048 → code (r.cells m).state ≡ 0 → word m ≡ 0
  free_word m near e = let ok = r.each_cell m near in let span = ok.blank e in ok.shows ∙ (λ i. pack (span.0 i) (span.1 i) (e i))

  below_cover : (m : ℕ) → m < 2048 → IsKeptBack s.words m → (slice_index s.words m ≡ 0) × EachLive s.views (λ v. owns_at v m ≡ not_owned)
  below_cover m near (a, ha, b, state) = let st = (shown job n s r a ha).0 in let is = r.covers a m ha near (hides_of (r.cells a).state (⊎_elim (λ e. inl (sym st ∙ e)) (λ e. inr (sym st ∙ e)) state)) b in (
    (r.each_cell m near).shows ∙ ap face is,
    λ j v at live. (r.each_view j v at live).owns m near ∙ unowned j (r.cells m) (let z = ap (λ (c : Cell). c.owner) is in λ y. omega arith),
  )

  owner_of : (m : ℕ) → 0 < m → m < 2048 → ¬ IsKeptBack s.words m → JustOne s.views (λ v. owns_at v m ≢ not_owned)
  owner_of m pos near bare = let c : Cell = r.cells m in
      let some_owner : c.owner ≢ 0 = (λ z. let k = r.covered m pos near z in let st = (shown job n s r c.cover k.0).0 in bare (c.cover, k.0, k.2, ⊎_elim (λ e. inl (st ∙ e)) (λ e. inr (st ∙ e)) (hides_is (r.cells c.cover).state k.1))) in
      let p = positive c.owner some_owner in let l = r.owned m p.0 near p.1 in (
        p.0,
        l.0,
        l.1,
        l.2,
        (λ e. entry_some c.lo c.hi c.state (sym (owned_by p.0 c p.1) ∙ sym ((r.each_view p.0 l.0 l.1 l.2).owns m near) ∙ e)),
        λ i u at live has. dite (ℕ_discrete c.owner (suc i)) (λ e. let e' = p.1 in omega arith) (λ ne. absurd (has ((r.each_view i u at live).owns m near ∙ unowned i c ne))),
      )

  holder_of : (m : ℕ) → m < 2048 → state_of (slice_index s.words m) ≡ 3 → JustOne s.views (λ v. holds_at v m ≢ not_held)
  holder_of m near taken = let c : Cell = r.cells m in let p = positive c.holder ((r.each_cell m near).held (sym (shown job n s r m near).0 ∙ taken)) in let l = r.gripped m p.0 near p.1 in (
    p.0,
    l.0,
    l.1,
    l.2,
    (λ e. let is : held_over c.lo c.hi c.out ≡ not_held = sym (held_by p.0 c p.1) ∙ sym ((r.each_view p.0 l.0 l.1 l.2).holds m near) ∙ e in cc),
    λ i u at live has. dite (ℕ_discrete c.holder (suc i)) (λ e. let e' = p.1 in omega arith) (λ ne. absurd (has ((r.each_view i u at live).holds m near ∙ loose i c ne))),
  )

  owned_says : (j : ℕ) (v : Known J) → get_elem? s.views j ≡ some v → v.live ≡ true → (m : ℕ) → m < 2048 → OwnedSays (owns_at v m) (word m)
  owned_says j v at live m near = let c : Cell = r.cells m in let o = (r.each_view j v at live).owns m near in let sh = shown job n s r m near in dite (ℕ_discrete c.owner (suc j))
      (λ e. subst (λ (q : Owned). OwnedSays q (word m)) (sym (o ∙ owned_by j c e)) (entry_says (word m) c.lo c.hi c.state (sh.1, sh.2) sh.0 (free_word m near)))
      (λ ne. subst (λ (q : Owned). OwnedSays q (word m)) (sym (o ∙ unowned j c ne)) tt)

  pub points : Points job n s
  points = record {
    free = λ m near e. free_word m near (sym (shown job n s r m near).0 ∙ e);
    spans = λ m near. let sh = shown job n s r m near in let ok = r.each_cell m near in let a = sh.1 in let b = sh.2 in let h = ok.ordered in let g = ok.within in (shown_most job n s r m near, omega arith, omega arith);
    kept_back = below_cover;
    one_owner = owner_of;
    owned = owned_says;
    one_holder = holder_of;
    held = λ j v at live m lo hi out near e. let h = word_held job n s r j m v near at live lo hi out e in (h.0, (h.1, h.2));
    slots = λ m near. let sh = shown job n s r m near in let c : Cell = r.cells m in (home_of job c, (r.each_cell m near).lies, slot_says job (word m) c.lo c.hi c.out c.state (sh.1, sh.2) sh.0);
    notes = λ j v at live i note e. let fit = (r.each_view j v at live).noted i note e in let sh = shown job n s r note.node fit.0 in (fit.0, λ some_state. let l = fit.1 some_state in let st = sh.0 in let le = l.2 in ((sh.1 ∙ sym l.0, sh.2 ∙ sym l.1), omega arith));
    jobs = λ j v at live. (r.each_view j v at live).job_is;
    last = λ i j v u at live all there alive. last_one s.views i j v u r.parted at live all there alive;
  }
