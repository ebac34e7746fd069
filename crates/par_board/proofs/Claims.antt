-- A claim keeps the rule: the node is taken with its slot, and the nodes below are the seat's.
use Rattle.std.proofs.Common.{◌≡◌, ℕ, suc, ◌+◌, ◌<◌, set, sym, refl, ap, ◌∙◌, subst, arith, Bool, true, false, cond, eqb, eq-eqb, ne_eqb, true≢false, length-set}
use mathlib.Core.Option.{some, none}
use lib.ListN.{get_elem?}
use prog.Atomic.{either}
use Rattle.std.specs.Prelude.{Option, Some, slice_index}
use Rattle.atomic_table.specs.Table.{State, takes, step, Allows}
use Rattle.atomic_table.proofs.Lists.{exchanged, set_here, set_else}
use Rattle.par_board.specs.Seen.{not_owned, owned_free, not_held, held_over, step_claim, owns_at, holds_at}
use Rattle.par_board.specs.declared.answers.NodeState.{NodeState}
use Rattle.par_board.specs.declared.answers.NodeState.TheVariants.{Offered, Taken}
use Rattle.par_board.specs.Words.{state_of, lo_of, hi_of, code}
use Rattle.par_board.specs.Tree.{below}
use Rattle.par_board.specs.Rule.{Plain, Cell, hidden, idle, hides, entry, owns_of, holds_of, home_at, Lives, Kept, Known}
use Rattle.par_board.specs.Plays.{Seated, after_claim, claimed}
use Rattle.par_board.specs.Calls.{noted}
use Rattle.par_views.proofs.Puts.{put, at_put}
use Rattle.par_board.proofs.Cells.{loose, held_by, unowned, owned_by, Moves, moved}
use Rattle.par_board.proofs.Changes.{Goes, misses}
use Rattle.par_board.proofs.Shows.{is_offered, shown, shown_most}
use Rattle.par_board.proofs.Tables.{at_table, not_below}

module _ {J : Type 0} (job : Option J) (n : ℕ) (s : State (Option (Plain J)) (Known J)) (r : Kept job n s) (id k : ℕ) (me : Seated J) (near : k < 2048) (pos : 0 < k) (at : get_elem? s.views id ≡ some me.0) (live : me.0.live ≡ true) where
  abbrev c : Cell
  c = r.cells k

  abbrev x : ℕ
  x = slice_index s.words k

  abbrev taken : Cell
  taken = record { state = Taken; owner = c.owner; holder = suc id; out = true; lo = c.lo; hi = c.hi; cover = c.cover }

  abbrev w : Known J
  w = noted step_claim k x (after_claim k (lo_of x) (hi_of x) me.0)

  module _ (offered : c.state ≡ Offered) where
    abbrev cells' : ℕ → Cell
    cells' = put k taken (below k) (idle id) r.cells

    hidden_below : (m : ℕ) → m < 2048 → below k m ≡ true → r.cells m ≡ hidden k
    hidden_below m h e = r.covers k m near h (ap hides offered) e

    claim_moves : Moves job n s r id k taken (below k) (idle id) (x + 1) (set s.homes k none) me.0 w
    claim_moves = let ok = r.each_cell k near in let o = r.each_view id me.0 at live in let sh = shown job n s r k near in let mine : Lives s.views id = (me.0, at, live) in let is_two : code c.state ≡ 2 = ap code offered in record {
      near = near;
      at = at;
      live = (live, live);
      same = (refl, refl);
      notes = (step_claim, refl);
      long = length-set s.homes k none;
      shows = let e = ok.shows in omega arith;
      lies = set_here s.homes k none (let g = r.wide.1 in omega arith);
      rest = λ m ne. set_else s.homes k m none ne;
      blank = λ e. absurd (omega arith);
      span = (ok.ordered, ok.within);
      gripped = λ e. absurd (e refl);
      held = λ _ e. absurd (omega arith);
      bare = λ _. ok.bare (omega arith);
      owner = λ j e. r.owned k j near e;
      holder = λ j e. subst (Lives s.views) (omega arith) mine;
      area_was = λ m h e. let is = hidden_below m h e in (ap (λ (z : Cell). z.state) is, ap (λ (z : Cell). z.lo) is, ap (λ (z : Cell). z.hi) is, ap (λ (z : Cell). z.holder) is);
      area_is = (refl, refl, refl, refl);
      area_owner = λ j e. subst (Lives s.views) (omega arith) mine;
      grows = omega arith;
      span_same = λ _. (refl, refl);
      others = λ j other. (
        sym (ap (λ (st : NodeState). cond (eqb c.owner (suc j)) (entry c.lo c.hi st) not_owned) offered),
        loose j taken (λ e. omega arith) ∙ sym (loose j c (let z = ok.gripped (λ e. omega arith) in λ e. omega arith)),
      );
      area_others = λ j m other h e.
          unowned j (idle id) (λ z. omega arith) ∙ sym (unowned j (r.cells m) (let z = ap (λ (y : Cell). y.owner) (hidden_below m h e) in λ y. omega arith));
      owns = λ m h. at_table (λ (q : ℕ). cond (below k q) owned_free (owns_at me.0 q)) m not_owned h ∙ at_put k taken (below k) (idle id) r.cells (λ q y. q < 2048 → cond (below k q) owned_free (owns_at me.0 q) ≡ owns_of id y) m
          (λ g. ap (λ (b : Bool). cond b owned_free (owns_at me.0 k)) (not_below k pos) ∙ o.owns k g ∙ ap (λ (st : NodeState). cond (eqb c.owner (suc id)) (entry c.lo c.hi st) not_owned) offered)
          (λ ne e g. ap (λ (b : Bool). cond b owned_free (owns_at me.0 m)) e ∙ sym (owned_by id (idle id) refl))
          (λ ne e g. ap (λ (b : Bool). cond b owned_free (owns_at me.0 m)) e ∙ o.owns m g) h;
      holds = λ m h. at_table (λ (q : ℕ). cond (eqb q k) (held_over (lo_of x) (hi_of x) true) (holds_at me.0 q)) m not_held h
          ∙ at_put k taken (below k) (idle id) r.cells (λ q y. q < 2048 → cond (eqb q k) (held_over (lo_of x) (hi_of x) true) (holds_at me.0 q) ≡ holds_of id y) m
          (λ g. ap (λ (b : Bool). cond b (held_over (lo_of x) (hi_of x) true) (holds_at me.0 k)) (eq-eqb k k refl) ∙ (λ i. held_over (sh.1 i) (sh.2 i) true) ∙ sym (held_by id taken refl))
          (λ ne e g. ap (λ (b : Bool). cond b (held_over (lo_of x) (hi_of x) true) (holds_at me.0 m)) (ne_eqb m k ne) ∙ o.holds m g
          ∙ loose id (r.cells m) (let z = ap (λ (y : Cell). y.holder) (hidden_below m g e) in λ y. omega arith) ∙ sym (loose id (idle id) (λ z. omega arith)))
          (λ ne e g. ap (λ (b : Bool). cond b (held_over (lo_of x) (hi_of x) true) (holds_at me.0 m)) (ne_eqb m k ne) ∙ o.holds m g) h;
      covers = λ a m ha hm hiding is_below. at_put k taken (below k) (idle id) r.cells (λ q y. hides y.state ≡ true → q ≡ a → cells' m ≡ hidden a) a
          (λ e _. absurd (true≢false (sym e))) (λ _ _ e _. absurd (true≢false (sym e)))
          (λ ne _ e _. let was = r.covers a m ha hm e is_below in at_put k taken (below k) (idle id) r.cells (λ q y. q ≡ m → y ≡ hidden a) m
          (λ same. let z = subst (λ (q : ℕ). code (r.cells q).state ≡ 0) (sym same) (ap (λ (y : Cell). code y.state) was) in absurd (omega arith))
          (λ _ e' _. let z = ap (λ (y : Cell). y.cover) (sym (hidden_below m hm e') ∙ was) in absurd (ne (sym z)))
          (λ _ _ _. was) refl) hiding refl;
      covered = λ m hp hm. at_put k taken (below k) (idle id) r.cells (λ q y. q ≡ m → y.owner ≡ 0 → (y.cover < 2048) × (hides (cells' y.cover).state ≡ true) × (below y.cover m ≡ true)) m
          (λ _ e. absurd (ok.bare (λ z. omega arith) e)) (λ _ _ _ e. absurd (omega arith))
          (λ ne out _ e. let was = r.covered m hp hm e in let a : ℕ = (r.cells m).cover in (
            was.0,
            at_put k taken (below k) (idle id) r.cells (λ q y. q ≡ a → hides y.state ≡ true) a
                (λ same. absurd (true≢false (subst (λ (q : ℕ). true ≡ below q m) (sym same) (sym was.2) ∙ out)))
                (λ _ inside _. absurd (true≢false (sym (ap (λ (y : Cell). hides y.state) (sym (hidden_below a was.0 inside)) ∙ was.1))))
                (λ _ _ _. was.1) refl,
            was.2,
          )) refl;
    }

pub claims : {J : Type 0} (job : Option J) (n slots id : ℕ) (me : Seated J) (k old : ℕ) → me.0.live ≡ true → k < 2048 → 0 < k → state_of old ≡ 2
    → Allows (Kept job n) slots id me k (λ y. either (eqb y old) (old + 1) y) (claimed (step slots k old (old + 1) none) me)
claims {J} job n slots id me k old live near pos two s r wide at small = let y : ℕ = slice_index s.words k in let then = claimed (step slots k old (old + 1) none) me in
    exchanged y old (old + 1) (Goes job n s r id k me then)
    (λ hit. let sh = shown job n s r k near in let c : Cell = r.cells k in let offered : c.state ≡ Offered = is_offered c.state (sym sh.0 ∙ ap state_of hit ∙ two) in let ok = r.each_cell k near in let o = r.each_view id me.0 at live in
    let v : Known J = noted step_claim k y (after_claim k (lo_of y) (hi_of y) me.0) in let load : Option (Plain J) = Some (me.0.of, lo_of y, hi_of y, false) in
    let t = claim_moves job n s r id k me near pos at live offered in (
      v,
      takes k load,
      ok.lies ∙ (λ i. some (home_at (sym o.job_is i) (sym sh.1 i) (sym sh.2 i) c.out (offered i))),
      subst (λ (z : ℕ). Kept job n record { words = set s.words k (z + 1); homes = set s.homes k none; views = set s.views id v }) hit (moved job n s r id k (taken job n s r id k me near pos at live) (below k) (idle id) (y + 1) (set s.homes k none) me.0 v t),
      ((λ _. refl), λ miss. absurd (miss hit)),
    ))
    (λ miss. misses job n s r id k old step_claim me then near at live (λ z. omega arith) miss (λ m' is later. ((λ hit. absurd (miss hit)), λ _. (is, shown_most job n s r k near, later))))
