-- The steps of a seat on a node that it opened.
use Rattle.std.proofs.Common.{◌≡◌, ◌≢◌, ℕ, suc, ◌+◌, ◌<◌, ◌≤◌, List, ◌∷◌, length, set, sym, refl, ap, ◌∙◌, subst, arith, true, false, eqb, length-set}
use mathlib.Core.Logic.{dite}
use mathlib.Core.Option.{some, none}
use mathlib.Core.Option as maybe
use native.Mathlib.Decide.{ℕ_discrete}
use lib.ListN.{get_elem?}
use prog.Atomic.{either}
use Rattle.std.specs.Prelude.{Option, None, Some, slice_index}
use Rattle.atomic_table.specs.Table.{State, takes, gives, step, Allows, rest}
use Rattle.atomic_table.proofs.Lists.{exchanged, set_here, set_else}
use Rattle.par_board.specs.Seen.{Flight, settled, offering, collecting, Owned, not_owned, owned_open, owned_merged, Kind, step_offer, step_take, step_close, owns_at}
use Rattle.par_board.specs.declared.answers.NodeState.{NodeState}
use Rattle.par_board.specs.declared.answers.NodeState.TheVariants.{Free, Filling, Offered, Taken, Done, Merging, Merged}
use Rattle.par_board.specs.Words.{pack, state_of, lo_of, hi_of, code}
use Rattle.par_board.specs.Rule.{Plain, Cell, hides, entry, home_at, home_of, Kept, Known}
use Rattle.par_board.specs.Plays.{Seated, LastRead, own, OpenedOver, offered, took, closed}
use Rattle.par_board.specs.Calls.{noted}
use Rattle.par_board.proofs.Cells.{loose, unowned, owned_by}
use Rattle.par_board.proofs.Changes.{last_fits, Goes}
use Rattle.par_board.proofs.Shows.{shown}
use Rattle.par_board.proofs.Held.{put_back_is}
use Rattle.par_board.proofs.Singles.{Alone, alone, own_here, own_else}
use Rattle.par_board.proofs.Tables.{one_word}

-- the state that goes with a call in flight
abbrev Flies : Flight → NodeState → Type 0
Flies settled st = (2 ≤ code st) × (code st ≤ 4)
Flies offering st = st ≡ Filling
Flies collecting st = st ≡ Merging

abbrev flight_of : NodeState → Flight
flight_of Filling = offering
flight_of Merging = collecting
flight_of _ = settled

abbrev Opens : ℕ → ℕ → Flight → ℕ → ℕ → NodeState → Type 0
Opens lo hi f a b st = (a ≡ lo) × (b ≡ hi) × Flies f st

entry_open : (lo hi : ℕ) (f : Flight) (a b : ℕ) (st : NodeState) → entry a b st ≡ owned_open lo hi f → Opens lo hi f a b st
entry_open lo hi f a b Free e = absurd cc
entry_open lo hi f a b Filling e = let is : offering ≡ f = cc in (cc, cc, subst (λ (g : Flight). Flies g Filling) is refl)
entry_open lo hi f a b Offered e = let is : settled ≡ f = cc in (cc, cc, subst (λ (g : Flight). Flies g Offered) is (omega arith, omega arith))
entry_open lo hi f a b Taken e = let is : settled ≡ f = cc in (cc, cc, subst (λ (g : Flight). Flies g Taken) is (omega arith, omega arith))
entry_open lo hi f a b Done e = let is : settled ≡ f = cc in (cc, cc, subst (λ (g : Flight). Flies g Done) is (omega arith, omega arith))
entry_open lo hi f a b Merging e = let is : collecting ≡ f = cc in (cc, cc, subst (λ (g : Flight). Flies g Merging) is refl)
entry_open lo hi f a b Merged e = absurd cc

is_done : (st : NodeState) → code st ≡ 4 → st ≡ Done
is_done Free e = absurd (omega arith)
is_done Filling e = absurd (omega arith)
is_done Offered e = absurd (omega arith)
is_done Taken e = absurd (omega arith)
is_done Done e = refl
is_done Merging e = absurd (omega arith)
is_done Merged e = absurd (omega arith)

module _ {J : Type 0} (job : Option J) (n : ℕ) (s : State (Option (Plain J)) (Known J)) (r : Kept job n s) (id k : ℕ) (v : Known J) (near : k < 2048) (at : get_elem? s.views id ≡ some v) (live : v.live ≡ true) where
  pub owner_is : (p : Owned) → owns_at v k ≡ p → p ≢ not_owned → (r.cells k).owner ≡ suc id
  owner_is p e some_part = let c : Cell = r.cells k in let o = r.each_view id v at live in
      dite (ℕ_discrete c.owner (suc id)) (λ h. h) (λ ne. absurd (some_part (sym e ∙ o.owns k near ∙ unowned id c ne)))

  -- what a seat that has opened a node knows of its cell
  pub open_cell : (lo hi : ℕ) (f : Flight) → owns_at v k ≡ owned_open lo hi f → ((r.cells k).owner ≡ suc id) × Opens lo hi f (r.cells k).lo (r.cells k).hi (r.cells k).state
  open_cell lo hi f e = let c : Cell = r.cells k in let o = r.each_view id v at live in let mine = owner_is (owned_open lo hi f) e (λ z. absurd cc) in
      (mine, entry_open lo hi f c.lo c.hi c.state (sym (owned_by id c mine) ∙ sym (o.owns k near) ∙ e))

  pub opened_over : OpenedOver k v (slice_index s.words k)
  opened_over lo hi e = let h = open_cell lo hi settled e in let sh = shown job n s r k near in let a = sh.0 in let b = h.1.2.0 in let d = h.1.2.1 in (omega arith, omega arith, sh.1 ∙ h.1.0, sh.2 ∙ h.1.1)

  module _ (st : NodeState) (kd : Kind) (p : Owned) where
    abbrev c' : Cell
    c' = record { state = st; owner = (r.cells k).owner; holder = 0; out = false; lo = (r.cells k).lo; hi = (r.cells k).hi; cover = (r.cells k).cover }

    abbrev w : Known J
    w = noted kd k (slice_index s.words k) (own k p v)

    pub open_alone : 0 < k → (r.cells k).owner ≡ suc id → code (r.cells k).state ≢ 0 → code (r.cells k).state ≢ 3 → code (r.cells k).state ≤ code st → code st ≢ 3 → hides st ≡ hides (r.cells k).state
        → (homes' : List (maybe.Option (Option (Plain J)))) → length homes' ≡ length s.homes → get_elem? homes' k ≡ some (home_of job c') → ((m : ℕ) → m ≢ k → get_elem? homes' m ≡ get_elem? s.homes m)
        → p ≡ entry (r.cells k).lo (r.cells k).hi st → Alone job n s r id k v st 0 false homes' w
    open_alone pos mine some_state free grows not_taken hiding homes' long lies rest here = let c : Cell = r.cells k in let o = r.each_view id v at live in let z : c.holder ≡ 0 = (r.each_cell k near).gripped free in record {
      near = near;
      pos = pos;
      at = at;
      live = (live, live);
      had_some = some_state;
      grows = grows;
      hiding = hiding;
      long = long;
      lies = lies;
      rest = rest;
      gripped = λ _. refl;
      held = λ e. absurd (not_taken e);
      holder_lives = λ j e. absurd (omega arith);
      others = λ j other. (unowned j c' (λ e. other (omega arith)) ∙ sym (unowned j c (λ e. other (omega arith))), loose j c' (λ e. omega arith) ∙ sym (loose j c (λ e. omega arith)));
      same = (refl, refl);
      notes = (kd, refl);
      owns_here = own_here k p v near ∙ here ∙ sym (owned_by id c' mine);
      owns_else = λ m hm ne. own_else k p v m hm ne;
      holds_here = o.holds k near ∙ loose id c (λ e. omega arith) ∙ sym (loose id c' (λ e. omega arith));
      holds_else = λ m _ _. refl;
    }

pub offers : {J : Type 0} (job : Option J) (n slots id : ℕ) (me : Seated J) (k lo hi old : ℕ) (cs : List (ℕ × Option (Plain J))) → me.0.live ≡ true → k < 2048 → 0 < k → owns_at me.0 k ≡ owned_open lo hi offering
    → me.1 ≡ (k, Some (me.0.of, lo, hi, false)) ∷ cs → state_of old ≡ 1 → lo_of old ≡ lo → hi_of old ≡ hi
    → Allows (Kept job n) slots id me k (λ y. either (eqb y old) (old + 1) y) (offered (step slots k old (old + 1) none) me)
offers {J} job n slots id me k lo hi old cs live near pos owns has one lo_is hi_is s r wide at small = let x : ℕ = slice_index s.words k in let h = open_cell job n s r id k me.0 near at live lo hi offering owns in let c : Cell = r.cells k in
    let is_one : code c.state ≡ 1 = ap code h.1.2 in
    let sh = shown job n s r k near in let ok = r.each_cell k near in let o = r.each_view id me.0 at live in let p = owned_open (lo_of x) (hi_of x) settled in let w : Known J = noted step_offer k x (own k p me.0) in
    let load : Option (Plain J) = Some (me.0.of, lo, hi, false) in let homes' = set s.homes k (some load) in
    let hit : x ≡ old = one_word x old (sh.0 ∙ is_one ∙ sym one) (sh.1 ∙ h.1.0 ∙ sym lo_is) (sh.2 ∙ h.1.1 ∙ sym hi_is) in
    let t = open_alone job n s r id k me.0 near at live Offered step_offer p pos h.0 (λ e. omega arith) (λ e. omega arith) (omega arith) (λ e. omega arith) (sym (ap hides h.1.2)) homes' (length-set s.homes k (some load))
    (set_here s.homes k (some load) (let e = r.wide.1 in omega arith) ∙ (λ i. some (some (Some (o.job_is i, sym h.1.0 i, sym h.1.1 i, false))))) (λ m ne. set_else s.homes k m (some load) ne) (λ i. owned_open (sh.1 i) (sh.2 i) settled) in
    exchanged x old (old + 1) (Goes job n s r id k me (offered (step slots k old (old + 1) none) me))
    (λ _. (
      w,
      gives,
      tt,
      subst (λ (z : ℕ × List (maybe.Option (Option (Plain J)))). Kept job n record { words = set s.words k z.0; homes = z.1; views = set s.views id w })
          (λ i. ((let e = ok.shows in let g : pack c.lo c.hi 2 ≡ old + 1 = omega arith in g) i, sym (put_back_is s.homes k load me.1 cs has) i)) (alone job n s r id k me.0 Offered 0 false homes' w t),
      (refl, hit),
    )) (λ miss. absurd (miss hit))

pub closes : {J : Type 0} (job : Option J) (n slots id : ℕ) (me : Seated J) (k lo hi old : ℕ) (cs : List (ℕ × Option (Plain J))) → me.0.live ≡ true → k < 2048 → 0 < k → owns_at me.0 k ≡ owned_open lo hi collecting
    → me.1 ≡ (k, None) ∷ cs → state_of old ≡ 5 → lo_of old ≡ lo → hi_of old ≡ hi
    → Allows (Kept job n) slots id me k (λ y. either (eqb y old) (old + 1) y) (closed (step slots k old (old + 1) none) me)
closes {J} job n slots id me k lo hi old cs live near pos owns has one lo_is hi_is s r wide at small = let x : ℕ = slice_index s.words k in let h = open_cell job n s r id k me.0 near at live lo hi collecting owns in let c : Cell = r.cells k in
    let is_one : code c.state ≡ 5 = ap code h.1.2 in
    let sh = shown job n s r k near in let ok = r.each_cell k near in let w : Known J = noted step_close k x (own k owned_merged me.0) in
    let homes' = set s.homes k (some None) in
    let hit : x ≡ old = one_word x old (sh.0 ∙ is_one ∙ sym one) (sh.1 ∙ h.1.0 ∙ sym lo_is) (sh.2 ∙ h.1.1 ∙ sym hi_is) in
    let t = open_alone job n s r id k me.0 near at live Merged step_close owned_merged pos h.0 (λ e. omega arith) (λ e. omega arith) (omega arith) (λ e. omega arith) (sym (ap hides h.1.2)) homes' (length-set s.homes k (some None))
    (set_here s.homes k (some None) (let e = r.wide.1 in omega arith)) (λ m ne. set_else s.homes k m (some None) ne) refl in
    exchanged x old (old + 1) (Goes job n s r id k me (closed (step slots k old (old + 1) none) me))
    (λ _. (
      w,
      gives,
      tt,
      subst (λ (z : ℕ × List (maybe.Option (Option (Plain J)))). Kept job n record { words = set s.words k z.0; homes = z.1; views = set s.views id w })
          (λ i. ((let e = ok.shows in let g : pack c.lo c.hi 6 ≡ old + 1 = omega arith in g) i, sym (put_back_is s.homes k None me.1 cs has) i)) (alone job n s r id k me.0 Merged 0 false homes' w t),
      (refl, hit),
    )) (λ miss. absurd (miss hit))

pub takes_back : {J : Type 0} (job : Option J) (n slots id : ℕ) (me : Seated J) (k lo hi old : ℕ) → me.0.live ≡ true → k < 2048 → 0 < k → owns_at me.0 k ≡ owned_open lo hi settled
    → LastRead k old me.0 → state_of old ≡ 4
    → Allows (Kept job n) slots id me k (λ y. either (eqb y old) (old + 1) y) (took (step slots k old (old + 1) none) me)
takes_back {J} job n slots id me k lo hi old live near pos owns last four s r wide at small = let x : ℕ = slice_index s.words k in let h = open_cell job n s r id k me.0 near at live lo hi settled owns in let c : Cell = r.cells k in
    let sh = shown job n s r k near in let ok = r.each_cell k near in let o = r.each_view id me.0 at live in
    let seen : (lo_of old ≡ c.lo) × (hi_of old ≡ c.hi) × (state_of old ≤ code c.state) = last_fits job n s r id k old me.0 at live last (λ z. omega arith) in
    let is_four : code c.state ≡ 4 = (let a = seen.2 in let b = h.1.2.1 in omega arith) in let done : c.state ≡ Done = is_done c.state is_four in
    let p = owned_open (lo_of x) (hi_of x) collecting in let w : Known J = noted step_take k x (own k p me.0) in
    let load : Option (Plain J) = Some (me.0.of, lo_of x, hi_of x, true) in let homes' = set s.homes k none in
    let hit : x ≡ old = one_word x old (sh.0 ∙ is_four ∙ sym four) (sh.1 ∙ sym seen.0) (sh.2 ∙ sym seen.1) in
    let t = open_alone job n s r id k me.0 near at live Merging step_take p pos h.0 (λ e. omega arith) (λ e. omega arith) (omega arith) (λ e. omega arith) (sym (ap hides done)) homes' (length-set s.homes k none)
    (set_here s.homes k none (let e = r.wide.1 in omega arith)) (λ m ne. set_else s.homes k m none ne) (λ i. owned_open (sh.1 i) (sh.2 i) collecting) in
    exchanged x old (old + 1) (Goes job n s r id k me (took (step slots k old (old + 1) none) me))
    (λ _. (
      w,
      takes k load,
      ok.lies ∙ (λ i. some (home_at (sym o.job_is i) (sym sh.1 i) (sym sh.2 i) c.out (done i))),
      subst (λ (z : ℕ). Kept job n record { words = set s.words k z; homes = homes'; views = set s.views id w })
          (let e = ok.shows in let g : pack c.lo c.hi 5 ≡ old + 1 = omega arith in g) (alone job n s r id k me.0 Merging 0 false homes' w t),
      (refl, hit),
    )) (λ miss. absurd (miss hit))
