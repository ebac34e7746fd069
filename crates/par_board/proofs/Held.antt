-- The steps of a seat on a node that it holds.
use Rattle.std.proofs.Common.{◌≡◌, ◌≢◌, ℕ, suc, ◌+◌, ◌<◌, ◌≤◌, List, ◌∷◌, length, set, sym, refl, ap, ◌∙◌, subst, arith, Bool, true, false, cond, eqb, length-set}
use mathlib.Core.Logic.{dite}
use mathlib.Core.Option.{some, none}
use native.Mathlib.Decide.{ℕ_discrete}
use lib.ListN.{get_elem?}
use prog.Atomic.{either}
use Rattle.std.specs.Prelude.{Option, None, Some, slice_index}
use Rattle.atomic_table.specs.Table.{State, takes, gives, step, Allows, rest, put_back}
use Rattle.atomic_table.proofs.Lists.{exchanged, set_here, set_else}
use Rattle.par_board.specs.Seen.{not_owned, Held, not_held, held_over, Kind, step_finish, step_load, holds_at}
use Rattle.par_board.specs.declared.answers.NodeState.{NodeState}
use Rattle.par_board.specs.declared.answers.NodeState.TheVariants.{Free, Filling, Offered, Taken, Done, Merging, Merged}
use Rattle.par_board.specs.Words.{pack, state_of, lo_of, hi_of, code}
use Rattle.par_board.specs.Rule.{Plain, Cell, hides, entry, owns_of, holds_of, home_at, home_of, Lives, Kept, Known}
use Rattle.par_board.specs.Plays.{Seated, grip, HeldOver, lifted, laid, finished}
use Rattle.par_board.specs.Calls.{noted}
use Rattle.par_board.proofs.Cells.{loose, held_by}
use Rattle.par_board.proofs.Changes.{Goes}
use Rattle.par_board.proofs.Shows.{shown}
use Rattle.par_board.proofs.Singles.{Alone, alone, after, grip_here, grip_else}
use Rattle.par_board.proofs.Tables.{one_word}

pub is_taken : (st : NodeState) → code st ≡ 3 → st ≡ Taken
is_taken Free e = absurd (omega arith)
is_taken Filling e = absurd (omega arith)
is_taken Offered e = absurd (omega arith)
is_taken Taken e = refl
is_taken Done e = absurd (omega arith)
is_taken Merging e = absurd (omega arith)
is_taken Merged e = absurd (omega arith)

module _ {J : Type 0} (job : Option J) (n : ℕ) (s : State (Option (Plain J)) (Known J)) (r : Kept job n s) (id k : ℕ) (v : Known J) (near : k < 2048) (at : get_elem? s.views id ≡ some v) (live : v.live ≡ true) where
  pub record Held_ (lo hi : ℕ) (out : Bool) : Type 0 where
    pub state : (r.cells k).state ≡ Taken
    pub holder : (r.cells k).holder ≡ suc id
    pub lo_is : (r.cells k).lo ≡ lo
    pub hi_is : (r.cells k).hi ≡ hi
    pub out_is : (r.cells k).out ≡ out

  -- what a seat that holds a node knows of its cell
  pub held_cell : (lo hi : ℕ) (out : Bool) → holds_at v k ≡ held_over lo hi out → Held_ lo hi out
  held_cell lo hi out e = let c : Cell = r.cells k in let o = r.each_view id v at live in let ok = r.each_cell k near in let is : holds_of id c ≡ held_over lo hi out = sym (o.holds k near) ∙ e in
      dite (ℕ_discrete c.holder (suc id))
      (λ mine. let same : held_over c.lo c.hi c.out ≡ held_over lo hi out = sym (held_by id c mine) ∙ is in record {
        state = is_taken c.state (dite (ℕ_discrete (code c.state) 3) (λ h. h) (λ ne. let z = ok.gripped ne in absurd (omega arith)));
        holder = mine;
        lo_is = cc;
        hi_is = cc;
        out_is = cc;
      })
      (λ ne. let no : not_held ≡ held_over lo hi out = sym (loose id c ne) ∙ is in cc)

  pub word_held : HeldOver k v (slice_index s.words k)
  word_held lo hi out e = let h = held_cell lo hi out e in let sh = shown job n s r k near in (sh.0 ∙ ap code h.state, sh.1 ∙ h.lo_is, sh.2 ∙ h.hi_is)

  module _ (lo hi : ℕ) (out : Bool) (h : Held_ lo hi out) where
    -- the word, and that a step which leaves the node in some state changes it so
    pub held_word : state_of (slice_index s.words k) ≡ 3
    held_word = (shown job n s r k near).0 ∙ ap code h.state

    module _ (st : NodeState) (holder : ℕ) (out' : Bool) (kd : Kind) (g : Held) where
      abbrev c' : Cell
      c' = record { state = st; owner = (r.cells k).owner; holder = holder; out = out'; lo = (r.cells k).lo; hi = (r.cells k).hi; cover = (r.cells k).cover }

      abbrev w : Known J
      w = noted kd k (slice_index s.words k) (grip k g v)

      held_alone : 0 < k → ((a b : ℕ) → entry a b st ≡ entry a b Taken) → hides st ≡ false → 3 ≤ code st → (code st ≢ 3 → holder ≡ 0) → (code st ≡ 3 → holder ≢ 0) → ((j : ℕ) → holder ≡ suc j → id ≡ j)
          → (homes' : List (mathlib.Core.Option.Option (Option (Plain J)))) → length homes' ≡ length s.homes → get_elem? homes' k ≡ some (home_of job c') → ((m : ℕ) → m ≢ k → get_elem? homes' m ≡ get_elem? s.homes m)
          → g ≡ holds_of id c' → Alone job n s r id k v st holder out' homes' w
      held_alone pos entry_is hides_is past gripped held who homes' long lies rest here = let c : Cell = r.cells k in let is_three : code c.state ≡ 3 = ap code h.state in let o = r.each_view id v at live in
          let same_entry : (j : ℕ) → owns_of j c' ≡ owns_of j c = λ j. ap (λ p. cond (eqb c.owner (suc j)) p not_owned) (entry_is c.lo c.hi ∙ ap (entry c.lo c.hi) (sym h.state)) in record {
            near = near;
            pos = pos;
            at = at;
            live = (live, live);
            had_some = λ e. absurd (omega arith);
            grows = omega arith;
            hiding = hides_is ∙ ap hides (sym h.state);
            long = long;
            lies = lies;
            rest = rest;
            gripped = gripped;
            held = held;
            holder_lives = λ j e. subst (Lives s.views) (who j e) (v, at, live);
            others = λ j other. (same_entry j, loose j c' (λ e. other (sym (who j e))) ∙ sym (loose j c (let z = h.holder in λ e. other (omega arith))));
            same = (refl, refl);
            notes = (kd, refl);
            owns_here = o.owns k near ∙ sym (same_entry id);
            owns_else = λ m _ _. refl;
            holds_here = grip_here k g v near ∙ here;
            holds_else = λ m hm ne. grip_else k g v m hm ne;
          }

pub lifts : {J : Type 0} (job : Option J) (n slots id : ℕ) (me : Seated J) (k lo hi : ℕ) → me.0.live ≡ true → k < 2048 → 0 < k → holds_at me.0 k ≡ held_over lo hi false
    → Allows (Kept job n) slots id me k (λ y. y) (lifted (step slots k 0 0 none) me)
lifts {J} job n slots id me k lo hi live near pos holds s r wide at small = let x : ℕ = slice_index s.words k in let h = held_cell job n s r id k me.0 near at live lo hi false holds in let c : Cell = r.cells k in
    let sh = shown job n s r k near in let ok = r.each_cell k near in let g : Held = held_over (lo_of x) (hi_of x) true in let w : Known J = noted step_load k x (grip k g me.0) in let homes' = set s.homes k none in
    let t = held_alone job n s r id k me.0 near at live lo hi false h Taken (suc id) true step_load g pos (λ _ _. refl) refl (omega arith) (λ e. absurd (e refl)) (λ _ e. absurd (omega arith)) (λ j e. omega arith) homes' (length-set s.homes k none)
    (set_here s.homes k none (let e = r.wide.1 in omega arith)) (λ m ne. set_else s.homes k m none ne) ((λ i. held_over (sh.1 i) (sh.2 i) true) ∙ sym (held_by id (after job n s r id k me.0 Taken (suc id) true homes' w) refl)) in (
      w,
      takes k None,
      ok.lies ∙ (λ i. some (home_at job c.lo c.hi (h.out_is i) (h.state i))),
      subst (λ (z : ℕ). Kept job n record { words = set s.words k z; homes = homes'; views = set s.views id w }) (ap (λ (st : NodeState). pack c.lo c.hi (code st)) (sym h.state) ∙ sym ok.shows) (alone job n s r id k me.0 Taken (suc id) true homes' w t),
      (refl, word_held job n s r id k me.0 near at live),
    )

-- the slot that was taken last comes home with x
pub put_back_is : {S : Type 0} (homes : List (mathlib.Core.Option.Option S)) (k : ℕ) (x : S) (cs cs' : List (ℕ × S)) → cs ≡ (k, x) ∷ cs' → put_back homes cs ≡ set homes k (some x)
put_back_is homes k x cs cs' e = ap (put_back homes) e

pub lays : {J : Type 0} (job : Option J) (n slots id : ℕ) (me : Seated J) (k lo hi : ℕ) (cs : List (ℕ × Option (Plain J))) → me.0.live ≡ true → k < 2048 → 0 < k → holds_at me.0 k ≡ held_over lo hi true → me.1 ≡ (k, None) ∷ cs
    → Allows (Kept job n) slots id me k (λ y. y) (laid (step slots k 0 0 none) me)
lays {J} job n slots id me k lo hi cs live near pos holds has s r wide at small = let x : ℕ = slice_index s.words k in let h = held_cell job n s r id k me.0 near at live lo hi true holds in let c : Cell = r.cells k in
    let sh = shown job n s r k near in let ok = r.each_cell k near in let g : Held = held_over (lo_of x) (hi_of x) false in let w : Known J = noted step_load k x (grip k g me.0) in let homes' = set s.homes k (some None) in
    let t = held_alone job n s r id k me.0 near at live lo hi true h Taken (suc id) false step_load g pos (λ _ _. refl) refl (omega arith) (λ e. absurd (e refl)) (λ _ e. absurd (omega arith)) (λ j e. omega arith) homes' (length-set s.homes k (some None))
    (set_here s.homes k (some None) (let e = r.wide.1 in omega arith)) (λ m ne. set_else s.homes k m (some None) ne) ((λ i. held_over (sh.1 i) (sh.2 i) false) ∙ sym (held_by id (after job n s r id k me.0 Taken (suc id) false homes' w) refl)) in (
      w,
      gives,
      tt,
      subst (λ (z : ℕ × List (mathlib.Core.Option.Option (Option (Plain J)))). Kept job n record { words = set s.words k z.0; homes = z.1; views = set s.views id w })
          (λ i. ((ap (λ (st : NodeState). pack c.lo c.hi (code st)) (sym h.state) ∙ sym ok.shows) i, sym (put_back_is s.homes k None me.1 cs has) i)) (alone job n s r id k me.0 Taken (suc id) false homes' w t),
      (refl, word_held job n s r id k me.0 near at live),
    )

pub finishes : {J : Type 0} (job : Option J) (n slots id : ℕ) (me : Seated J) (k lo hi old : ℕ) (cs : List (ℕ × Option (Plain J))) → me.0.live ≡ true → k < 2048 → 0 < k → holds_at me.0 k ≡ held_over lo hi true
    → me.1 ≡ (k, Some (me.0.of, lo, hi, true)) ∷ cs → state_of old ≡ 3 → lo_of old ≡ lo → hi_of old ≡ hi
    → Allows (Kept job n) slots id me k (λ y. either (eqb y old) (old + 1) y) (finished (step slots k old (old + 1) none) me)
finishes {J} job n slots id me k lo hi old cs live near pos holds has three lo_is hi_is s r wide at small = let x : ℕ = slice_index s.words k in let h = held_cell job n s r id k me.0 near at live lo hi true holds in let c : Cell = r.cells k in
    let sh = shown job n s r k near in let ok = r.each_cell k near in let o = r.each_view id me.0 at live in let w : Known J = noted step_finish k x (grip k not_held me.0) in let load : Option (Plain J) = Some (me.0.of, lo, hi, true) in let homes' = set s.homes k (some load) in
    let hit : x ≡ old = one_word x old (sh.0 ∙ ap code h.state ∙ sym three) (sh.1 ∙ h.lo_is ∙ sym lo_is) (sh.2 ∙ h.hi_is ∙ sym hi_is) in
    let t = held_alone job n s r id k me.0 near at live lo hi true h Done 0 false step_finish not_held pos (λ _ _. refl) refl (omega arith) (λ _. refl) (λ e. absurd (omega arith)) (λ j e. absurd (omega arith)) homes' (length-set s.homes k (some load))
    (set_here s.homes k (some load) (let e = r.wide.1 in omega arith) ∙ (λ i. some (some (Some (o.job_is i, sym h.lo_is i, sym h.hi_is i, true))))) (λ m ne. set_else s.homes k m (some load) ne)
    (sym (loose id (after job n s r id k me.0 Done 0 false homes' w) (λ e. omega arith))) in
    exchanged x old (old + 1) (Goes job n s r id k me (finished (step slots k old (old + 1) none) me))
    (λ _. (
      w,
      gives,
      tt,
      subst (λ (z : ℕ × List (mathlib.Core.Option.Option (Option (Plain J)))). Kept job n record { words = set s.words k z.0; homes = z.1; views = set s.views id w })
          (λ i. ((let e = ok.shows in let three' : code c.state ≡ 3 = ap code h.state in let g : pack c.lo c.hi 4 ≡ old + 1 = omega arith in g) i, sym (put_back_is s.homes k load me.1 cs has) i)) (alone job n s r id k me.0 Done 0 false homes' w t),
      (refl, hit),
    )) (λ miss. absurd (miss hit))
