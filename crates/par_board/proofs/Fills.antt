-- Filling a node keeps the rule: the seat's free tree at the node goes, and the node is open.
use Rattle.std.proofs.Common.{◌≡◌, ℕ, suc, ◌<◌, ◌≤◌, set, sym, refl, ap, ◌∙◌, subst, arith, Bool, true, false, cond, eqb, true≢false, length-set}
use mathlib.Core.Option.{some, none}
use lib.ListN.{get_elem?}
use prog.Atomic.{either}
use Rattle.std.specs.Prelude.{Option, None, slice_index}
use Rattle.atomic_table.specs.Table.{State, takes, step, Allows}
use Rattle.atomic_table.proofs.Lists.{exchanged, set_here, set_else}
use Rattle.par_board.specs.Seen.{offering, Owned, not_owned, owned_free, owned_open, step_fill, owns_at, holds_at}
use Rattle.par_board.specs.declared.answers.NodeState.{NodeState}
use Rattle.par_board.specs.declared.answers.NodeState.TheVariants.{Free, Filling, Offered, Taken, Done, Merging, Merged}
use Rattle.par_board.specs.Words.{pack, lo_of, hi_of, code}
use Rattle.par_board.specs.Tree.{below}
use Rattle.par_board.specs.Rule.{Plain, Cell, hidden, hides, entry, owns_of, holds_of, Lives, Kept, Known}
use Rattle.par_board.specs.Plays.{Seated, own_below, after_fill, filled}
use Rattle.par_board.specs.Calls.{noted}
use Rattle.par_views.proofs.Puts.{put, at_put, put_here}
use Rattle.par_board.proofs.Cells.{Blank, face_blank, home_blank, loose, unowned, owned_by, Moves, moved}
use Rattle.par_board.proofs.Changes.{Goes}
use Rattle.par_board.proofs.Opened.{owner_is}
use Rattle.par_board.proofs.Singles.{own_here, own_else}
use Rattle.par_board.proofs.Tables.{at_table, not_below}

entry_free : (a b : ℕ) (st : NodeState) → entry a b st ≡ owned_free → st ≡ Free
entry_free a b Free e = refl
entry_free a b Filling e = absurd cc
entry_free a b Offered e = absurd cc
entry_free a b Taken e = absurd cc
entry_free a b Done e = absurd cc
entry_free a b Merging e = absurd cc
entry_free a b Merged e = absurd cc

pub below_owned : {J : Type 0} (k : ℕ) (p : Owned) (v : Known J) (m : ℕ) → m < 2048 → below k m ≡ true → owns_at (own_below k p v) m ≡ p
below_owned k p v m h e = at_table (λ (q : ℕ). cond (below k q) p (owns_at v q)) m not_owned h ∙ ap (λ (b : Bool). cond b p (owns_at v m)) e

pub beside_owned : {J : Type 0} (k : ℕ) (p : Owned) (v : Known J) (m : ℕ) → m < 2048 → below k m ≡ false → owns_at (own_below k p v) m ≡ owns_at v m
beside_owned k p v m h e = at_table (λ (q : ℕ). cond (below k q) p (owns_at v q)) m not_owned h ∙ ap (λ (b : Bool). cond b p (owns_at v m)) e

module _ {J : Type 0} (job : Option J) (n : ℕ) (s : State (Option (Plain J)) (Known J)) (r : Kept job n s) (id k : ℕ) (v : Known J) (near : k < 2048) (pos : 0 < k) (at : get_elem? s.views id ≡ some v) (live : v.live ≡ true) where
  free_cell : (m : ℕ) → m < 2048 → owns_at v m ≡ owned_free → ((r.cells m).owner ≡ suc id) × Blank (r.cells m)
  free_cell m h e = let c : Cell = r.cells m in let o = r.each_view id v at live in let ok = r.each_cell m h in let mine = owner_is job n s r id m v h at live owned_free e (λ z. absurd cc) in
      let is : c.state ≡ Free = entry_free c.lo c.hi c.state (sym (owned_by id c mine) ∙ sym (o.owns m h) ∙ e) in let z : code c.state ≡ 0 = ap code is in let span = ok.blank z in
      (mine, (is, span.0, span.1, ok.gripped (λ y. omega arith)))

  module _ (here : owns_at v k ≡ owned_free) (tree : (m : ℕ) → m < 2048 → below k m ≡ true → owns_at v m ≡ owned_free) (lo hi : ℕ) (order : lo ≤ hi) (most : hi ≤ n) where
    abbrev c : Cell
    c = r.cells k

    abbrev x : ℕ
    x = slice_index s.words k

    abbrev filling : Cell
    filling = record { state = Filling; owner = c.owner; holder = 0; out = false; lo = lo; hi = hi; cover = c.cover }

    abbrev cells' : ℕ → Cell
    cells' = put k filling (below k) (hidden k) r.cells

    module _ (new : ℕ) (lo_is : lo_of new ≡ lo) (hi_is : hi_of new ≡ hi) where
      abbrev w : Known J
      w = noted step_fill k x (after_fill k (lo_of new) (hi_of new) v)

      fill_moves : Moves job n s r id k filling (below k) (hidden k) (pack lo hi 1) (set s.homes k none) v w
      fill_moves = let ok = r.each_cell k near in let o = r.each_view id v at live in let f = free_cell k near here in let me : Lives s.views id = (v, at, live) in let z : code c.state ≡ 0 = ap code f.1.0 in
          let p = owned_open (lo_of new) (hi_of new) offering in let u : Known J = own_below k not_owned v in record {
            near = near;
            at = at;
            live = (live, live);
            same = (refl, refl);
            notes = (step_fill, refl);
            long = length-set s.homes k none;
            shows = refl;
            lies = set_here s.homes k none (let g = r.wide.1 in omega arith);
            rest = λ m ne. set_else s.homes k m none ne;
            blank = λ e. absurd (omega arith);
            span = (order, most);
            gripped = λ _. refl;
            held = λ e. absurd (omega arith);
            bare = λ _ e. let y = f.0 in omega arith;
            owner = λ j e. r.owned k j near e;
            holder = λ j e. absurd (omega arith);
            area_was = λ m h e. (free_cell m h (tree m h e)).1;
            area_is = (refl, refl, refl, refl);
            area_owner = λ j e. absurd (omega arith);
            grows = omega arith;
            span_same = λ e. absurd (e z);
            others = λ j other. (
              unowned j filling (let y = f.0 in λ e. other (omega arith)) ∙ sym (unowned j c (let y = f.0 in λ e. other (omega arith))),
              loose j filling (λ e. omega arith) ∙ sym (loose j c (let y = f.1.3 in λ e. omega arith)),
            );
            area_others = λ j m other h e. unowned j (hidden k) (λ y. omega arith) ∙ sym (unowned j (r.cells m) (let y = (free_cell m h (tree m h e)).0 in λ g. other (omega arith)));
            owns = λ m h. at_put k filling (below k) (hidden k) r.cells (λ q y. q < 2048 → owns_at w q ≡ owns_of id y) m
                (λ g. own_here k p u g ∙ (λ i. owned_open (lo_is i) (hi_is i) offering) ∙ sym (owned_by id filling f.0))
                (λ ne e g. own_else k p u m g ne ∙ below_owned k not_owned v m g e ∙ sym (unowned id (hidden k) (λ y. omega arith)))
                (λ ne e g. own_else k p u m g ne ∙ beside_owned k not_owned v m g e ∙ o.owns m g) h;
            holds = λ m h. at_put k filling (below k) (hidden k) r.cells (λ q y. q < 2048 → holds_at w q ≡ holds_of id y) m
                (λ g. o.holds k g ∙ loose id c (let y = f.1.3 in λ e. omega arith) ∙ sym (loose id filling (λ e. omega arith)))
                (λ ne e g. o.holds m g ∙ loose id (r.cells m) (let y = (free_cell m g (tree m g e)).1.3 in λ d. omega arith) ∙ sym (loose id (hidden k) (λ d. omega arith)))
                (λ _ _ g. o.holds m g) h;
            covers = λ a m ha hm hiding is_below. at_put k filling (below k) (hidden k) r.cells (λ q y. hides y.state ≡ true → q ≡ a → cells' m ≡ hidden a) a
                (λ _ same. at_put k filling (below k) (hidden k) r.cells (λ q y. q ≡ m → y ≡ hidden a) m
                (λ me. absurd (true≢false (subst (λ (q : ℕ × ℕ). true ≡ below q.0 q.1) (λ i. (sym same i, sym me i)) (sym is_below) ∙ not_below k pos)))
                (λ _ _ _. ap hidden same)
                (λ _ out _. absurd (true≢false (sym (subst (λ (q : ℕ). below q m ≡ true) (sym same) is_below) ∙ out))) refl)
                (λ _ _ e _. absurd (true≢false (sym e)))
                (λ ne _ e _. let was = r.covers a m ha hm e is_below in let zero_owner : (r.cells m).owner ≡ 0 = ap (λ (y : Cell). y.owner) was in at_put k filling (below k) (hidden k) r.cells (λ q y. q ≡ m → y ≡ hidden a) m
                (λ same. let y = f.0 in let y' = subst (λ (q : ℕ). (r.cells q).owner ≡ 0) (sym same) zero_owner in absurd (omega arith))
                (λ _ e' _. let y = (free_cell m hm (tree m hm e')).0 in absurd (omega arith))
                (λ _ _ _. was) refl) hiding refl;
            covered = λ m hp hm. at_put k filling (below k) (hidden k) r.cells (λ q y. q ≡ m → y.owner ≡ 0 → (y.cover < 2048) × (hides (cells' y.cover).state ≡ true) × (below y.cover m ≡ true)) m
                (λ _ e. let y = f.0 in absurd (omega arith))
                (λ _ inside _ _. (near, ap (λ (y : Cell). hides y.state) (put_here k filling (below k) (hidden k) r.cells), inside))
                (λ ne out _ e. let was = r.covered m hp hm e in let a : ℕ = (r.cells m).cover in (
                  was.0,
                  at_put k filling (below k) (hidden k) r.cells (λ q y. q ≡ a → hides y.state ≡ true) a
                      (λ _. refl)
                      (λ _ inside _. absurd (true≢false (sym was.1 ∙ ap hides (free_cell a was.0 (tree a was.0 inside)).1.0)))
                      (λ _ _ _. was.1) refl,
                  was.2,
                )) refl;
          }

pub fills : {J : Type 0} (job : Option J) (n slots id : ℕ) (me : Seated J) (k lo hi new : ℕ) → me.0.live ≡ true → k < 2048 → 0 < k → owns_at me.0 k ≡ owned_free → ((m : ℕ) → m < 2048 → below k m ≡ true → owns_at me.0 m ≡ owned_free)
    → lo ≤ hi → hi ≤ n → new ≡ pack lo hi 1 → lo_of new ≡ lo → hi_of new ≡ hi
    → Allows (Kept job n) slots id me k (λ y. either (eqb y 0) new y) (filled (step slots k 0 new none) me)
fills {J} job n slots id me k lo hi new live near pos here tree order most new_is lo_is hi_is s r wide at small = let x : ℕ = slice_index s.words k in let f = free_cell job n s r id k me.0 near pos at live k near here in let c : Cell = r.cells k in
    let ok = r.each_cell k near in
    let hit : x ≡ 0 = ok.shows ∙ face_blank c f.1 in let v : Known J = noted step_fill k x (after_fill k (lo_of new) (hi_of new) me.0) in
    let t = fill_moves job n s r id k me.0 near pos at live here tree lo hi order most new lo_is hi_is in
    exchanged x 0 new (Goes job n s r id k me (filled (step slots k 0 new none) me))
    (λ _. (
      v,
      takes k None,
      ok.lies ∙ ap some (home_blank job c f.1),
      subst (λ (z : ℕ). Kept job n record { words = set s.words k z; homes = set s.homes k none; views = set s.views id v }) (sym new_is)
          (moved job n s r id k (filling job n s r id k me.0 near pos at live here tree lo hi order most) (below k) (hidden k) (pack lo hi 1) (set s.homes k none) me.0 v t),
      (refl, hit),
    )) (λ miss. absurd (miss hit))
