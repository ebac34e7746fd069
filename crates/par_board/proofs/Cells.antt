-- What stays of the rule when one node's cell moves, and the cells of an area with it.
use Rattle.std.proofs.Common.{◌≡◌, ◌≢◌, ℕ, zero, suc, ◌<◌, ◌≤◌, List, ◌∷◌, length, set, sym, refl, ap, ◌∙◌, subst, arith, Bool, true, cond, eq-eqb, ne_eqb, length-set, get_or-set_other, get_or-set_same}
use mathlib.Core.Logic.{dite}
use mathlib.Core.Option.{some, none, some-injective}
use mathlib.Core.Option as maybe
use native.Mathlib.Decide.{ℕ_discrete}
use lib.ListN.{get_elem?}
use Rattle.std.specs.Prelude.{Option, None, slice_index}
use Rattle.atomic_table.specs.Table.{State}
use Rattle.atomic_table.proofs.Lists.{set_else}
use Rattle.par_views.proofs.Puts.{put, at_put}
use Rattle.par_views.proofs.Views.{here, each_set}
use Rattle.par_board.specs.Seen.{not_owned, not_held, held_over, Kind, Note, owns_at, holds_at}
use Rattle.par_board.specs.declared.answers.NodeState.TheVariants.{Free}
use Rattle.par_board.specs.Words.{pack, code}
use Rattle.par_board.specs.Tree.{below}
use Rattle.par_board.specs.Rule.{Plain, Cell, hidden, face, hides, entry, owns_of, holds_of, home_at, home_of, Lives, CellOk, Later, NotesFit, Knows, Kept, Known}
use Rattle.par_board.proofs.Shows.{later_now}
use Rattle.par_board.proofs.Sums.{parted_step}

-- a node that is free, with no span
abbrev pub Blank : Cell → Type 0
Blank c = (c.state ≡ Free) × (c.lo ≡ 0) × (c.hi ≡ 0) × (c.holder ≡ 0)

pub face_blank : (c : Cell) → Blank c → face c ≡ 0
face_blank c b = λ i. pack (b.1 i) (b.2 i) (code (b.0 i))

code_blank : (c : Cell) → Blank c → code c.state ≡ 0
code_blank c b = ap code b.0

pub home_blank : {J : Type 0} (job : Option J) (c : Cell) → Blank c → home_of job c ≡ some None
home_blank job c b = λ i. home_at job (b.1 i) (b.2 i) c.out (b.0 i)

pub loose : (j : ℕ) (c : Cell) → c.holder ≢ suc j → holds_of j c ≡ not_held
loose j c ne = ap (λ (b : Bool). cond b (held_over c.lo c.hi c.out) not_held) (ne_eqb c.holder (suc j) ne)

pub held_by : (j : ℕ) (c : Cell) → c.holder ≡ suc j → holds_of j c ≡ held_over c.lo c.hi c.out
held_by j c e = ap (λ (b : Bool). cond b (held_over c.lo c.hi c.out) not_held) (eq-eqb c.holder (suc j) e)

pub unowned : (j : ℕ) (c : Cell) → c.owner ≢ suc j → owns_of j c ≡ not_owned
unowned j c ne = ap (λ (b : Bool). cond b (entry c.lo c.hi c.state) not_owned) (ne_eqb c.owner (suc j) ne)

pub owned_by : (j : ℕ) (c : Cell) → c.owner ≡ suc j → owns_of j c ≡ entry c.lo c.hi c.state
owned_by j c e = ap (λ (b : Bool). cond b (entry c.lo c.hi c.state) not_owned) (eq-eqb c.owner (suc j) e)

-- the notes fit still where one more fits
pub fits_more : (cells : ℕ → Cell) (note : Note) (notes : List Note) → (note.node < 2048) × Later note.read (cells note.node) → NotesFit cells notes → NotesFit cells (note ∷ notes)
fits_more cells note notes new old zero x e = subst (λ (y : Note). (y.node < 2048) × Later y.read (cells y.node)) (some-injective note x e) new
fits_more cells note notes new old (suc i) x e = old i x e

module _ {J : Type 0} where
  -- the seat id keeps living, and so do the others
  pub lives_on : (views : List (Known J)) (id : ℕ) (w : Known J) (j : ℕ) → w.live ≡ true → Lives views id → Lives views j → Lives (set views id w) j
  lives_on views id w j live me it = dite (ℕ_discrete j id)
      (λ e. (w, subst (λ (x : ℕ). get_elem? (set views id w) x ≡ some w) (sym e) (here views id me.0 w me.1), live))
      (λ ne. (it.0, set_else views id j w ne ∙ it.1, it.2))

  module _ (job : Option J) (n : ℕ) (s : State (Option (Plain J)) (Known J)) (r : Kept job n s) where
    -- The step of the seat id on the word k: the cell becomes c', the cells of an area that are free become b', the word new, and the seat's view goes from v to w
    pub record Moves (id k : ℕ) (c' : Cell) (area : ℕ → Bool) (b' : Cell) (new : ℕ) (homes' : List (maybe.Option (Option (Plain J)))) (v w : Known J) : Type 0 where
      pub near : k < 2048
      pub at : get_elem? s.views id ≡ some v
      pub live : (v.live ≡ true) × (w.live ≡ true)
      pub same : (w.of ≡ v.of) × (w.parts ≡ v.parts)
      pub notes : (kind : Kind) × (w.notes ≡ record { kind = kind; node = k; read = slice_index s.words k } ∷ v.notes)
      pub long : length homes' ≡ length s.homes
      pub shows : new ≡ face c'
      pub lies : get_elem? homes' k ≡ some (home_of job c')
      pub rest : (m : ℕ) → m ≢ k → get_elem? homes' m ≡ get_elem? s.homes m
      pub blank : code c'.state ≡ 0 → (c'.lo ≡ 0) × (c'.hi ≡ 0)
      pub span : (c'.lo ≤ c'.hi) × (c'.hi ≤ n)
      pub gripped : code c'.state ≢ 3 → c'.holder ≡ 0
      pub held : code c'.state ≡ 3 → c'.holder ≢ 0
      pub bare : code c'.state ≢ 0 → c'.owner ≢ 0
      pub owner : (j : ℕ) → c'.owner ≡ suc j → Lives s.views j
      pub holder : (j : ℕ) → c'.holder ≡ suc j → Lives s.views j
      pub area_was : (m : ℕ) → m < 2048 → area m ≡ true → Blank (r.cells m)
      pub area_is : Blank b'
      pub area_owner : (j : ℕ) → b'.owner ≡ suc j → Lives s.views j
      pub grows : code (r.cells k).state ≤ code c'.state
      pub span_same : code (r.cells k).state ≢ 0 → (c'.lo ≡ (r.cells k).lo) × (c'.hi ≡ (r.cells k).hi)
      pub others : (j : ℕ) → j ≢ id → (owns_of j c' ≡ owns_of j (r.cells k)) × (holds_of j c' ≡ holds_of j (r.cells k))
      pub area_others : (j m : ℕ) → j ≢ id → m < 2048 → area m ≡ true → owns_of j b' ≡ owns_of j (r.cells m)
      pub owns : (m : ℕ) → m < 2048 → owns_at w m ≡ owns_of id (put k c' area b' r.cells m)
      pub holds : (m : ℕ) → m < 2048 → holds_at w m ≡ holds_of id (put k c' area b' r.cells m)
      pub covers : (a m : ℕ) → a < 2048 → m < 2048 → hides (put k c' area b' r.cells a).state ≡ true → below a m ≡ true → put k c' area b' r.cells m ≡ hidden a
      pub covered : (m : ℕ) → 0 < m → m < 2048 → (put k c' area b' r.cells m).owner ≡ 0
          → ((put k c' area b' r.cells m).cover < 2048) × (hides (put k c' area b' r.cells (put k c' area b' r.cells m).cover).state ≡ true) × (below (put k c' area b' r.cells m).cover m ≡ true)

    module _ (id k : ℕ) (c' : Cell) (area : ℕ → Bool) (b' : Cell) (new : ℕ) (homes' : List (maybe.Option (Option (Plain J)))) (v w : Known J) (t : Moves id k c' area b' new homes' v w) where
      abbrev cells' : ℕ → Cell
      cells' = put k c' area b' r.cells

      cell_ok : (m : ℕ) → m < 2048 → CellOk job n (set s.words k new) homes' m (cells' m)
      cell_ok m near = at_put k c' area b' r.cells (λ q x. q < 2048 → CellOk job n (set s.words k new) homes' q x) m
          (λ _. record {
            shows = get_or-set_same s.words k new 0 (let h = t.near in let g = r.wide.0 in omega arith) ∙ t.shows;
            lies = t.lies;
            blank = t.blank;
            ordered = t.span.0;
            within = t.span.1;
            gripped = t.gripped;
            held = t.held;
            bare = t.bare;
          })
          (λ ne inside _. let ok = r.each_cell m near in let was = t.area_was m near inside in let is = t.area_is in let zero_code = code_blank b' is in let l : b'.lo ≡ 0 = is.1 in let h : b'.hi ≡ 0 = is.2 in record {
            shows = get_or-set_other s.words k m new 0 ne ∙ ok.shows ∙ face_blank (r.cells m) was ∙ sym (face_blank b' is);
            lies = t.rest m ne ∙ ok.lies ∙ ap some (home_blank job (r.cells m) was ∙ sym (home_blank job b' is));
            blank = λ _. (l, h);
            ordered = omega arith;
            within = omega arith;
            gripped = λ _. is.3;
            held = λ e. absurd (omega arith);
            bare = λ e. absurd (e zero_code);
          })
          (λ ne _ _. let ok = r.each_cell m near in record {
            shows = get_or-set_other s.words k m new 0 ne ∙ ok.shows;
            lies = t.rest m ne ∙ ok.lies;
            blank = ok.blank;
            ordered = ok.ordered;
            within = ok.within;
            gripped = ok.gripped;
            held = ok.held;
            bare = ok.bare;
          }) near

      -- a word that was read of a node fits its cell after
      later_on : (q read : ℕ) → q < 2048 → Later read (r.cells q) → Later read (cells' q)
      later_on q read near fits = at_put k c' area b' r.cells (λ p x. p ≡ q → Later read x) q
          (λ e some_state. let old = subst (λ (p : ℕ). Later read (r.cells p)) (sym e) fits some_state in let le = old.2 in let up = t.grows in
          let now = t.span_same (λ (z : code (r.cells k).state ≡ 0). some_state (omega arith)) in (old.0 ∙ sym now.0, old.1 ∙ sym now.1, omega arith))
          (λ _ inside _ some_state. let le = (fits some_state).2 in let z = code_blank (r.cells q) (t.area_was q near inside) in absurd (some_state (omega arith))) (λ _ _ _. fits) refl

      notes_on : (notes : List Note) → NotesFit r.cells notes → NotesFit cells' notes
      notes_on notes fit i x e = let f = fit i x e in (f.0, later_on x.node x.read f.0 f.1)

      view_knows : (j : ℕ) (u : Known J) → j ≢ id → Knows job r.cells j u → Knows job cells' j u
      view_knows j u other o = record {
        job_is = o.job_is;
        owns = λ m near. at_put k c' area b' r.cells (λ q x. q < 2048 → owns_at u q ≡ owns_of j x) m
            (λ g. o.owns k g ∙ sym (t.others j other).0) (λ ne inside g. o.owns m g ∙ sym (t.area_others j m other g inside)) (λ _ _ g. o.owns m g) near;
        holds = λ m near. at_put k c' area b' r.cells (λ q x. q < 2048 → holds_at u q ≡ holds_of j x) m
            (λ g. o.holds k g ∙ sym (t.others j other).1) (λ ne inside g. o.holds m g ∙ loose j (r.cells m) (let z = (t.area_was m g inside).3 in λ e. omega arith) ∙ sym (loose j b' (let z = t.area_is.3 in λ e. omega arith))) (λ _ _ g. o.holds m g) near;
        noted = notes_on u.notes o.noted;
      }

      mine : Knows job cells' id w
      mine = let o = r.each_view id v t.at t.live.0 in record {
        job_is = t.same.0 ∙ o.job_is;
        owns = t.owns;
        holds = t.holds;
        noted = subst (NotesFit cells') (sym t.notes.1) (fits_more cells' record { kind = t.notes.0; node = k; read = slice_index s.words k } v.notes
            (t.near, later_on k (slice_index s.words k) t.near (later_now job n s r k t.near)) (notes_on v.notes o.noted));
      }

      pub moved : Kept job n record { words = set s.words k new; homes = homes'; views = set s.views id w }
      moved = let me : Lives s.views id = (v, t.at, t.live.0) in record {
        cells = cells';
        wide = (length-set s.words k new ∙ r.wide.0, t.long ∙ r.wide.1);
        few = r.few;
        each_cell = cell_ok;
        owned = λ m j near. at_put k c' area b' r.cells (λ q x. x.owner ≡ suc j → Lives (set s.views id w) j) m
            (λ e. lives_on s.views id w j t.live.1 me (t.owner j e)) (λ _ _ e. lives_on s.views id w j t.live.1 me (t.area_owner j e)) (λ _ _ e. lives_on s.views id w j t.live.1 me (r.owned m j near e));
        gripped = λ m j near. at_put k c' area b' r.cells (λ q x. x.holder ≡ suc j → Lives (set s.views id w) j) m
            (λ e. lives_on s.views id w j t.live.1 me (t.holder j e)) (λ _ _ e. let z = t.area_is.3 in absurd (omega arith)) (λ _ _ e. lives_on s.views id w j t.live.1 me (r.gripped m j near e));
        each_view = each_set (λ j (u : Known J). u.live ≡ true → Knows job cells' j u) s.views id w (λ _. mine) (λ j u ne at live. view_knows j u ne (r.each_view j u at live));
        covers = t.covers;
        covered = t.covered;
        parted = parted_step s.views id v w t.at t.live.0 t.same.1 r.parted;
      }
