-- A step that changes the cell of its own node alone, and keeps its owner and span.
use Rattle.std.proofs.Common.{◌≡◌, ◌≢◌, ℕ, suc, ◌<◌, ◌≤◌, List, ◌∷◌, length, set, sym, refl, ap, ◌∙◌, subst, arith, Bool, true, false, cond, eqb, eq-eqb, ne_eqb, true≢false}
use mathlib.Core.Option.{some, none}
use mathlib.Core.Option as maybe
use lib.ListN.{get_elem?}
use Rattle.std.specs.Prelude.{Option, slice_index}
use Rattle.atomic_table.specs.Table.{State}
use Rattle.par_board.specs.Seen.{Owned, not_owned, Held, not_held, Kind, owns_at, holds_at}
use Rattle.par_board.specs.declared.answers.NodeState.{NodeState}
use Rattle.par_board.specs.Words.{code}
use Rattle.par_board.specs.Tree.{below}
use Rattle.par_board.specs.Rule.{Plain, Cell, hidden, face, hides, owns_of, holds_of, home_of, Lives, Kept, Known}
use Rattle.par_board.specs.Plays.{own, grip}
use Rattle.par_views.proofs.Puts.{put, at_put}
use Rattle.par_board.proofs.Cells.{Moves, moved}
use Rattle.par_board.proofs.Tables.{at_table, not_below}

-- one entry of a table changed
pub own_here : {J : Type 0} (k : ℕ) (p : Owned) (v : Known J) → k < 2048 → owns_at (own k p v) k ≡ p
own_here k p v near = at_table (λ (m : ℕ). cond (eqb m k) p (owns_at v m)) k not_owned near ∙ ap (λ (b : Bool). cond b p (owns_at v k)) (eq-eqb k k refl)

pub own_else : {J : Type 0} (k : ℕ) (p : Owned) (v : Known J) (m : ℕ) → m < 2048 → m ≢ k → owns_at (own k p v) m ≡ owns_at v m
own_else k p v m near ne = at_table (λ (q : ℕ). cond (eqb q k) p (owns_at v q)) m not_owned near ∙ ap (λ (b : Bool). cond b p (owns_at v m)) (ne_eqb m k ne)

pub grip_here : {J : Type 0} (k : ℕ) (g : Held) (v : Known J) → k < 2048 → holds_at (grip k g v) k ≡ g
grip_here k g v near = at_table (λ (m : ℕ). cond (eqb m k) g (holds_at v m)) k not_held near ∙ ap (λ (b : Bool). cond b g (holds_at v k)) (eq-eqb k k refl)

pub grip_else : {J : Type 0} (k : ℕ) (g : Held) (v : Known J) (m : ℕ) → m < 2048 → m ≢ k → holds_at (grip k g v) m ≡ holds_at v m
grip_else k g v m near ne = at_table (λ (q : ℕ). cond (eqb q k) g (holds_at v q)) m not_held near ∙ ap (λ (b : Bool). cond b g (holds_at v m)) (ne_eqb m k ne)

nowhere : ℕ → Bool
nowhere m = false

nowhere_is : (m : ℕ) → nowhere m ≡ true → ⊥
unfolding nowhere
nowhere_is m e = true≢false (sym e)

module _ {J : Type 0} (job : Option J) (n : ℕ) (s : State (Option (Plain J)) (Known J)) (r : Kept job n s) (id k : ℕ) (v : Known J) (st : NodeState) (holder : ℕ) (out : Bool) (homes' : List (maybe.Option (Option (Plain J)))) (w : Known J) where
  abbrev pub after : Cell
  after = record { state = st; owner = (r.cells k).owner; holder = holder; out = out; lo = (r.cells k).lo; hi = (r.cells k).hi; cover = (r.cells k).cover }

  pub record Alone : Type 0 where
    pub near : k < 2048
    pub pos : 0 < k
    pub at : get_elem? s.views id ≡ some v
    pub live : (v.live ≡ true) × (w.live ≡ true)
    pub had_some : code (r.cells k).state ≢ 0
    pub grows : code (r.cells k).state ≤ code st
    pub hiding : hides st ≡ hides (r.cells k).state
    pub long : length homes' ≡ length s.homes
    pub lies : get_elem? homes' k ≡ some (home_of job after)
    pub rest : (m : ℕ) → m ≢ k → get_elem? homes' m ≡ get_elem? s.homes m
    pub gripped : code st ≢ 3 → holder ≡ 0
    pub held : code st ≡ 3 → holder ≢ 0
    pub holder_lives : (j : ℕ) → holder ≡ suc j → Lives s.views j
    pub others : (j : ℕ) → j ≢ id → (owns_of j after ≡ owns_of j (r.cells k)) × (holds_of j after ≡ holds_of j (r.cells k))
    pub same : (w.of ≡ v.of) × (w.parts ≡ v.parts)
    pub notes : (kind : Kind) × (w.notes ≡ record { kind = kind; node = k; read = slice_index s.words k } ∷ v.notes)
    pub owns_here : owns_at w k ≡ owns_of id after
    pub owns_else : (m : ℕ) → m < 2048 → m ≢ k → owns_at w m ≡ owns_at v m
    pub holds_here : holds_at w k ≡ holds_of id after
    pub holds_else : (m : ℕ) → m < 2048 → m ≢ k → holds_at w m ≡ holds_at v m

  alone_moves : Alone → Moves job n s r id k after nowhere (hidden 0) (face after) homes' v w
  alone_moves t = let ok = r.each_cell k t.near in let o = r.each_view id v t.at t.live.0 in let up = t.grows in let past = t.had_some in
      let now_some : code st ≢ 0 = (λ e. past (omega arith)) in let cells' : ℕ → Cell = put k after nowhere (hidden 0) r.cells in record {
        near = t.near;
        at = t.at;
        live = t.live;
        same = t.same;
        notes = t.notes;
        long = t.long;
        shows = refl;
        lies = t.lies;
        rest = t.rest;
        blank = λ e. absurd (now_some e);
        span = (ok.ordered, ok.within);
        gripped = t.gripped;
        held = t.held;
        bare = λ _. ok.bare past;
        owner = λ j e. r.owned k j t.near e;
        holder = t.holder_lives;
        area_was = λ m _ e. absurd (nowhere_is m e);
        area_is = (refl, refl, refl, refl);
        area_owner = λ j e. absurd (omega arith);
        grows = up;
        span_same = λ _. (refl, refl);
        others = t.others;
        area_others = λ j m _ _ e. absurd (nowhere_is m e);
        owns = λ m h. at_put k after nowhere (hidden 0) r.cells (λ q y. q < 2048 → owns_at w q ≡ owns_of id y) m (λ _. t.owns_here) (λ _ e _. absurd (nowhere_is m e)) (λ ne _ g. t.owns_else m g ne ∙ o.owns m g) h;
        holds = λ m h. at_put k after nowhere (hidden 0) r.cells (λ q y. q < 2048 → holds_at w q ≡ holds_of id y) m (λ _. t.holds_here) (λ _ e _. absurd (nowhere_is m e)) (λ ne _ g. t.holds_else m g ne ∙ o.holds m g) h;
        covers = λ a m ha hm hiding is_below. at_put k after nowhere (hidden 0) r.cells (λ q y. hides y.state ≡ true → q ≡ a → cells' m ≡ hidden a) a
            (λ e same_node. let was = r.covers k m t.near hm (sym t.hiding ∙ e) (subst (λ (q : ℕ). below q m ≡ true) (sym same_node) is_below) in
            at_put k after nowhere (hidden 0) r.cells (λ q y. q ≡ m → y ≡ hidden a) m
            (λ me. absurd (true≢false (subst (λ (q : ℕ × ℕ). true ≡ below q.0 q.1) (λ i. (sym same_node i, sym me i)) (sym is_below) ∙ not_below k t.pos)))
            (λ _ e' _. absurd (nowhere_is m e')) (λ _ _ _. was ∙ ap hidden same_node) refl)
            (λ _ e _ _. absurd (nowhere_is a e))
            (λ ne _ e _. let was = r.covers a m ha hm e is_below in at_put k after nowhere (hidden 0) r.cells (λ q y. q ≡ m → y ≡ hidden a) m
            (λ me. absurd (past (subst (λ (q : ℕ). code (r.cells q).state ≡ 0) (sym me) (ap (λ (y : Cell). code y.state) was))))
            (λ _ e' _. absurd (nowhere_is m e')) (λ _ _ _. was) refl) hiding refl;
        covered = λ m hp hm. at_put k after nowhere (hidden 0) r.cells (λ q y. q ≡ m → y.owner ≡ 0 → (y.cover < 2048) × (hides (cells' y.cover).state ≡ true) × (below y.cover m ≡ true)) m
            (λ _ e. absurd (ok.bare past e)) (λ _ e' _ _. absurd (nowhere_is m e'))
            (λ ne _ _ e. let was = r.covered m hp hm e in let a : ℕ = (r.cells m).cover in (
              was.0,
              at_put k after nowhere (hidden 0) r.cells (λ q y. q ≡ a → hides y.state ≡ true) a
                  (λ me. t.hiding ∙ subst (λ (q : ℕ). hides (r.cells q).state ≡ true) (sym me) was.1) (λ _ e' _. absurd (nowhere_is a e')) (λ _ _ _. was.1) refl,
              was.2,
            )) refl;
      }

  pub alone : Alone → Kept job n record { words = set s.words k (face after); homes = homes'; views = set s.views id w }
  alone t = moved job n s r id k after nowhere (hidden 0) (face after) homes' v w (alone_moves t)
