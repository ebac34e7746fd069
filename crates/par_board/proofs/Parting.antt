-- How the board starts, a load, and how seats are cut off and joined.
use Rattle.std.proofs.Common.{◌≡◌, ◌≢◌, ℕ, zero, suc, ◌<◌, ◌≤◌, List, [], ◌∷◌, ◌++◌, map, length, get_or, set, replicate, sym, refl, ap, ◌∙◌, subst, ⊎_elim, arith, Bool, true, cond, eqb, eq-eqb, ne_eqb, true≢false, length-set}
use mathlib.Core.Logic.{dite}
use mathlib.Core.Option.{some, none, some-injective, some-ne-none}
use native.Mathlib.Decide.{ℕ_discrete}
use lib.ListN.{get_elem?, length-map, length-replicate}
use Rattle.std.specs.Prelude.{Option, None, slice_index}
use Rattle.atomic_table.specs.Table.{State, step, keeps, Allows, Splits, Joins, opening}
use Rattle.atomic_table.proofs.Lists.{at_set, set_else, at_longer}
use Rattle.par_board.specs.Seen.{Owned, not_owned, owned_free, owned_open, owned_merged, not_held, held_over, step_load, owns_at, holds_at, all_parts}
use Rattle.par_board.specs.Rule.{Plain, Cell, hidden, idle, entry, owns_of, Lives, Knows, Kept, Known, begun, spent}
use Rattle.par_board.specs.Plays.{Seated, looked}
use Rattle.par_board.specs.Calls.{noted, merge, left_of, right_of, joined}
use Rattle.par_views.proofs.Views.{in_range, at_end}
use Rattle.par_board.proofs.Cells.{lives_on, loose, held_by, unowned, owned_by}
use Rattle.par_board.proofs.Changes.{unmoved}
use Rattle.par_board.proofs.Shows.{shown_most}
use Rattle.par_board.proofs.Sums.{parted_split, parted_join}
use Rattle.par_board.proofs.Opened.{opened_over}
use Rattle.par_board.proofs.Tables.{at_table}

pub loads : {J : Type 0} (job : Option J) (n slots id : ℕ) (me : Seated J) (k : ℕ) → me.0.live ≡ true → k < 2048 → Allows (Kept job n) slots id me k (λ y. y) (looked (step slots k 0 0 none) me)
loads job n slots id me k live near s r wide at small = (noted step_load k (slice_index s.words k) me.0, keeps, tt, unmoved job n s r id k step_load me.0 near at live, (refl, shown_most job n s r k near, opened_over job n s r id k me.0 near at live))

module _ {J : Type 0} (job : Option J) (n : ℕ) where
  -- only the views change, and the cells as the views say
  module _ (s : State (Option (Plain J)) (Known J)) (r : Kept job n s) where
    pub forks : (id : ℕ) (v : Known J) → v.live ≡ true → get_elem? s.views id ≡ some v → Kept job n record { words = s.words; homes = s.homes; views = set s.views id (left_of v) ++ right_of v ∷ [] }
    forks id v live at = let w : Known J = left_of v in let vs = set s.views id w in let o = r.each_view id v at live in
        let on : (j : ℕ) → Lives s.views j → Lives (vs ++ right_of v ∷ []) j = λ j l. let t = lives_on s.views id w j live (v, at, live) l in (t.0, at_longer vs (right_of v ∷ []) j t.0 t.1, t.2) in
        let here : (j m : ℕ) → j ≡ length vs → m < 2048 → Lives s.views j → ⊥ = λ j m e h l. let a = in_range s.views j l.0 l.1 in let b = length-set s.views id w in omega arith in record {
          cells = r.cells;
          wide = r.wide;
          few = r.few;
          each_cell = r.each_cell;
          owned = λ m j h e. on j (r.owned m j h e);
          gripped = λ m j h e. on j (r.gripped m j h e);
          each_view = λ j u at' live'. ⊎_elim
              (λ (old : get_elem? vs j ≡ some u). ⊎_elim
              (λ (x : (j ≡ id) × (w ≡ u)). subst (λ (y : ℕ × Known J). Knows job r.cells y.0 y.1) (λ i. (sym x.0 i, x.1 i)) record { job_is = o.job_is; owns = o.owns; holds = o.holds; noted = o.noted })
              (λ (x : (j ≢ id) × (get_elem? s.views j ≡ some u)). r.each_view j u x.1 live') (at_set s.views id j w u old))
              (λ (x : (j ≡ length vs) × (right_of v ≡ u)). subst (Knows job r.cells j) x.1 record {
                job_is = o.job_is;
                owns = λ m h. at_table (λ _. not_owned) m not_owned h ∙ sym (unowned j (r.cells m) (λ e. here j m x.0 h (r.owned m j h e)));
                holds = λ m h. at_table (λ _. not_held) m not_held h ∙ sym (loose j (r.cells m) (λ e. here j m x.0 h (r.gripped m j h e)));
                noted = λ i x e. absurd (some-ne-none x (sym e));
              }) (at_end vs (right_of v) u j at');
          covers = r.covers;
          covered = r.covered;
          parted = parted_split s.views id v w (right_of v) at live refl refl r.parted;
        }

pub splits : {J : Type 0} (job : Option J) (n id : ℕ) (v : Known J) → v.live ≡ true → Splits (Kept job n) id v (left_of v) (right_of v)
splits job n id v live s r at = forks job n s r id v live at

-- the cell, with what the seat `other` owned now owned by id
abbrev passed_to : ℕ → ℕ → Cell → ℕ
passed_to id other c = cond (eqb c.owner (suc other)) (suc id) c.owner

abbrev passed : ℕ → ℕ → Cell → Cell
passed id other c = record { state = c.state; owner = passed_to id other c; holder = c.holder; out = c.out; lo = c.lo; hi = c.hi; cover = c.cover }

passed_yes : (id other : ℕ) (c : Cell) → c.owner ≡ suc other → passed_to id other c ≡ suc id
passed_yes id other c e = ap (λ (b : Bool). cond b (suc id) c.owner) (eq-eqb c.owner (suc other) e)

passed_no : (id other : ℕ) (c : Cell) → c.owner ≢ suc other → passed_to id other c ≡ c.owner
passed_no id other c ne = ap (λ (b : Bool). cond b (suc id) c.owner) (ne_eqb c.owner (suc other) ne)

merge_none : (p : Owned) → merge p not_owned ≡ p
merge_none not_owned = refl
merge_none owned_free = refl
merge_none (owned_open lo hi f) = refl
merge_none owned_merged = refl

module _ {J : Type 0} (job : Option J) (n : ℕ) (s : State (Option (Plain J)) (Known J)) (r : Kept job n s) (id : ℕ) (v : Known J) (other : ℕ) (w : Known J) (live : v.live ≡ true) (live' : w.live ≡ true)
    (empty : (m : ℕ) → m < 2048 → holds_at w m ≡ not_held) (at : get_elem? s.views id ≡ some v) (two : ¬ (other ≡ id)) (at' : get_elem? s.views other ≡ some w) where
  abbrev all_ : Known J
  all_ = joined v w

  abbrev vs : List (Known J)
  vs = set (set s.views id all_) other spent

  abbrev there : ℕ → Cell
  there m = passed id other (r.cells m)

  not_gripped : (m : ℕ) → m < 2048 → (r.cells m).holder ≢ suc other
  not_gripped m h e = let o = r.each_view other w at' live' in let c : Cell = r.cells m in let is : not_held ≡ held_over c.lo c.hi c.out = sym (empty m h) ∙ o.holds m h ∙ held_by other c e in absurd cc

  alive : (j : ℕ) → j ≢ other → Lives s.views j → Lives vs j
  alive j ne l = let t = lives_on s.views id all_ j live (v, at, live) l in (t.0, set_else (set s.views id all_) other j spent ne ∙ t.1, t.2)

  owned_in : (m : ℕ) → m < 2048 → merge (owns_at v m) (owns_at w m) ≡ owns_of id (there m)
  owned_in m h = let c : Cell = r.cells m in let o = r.each_view id v at live in let p = r.each_view other w at' live' in
      dite (ℕ_discrete c.owner (suc other))
      (λ e. ap (λ (q : Owned). merge q (owns_at w m)) (o.owns m h ∙ unowned id c (λ z. two (omega arith))) ∙ p.owns m h ∙ owned_by other c e ∙ sym (owned_by id (there m) (passed_yes id other c e)))
      (λ ne. (λ i. merge (o.owns m h i) ((p.owns m h ∙ unowned other c ne) i)) ∙ merge_none (owns_of id c) ∙ ap (λ (k : ℕ). cond (eqb k (suc id)) (entry c.lo c.hi c.state) not_owned) (sym (passed_no id other c ne)))

  owned_out : (j m : ℕ) → j ≢ id → j ≢ other → owns_of j (r.cells m) ≡ owns_of j (there m)
  owned_out j m a b = let c : Cell = r.cells m in
      dite (ℕ_discrete c.owner (suc other))
      (λ e. unowned j c (λ z. b (omega arith)) ∙ sym (unowned j (there m) (let y = passed_yes id other c e in λ z. a (omega arith))))
      (λ ne. ap (λ (k : ℕ). cond (eqb k (suc j)) (entry c.lo c.hi c.state) not_owned) (sym (passed_no id other c ne)))

  pub merges : Kept job n record { words = s.words; homes = s.homes; views = vs }
  merges = let o = r.each_view id v at live in record {
    cells = there;
    wide = r.wide;
    few = r.few;
    each_cell = λ m h. let ok = r.each_cell m h in record {
      shows = ok.shows;
      lies = ok.lies;
      blank = ok.blank;
      ordered = ok.ordered;
      within = ok.within;
      gripped = ok.gripped;
      held = ok.held;
      bare = λ e z. let b = ok.bare e in dite (ℕ_discrete (r.cells m).owner (suc other)) (λ y. let q = passed_yes id other (r.cells m) y in absurd (omega arith)) (λ ne. b (sym (passed_no id other (r.cells m) ne) ∙ z));
    };
    owned = λ m j h e. dite (ℕ_discrete (r.cells m).owner (suc other))
        (λ y. subst (Lives vs) (let q = passed_yes id other (r.cells m) y in omega arith) (alive id (λ z. two (sym z)) (v, at, live)))
        (λ ne. let q = passed_no id other (r.cells m) ne in alive j (λ z. ne (omega arith)) (r.owned m j h (sym q ∙ e)));
    gripped = λ m j h e. alive j (λ z. not_gripped m h (e ∙ ap suc z)) (r.gripped m j h e);
    each_view = λ j u at'' alive'. ⊎_elim
        (λ (x : (j ≡ other) × (spent ≡ u)). absurd (true≢false (sym alive' ∙ ap (λ (y : Known J). y.live) (sym x.1))))
        (λ (x : (j ≢ other) × (get_elem? (set s.views id all_) j ≡ some u)). ⊎_elim
        (λ (y : (j ≡ id) × (all_ ≡ u)). subst (λ (z : ℕ × Known J). Knows job there z.0 z.1) (λ i. (sym y.0 i, y.1 i)) record {
          job_is = o.job_is;
          owns = λ m h. at_table (λ (q : ℕ). merge (owns_at v q) (owns_at w q)) m not_owned h ∙ owned_in m h;
          holds = λ m h. o.holds m h;
          noted = o.noted;
        })
        (λ (y : (j ≢ id) × (get_elem? s.views j ≡ some u)). let p = r.each_view j u y.1 alive' in record {
          job_is = p.job_is;
          owns = λ m h. p.owns m h ∙ owned_out j m y.0 x.0;
          holds = λ m h. p.holds m h;
          noted = p.noted;
        }) (at_set s.views id j all_ u x.1)) (at_set (set s.views id all_) other j spent u at'');
    covers = λ a m ha hm e b. ap (passed id other) (r.covers a m ha hm e b) ∙ (λ i. record (hidden a) { owner = passed_no id other (hidden a) (λ z. omega arith) i });
    covered = λ m hp hm e. r.covered m hp hm (dite (ℕ_discrete (r.cells m).owner (suc other)) (λ y. let q = passed_yes id other (r.cells m) y in absurd (omega arith)) (λ ne. sym (passed_no id other (r.cells m) ne) ∙ e));
    parted = parted_join s.views id other v w all_ spent at live (set_else s.views id other all_ two ∙ at') refl refl (λ z. true≢false (sym z)) r.parted;
  }

pub joins : {J : Type 0} (job : Option J) (n id : ℕ) (v : Known J) (other : ℕ) (w : Known J) → v.live ≡ true → w.live ≡ true → ((m : ℕ) → m < 2048 → holds_at w m ≡ not_held) → Joins (Kept job n) id v other w (joined v w) spent
joins job n id v other w live live' empty s r at two at' = merges job n s r id v other w live live' empty at two (sym (set_else s.views id other (joined v w) two) ∙ at')

blank : {A : Type 0} (n i : ℕ) → i < n → get_elem? (map some (replicate {A = Option A} n None)) i ≡ some (some None)
blank zero i near = absurd (omega arith)
blank (suc n) zero near = refl
blank (suc n) (suc i) near = blank n i (omega arith)

-- the first seat has all nodes
pub starts : {J : Type 0} (job : Option J) (n : ℕ) (ws : List ℕ) (count : ℕ) → count ≡ 2048 → n ≤ 4194304 → length ws ≡ count → ((k : ℕ) → k < count → slice_index ws k ≡ 0) → Kept job n (opening ws (replicate count None) (begun job))
starts {J} job n ws count is few wide zeros = let views : List (Known J) = begun job ∷ [] in let first : Lives views 0 = (begun job, refl, refl) in record {
  cells = λ _. idle 0;
  wide = (wide ∙ is, length-map (replicate {A = Option (Plain J)} count None) some ∙ length-replicate count None ∙ is);
  few = few;
  each_cell = λ k h. record {
    shows = zeros k (omega arith);
    lies = blank count k (omega arith);
    blank = λ _. (refl, refl);
    ordered = omega arith;
    within = omega arith;
    gripped = λ _. refl;
    held = λ e. absurd (omega arith);
    bare = λ e. absurd (e refl);
  };
  owned = λ k j h e. subst (Lives views) (let q : 0 ≡ j = omega arith in q) first;
  gripped = λ k j h e. absurd (omega arith);
  each_view = λ j v at live. (λ (x : (j ≡ 0) × (begun job ≡ v)). subst (λ (y : ℕ × Known J). Knows job (λ _. idle 0) y.0 y.1) (λ i. (sym x.0 i, x.1 i)) record {
    job_is = refl;
    owns = λ m h. at_table (λ _. owned_free) m not_owned h ∙ sym (owned_by 0 (idle 0) refl);
    holds = λ m h. at_table (λ _. not_held) m not_held h ∙ sym (loose 0 (idle 0) (λ e. omega arith));
    noted = λ i x e. absurd (some-ne-none x (sym e));
  }) (one_view v j at);
  covers = λ a m _ _ e _. absurd (true≢false (sym e));
  covered = λ m _ _ e. absurd (omega arith);
  parted = (0, omega arith, λ j v at live none. let is = one_view v j at in let all : all_parts ≡ v.parts = ap (λ (u : Known J). u.parts) is.1 in absurd (omega arith));
}
  where
    one_view : (v : Known J) (j : ℕ) → get_elem? (begun job ∷ []) j ≡ some v → (j ≡ 0) × (begun job ≡ v)
    one_view v zero e = (refl, some-injective (begun job) v e)
    one_view v (suc j) e = absurd (some-ne-none v (sym e))

zeros_at : (n k : ℕ) → get_or {A = ℕ} (replicate n 0) k 0 ≡ 0
zeros_at zero k = refl
zeros_at (suc n) zero = refl
zeros_at (suc n) (suc k) = zeros_at n k

pub zeros_of : (n : ℕ) (ws : List ℕ) → ws ≡ replicate n 0 → (k : ℕ) → slice_index ws k ≡ 0
zeros_of n ws e k = ap (λ (l : List ℕ). get_or l k 0) e ∙ zeros_at n k
