-- A step that changes no cell.
use Rattle.std.proofs.Common.{◌≡◌, ◌≢◌, ℕ, ◌<◌, List, set, sym, refl, ap, ◌∙◌, subst, true}
use mathlib.Core.Option.{some}
use lib.ListN.{get_elem?}
use lib.Seq.{set-get_or}
use Rattle.std.specs.Prelude.{Option, slice_index}
use Rattle.atomic_table.specs.Table.{State, Act, keeps, Valid, stepped, carried_after}
use Rattle.par_views.proofs.Views.{each_set}
use Rattle.par_board.specs.Seen.{Kind, Note}
use Rattle.par_board.specs.Words.{state_of}
use Rattle.par_board.specs.Calls.{noted}
use Rattle.par_board.specs.Rule.{Plain, Lives, Later, Knows, Kept, Known}
use Rattle.par_board.specs.Plays.{Seated, LastRead}
use Rattle.par_board.proofs.Cells.{lives_on, fits_more}
use Rattle.par_board.proofs.Shows.{shown, later_now}
use Rattle.par_board.proofs.Sums.{parted_step}
use Rattle.par_board.proofs.Tables.{one_word}

module _ {J : Type 0} (job : Option J) (n : ℕ) (s : State (Option (Plain J)) (Known J)) (r : Kept job n s) where
  -- only the view of the seat changes, by the note
  pub unmoved : (id k : ℕ) (kd : Kind) (v : Known J) → k < 2048 → get_elem? s.views id ≡ some v → v.live ≡ true
      → Kept job n record { words = set s.words k (slice_index s.words k); homes = s.homes; views = set s.views id (noted kd k (slice_index s.words k) v) }
  unmoved id k kd v near at live = let w : Known J = noted kd k (slice_index s.words k) v in let old = r.each_view id v at live in let me : Lives s.views id = (v, at, live) in
      subst (λ (ws : List ℕ). Kept job n record { words = ws; homes = s.homes; views = set s.views id w }) (sym (set-get_or s.words k 0)) record {
        cells = r.cells;
        wide = r.wide;
        few = r.few;
        each_cell = r.each_cell;
        owned = λ m j h e. lives_on s.views id w j live me (r.owned m j h e);
        gripped = λ m j h e. lives_on s.views id w j live me (r.gripped m j h e);
        each_view = each_set (λ j (u : Known J). u.live ≡ true → Knows job r.cells j u) s.views id w
            (λ _. record {
              job_is = old.job_is;
              owns = old.owns;
              holds = old.holds;
              noted = fits_more r.cells record { kind = kd; node = k; read = slice_index s.words k } v.notes (near, later_now job n s r k near) old.noted;
            })
            (λ j u _ at live. r.each_view j u at live);
        covers = r.covers;
        covered = r.covered;
        parted = parted_step s.views id v w at live refl r.parted;
      }

  -- what a seat read last of a node fits its cell
  pub last_fits : (id k old : ℕ) (v : Known J) → get_elem? s.views id ≡ some v → v.live ≡ true → LastRead k old v → Later old (r.cells k)
  last_fits id k old v at live last = ((r.each_view id v at live).noted 0 record { kind = last.0; node = k; read = old } (ap (λ (l : List Note). get_elem? l 0) last.2)).1

  abbrev pub Goes : ℕ → ℕ → Seated J → (ℕ → Seated J → Type 0) → ℕ → Type 0
  Goes id k me then x = (w : Known J) × (a : Act (Option (Plain J))) × Valid s.homes me.1 a × Kept job n (stepped s k x id me.1 w a) × then (slice_index s.words k) (w, carried_after me.1 a)

  -- a step that finds another word than the one it names
  pub misses : (id k old : ℕ) (kd : Kind) (me : Seated J) (then : ℕ → Seated J → Type 0) → k < 2048 → get_elem? s.views id ≡ some me.0 → me.0.live ≡ true → state_of old ≢ 0 → slice_index s.words k ≢ old
      → (((m' : Seated J) → (m' ≡ (noted kd k (slice_index s.words k) me.0, me.1)) → (LastRead k old me.0 → state_of (slice_index s.words k) ≢ state_of old) → then (slice_index s.words k) m'))
      → Goes id k me then (slice_index s.words k)
  misses id k old kd me then near at live some_state other told = let x : ℕ = slice_index s.words k in (
    noted kd k x me.0,
    keeps,
    tt,
    unmoved id k kd me.0 near at live,
    told (noted kd k x me.0, me.1) refl (λ last same. let l = last_fits id k old me.0 at live last some_state in let e = shown job n s r k near in other (one_word x old same (e.1 ∙ sym l.0) (e.2 ∙ sym l.1))),
  )
