-- What the steps of a call say of the seat's view in all.
use Rattle.std.proofs.Common.{◌≡◌, ℕ, ◌+◌, ◌<◌, arith, [], ◌∷◌, List, length, true, false, sym, refl, ap, ◌∙◌, subst}
use Rattle.std.specs.Prelude.{Option, None, Some}
use Rattle.atomic_table.specs.Table.{rest}
use Rattle.par_board.specs.Seen.{settled, offering, collecting, Owned, not_owned, owned_free, owned_open, owned_merged, Held, not_held, held_over, step_fill, step_offer, step_claim, step_finish, step_take, step_close, step_load, Note, owns_at, holds_at}
use Rattle.par_board.specs.Words.{state_of, lo_of, hi_of}
use Rattle.par_board.specs.Tree.{below}
use Rattle.atomic_table.specs.Seated.{TableId}
use Rattle.par_board.specs.Seen.{Note}
use Rattle.par_board.specs.Rule.{Plain, Known, located}
use Rattle.par_board.specs.Plays.{Seated, grip, own, own_below, after_fill, after_claim, HeldOver}
use Rattle.par_board.specs.Calls.{noted, looks, Stepped, IsClaimed, IsOffered, IsFinished, IsCollected}
use Rattle.par_board.proofs.Singles.{grip_here, grip_else, own_here, own_else}
use mathlib.Core.Logic.{dite}
use native.Mathlib.Decide.{ℕ_discrete}
use Rattle.std.proofs.Common.{true≢false}
use Rattle.par_board.proofs.Tables.{not_below}
use Rattle.par_board.proofs.Fills.{below_owned, beside_owned}

-- a seat that took these steps, in the same table
stepped : {J : Type 0} (t t' : TableId) → t' ≡ t → (v : Known J) (owns : List Owned) (holds : List Held) {notes steps : List Note} → notes ≡ steps → Stepped steps (located t v) (located t' record { of = v.of; live = v.live; owns = owns; holds = holds; parts = v.parts; notes = notes })
stepped t t' there v owns holds is = record { of = λ i. record { table = there i; job = v.of }; parts = refl; notes_are = is }

module _ {J : Type 0} where
  -- a look, a claim, and the slot laid back
  module _ (k a r : ℕ) (v m m' m'' : Seated J) (load : Option (Plain J)) (near : k < 2048) (look : m ≡ (noted step_load k a v.0, v.1))
      (did : m' ≡ (noted step_claim k r (after_claim k (lo_of r) (hi_of r) m.0), (k, load) ∷ m.1)) (out : m'' ≡ (m'.0, (k, None) ∷ [])) where
    abbrev z : Known J
    z = noted step_load k a v.0

    abbrev u : Known J
    u = noted step_claim k r (after_claim k (lo_of r) (hi_of r) z)

    claim_view : m''.0 ≡ u
    claim_view = ap (λ (x : Seated J). x.0) out ∙ ap (λ (x : Seated J). x.0) did ∙ ap (λ (x : Seated J). noted step_claim k r (after_claim k (lo_of r) (hi_of r) x.0)) look

    pub claim_live : v.0.live ≡ true → m''.0.live ≡ true
    claim_live live = ap (λ (x : Known J). x.live) claim_view ∙ live

    claim_grip : holds_at u k ≡ held_over (lo_of r) (hi_of r) true
    claim_grip = grip_here k (held_over (lo_of r) (hi_of r) true) (own_below k owned_free z) near

    pub claim_held : holds_at m''.0 k ≡ held_over (lo_of r) (hi_of r) true
    claim_held = ap (λ (x : Known J). holds_at x k) claim_view ∙ claim_grip

    pub claim_done : (t t' : TableId) → t' ≡ t → a ≡ r → state_of r ≡ 2 → (q : ℕ) (w : Seated J) → w ≡ (looks k q (grip k (held_over (lo_of q) (hi_of q) false) m''.0), rest m''.1) → HeldOver k m''.0 q → IsClaimed k (lo_of r) (hi_of r) (located t v.0) (located t' w.0)
    claim_done t t' there hit two q w laid over = let y : Known J = own_below k owned_free z in let lo : ℕ = lo_of r in let hi : ℕ = hi_of r in let g = held_over (lo_of q) (hi_of q) false in let same = over lo hi true claim_held in
        subst (λ (x : Known J). IsClaimed k lo hi (located t v.0) (located t' x)) (sym (ap (λ (x : Seated J). x.0) laid ∙ ap (λ (x : Known J). looks k q (grip k g x)) claim_view)) record {
          holds_it = grip_here k g u near ∙ (λ i. held_over (same.1 i) (same.2 i) false);
          tree = λ m h e. below_owned k owned_free z m h e;
          owns = λ m h e. beside_owned k owned_free z m h e;
          holds = λ m h ne. grip_else k g u m h ne ∙ grip_else k (held_over lo hi true) y m h ne;
          read = r;
          was_offered = two;
          after = q;
          steps = stepped t t' there v.0 _ _ (λ i. record { kind = step_load; node = k; read = q } ∷ record { kind = step_claim; node = k; read = r } ∷ record { kind = step_load; node = k; read = hit i } ∷ v.0.notes);
        }

pub emptied : {A : Type 0} (l : List A) → length l ≡ 0 → l ≡ []
emptied [] e = refl
emptied (x ∷ xs) e = absurd (omega arith)

pub next_word : (w a : ℕ) → state_of w ≡ a → a < 15 → (state_of (w + 1) ≡ a + 1) × (lo_of (w + 1) ≡ lo_of w) × (hi_of (w + 1) ≡ hi_of w)
next_word w a e h = (omega arith, omega arith, omega arith)

module _ {J : Type 0} where
  -- a fill, the splitter put in, and the offer
  module _ (k r new lo hi : ℕ) (v m m' : Seated J) (near : k < 2048) (pos : 0 < k) (lo_is : lo_of new ≡ lo) (hi_is : hi_of new ≡ hi) (fill : m ≡ (noted step_fill k r (after_fill k (lo_of new) (hi_of new) v.0), (k, None) ∷ v.1))
      (put : m' ≡ (m.0, (k, Some (v.0.of, lo, hi, false)) ∷ [])) where
    abbrev below_ : Known J
    below_ = own_below k not_owned v.0

    abbrev filled_ : Known J
    filled_ = noted step_fill k r (after_fill k (lo_of new) (hi_of new) v.0)

    offer_view : m'.0 ≡ filled_
    offer_view = ap (λ (x : Seated J). x.0) put ∙ ap (λ (x : Seated J). x.0) fill

    pub offer_live : v.0.live ≡ true → m'.0.live ≡ true
    offer_live live = ap (λ (x : Known J). x.live) offer_view ∙ live

    pub offer_open : owns_at m'.0 k ≡ owned_open lo hi offering
    offer_open = ap (λ (x : Known J). owns_at x k) offer_view ∙ own_here k (owned_open (lo_of new) (hi_of new) offering) below_ near ∙ (λ i. owned_open (lo_is i) (hi_is i) offering)

    pub offer_has : m'.1 ≡ (k, Some (m'.0.of, lo, hi, false)) ∷ []
    offer_has = ap (λ (x : Seated J). x.1) put ∙ ap (λ (j : Option J). (k, Some (j, lo, hi, false)) ∷ []) (sym (ap (λ (x : Known J). x.of) offer_view))

    pub offer_done : (t t' : TableId) → t' ≡ t → r ≡ 0 → (q : ℕ) (w : Seated J) → w ≡ (noted step_offer k q (own k (owned_open (lo_of q) (hi_of q) settled) m'.0), rest m'.1) → q ≡ new → IsOffered k lo hi (located t v.0) (located t' w.0)
    offer_done t t' there zero q w did same = let p = owned_open (lo_of q) (hi_of q) settled in let p' = owned_open (lo_of new) (hi_of new) offering in
        subst (λ (x : Known J). IsOffered k lo hi (located t v.0) (located t' x)) (sym (ap (λ (x : Seated J). x.0) did ∙ ap (λ (x : Known J). noted step_offer k q (own k p x)) offer_view)) record {
          opened = own_here k p filled_ near ∙ (λ i. owned_open ((ap lo_of same ∙ lo_is) i) ((ap hi_of same ∙ hi_is) i) settled);
          gone = λ m h e. dite (ℕ_discrete m k) (λ z. absurd (true≢false (subst (λ (x : ℕ). true ≡ below k x) z (sym e) ∙ not_below k pos))) (λ ne. own_else k p filled_ m h ne ∙ own_else k p' below_ m h ne ∙ below_owned k not_owned v.0 m h e);
          owns = λ m h ne e. own_else k p filled_ m h ne ∙ own_else k p' below_ m h ne ∙ beside_owned k not_owned v.0 m h e;
          holds = λ m h. refl;
          filling = q;
          steps = stepped t t' there v.0 _ _ (λ i. record { kind = step_offer; node = k; read = q } ∷ record { kind = step_fill; node = k; read = zero i } ∷ v.0.notes);
        }

  -- the slot lifted, the part put in, and the finish
  module _ (k a lo hi : ℕ) (v m m' : Seated J) (near : k < 2048) (holds : holds_at v.0 k ≡ held_over lo hi false) (over : HeldOver k v.0 a) (lift : m ≡ (noted step_load k a (grip k (held_over (lo_of a) (hi_of a) true) v.0), (k, None) ∷ v.1))
      (put : m' ≡ (m.0, (k, Some (v.0.of, lo_of a, hi_of a, true)) ∷ [])) where
    abbrev lifted_ : Known J
    lifted_ = noted step_load k a (grip k (held_over (lo_of a) (hi_of a) true) v.0)

    finish_view : m'.0 ≡ lifted_
    finish_view = ap (λ (x : Seated J). x.0) put ∙ ap (λ (x : Seated J). x.0) lift

    pub finish_live : v.0.live ≡ true → m'.0.live ≡ true
    finish_live live = ap (λ (x : Known J). x.live) finish_view ∙ live

    pub finish_held : holds_at m'.0 k ≡ held_over (lo_of a) (hi_of a) true
    finish_held = ap (λ (x : Known J). holds_at x k) finish_view ∙ grip_here k (held_over (lo_of a) (hi_of a) true) v.0 near

    pub finish_has : m'.1 ≡ (k, Some (m'.0.of, lo_of a, hi_of a, true)) ∷ []
    finish_has = ap (λ (x : Seated J). x.1) put ∙ ap (λ (j : Option J). (k, Some (j, lo_of a, hi_of a, true)) ∷ []) (sym (ap (λ (x : Known J). x.of) finish_view))

    pub finish_done : (t t' : TableId) → t' ≡ t → (q : ℕ) (w : Seated J) → w ≡ (noted step_finish k q (grip k not_held m'.0), rest m'.1) → q ≡ a → IsFinished k (located t v.0) (located t' w.0)
    finish_done t t' there q w did hit = subst (λ (x : Known J). IsFinished k (located t v.0) (located t' x)) (sym (ap (λ (x : Seated J). x.0) did ∙ ap (λ (x : Known J). noted step_finish k q (grip k not_held x)) finish_view)) record {
      loose = grip_here k not_held lifted_ near;
      holds = λ m h ne. grip_else k not_held lifted_ m h ne ∙ grip_else k (held_over (lo_of a) (hi_of a) true) v.0 m h ne;
      owns = λ m h. refl;
      read = a;
      steps = stepped t t' there v.0 _ _ (λ i. record { kind = step_finish; node = k; read = hit i } ∷ record { kind = step_load; node = k; read = a } ∷ v.0.notes);
    }

  -- a look, the node taken back, the part taken out, and the close
  module _ (k a r : ℕ) (v m m' m'' : Seated J) (load : Option (Plain J)) (near : k < 2048) (look : m ≡ (noted step_load k a v.0, v.1))
      (take : m' ≡ (noted step_take k r (own k (owned_open (lo_of r) (hi_of r) collecting) m.0), (k, load) ∷ m.1)) (out : m'' ≡ (m'.0, (k, None) ∷ [])) where
    abbrev looked_ : Known J
    looked_ = noted step_load k a v.0

    abbrev taken_ : Known J
    taken_ = noted step_take k r (own k (owned_open (lo_of r) (hi_of r) collecting) looked_)

    collect_view : m''.0 ≡ taken_
    collect_view = ap (λ (x : Seated J). x.0) out ∙ ap (λ (x : Seated J). x.0) take ∙ ap (λ (x : Seated J). noted step_take k r (own k (owned_open (lo_of r) (hi_of r) collecting) x.0)) look

    pub collect_live : v.0.live ≡ true → m''.0.live ≡ true
    collect_live live = ap (λ (x : Known J). x.live) collect_view ∙ live

    pub collect_open : owns_at m''.0 k ≡ owned_open (lo_of r) (hi_of r) collecting
    collect_open = ap (λ (x : Known J). owns_at x k) collect_view ∙ own_here k (owned_open (lo_of r) (hi_of r) collecting) looked_ near

    pub collect_done : (t t' : TableId) → t' ≡ t → r ≡ a → state_of a ≡ 4 → (q : ℕ) (w : Seated J) → w ≡ (noted step_close k q (own k owned_merged m''.0), rest m''.1) → IsCollected k (located t v.0) (located t' w.0)
    collect_done t t' there hit four q w did = subst (λ (x : Known J). IsCollected k (located t v.0) (located t' x)) (sym (ap (λ (x : Seated J). x.0) did ∙ ap (λ (x : Known J). noted step_close k q (own k owned_merged x)) collect_view)) record {
      merged = own_here k owned_merged taken_ near;
      owns = λ m h ne. own_else k owned_merged taken_ m h ne ∙ own_else k (owned_open (lo_of r) (hi_of r) collecting) looked_ m h ne;
      holds = λ m h. refl;
      read = a;
      was_done = four;
      merging = q;
      steps = stepped t t' there v.0 _ _ (λ i. record { kind = step_close; node = k; read = q } ∷ record { kind = step_take; node = k; read = hit i } ∷ record { kind = step_load; node = k; read = a } ∷ v.0.notes);
    }
