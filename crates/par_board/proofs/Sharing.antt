-- Two nodes of the tests, as they are cut off and as both are merged.
use Rattle.std.proofs.Common.{◌≡◌, ℕ, ◌+◌, ◌<◌, Bool, true, false, ◌⊎◌, inl, inr, ⊎_elim, refl, sym, ap, ◌∙◌, subst, arith}
use mathlib.Core.Logic.{dite}
use native.Mathlib.Decide.{ℕ_discrete}
use Rattle.par_board.specs.Seen.{Owned, not_owned, owned_free, owned_open, owned_merged, Sight, owns_at}
use Rattle.par_board.specs.Tree.{below}
use Rattle.par_board.specs.Calls.{merge, joined, OpensNothing, IsOffered, IsClaimed}
use Rattle.par_board.specs.Sharing.{Settled, OnlyTwo, HasCut, HasWhole}
use Rattle.par_board.proofs.Tables.{at_table, not_below, not_above}

settled_merge : (p q : Owned) → Settled p → Settled q → Settled (merge p q)
settled_merge not_owned q a b = b
settled_merge owned_free q a b = inr (inl refl)
settled_merge (owned_open lo hi f) q a b = absurd (⊎_elim (λ e. cc) (λ (r : (owned_open lo hi f ≡ owned_free) ⊎ (owned_open lo hi f ≡ owned_merged)). ⊎_elim (λ e. cc) (λ e. cc) r) a)
settled_merge owned_merged q a b = inr (inr refl)

pub settled_both : {F : Type 0} (v w : Sight F) → HasWhole v.owns → OnlyTwo w.owns → OpensNothing (joined v w)
settled_both v w a b m near = let e : owns_at (joined v w) m ≡ merge (owns_at v m) (owns_at w m) = at_table (λ (q : ℕ). merge (owns_at v q) (owns_at w q)) m not_owned near in
    dite (ℕ_discrete m 1) (λ one. merged m e (ap (owns_at v) one ∙ a.first))
    (λ not_one. dite (ℕ_discrete m 3) (λ three. merged m e (ap (owns_at v) three ∙ a.second))
    (λ not_three. subst Settled (sym e) (settled_merge (owns_at v m) (owns_at w m) (a.rest m near not_one not_three) (b m near not_one not_three))))
  where
    merged : (m : ℕ) → owns_at (joined v w) m ≡ merge (owns_at v m) (owns_at w m) → owns_at v m ≡ owned_merged → Settled (owns_at (joined v w) m)
    merged m e is = inr (inr (e ∙ ap (λ (p : Owned). merge p (owns_at w m)) is))

by_bool : {X : Type 0} (b : Bool) → (b ≡ true → X) → (b ≡ false → X) → X
by_bool true yes_ no_ = yes_ refl
by_bool false yes_ no_ = no_ refl

-- node 1 is offered and claimed, and node 3 offered
pub cuts : {F : Type 0} (v a b w : Sight F) {lo hi from to start end count : ℕ} → ((m : ℕ) → m < 2048 → owns_at v m ≡ owned_free) → IsOffered 1 lo hi v a → IsClaimed 1 from to a b → IsOffered 3 start end b w → from + count ≡ to
    → HasCut count w.owns w.holds × (w.parts ≡ v.parts)
cuts v a b w all offered claimed second ends = (
  record {
    first_open = (_, _, second.owns 1 (omega arith) (λ e. omega arith) (not_above 3 1 (omega arith) (omega arith)) ∙ claimed.owns 1 (omega arith) (not_below 1 (omega arith)) ∙ offered.opened);
    second_open = (_, _, second.opened);
    held = (_, _, second.holds 1 (omega arith) ∙ claimed.holds_it, ends);
    rest = λ m near not_one not_three. by_bool (below 3 m) (λ e. inl (second.gone m near e))
        (λ e. inr (inl (second.owns m near not_three e ∙ by_bool (below 1 m) (λ d. claimed.tree m near d) (λ d. claimed.owns m near d ∙ offered.owns m near not_one d ∙ all m near))));
  },
  second.steps.parts ∙ claimed.steps.parts ∙ offered.steps.parts,
)
