-- Tables read by number, and words taken apart.
use Rattle.std.proofs.Common.{◌≡◌, ◌≢◌, ℕ, zero, suc, ◌+◌, ◌/◌, ◌<◌, ◌≤◌, sym, refl, ap, ◌∙◌, arith, false, ne_eqb}
use Rattle.std.specs.Prelude.{slice_index_or}
use Rattle.par_board.specs.Tree.{under, below, places, listed, table}
use Rattle.par_board.specs.Words.{pack, state_of, lo_of, hi_of}

places_is : (k : ℕ) → k < 2048 → k < places
unfolding places
places_is k h = h

module _ {A : Type 0} where
  listed_at : (count from : ℕ) (f : ℕ → A) (k : ℕ) (d : A) → k < count → slice_index_or (listed count from f) k d ≡ f (from + k)
  listed_at zero from f k d h = absurd (omega arith)
  listed_at (suc count) from f zero d h = ap f (omega arith)
  listed_at (suc count) from f (suc k) d h = listed_at count (suc from) f k d (omega arith) ∙ ap f (omega arith)

  pub at_table : (f : ℕ → A) (k : ℕ) (d : A) → k < 2048 → slice_index_or (table f) k d ≡ f k
  at_table f k d h = listed_at places 0 f k d (places_is k h) ∙ ap f (omega arith)

pub state_pack : (lo hi s : ℕ) → s < 16 → state_of (pack lo hi s) ≡ s
state_pack lo hi s h = omega arith

pub hi_pack : (lo hi s : ℕ) → s < 16 → hi < 1073741824 → hi_of (pack lo hi s) ≡ hi
hi_pack lo hi s h g = omega arith

pub lo_pack : (lo hi s : ℕ) → s < 16 → hi < 1073741824 → lo_of (pack lo hi s) ≡ lo
lo_pack lo hi s h g = omega arith

pub under_less : (fuel k m : ℕ) → 0 < k → m ≤ k → under fuel k m ≡ false
under_less zero k m h g = refl
under_less (suc fuel) k m h g = let n : m / 2 ≢ k = omega arith in rw (ne_eqb (m / 2) k n) (under_less fuel k (m / 2) h (omega arith))

-- no node is below one with a greater number, or the same
pub not_above : (k m : ℕ) → 0 < k → m ≤ k → below k m ≡ false
unfolding below
not_above k m h g = under_less 10 k m h g

-- nothing is below itself
pub not_below : (k : ℕ) → 0 < k → below k k ≡ false
unfolding below
not_below k h = under_less 10 k k h (omega arith)

-- a word is what it is taken apart into
pub apart : (w : ℕ) → w ≡ pack (lo_of w) (hi_of w) (state_of w)
apart w = omega arith

pub one_word : (x y : ℕ) → state_of x ≡ state_of y → lo_of x ≡ lo_of y → hi_of x ≡ hi_of y → x ≡ y
one_word x y a b c = apart x ∙ (λ i. pack (b i) (c i) (a i)) ∙ sym (apart y)
