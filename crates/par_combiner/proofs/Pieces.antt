-- Lists in pieces.
use Rattle.std.proofs.Common.{◌≡◌, ℕ, zero, suc, ◌+◌, ◌-◌, ◌<◌, ◌≤◌, List, [], ◌∷◌, ◌++◌, length, slice_set, slice_index_or, refl, ap, sym, ◌∙◌, arith, append_assoc, append-nil, length-append}
use Rattle.std.specs.Global.{Vec}
use Rattle.std.proofs.lemmas.List.Concat.{flat_map-cons}
use Rattle.par_combiner.specs.Chunks.{before_last, items_of}

module _ {T : Type 0} (last new : Vec T) (xs : List T) (more : new.items ≡ last.items ++ xs) where
  more_at : (list : List (Vec T)) (k : ℕ) → k + 1 ≡ length list → last ≡ slice_index_or list k last → items_of (slice_set list k new) ≡ items_of list ++ xs
  more_at [] k at_end at = absurd (omega (arith, at_end))
  more_at (c ∷ []) zero at_end at =
      let e : new.items ≡ c.items ++ xs = more ∙ ap (λ v. v.items ++ xs) at in
      append-nil new.items ∙ (e ∙ ap (λ v. v ++ xs) (sym (append-nil c.items)))
  more_at (c ∷ []) (suc k) at_end at = absurd (omega (arith, at_end))
  more_at (c ∷ d ∷ ds) zero at_end at = absurd (omega (arith, at_end))
  more_at (c ∷ d ∷ ds) (suc k) at_end at =
      ap (λ v. c.items ++ v) (more_at (d ∷ ds) k (omega (arith, at_end)) at) ∙ sym (append_assoc c.items (items_of (d ∷ ds)) xs)

  -- where the last piece got more items, the list did
  pub last_more : (list : List (Vec T)) → 0 < length list → last ≡ slice_index_or list (length list - 1) last → items_of (slice_set list (length list - 1) new) ≡ items_of list ++ xs
  last_more list some at = more_at list (length list - 1) (omega (arith, some)) at

module _ {T : Type 0} where
  total_at : (list : List (Vec T)) (k : ℕ) (last : Vec T) → k + 1 ≡ length list → last ≡ slice_index_or list k last → length (items_of list) ≡ before_last list + length last.items
  total_at [] k last at_end at = absurd (omega (arith, at_end))
  total_at (c ∷ []) zero last at_end at = let e : length (items_of (c ∷ [])) ≡ length c.items = ap length (append-nil c.items) in omega (arith, e, ap (λ v. length v.items) at)
  total_at (c ∷ []) (suc k) last at_end at = absurd (omega (arith, at_end))
  total_at (c ∷ d ∷ ds) zero last at_end at = absurd (omega (arith, at_end))
  total_at (c ∷ d ∷ ds) (suc k) last at_end at = omega (arith, length-append c.items (items_of (d ∷ ds)), total_at (d ∷ ds) k last (omega (arith, at_end)) at)

  -- the items before the last piece, and those of the last, are all
  pub last_total : (list : List (Vec T)) (last : Vec T) → 0 < length list → last ≡ slice_index_or list (length list - 1) last → length (items_of list) ≡ before_last list + length last.items
  last_total list last some at = total_at list (length list - 1) last (omega (arith, some)) at

  before_at : (list : List (Vec T)) (k : ℕ) (new : Vec T) → k + 1 ≡ length list → before_last (slice_set list k new) ≡ before_last list
  before_at [] k new at_end = absurd (omega (arith, at_end))
  before_at (c ∷ []) zero new at_end = refl
  before_at (c ∷ []) (suc k) new at_end = absurd (omega (arith, at_end))
  before_at (c ∷ d ∷ ds) zero new at_end = absurd (omega (arith, at_end))
  before_at (c ∷ d ∷ []) (suc zero) new at_end = refl
  before_at (c ∷ d ∷ []) (suc (suc k)) new at_end = absurd (omega (arith, at_end))
  before_at (c ∷ d ∷ e ∷ es) (suc zero) new at_end = absurd (omega (arith, at_end))
  before_at (c ∷ d ∷ e ∷ es) (suc (suc k)) new at_end = ap (λ n. length c.items + n) (before_at (d ∷ e ∷ es) (suc k) new (omega (arith, at_end)))

  -- what is put for the last piece leaves those before it
  pub last_before : (list : List (Vec T)) (new : Vec T) → 0 < length list → before_last (slice_set list (length list - 1) new) ≡ before_last list
  last_before list new some = before_at list (length list - 1) new (omega (arith, some))

  -- with pieces after them, all pieces stand before the last
  pub append_before : (xs ys : List (Vec T)) → 0 < length ys → before_last (xs ++ ys) ≡ length (items_of xs) + before_last ys
  append_before [] ys some = omega arith
  append_before (c ∷ []) (d ∷ ds) some = let e : length (items_of (c ∷ [])) ≡ length c.items = ap length (append-nil c.items) in omega (arith, e)
  append_before (c ∷ []) [] some = absurd (omega (arith, some))
  append_before (c ∷ d ∷ ds) ys some = omega (arith, append_before (d ∷ ds) ys some, length-append c.items (items_of (d ∷ ds)))

  pub before_le : (list : List (Vec T)) → before_last list ≤ length (items_of list)
  before_le [] = omega arith
  before_le (c ∷ []) = omega arith
  before_le (c ∷ d ∷ ds) = omega (arith, before_le (d ∷ ds), length-append c.items (items_of (d ∷ ds)))

  pub none_before : (list : List (Vec T)) → length list ≡ 0 → before_last list ≡ 0
  none_before [] e = refl
  none_before (c ∷ cs) e = absurd (omega (arith, e))
