-- Lemmas on slots that are filled.
use Rattle.std.proofs.Common.{take-append-drop, ◌&&◌, ◌≡◌, ◌≢◌, ℕ, zero, suc, ◌+◌, ◌-◌, ◌<◌, ◌≤◌, Bool, true, false, true≢false, cond, ◌||◌, List, [], ◌∷◌, ◌++◌, length, take, drop, get_or, set, replicate, refl, ap, sym, ◌∙◌, subst, append_assoc, append-nil, arith, ◌⊎◌, ⊎_elim, inl, inr, zero-add, length-append, length-drop, length-take-le, ◌*◌, pow-suc, ◌/◌, ◌^◌}
use Rattle.std.specs.Prelude.{Option, Some, None, ◌==◌, slice_get}
use Rattle.std.proofs.lemmas.Bool.Decides.{nat_tests}
use Rattle.std.proofs.lemmas.List.{take_more}
use Rattle.std.proofs.lemmas.Nat.{pow-add, pow_pos}
use Rattle.std.proofs.lemmas.Bool.{cases_eq}
use Rattle.std.proofs.lemmas.List.{set-append_left, length-set}
use Rattle.std.proofs.lemmas.Option.{slice_get_within}
use Rattle.par_index.specs.declared.index.Leaf.{Leaf}
use Rattle.par_index.specs.Places.{places_of, is_among}
use Rattle.par_index.proofs.Places.{or_assoc, or_comm, is_among-append, is_among-places_of, slice_get-left}
use Rattle.par_flat.proofs.Walks.{nothing_left, leaves_in_two, leaves_of-append}
use Rattle.par_flat.specs.declared.slots.Slot.{Slot}
use Rattle.par_flat.specs.declared.slots.Slot.TheVariants.{Free, Taken}
use Rattle.par_flat.specs.Slots.{leaves_of, is_in, taken, turned, IsClear, AreClear, IsTable, first_free}

other_hash : (leaf : Leaf) (q : ℕ) → q ≢ leaf.rest → places_of leaf q ≡ []
other_hash leaf q n = grind (arith, nat_tests)

pub leaves-other : (xs : List Slot) (j : ℕ) (leaf : Leaf) (q : ℕ) → slice_get xs j ≡ Some Free → q ≢ leaf.rest → leaves_of (set xs j (Taken leaf)) q ≡ leaves_of xs q
leaves-other [] j leaf q f n = refl
leaves-other (Free ∷ xs) zero leaf q f n = ap (λ ps. ps ++ leaves_of xs q) (other_hash leaf q n)
leaves-other (Taken l ∷ xs) zero leaf q f n = cc
leaves-other (Free ∷ xs) (suc j) leaf q f n = leaves-other xs j leaf q f n
leaves-other (Taken l ∷ xs) (suc j) leaf q f n = ap (λ ps. places_of l q ++ ps) (leaves-other xs j leaf q f n)

nothing_right : (xs ys : List ℕ) → xs ++ ys ≡ [] → ys ≡ []
nothing_right [] ys e = e
nothing_right (x ∷ xs) ys e = cc

pub clear-none : (xs : List Slot) (q : ℕ) → leaves_of xs q ≡ [] → IsClear q xs
clear-none [] q e = tt
clear-none (Free ∷ xs) q e = e
clear-none (Taken l ∷ xs) q e = clear-none xs q (nothing_right (places_of l q) (leaves_of xs q) e)

pub clear-other : (xs : List Slot) (j : ℕ) (leaf : Leaf) (q : ℕ) → slice_get xs j ≡ Some Free → q ≢ leaf.rest → IsClear q xs → IsClear q (set xs j (Taken leaf))
clear-other [] j leaf q f n c = tt
clear-other (Free ∷ xs) zero leaf q f n c = clear-none xs q c
clear-other (Taken l ∷ xs) zero leaf q f n c = cc
clear-other (Free ∷ xs) (suc j) leaf q f n c = leaves-other xs j leaf q f n ∙ c
clear-other (Taken l ∷ xs) (suc j) leaf q f n c = clear-other xs j leaf q f n c

pub clear-first : (xs : List Slot) (j : ℕ) (leaf : Leaf) (q : ℕ) → first_free xs ≡ j → IsClear q xs → IsClear q (set xs j (Taken leaf))
clear-first [] j leaf q f c = tt
clear-first (Free ∷ xs) zero leaf q f c = clear-none xs q c
clear-first (Free ∷ xs) (suc j) leaf q f c = absurd (omega arith)
clear-first (Taken l ∷ xs) zero leaf q f c = absurd (omega arith)
clear-first (Taken l ∷ xs) (suc j) leaf q f c = clear-first xs j leaf q (omega arith) c

pub first_is_free : (xs : List Slot) → first_free xs < length xs → slice_get xs (first_free xs) ≡ Some Free
first_is_free [] h = absurd (omega arith)
first_is_free (Free ∷ xs) h = refl
first_is_free (Taken l ∷ xs) h = first_is_free xs (omega arith)

pub first_free-left : (xs ys : List Slot) → first_free xs < length xs → first_free (xs ++ ys) ≡ first_free xs
first_free-left [] ys h = absurd (omega arith)
first_free-left (Free ∷ xs) ys h = refl
first_free-left (Taken l ∷ xs) ys h = ap suc (first_free-left xs ys (omega arith))

pub first_free-right : (xs ys : List Slot) → first_free xs ≡ length xs → first_free (xs ++ ys) ≡ length xs + first_free ys
first_free-right [] ys h = sym (zero-add (first_free ys))
first_free-right (Free ∷ xs) ys h = absurd (omega arith)
first_free-right (Taken l ∷ xs) ys h = omega (arith, first_free-right xs ys (omega arith))

module _ {X : Type 0} where
  pub drop-set_before : (xs : List X) (i h : ℕ) (s : X) → i < h → drop h (set xs i s) ≡ drop h xs
  drop-set_before [] i h s p = refl
  drop-set_before (x ∷ xs) i zero s p = absurd (omega arith)
  drop-set_before (x ∷ xs) zero (suc h) s p = refl
  drop-set_before (x ∷ xs) (suc i) (suc h) s p = drop-set_before xs i h s (omega arith)

  pub take-set_before : (xs : List X) (i h : ℕ) (s : X) → take h (set xs i s) ≡ set (take h xs) i s
  take-set_before [] i zero s = refl
  take-set_before [] i (suc h) s = refl
  take-set_before (x ∷ xs) i zero s = refl
  take-set_before (x ∷ xs) zero (suc h) s = refl
  take-set_before (x ∷ xs) (suc i) (suc h) s = ap (λ l. x ∷ l) (take-set_before xs i h s)

  pub take-set_past : (xs : List X) (i h : ℕ) (s : X) → h ≤ i → take h (set xs i s) ≡ take h xs
  take-set_past [] i h s p = refl
  take-set_past (x ∷ xs) i zero s p = refl
  take-set_past (x ∷ xs) zero (suc h) s p = absurd (omega arith)
  take-set_past (x ∷ xs) (suc i) (suc h) s p = ap (λ l. x ∷ l) (take-set_past xs i h s (omega arith))

  pub drop-set_past : (xs : List X) (i k h : ℕ) (s : X) → i ≡ h + k → drop h (set xs i s) ≡ set (drop h xs) k s
  drop-set_past [] i k zero s p = refl
  drop-set_past [] i k (suc h) s p = refl
  drop-set_past (x ∷ xs) i k zero s p = ap (λ n. set (x ∷ xs) n s) (p ∙ zero-add k)
  drop-set_past (x ∷ xs) zero k (suc h) s p = absurd (omega arith)
  drop-set_past (x ∷ xs) (suc i) k (suc h) s p = drop-set_past xs i k h s (omega arith)

  pub set-append_past : (xs ys : List X) (i k : ℕ) (s : X) → i ≡ length xs + k → set (xs ++ ys) i s ≡ xs ++ set ys k s
  set-append_past [] ys i k s p = ap (λ n. set ys n s) (p ∙ zero-add k)
  set-append_past (x ∷ xs) ys zero k s p = absurd (omega arith)
  set-append_past (x ∷ xs) ys (suc i) k s p = ap (λ l. x ∷ l) (set-append_past xs ys i k s (omega arith))

  pub slice_get-past : (xs ys : List X) (i k : ℕ) → i ≡ length xs + k → slice_get (xs ++ ys) i ≡ slice_get ys k
  slice_get-past [] ys i k p = ap (slice_get ys) (p ∙ zero-add k)
  slice_get-past (x ∷ xs) ys zero k p = absurd (omega arith)
  slice_get-past (x ∷ xs) ys (suc i) k p = slice_get-past xs ys i k (omega arith)

  pub slice_get-drop : (xs : List X) (i k h : ℕ) → i ≡ h + k → slice_get (drop h xs) k ≡ slice_get xs i
  slice_get-drop [] i k zero p = refl
  slice_get-drop [] i k (suc h) p = refl
  slice_get-drop (x ∷ xs) i k zero p = ap (slice_get (x ∷ xs)) (sym (zero-add k) ∙ sym p)
  slice_get-drop (x ∷ xs) zero k (suc h) p = absurd (omega arith)
  slice_get-drop (x ∷ xs) (suc i) k (suc h) p = slice_get-drop xs i k h (omega arith)

  pub slice_get-take : (xs : List X) (i h : ℕ) → i < h → slice_get (take h xs) i ≡ slice_get xs i
  slice_get-take [] i zero p = refl
  slice_get-take [] i (suc h) p = refl
  slice_get-take (x ∷ xs) i zero p = absurd (omega arith)
  slice_get-take (x ∷ xs) zero (suc h) p = refl
  slice_get-take (x ∷ xs) (suc i) (suc h) p = slice_get-take xs i h (omega arith)

cases_le : (a b : ℕ) → (a ≤ b) ⊎ (b < a)
cases_le zero b = inl (omega arith)
cases_le (suc a) zero = inr (omega arith)
cases_le (suc a) (suc b) = ⊎_elim (λ (h : a ≤ b). inl (omega arith)) (λ (h : b < a). inr (omega arith)) (cases_le a b)

-- a write at or past the home, and one before it, as the turned slots see it
pub turned-set_past : (h i k : ℕ) (slots : List Slot) (s : Slot) → i ≡ h + k → i < length slots → turned h (set slots i s) ≡ set (turned h slots) k s
turned-set_past h i k slots s e p =
    ap (λ xs. drop h (set slots i s) ++ xs) (take-set_past slots i h s (omega arith)) ∙ (ap (λ xs. xs ++ take h slots) (drop-set_past slots i k h s e) ∙ sym (set-append_left (drop h slots) (take h slots) k s (omega (arith, length-drop h slots))))

pub turned-set_before : (h i : ℕ) (slots : List Slot) (s : Slot) → i < h → turned h (set slots i s) ≡ set (turned h slots) (length (drop h slots) + i) s
turned-set_before h i slots s p =
    ap (λ xs. xs ++ take h (set slots i s)) (drop-set_before slots i h s p) ∙ (ap (λ xs. drop h slots ++ xs) (take-set_before slots i h s) ∙ sym (set-append_past (drop h slots) (take h slots) (length (drop h slots) + i) i s refl))

pub clear-turned_other : (h i : ℕ) (slots : List Slot) (leaf : Leaf) (q : ℕ) → slice_get slots i ≡ Some Free → q ≢ leaf.rest → IsClear q (turned h slots) → IsClear q (turned h (set slots i (Taken leaf)))
clear-turned_other h i slots leaf q f n c = ⊎_elim
    (λ (p : h ≤ i).
    let e : i ≡ h + (i - h) = omega arith in
    let within : i < length slots = slice_get_within slots i Free f in
    let at : slice_get (turned h slots) (i - h) ≡ Some Free = slice_get-left (drop h slots) (take h slots) (i - h) (omega (arith, length-drop h slots)) ∙ (slice_get-drop slots i (i - h) h e ∙ f) in
    subst (IsClear q) (sym (turned-set_past h i (i - h) slots (Taken leaf) e within)) (clear-other (turned h slots) (i - h) leaf q at n c))
    (λ (p : i < h).
    let at : slice_get (turned h slots) (length (drop h slots) + i) ≡ Some Free = slice_get-past (drop h slots) (take h slots) (length (drop h slots) + i) i refl ∙ (slice_get-take slots i h p ∙ f) in
    subst (IsClear q) (sym (turned-set_before h i slots (Taken leaf) p)) (clear-other (turned h slots) (length (drop h slots) + i) leaf q at n c))
    (cases_le h i)

pub first_free-le : (xs : List Slot) → first_free xs ≤ length xs
first_free-le [] = omega arith
first_free-le (Free ∷ xs) = omega arith
first_free-le (Taken l ∷ xs) = omega (arith, first_free-le xs)

pub late_is_free : (home gap : ℕ) (slots : List Slot) → gap ≡ first_free (drop home slots) → home + gap < length slots → slice_get slots (home + gap) ≡ Some Free
late_is_free home gap slots g w = sym (slice_get-drop slots (home + gap) gap home refl) ∙ (ap (slice_get (drop home slots)) g ∙ first_is_free (drop home slots) (omega (arith, length-drop home slots)))

pub clear-late : (shift gap : ℕ) (slots : List Slot) (leaf : Leaf) → gap ≡ first_free (drop (leaf.rest / 2 ^ shift) slots) → leaf.rest / 2 ^ shift + gap < length slots → AreClear shift slots → AreClear shift (set slots (leaf.rest / 2 ^ shift + gap) (Taken leaf))
clear-late shift gap slots leaf g w c q = ⊎_elim
    (λ (s : q ≡ leaf.rest).
    let home : ℕ = leaf.rest / 2 ^ shift in
    let first : first_free (turned (leaf.rest / 2 ^ shift) slots) ≡ gap = first_free-left (drop (leaf.rest / 2 ^ shift) slots) (take (leaf.rest / 2 ^ shift) slots) (omega (arith, length-drop (leaf.rest / 2 ^ shift) slots)) ∙ sym g in
    subst (λ p. IsClear p (turned (p / 2 ^ shift) (set slots (leaf.rest / 2 ^ shift + gap) (Taken leaf)))) (sym s)
    (subst (IsClear leaf.rest) (sym (turned-set_past (leaf.rest / 2 ^ shift) (leaf.rest / 2 ^ shift + gap) gap slots (Taken leaf) refl w)) (clear-first (turned (leaf.rest / 2 ^ shift) slots) gap leaf leaf.rest first (c leaf.rest))))
    (λ (n : q ≢ leaf.rest). clear-turned_other (q / 2 ^ shift) (leaf.rest / 2 ^ shift + gap) slots leaf q (late_is_free (leaf.rest / 2 ^ shift) gap slots g w) n (c q))
    (cases_eq q leaf.rest)

pub clear-early : (shift late early : ℕ) (slots : List Slot) (leaf : Leaf) → late ≡ first_free (drop (leaf.rest / 2 ^ shift) slots) → length slots ≤ leaf.rest / 2 ^ shift + late → leaf.rest / 2 ^ shift ≤ length slots → early ≡ first_free (take (leaf.rest / 2 ^ shift) slots) → early < leaf.rest / 2 ^ shift → slice_get slots early ≡ Some Free → AreClear shift slots → AreClear shift (set slots early (Taken leaf))
clear-early shift late early slots leaf l full within e before free c q = ⊎_elim
    (λ (s : q ≡ leaf.rest).
    let none : first_free (drop (leaf.rest / 2 ^ shift) slots) ≡ length (drop (leaf.rest / 2 ^ shift) slots) = omega (arith, first_free-le (drop (leaf.rest / 2 ^ shift) slots), length-drop (leaf.rest / 2 ^ shift) slots) in
    let first : first_free (turned (leaf.rest / 2 ^ shift) slots) ≡ length (drop (leaf.rest / 2 ^ shift) slots) + early = first_free-right (drop (leaf.rest / 2 ^ shift) slots) (take (leaf.rest / 2 ^ shift) slots) none ∙ ap (λ n. length (drop (leaf.rest / 2 ^ shift) slots) + n) (sym e) in
    subst (λ p. IsClear p (turned (p / 2 ^ shift) (set slots early (Taken leaf)))) (sym s)
    (subst (IsClear leaf.rest) (sym (turned-set_before (leaf.rest / 2 ^ shift) early slots (Taken leaf) before)) (clear-first (turned (leaf.rest / 2 ^ shift) slots) (length (drop (leaf.rest / 2 ^ shift) slots) + early) leaf leaf.rest first (c leaf.rest))))
    (λ (n : q ≢ leaf.rest). clear-turned_other (q / 2 ^ shift) early slots leaf q free n (c q))
    (cases_eq q leaf.rest)

pub early_is_free : (home early : ℕ) (slots : List Slot) → home ≤ length slots → early ≡ first_free (take home slots) → early < home → slice_get slots early ≡ Some Free
early_is_free home early slots h e w = sym (slice_get-take slots early home w) ∙ (ap (slice_get (take home slots)) e ∙ first_is_free (take home slots) (omega (arith, length-take-le home slots h)))

-- a leaf in a free slot
pub leaves-put : (xs : List Slot) (i : ℕ) (leaf : Leaf) (q a : ℕ) → slice_get xs i ≡ Some Free → is_among a (leaves_of (set xs i (Taken leaf)) q) ≡ (is_among a (leaves_of xs q) || is_among a (places_of leaf q))
leaves-put [] i leaf q a f = cc
leaves-put (Free ∷ xs) zero leaf q a f = is_among-append a (places_of leaf q) (leaves_of xs q) ∙ or_comm (is_among a (places_of leaf q)) (is_among a (leaves_of xs q))
leaves-put (Taken l ∷ xs) zero leaf q a f = cc
leaves-put (Free ∷ xs) (suc i) leaf q a f = leaves-put xs i leaf q a f
leaves-put (Taken l ∷ xs) (suc i) leaf q a f =
    is_among-append a (places_of l q) (leaves_of (set xs i (Taken leaf)) q)
    ∙ (ap (λ b. is_among a (places_of l q) || b) (leaves-put xs i leaf q a f)
    ∙ (or_assoc (is_among a (places_of l q)) (is_among a (leaves_of xs q)) (is_among a (places_of leaf q))
    ∙ ap (λ b. b || is_among a (places_of leaf q)) (sym (is_among-append a (places_of l q) (leaves_of xs q)))))

pub clear-turned_none : (h : ℕ) (xs : List Slot) (q : ℕ) → leaves_of xs q ≡ [] → IsClear q (turned h xs)
clear-turned_none h xs q e =
    let two = nothing_left (leaves_of (take h xs) q) (leaves_of (drop h xs) q) (sym (leaves_in_two h xs q) ∙ e) in
    clear-none (turned h xs) q (leaves_of-append (drop h xs) (take h xs) q ∙ (ap (λ ps. ps ++ leaves_of (take h xs) q) two.1 ∙ two.0))

pub no_leaves : (n q : ℕ) → leaves_of (replicate n Free) q ≡ []
no_leaves zero q = refl
no_leaves (suc n) q = no_leaves n q

pub clear-free : (n shift : ℕ) → AreClear shift (replicate n Free)
clear-free n shift q = clear-turned_none (q / 2 ^ shift) (replicate n Free) q (no_leaves n q)

pub leaves-one_more : (xs : List Slot) (i q : ℕ) → i < length xs → leaves_of (take (i + 1) xs) q ≡ leaves_of (take i xs) q ++ leaves_of (get_or xs i Free ∷ []) q
leaves-one_more xs i q h = ap (λ ys. leaves_of ys q) (take_more xs i Free h) ∙ leaves_of-append (take i xs) (get_or xs i Free ∷ []) q

pub is_in-put : (xs : List Slot) (i : ℕ) (leaf : Leaf) (q a : ℕ) → slice_get xs i ≡ Some Free → is_in (set xs i (Taken leaf)) q a ≡ (is_in xs q a || ((leaf.rest == q) && (leaf.at == a)))
is_in-put xs i leaf q a f = leaves-put xs i leaf q a f ∙ ap (λ b. is_in xs q a || b) (is_among-places_of leaf q a)

pub is_in-one_more : (xs : List Slot) (i q a : ℕ) → i < length xs → is_in (take (i + 1) xs) q a ≡ (is_in (take i xs) q a || is_in (get_or xs i Free ∷ []) q a)
is_in-one_more xs i q a h = ap (is_among a) (leaves-one_more xs i q h) ∙ is_among-append a (leaves_of (take i xs) q) (leaves_of (get_or xs i Free ∷ []) q)

pub taken-append : (xs ys : List Slot) → taken (xs ++ ys) ≡ taken xs + taken ys
taken-append [] ys = sym (zero-add (taken ys))
taken-append (Free ∷ xs) ys = taken-append xs ys
taken-append (Taken l ∷ xs) ys = omega (arith, taken-append xs ys)

pub taken-le : (xs : List Slot) → taken xs ≤ length xs
taken-le [] = omega arith
taken-le (Free ∷ xs) = omega (arith, taken-le xs)
taken-le (Taken l ∷ xs) = omega (arith, taken-le xs)

pub taken-free : (n : ℕ) → taken (replicate n Free) ≡ 0
taken-free zero = refl
taken-free (suc n) = taken-free n

pub taken-set : (xs : List Slot) (i : ℕ) (leaf : Leaf) → slice_get xs i ≡ Some Free → taken (set xs i (Taken leaf)) ≡ taken xs + 1
taken-set [] i leaf f = cc
taken-set (Free ∷ xs) zero leaf f = omega arith
taken-set (Taken l ∷ xs) zero leaf f = cc
taken-set (Free ∷ xs) (suc i) leaf f = taken-set xs i leaf f
taken-set (Taken l ∷ xs) (suc i) leaf f = omega (arith, taken-set xs i leaf f)

pub taken-one_more : (xs : List Slot) (i : ℕ) → i < length xs → taken (take (i + 1) xs) ≡ taken (take i xs) + taken (get_or xs i Free ∷ [])
taken-one_more xs i h = ap taken (take_more xs i Free h) ∙ taken-append (take i xs) (get_or xs i Free ∷ [])

pub taken-take : (i : ℕ) (xs : List Slot) → taken (take i xs) ≤ taken xs
taken-take i xs = omega (arith, taken-append (take i xs) (drop i xs), ap taken (take-append-drop i xs))

first_free-taken : (xs : List Slot) → first_free xs ≤ taken xs
first_free-taken [] = omega arith
first_free-taken (Free ∷ xs) = omega arith
first_free-taken (Taken l ∷ xs) = omega (arith, first_free-taken xs)

-- where a slot is free and none from the home on, one before the home is
pub early_within : (home : ℕ) (slots : List Slot) → taken slots < length slots → home ≤ length slots → length slots ≤ home + first_free (drop home slots) → first_free (take home slots) < home
early_within home slots t h l =
    let two : taken (take home slots) + taken (drop home slots) ≡ taken slots = sym (taken-append (take home slots) (drop home slots)) ∙ ap taken (take-append-drop home slots) in
    omega (arith, first_free-taken (take home slots), first_free-taken (drop home slots))

-- the homes of a room are all hashes
pub homes_of : (room : ℕ) → room ≤ 18 → 2 ^ 32 ≤ 32 * 2 ^ room * 2 ^ (27 - room)
homes_of room h =
    let whole : room + (27 - room) ≡ 27 = omega arith in
    let powers : 2 ^ room * 2 ^ (27 - room) ≡ 2 ^ 27 = sym (pow-add 2 room (27 - room)) ∙ ap (λ n. 2 ^ n) whole in
    omega (arith, powers)
