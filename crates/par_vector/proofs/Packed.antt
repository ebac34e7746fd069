-- Packed kids: where an item stands, and what a push does.
use Rattle.std.proofs.Common.{◌≡◌, ℕ, zero, suc, ◌+◌, ◌*◌, ◌<◌, ◌≤◌, ◌/◌, ◌%◌, List, [], ◌∷◌, ◌++◌, length, take, drop, get_or, set, Bool, true, false, length-append, refl, ap, sym, ◌∙◌, arith, subst, append_assoc}
use Rattle.std.specs.Prelude.{if◌then◌else◌, is_ok, OnOk, OnErr, Result, Ok, Err}
use Rattle.std.specs.List.{flat_map}
use Rattle.std.proofs.lemmas.Grind.{flat_map-append}
use Rattle.std.proofs.Math.Nat.{mod-lt, lt_of_mul-lt-mul_right}
use Rattle.std.proofs.Math.Seq.{drop-append-add, set-append_seam}
use Rattle.std.proofs.lemmas.List.Concat.{flat_map-cons}
use Rattle.std.proofs.lemmas.List.{take-append-le, drop-append-le, length-take, append-nil}
use Rattle.std.proofs.lemmas.Nat.{div-add-mod'}
use Rattle.par_vector.specs.Packed.{IsPacked}
use Rattle.par_vector.specs.Kids.{HasOneMore}
use Rattle.par_vector.specs.Runs.{IsRun}

at_seam : {N : Type 0} (before : List N) (kid : N) (after : List N) (x : N) → get_or (before ++ kid ∷ after) (length before) x ≡ kid
at_seam [] kid after x = refl
at_seam (_ ∷ before) kid after x = at_seam before kid after x

pub reads : {N : Type 0} (kids before : List N) (kid : N) (after : List N) (q : ℕ) (x : N) → kids ≡ before ++ kid ∷ after → length before ≡ q → x ≡ get_or kids q x → x ≡ kid
reads kids before kid after q x parts count e = e ∙ (ap (λ v. get_or kids v x) (sym count) ∙ (ap (λ v. get_or v (length before) x) parts ∙ at_seam before kid after x))

module _ {N T : Type 0} (items : N → List T) (room : ℕ) (some : 0 < room) where
  -- place q * room + r is place r of the kid after so many full ones
  pub record IsAt (kids : List N) (q r : ℕ) : Type 0 where
    pub before : List N
    pub kid : N
    pub after : List N
    pub parts : kids ≡ before ++ kid ∷ after
    pub count : length before ≡ q
    pub full : length (flat_map items before) ≡ q * room
    pub has : r < length (items kid)

  located : (kids : List N) (q r : ℕ) → IsPacked items room kids → r < room → q * room + r < length (flat_map items kids) → IsAt kids q r
  located [] q r p lt h = absurd (omega (arith, h))
  located (kid ∷ []) zero r p lt h = record { before = []; kid = kid; after = []; parts = refl; count = refl; full = omega arith; has = omega (arith, h, length-append (items kid) []) }
  located (kid ∷ []) (suc q) r p lt h = absurd (omega (arith, h, p.1, length-append (items kid) []))
  located (kid ∷ next ∷ kids) zero r p lt h = record { before = []; kid = kid; after = next ∷ kids; parts = refl; count = refl; full = omega arith; has = omega (arith, p.0, lt) }
  located (kid ∷ next ∷ kids) (suc q) r p lt h =
      let l = length-append (items kid) (flat_map items (next ∷ kids)) in
      let rest = located (next ∷ kids) q r p.1 lt (omega (arith, h, p.0, l)) in
      record {
        before = kid ∷ rest.before;
        kid = rest.kid;
        after = rest.after;
        parts = ap (λ v. kid ∷ v) rest.parts;
        count = ap suc rest.count;
        full = omega (arith, length-append (items kid) (flat_map items rest.before), p.0, rest.full);
        has = rest.has;
      }

  -- the last kid has r items, and may be put by any other that isn't empty
  pub record IsLast (kids : List N) (q r : ℕ) : Type 0 where
    pub before : List N
    pub kid : N
    pub parts : kids ≡ before ++ kid ∷ []
    pub count : length before ≡ q
    pub size : length (items kid) ≡ r
    pub packs : (new : N) → 0 < length (items new) → length (items new) ≤ room → IsPacked items room (before ++ new ∷ [])

  packed_more : (kid : N) (kids : List N) (new : N) → length (items kid) ≡ room → IsPacked items room (kids ++ new ∷ []) → IsPacked items room (kid ∷ kids ++ new ∷ [])
  packed_more kid [] new e p = (e, p)
  packed_more kid (next ∷ kids) new e p = (e, p)

  last_at : (kids : List N) (q r : ℕ) → IsPacked items room kids → 0 < r → r < room → q * room + r ≡ length (flat_map items kids) → IsLast kids q r
  last_at [] q r p s lt h = absurd (omega (arith, h, s))
  last_at (kid ∷ []) zero r p s lt h = record { before = []; kid = kid; parts = refl; count = refl; size = omega (arith, h, length-append (items kid) []); packs = λ new a b. (a, b) }
  last_at (kid ∷ []) (suc q) r p s lt h = absurd (omega (arith, h, s, p.1, length-append (items kid) []))
  last_at (kid ∷ next ∷ kids) zero r p s lt h = absurd (omega (arith, h, lt, p.0, length-append (items kid) (flat_map items (next ∷ kids))))
  last_at (kid ∷ next ∷ kids) (suc q) r p s lt h =
      let l = length-append (items kid) (flat_map items (next ∷ kids)) in
      let rest = last_at (next ∷ kids) q r p.1 s lt (omega (arith, h, p.0, l)) in
      record {
        before = kid ∷ rest.before;
        kid = rest.kid;
        parts = ap (λ v. kid ∷ v) rest.parts;
        count = ap suc rest.count;
        size = rest.size;
        packs = λ new a b. packed_more kid rest.before new p.0 (rest.packs new a b);
      }

  -- where all kids are full, one more may stand after them
  all_full : (kids : List N) (q : ℕ) → IsPacked items room kids → q * room ≡ length (flat_map items kids) → (new : N) → 0 < length (items new) → length (items new) ≤ room → IsPacked items room (kids ++ new ∷ []) × (length kids ≡ q)
  all_full [] zero p h new a b = ((a, b), refl)
  all_full [] (suc q) p h new a b = absurd (omega (arith, h, some))
  all_full (kid ∷ []) zero p h new a b = absurd (omega (arith, h, p.0, length-append (items kid) []))
  all_full (kid ∷ []) (suc zero) p h new a b = ((omega (arith, h, length-append (items kid) []), (a, b)), refl)
  all_full (kid ∷ []) (suc (suc q)) p h new a b = absurd (omega (arith, h, some, p.1, length-append (items kid) []))
  all_full (kid ∷ next ∷ kids) zero p h new a b = absurd (omega (arith, h, some, p.0, length-append (items kid) (flat_map items (next ∷ kids))))
  all_full (kid ∷ next ∷ kids) (suc q) p h new a b =
      let l = length-append (items kid) (flat_map items (next ∷ kids)) in
      let rest = all_full (next ∷ kids) q p.1 (omega (arith, h, p.0, l)) new a b in
      ((p.0, rest.0), ap suc rest.1)

  module _ (i m : ℕ) (same : m ≡ room) where
    low : i % m < room
    low = subst (λ v. i % m < v) same (mod-lt i (subst (λ v. 0 < v) (sym same) some))

    whole : i / m * room + i % m ≡ i
    whole = ap (λ v. i / m * v + i % m) (sym same) ∙ div-add-mod' i m

    found : (kids : List N) → IsPacked items room kids → i < length (flat_map items kids) → IsAt kids (i / m) (i % m)
    found kids p h = located kids (i / m) (i % m) p low (subst (λ v. v < length (flat_map items kids)) (sym whole) h)

    pub kid_at : (kids : List N) → IsPacked items room kids → i < length (flat_map items kids) → i / m < length kids
    kid_at kids p h = let at = found kids p h in omega (arith, ap length at.parts, length-append at.before (at.kid ∷ at.after), at.count)

    pub place_at : (kids : List N) (x : N) → IsPacked items room kids → i < length (flat_map items kids) → x ≡ get_or kids (i / m) x → i % m < length (items x)
    place_at kids x p h e =
        let at = found kids p h in
        subst (λ v. i % m < length (items v)) (sym (reads kids at.before at.kid at.after (i / m) x at.parts at.count e)) at.has

    -- a run of the kid is a run of all
    pub run_at : (kids : List N) (x : N) (run : List T) → IsPacked items room kids → i < length (flat_map items kids) → x ≡ get_or kids (i / m) x → IsRun (items x) (i % m) run → IsRun (flat_map items kids) i run
    run_at kids x run p h e u =
        let at = found kids p h in
        let is : x ≡ at.kid = reads kids at.before at.kid at.after (i / m) x at.parts at.count e in
        let front = flat_map items at.before in
        let part = drop (i % m) (items x) in
        let later = flat_map items at.after in
        let back : flat_map items (at.kid ∷ at.after) ≡ items x ++ later = flat_map-cons items at.kid at.after ∙ ap (λ v. items v ++ later) (sym is) in
        let all : flat_map items kids ≡ front ++ (items x ++ later) = ap (flat_map items) at.parts ∙ (flat_map-append items at.before (at.kid ∷ at.after) ∙ ap (λ v. front ++ v) back) in
        let from : drop i (flat_map items kids) ≡ part ++ later =
        ap (drop i) all
        ∙ (ap (λ v. drop v (front ++ (items x ++ later))) (sym whole ∙ ap (λ v. v + i % m) (sym at.full))
        ∙ (drop-append-add front (items x ++ later) (i % m)
        ∙ drop-append-le (i % m) (items x) later (subst (λ v. i % m ≤ length (items v)) (sym is) (omega (arith, at.has))))) in
        let short : length run ≤ length part = omega (arith, ap length u.same ∙ length-take (length run) part) in
        record { some = u.some; same = u.same ∙ (sym (take-append-le (length run) part later short) ∙ ap (take (length run)) (sym from)) }

    -- the last kid is there and has as many items as the place says
    ending : (kids : List N) → IsPacked items room kids → i ≡ length (flat_map items kids) → (i % m ≡ 0 → ⊥) → IsLast kids (i / m) (i % m)
    ending kids p h some_left = last_at kids (i / m) (i % m) p (omega (arith, some_left)) low (whole ∙ h)

    pub last_kid_at : (kids : List N) → IsPacked items room kids → i ≡ length (flat_map items kids) → (i % m ≡ 0 → ⊥) → i / m < length kids
    last_kid_at kids p h some_left = let at = ending kids p h some_left in omega (arith, ap length at.parts, length-append at.before (at.kid ∷ []), at.count)

    pub last_place : (kids : List N) (x : N) → IsPacked items room kids → i ≡ length (flat_map items kids) → (i % m ≡ 0 → ⊥) → x ≡ get_or kids (i / m) x → i % m ≡ length (items x)
    last_place kids x p h some_left e =
        let at = ending kids p h some_left in
        sym at.size ∙ ap (λ v. length (items v)) (sym (reads kids at.before at.kid [] (i / m) x at.parts at.count e))

    put : (kids : List N) (at : IsLast kids (i / m) (i % m)) (new : N) → set kids (i / m) new ≡ at.before ++ new ∷ []
    put kids at new = ap (λ v. set kids v new) (sym at.count) ∙ (ap (λ v. set v (length at.before) new) at.parts ∙ set-append_seam at.before at.kid [] new)

    -- a push into the last kid
    pub last_packed : (kids : List N) (x new : N) (more : List T) → IsPacked items room kids → i ≡ length (flat_map items kids) → (i % m ≡ 0 → ⊥) → length more ≤ 1 → x ≡ get_or kids (i / m) x → items new ≡ items x ++ more → IsPacked items room (set kids (i / m) new)
    last_packed kids x new more p h some_left few e grown =
        let at = ending kids p h some_left in
        let size : i % m ≡ length (items x) = last_place kids x p h some_left e in
        let l : length (items new) ≡ length (items x) + length more = ap length grown ∙ length-append (items x) more in
        subst (IsPacked items room) (sym (put kids at new)) (at.packs new (omega (arith, l, size, some_left)) (omega (arith, l, size, few, low)))

    pub last_grown : (kids : List N) (x new : N) (more : List T) → IsPacked items room kids → i ≡ length (flat_map items kids) → (i % m ≡ 0 → ⊥) → x ≡ get_or kids (i / m) x → items new ≡ items x ++ more → flat_map items (set kids (i / m) new) ≡ flat_map items kids ++ more
    last_grown kids x new more p h some_left e grown =
        let at = ending kids p h some_left in
        let is : x ≡ at.kid = reads kids at.before at.kid [] (i / m) x at.parts at.count e in
        let front = flat_map items at.before in
        let one : (kid : N) → flat_map items (at.before ++ kid ∷ []) ≡ front ++ items kid = λ kid. flat_map-append items at.before (kid ∷ []) ∙ ap (λ v. front ++ v) (flat_map-cons items kid [] ∙ append-nil (items kid)) in
        ap (flat_map items) (put kids at new)
        ∙ (one new
        ∙ (ap (λ v. front ++ v) grown
        ∙ (sym (append_assoc front (items x) more)
        ∙ ap (λ v. v ++ more) (ap (λ v. front ++ items v) is ∙ (sym (one at.kid) ∙ ap (flat_map items) (sym at.parts))))))

    -- one more kid, where all are full
    pub kid_packed : (old new : List N) (x : T) → IsPacked items room old → i ≡ length (flat_map items old) → i % m ≡ 0 → i < 32 * room → HasOneMore items old x new → (length new ≤ 32) × IsPacked items room new
    kid_packed old new x p h none lt more =
        let size : length (items more.kid) ≡ 1 = ap length more.alone in
        let full = all_full old (i / m) p (omega (arith, whole, none, h)) more.kid (omega (arith, size)) (omega (arith, size, some)) in
        let few : i / m < 32 = lt_of_mul-lt-mul_right room (omega (arith, whole, none, lt)) in
        (omega (arith, ap length more.after, length-append old (more.kid ∷ []), full.1, few), subst (IsPacked items room) (sym more.after) full.0)
