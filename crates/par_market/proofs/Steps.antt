-- Each step of a deque keeps its rule.
use Rattle.std.proofs.Common.{◌≡◌, ℕ, zero, suc, ◌+◌, ◌⊎◌, inl, inr, ⊎_elim, true, false, true≢false, List, [], ◌∷◌, ◌++◌, length, set, refl, sym, ap, ◌∙◌, subst, arith, length-append, append_assoc}
use mathlib.Core.Option.{some, some-injective, some-ne-none}
use lib.ListN.{get_elem?}
use Rattle.crossbeam_deque.specs.Tasks.{Pushes, Takes as StepTakes, Admits}
use Rattle.par_views.proofs.Views.{in_range, each_set, at_end}
use Rattle.par_market.specs.declared.ticket.Ticket.{Ticket}
use Rattle.par_market.specs.declared.rule.Entry.{Entry}
use Rattle.par_market.specs.declared.rule.Account.{Account}
use Rattle.par_market.specs.Deques.{account, placed, StandIn, IsOnce, IsOrdered, Above, Adds, Takes}

-- what stands in a list stands there when more is added
at_more : (xs ys : List Ticket) (i : ℕ) (t : Ticket) → get_elem? xs i ≡ some t → get_elem? (xs ++ ys) i ≡ some t
at_more [] ys i t e = absurd (some-ne-none t (sym e))
at_more (x ∷ xs) ys zero t e = e
at_more (x ∷ xs) ys (suc i) t e = at_more xs ys i t e

at_length : (xs : List Ticket) (t : Ticket) → get_elem? (xs ++ t ∷ []) (length xs) ≡ some t
at_length [] t = refl
at_length (x ∷ xs) t = at_length xs t

placed_more : (t : ℕ) (xs : List Ticket) (x : Ticket) → placed t xs ++ record { place = t + length xs; ticket = x } ∷ [] ≡ placed t (xs ++ x ∷ [])
placed_more t [] x = let e : t + 0 ≡ t = omega arith in ap (λ (k : ℕ). record { place = k; ticket = x } ∷ []) e
placed_more t (y ∷ ys) x =
    let e : t + length (y ∷ ys) ≡ t + 1 + length ys = omega arith in
    ap (λ (l : List Entry). record { place = t; ticket = y } ∷ l) (ap (λ (k : ℕ). placed (t + 1) ys ++ record { place = k; ticket = x } ∷ []) e ∙ placed_more (t + 1) ys x)

none_at : {X : Type 0} (i : ℕ) (x : X) → get_elem? [] i ≡ some x → ⊥
none_at i x e = some-ne-none x (sym e)

at_first : (w v : Account) (port : ℕ) → get_elem? (w ∷ []) port ≡ some v → (port ≡ 0) × (w ≡ v)
at_first w v zero e = (refl, some-injective w v e)
at_first w v (suc port) e = absurd (none_at port v e)

pub begins : IsOrdered [] (account true [] [] ∷ [])
begins = record {
  gone = [];
  left = [];
  items_are = refl;
  owner = λ port v e o. let h = at_first (account true [] []) v port e in (h.0, sym (ap (λ (a : Account). a.posted) h.1));
  found = λ port v e i x f. absurd (none_at i x (subst (λ (a : Account). get_elem? a.found i ≡ some x) (sym (at_first (account true [] []) v port e).1) f));
  once = λ p q i j v w e f a b c d same. absurd (none_at i e (subst (λ (u : Account). get_elem? u.found i ≡ some e) (sym (at_first (account true [] []) v p a).1) c));
}

pub admits : Admits IsOrdered (account false [] [])
admits items views h =
    let guest : Account = account false [] [] in
    let old : (q : ℕ) (w : Account) (j : ℕ) (f : Entry) → get_elem? (views ++ guest ∷ []) q ≡ some w → get_elem? w.found j ≡ some f → get_elem? views q ≡ some w =
    λ q w j f at there. ⊎_elim (λ s. s) (λ (s : (q ≡ length views) × (guest ≡ w)). absurd (none_at j f (subst (λ (u : Account). get_elem? u.found j ≡ some f) (sym s.1) there))) (at_end views guest w q at) in
    record {
      gone = h.gone;
      left = h.left;
      items_are = h.items_are;
      owner = λ port v at o. ⊎_elim (λ s. h.owner port v s o) (λ (s : (port ≡ length views) × (guest ≡ v)). absurd (true≢false (sym (ap (λ (u : Account). u.owner) s.1 ∙ o)))) (at_end views guest v port at);
      found = λ port v at i e there. h.found port v (old port v i e at there) i e there;
      once = λ p q i j v w e f a b c d same. h.once p q i j v w e f (old p v i e a c) (old q w j f b d) c d same;
    }

-- the owner adds a ticket, whose place is how many it posted before
pub pushes : (port : ℕ) (v : Account) (e : Entry) → v.owner ≡ true → e.place ≡ length v.posted → Pushes IsOrdered port v (e ∷ []) (Adds v (e ∷ []))
pushes port v e mine place items views h at =
    let w : Account = account v.owner (v.posted ++ e.ticket ∷ []) v.found in
    let own = h.owner port v at mine in
    let count : e.place ≡ length h.gone + length h.left = place ∙ (ap length own.1 ∙ length-append h.gone h.left) in
    let entry : e ≡ record { place = length h.gone + length h.left; ticket = e.ticket } = ap (λ (k : ℕ). record { place = k; ticket = e.ticket }) count in
    let old : (q : ℕ) (u : Account) → get_elem? (set views port w) q ≡ some u → (x : Account) × (get_elem? views q ≡ some x) × (u.found ≡ x.found) =
    each_set (λ q u. (x : Account) × (get_elem? views q ≡ some x) × (u.found ≡ x.found)) views port w (v, at, refl) (λ q u _ there. (u, there, refl)) in (
      w,
      record {
        gone = h.gone;
        left = h.left ++ e.ticket ∷ [];
        items_are = ap (λ (l : List Entry). l ++ e ∷ []) h.items_are ∙ (ap (λ (x : Entry). placed (length h.gone) h.left ++ x ∷ []) entry ∙ placed_more (length h.gone) h.left e.ticket);
        owner = each_set (λ q u. u.owner ≡ true → (q ≡ 0) × (u.posted ≡ h.gone ++ (h.left ++ e.ticket ∷ []))) views port w
            (λ _. (own.0, ap (λ (l : List Ticket). l ++ e.ticket ∷ []) own.1 ∙ append_assoc h.gone h.left (e.ticket ∷ [])))
            (λ q u other there o. absurd (other ((h.owner q u there o).0 ∙ sym own.0)));
        found = λ q u there i x is. let o = old q u there in h.found q o.0 o.1 i x (subst (λ (l : List Entry). get_elem? l i ≡ some x) o.2 is);
        once = λ p q i j a b x y pa qb xi yj same. let o = old p a pa in let r = old q b qb in
            h.once p q i j o.0 r.0 x y o.1 r.1 (subst (λ (l : List Entry). get_elem? l i ≡ some x) o.2 xi) (subst (λ (l : List Entry). get_elem? l j ≡ some y) r.2 yj) same;
      },
      refl,
    )

module _ (views : List Account) (gone : List Ticket) (found : (port : ℕ) (v : Account) → get_elem? views port ≡ some v → StandIn gone v.found) where
  -- what was found has lesser places than what is still there
  pub lower : (port : ℕ) (v : Account) → get_elem? views port ≡ some v → Above v.found (length gone)
  lower port v at i e is = in_range gone e.place e.ticket (found port v at i e is)

  module _ (once : IsOnce views) (port : ℕ) (v : Account) (at : get_elem? views port ≡ some v) (e : Entry) (place : e.place ≡ length gone) where
    abbrev w : Account
    w = account v.owner v.posted (v.found ++ e ∷ [])

    -- an entry of the views after: an old one, or the one that was taken
    abbrev Was : ℕ → ℕ → Entry → Type 0
    Was p i x = ((u : Account) × (get_elem? views p ≡ some u) × (get_elem? u.found i ≡ some x)) ⊎ ((p ≡ port) × (i ≡ length v.found) × (e ≡ x))

    was : (p i : ℕ) (u : Account) (x : Entry) → get_elem? (set views port w) p ≡ some u → get_elem? u.found i ≡ some x → Was p i x
    was p i u x pu = each_set (λ q z. get_elem? z.found i ≡ some x → Was q i x) views port w
        (λ is. ⊎_elim (λ s. inl (v, at, s)) (λ s. inr (refl, s.0, s.1)) (at_end v.found e x i is))
        (λ q z other there is. inl (z, there, is)) p u pu

    pub once_more : IsOnce (set views port w)
    once_more p q i j a b x y pa qb xi yj same = elim (was p i a x pa xi) [
      | inl s ↦ elim (was q j b y qb yj) [
        | inl t ↦ once p q i j s.0 t.0 x y s.1 t.1 s.2 t.2 same
        | inr t ↦ let l = lower p s.0 s.1 i x s.2 in let k = ap (λ (z : Entry). z.place) t.2 in absurd (omega (arith, l, k, same, place))
      ]
      | inr s ↦ elim (was q j b y qb yj) [
        | inl t ↦ let l = lower q t.0 t.1 j y t.2 in let k = ap (λ (z : Entry). z.place) s.2 in absurd (omega (arith, l, k, same, place))
        | inr t ↦ (s.0 ∙ sym t.0, s.1 ∙ sym t.1)
      ]
    ]

head_of : (x y : Entry) (xs ys : List Entry) → x ∷ xs ≡ y ∷ ys → x ≡ y
head_of x y xs ys e = cc

rest_of : (x y : Entry) (xs ys : List Entry) → x ∷ xs ≡ y ∷ ys → xs ≡ ys
rest_of x y xs ys e = cc

take_one :
    (port : ℕ) (v : Account) (e : Entry) (items : List Entry) (views : List Account) (gone left : List Ticket) → e ∷ items ≡ placed (length gone) left →
    ((p : ℕ) (u : Account) → get_elem? views p ≡ some u → u.owner ≡ true → (p ≡ 0) × (u.posted ≡ gone ++ left)) → ((p : ℕ) (u : Account) → get_elem? views p ≡ some u → StandIn gone u.found) → IsOnce views → get_elem? views port ≡ some v →
    (w : Account) × IsOrdered items (set views port w) × Takes v (e ∷ []) w
take_one port v e items views gone [] is owner found once at = absurd (let l = ap length is in omega (arith, l))
take_one port v e items views gone (t ∷ left) is owner found once at =
    let h : e ≡ record { place = length gone; ticket = t } = head_of _ _ _ _ is in
    let place : e.place ≡ length gone = ap (λ (x : Entry). x.place) h in
    let ticket : e.ticket ≡ t = ap (λ (x : Entry). x.ticket) h in
    let w : Account = account v.owner v.posted (v.found ++ e ∷ []) in
    let more : gone ++ t ∷ left ≡ (gone ++ t ∷ []) ++ left = sym (append_assoc gone (t ∷ []) left) in
    let count : length gone + 1 ≡ length (gone ++ t ∷ []) = sym (length-append gone (t ∷ [])) in
    let still : (p : ℕ) (u : Account) → get_elem? views p ≡ some u → StandIn (gone ++ t ∷ []) u.found = λ p u there i x s. at_more gone (t ∷ []) x.place x.ticket (found p u there i x s) in (
      w,
      record {
        gone = gone ++ t ∷ [];
        left = left;
        items_are = rest_of _ _ _ _ is ∙ ap (λ (k : ℕ). placed k left) count;
        owner = each_set (λ p u. u.owner ≡ true → (p ≡ 0) × (u.posted ≡ (gone ++ t ∷ []) ++ left)) views port w
            (λ o. let s = owner port v at o in (s.0, s.1 ∙ more))
            (λ p u other there o. let s = owner p u there o in (s.0, s.1 ∙ more));
        found = each_set (λ p u. StandIn (gone ++ t ∷ []) u.found) views port w
            (λ i x s. ⊎_elim (λ old. still port v at i x old)
            (λ (new : (i ≡ length v.found) × (e ≡ x)). subst (λ (z : Entry). get_elem? (gone ++ t ∷ []) z.place ≡ some z.ticket) (sym h ∙ new.1) (at_length gone t))
            (at_end v.found e x i s))
            (λ p u other there. still p u there);
        once = once_more views gone found once port v at e place;
      },
      (refl, λ i x s. let k = first_only i x s in subst (λ (z : Entry). Above v.found z.place) k (subst (λ (z : ℕ). Above v.found z) (sym place) (lower views gone found port v at))),
    )
  where
    first_only : (i : ℕ) (x : Entry) → get_elem? (e ∷ []) i ≡ some x → e ≡ x
    first_only zero x s = some-injective e x s
    first_only (suc i) x s = absurd (none_at i x s)

-- the first entry is taken
pub takes : (port : ℕ) (v : Account) → StepTakes IsOrdered port v 1 (Takes v)
takes port v [] items views any few h at = absurd (omega (arith, any))
takes port v (e ∷ []) items views any few h at = take_one port v e items views h.gone h.left h.items_are h.owner h.found h.once at
takes port v (e ∷ f ∷ xs) items views any few h at = absurd (omega (arith, few))
