-- Lemmas on the values of a key.
use Rattle.std.proofs.Common.{◌≡◌, ◌≢◌, ℕ, zero, suc, ◌+◌, ◌<◌, ◌≤◌, Bool, true, false, true≢false, cond, List, [], ◌∷◌, ◌++◌, length, map, get_or, refl, ap, sym, ◌∙◌, arith, append-nil, append_assoc, length-append, ⊎_elim, eq-eqb}
use Rattle.std.specs.Prelude.{Option, Some, None, is_some, ◌==◌, Result, Ok, Err, OnOk, IfOk}
use Rattle.std.specs.List.{IsDistinct, filter}
use Rattle.std.specs.Map.{lookup, keys_of, set_value}
use Rattle.std.proofs.lemmas.Map.{length-set_value}
use Rattle.std.specs.Option.{option_map, option_or, unwrap_or}
use Rattle.std.specs.Global.{Vec}
use Rattle.std.proofs.lemmas.Map.Made.{lookup-map_values}
use Rattle.std.specs.Cmp.{IsEquivalence}
use Rattle.std.proofs.lemmas.Bool.{cases_eq}
use Rattle.std.proofs.lemmas.Bool.Decides.{nat_tests}
use Rattle.par_index.specs.Entries.{groups_of, insert_entry, joined, push_to_group}
use Rattle.par_index.proofs.Keeping.{lookup-insert_entry}
use Rattle.par_buckets.specs.Held.{IsSorted}
use Rattle.par_buckets.specs.Values.{values_with, last_item, some_items, insert_entries, push_to_groups, Has, IsMapOf, IsGroupsOf}

pub not_so : (b : Bool) → (b ≡ true → b ≡ false) → b ≡ false
not_so true f = f refl
not_so false f = refl

pub neq-eqb : (a b : ℕ) → a ≢ b → (a == b) ≡ false
neq-eqb a b n = grind (arith, nat_tests)

pub or-none : {X : Type 0} (a : Option X) → option_or a None ≡ a
or-none None = refl
or-none (Some x) = refl

map-or : {X Y : Type 0} (f : X → Y) (a : Option X) (x : X) → option_map f (option_or a (Some x)) ≡ option_or (option_map f a) (Some (f x))
map-or f None x = refl
map-or f (Some y) x = refl

pub last-map : {X Y : Type 0} (f : X → Y) (xs : List X) → option_map f (last_item xs) ≡ last_item (map f xs)
last-map f [] = refl
last-map f (x ∷ xs) = map-or f (last_item xs) x ∙ ap (λ a. option_or a (Some (f x))) (last-map f xs)

module _ {V : Type 0} where
  cond-append : (b : Bool) (x : V) (xs ys : List V) → cond b (x ∷ (xs ++ ys)) (xs ++ ys) ≡ cond b (x ∷ xs) xs ++ ys
  cond-append true x xs ys = refl
  cond-append false x xs ys = refl

  shown-cond : {W : Type 0} (b c : Bool) (see : V → W) (v : V) (vs : List V) (ws : List W) → b ≡ c → map see vs ≡ ws → map see (cond b (v ∷ vs) vs) ≡ cond c (see v ∷ ws) ws
  shown-cond true c see v vs ws e h = rw (sym e) (ap (λ xs. see v ∷ xs) h)
  shown-cond false c see v vs ws e h = rw (sym e) h

  inserted-step : (b : Bool) (v : V) (vs : List V) (a r : Option V) → last_item vs ≡ a → option_or a (cond b (Some v) r) ≡ option_or (last_item (cond b (v ∷ vs) vs)) r
  inserted-step true v vs None r e = rw e refl
  inserted-step true v vs (Some w) r e = rw e refl
  inserted-step false v vs a r e = rw e refl

module _ {K V : Type 0} where
  pub values-append : (t : K → Bool) (ps qs : List (K × V)) → values_with t (ps ++ qs) ≡ values_with t ps ++ values_with t qs
  values-append t [] qs = refl
  values-append t (p ∷ ps) qs = ap (λ vs. cond (t p.0) (p.1 ∷ vs) vs) (values-append t ps qs) ∙ cond-append (t p.0) p.1 (values_with t ps) (values_with t qs)

  nothing : (t : K → Bool) (lists : List (List (K × V))) → ((i : ℕ) → i < length lists → values_with t (get_or lists i []) ≡ []) → values_with t (joined lists) ≡ []
  nothing t [] h = refl
  nothing t (ps ∷ lists) h = values-append t ps (joined lists) ∙ (ap (λ vs. vs ++ values_with t (joined lists)) (h zero (omega arith)) ∙ nothing t lists (λ i l. h (suc i) (omega (arith, l))))

  -- where one list alone has values of the key
  pick : (t : K → Bool) (lists : List (List (K × V))) (b : ℕ) (r : List V) → b < length lists → ((i : ℕ) → i < length lists → i ≢ b → values_with t (get_or lists i []) ≡ []) → values_with t (get_or lists b []) ≡ r → values_with t (joined lists) ≡ r
  pick t [] b r l h e = absurd (omega (arith, l))
  pick t (ps ∷ lists) zero r l h e =
      values-append t ps (joined lists) ∙ (ap (λ vs. vs ++ values_with t (joined lists)) e ∙ (ap (λ vs. r ++ vs) (nothing t lists (λ i m. h (suc i) (omega (arith, m)) (λ (z : suc i ≡ zero). absurd (omega (arith, z))))) ∙ append-nil r))
  pick t (ps ∷ lists) (suc b) r l h e =
      values-append t ps (joined lists) ∙ (ap (λ vs. vs ++ values_with t (joined lists)) (h zero (omega arith) (λ (z : zero ≡ suc b). absurd (omega (arith, z)))) ∙ pick t lists b r (omega (arith, l)) (λ i m n. h (suc i) (omega (arith, m)) (λ (z : suc i ≡ suc b). n (omega (arith, z)))) e)

  -- a pair is left out, or it stays
  without : (t : K → Bool) (b c : Bool) (p : K × V) (ps qs : List (K × V)) → t p.0 ≡ b → (b ≡ true → c ≡ true) → values_with t ps ≡ values_with t qs → values_with t (cond c (p ∷ ps) ps) ≡ cond b (p.1 ∷ values_with t qs) (values_with t qs)
  without t b true p ps qs e h s = rw (e, s) refl
  without t true false p ps qs e h s = absurd (true≢false (sym (h refl)))
  without t false false p ps qs e h s = s

-- the values of a key as contracts see them
pub values-shown : {K V S W : Type 0} (eq : K → K → Bool) (same : S → S → Bool) (seek : K → S) (see : V → W) (told : (x y : K) → eq x y ≡ same (seek x) (seek y)) (k : K) (ps : List (K × V)) → map see (values_with (eq k) ps) ≡ values_with (same (seek k)) (map (λ p. (seek p.0, see p.1)) ps)
values-shown eq same seek see told k [] = refl
values-shown eq same seek see told k (p ∷ ps) = shown-cond (eq k p.0) (same (seek k) (seek p.0)) see p.1 (values_with (eq k) ps) (values_with (same (seek k)) (map (λ q. (seek q.0, see q.1)) ps)) (told k p.0) (values-shown eq same seek see told k ps)

module _ {K V : Type 0} (eq : K → K → Bool) (o : IsEquivalence eq) where
  -- the value of a key after inserts
  pub lookup-insert_entries : (es ps : List (K × V)) (k : K) → lookup (eq k) (insert_entries eq es ps) ≡ option_or (last_item (values_with (eq k) ps)) (lookup (eq k) es)
  lookup-insert_entries es [] k = refl
  lookup-insert_entries es (p ∷ ps) k =
      lookup-insert_entries (insert_entry eq es p.0 p.1) ps k
      ∙ (ap (option_or (last_item (values_with (eq k) ps))) (lookup-insert_entry eq o es p.0 p.1 k ∙ ap (λ b. cond b (Some p.1) (lookup (eq k) es)) (o.symm p.0 k))
      ∙ inserted-step (eq k p.0) p.1 (values_with (eq k) ps) (last_item (values_with (eq k) ps)) (lookup (eq k) es) refl)

  module _ (bucket : K → ℕ) (alike : (x y : K) → eq x y ≡ true → bucket x ≡ bucket y) (few : (k : K) → bucket k < 32) where
    own : (k : K) (ps : List (K × V)) → values_with (eq k) (filter (λ p. bucket p.0 == bucket k) ps) ≡ values_with (eq k) ps
    own k [] = refl
    own k (p ∷ ps) = without (eq k) (eq k p.0) (bucket p.0 == bucket k) p (filter (λ q. bucket q.0 == bucket k) ps) ps refl (λ t. let s : bucket p.0 ≡ bucket k = sym (alike k p.0 t) in eq-eqb (bucket p.0) (bucket k) s) (own k ps)

    other : (k : K) (i : ℕ) (ps : List (K × V)) → i ≢ bucket k → values_with (eq k) (filter (λ p. bucket p.0 == i) ps) ≡ []
    other k i [] n = refl
    other k i (p ∷ ps) n = ⊎_elim
        (λ (s : bucket p.0 ≡ i). rw (eq-eqb (bucket p.0) i s, not_so (eq k p.0) (λ t. absurd (n (sym s ∙ sym (alike k p.0 t))))) (other k i ps n))
        (λ (m : bucket p.0 ≢ i). rw (neq-eqb (bucket p.0) i m) (other k i ps n))
        (cases_eq (bucket p.0) i)

    -- the values of a key stand in the list of its bucket, and in no other
    pub values-sorted : (v : ℕ × List (List (K × V))) (ps : List (K × V)) (k : K) → IsSorted (λ p. bucket p.0) v ps → values_with (eq k) (joined v.1) ≡ values_with (eq k) ps
    values-sorted v ps k is = pick (eq k) v.1 (bucket k) (values_with (eq k) ps) (omega (arith, few k, is.many))
        (λ i l n. ap (values_with (eq k)) (is.sorted i (omega (arith, l, is.many))) ∙ other k i ps n)
        (ap (values_with (eq k)) (is.sorted (bucket k) (few k)) ∙ own k ps)

    module _ {S W : Type 0} (same : S → S → Bool) (seek : K → S) (see : V → W) (told : (x y : K) → eq x y ≡ same (seek x) (seek y)) where
      pub is_map_of : (out : List (K × V)) (v : ℕ × List (List (K × V))) (xs : List (S × W)) → out ≡ insert_entries eq [] (joined v.1) → IsDistinct eq (keys_of out) → Has (λ p. bucket p.0) (λ p. (seek p.0, see p.1)) v xs → IsMapOf eq same seek see out xs
      is_map_of out v xs e d h = record {
        distinct = d;
        last = λ k.
            ap (option_map see) (ap (lookup (eq k)) e ∙ (lookup-insert_entries [] (joined v.1) k ∙ or-none (last_item (values_with (eq k) (joined v.1)))))
            ∙ (last-map see (values_with (eq k) (joined v.1))
            ∙ (ap (λ vs. last_item (map see vs)) (values-sorted v h.0 k h.1)
            ∙ (ap last_item (values-shown eq same seek see told k h.0)
            ∙ ap (λ ys. last_item (values_with (same (seek k)) ys)) h.2)));
      }

pub insert_entries-push : {K V : Type 0} (eq : K → K → Bool) (es ps : List (K × V)) (p : K × V) → insert_entries eq es (ps ++ p ∷ []) ≡ insert_entry eq (insert_entries eq es ps) p.0 p.1
insert_entries-push eq es [] p = refl
insert_entries-push eq es (q ∷ ps) p = insert_entries-push eq (insert_entry eq es q.0 q.1) ps p

longer_by_one : {K V : Type 0} (b : Bool) (t : K → Bool) (es : List (K × V)) (k : K) (v : V) → length (cond b (set_value t es v) (es ++ (k, v) ∷ [])) ≤ length es + 1
longer_by_one true t es k v = omega (arith, length-set_value t es v)
longer_by_one false t es k v = omega (arith, length-append es ((k, v) ∷ []))

pub length-insert_entry : {K V : Type 0} (eq : K → K → Bool) (es : List (K × V)) (k : K) (v : V) → length (insert_entry eq es k v) ≤ length es + 1
length-insert_entry eq es k v = longer_by_one (is_some (lookup (eq k) es)) (eq k) es k v

pub distinct-none : {K : Type 0} (eq : K → K → Bool) → IsDistinct eq []
unfolding IsDistinct
distinct-none eq = tt

pub if_ok_then : {T E P : Type 0} (Q : T → Type 0) (r : Result T E) → OnOk r P → (P → (t : T) → Q t) → IfOk r Q
if_ok_then Q (Ok t) p f = f p t
if_ok_then Q (Err e) p f = tt

-- a group with more values at its end
abbrev pub grown : {V : Type 0} → Option (List V) → List V → Option (List V)
grown r [] = r
grown r (v ∷ vs) = Some (unwrap_or r [] ++ v ∷ vs)

pub grown-none : {V : Type 0} (vs : List V) → grown None vs ≡ some_items vs
grown-none [] = refl
grown-none (v ∷ vs) = refl

grown-step : {V : Type 0} (b : Bool) (v : V) (vs : List V) (r was : Option (List V)) → (b ≡ true → was ≡ r) → grown (cond b (Some (unwrap_or was [] ++ v ∷ [])) r) vs ≡ grown r (cond b (v ∷ vs) vs)
grown-step true v [] r was e = rw (e refl) refl
grown-step true v (u ∷ vs) r was e = rw (e refl) (ap Some (append_assoc (unwrap_or r []) (v ∷ []) (u ∷ vs)))
grown-step false v vs r was e = refl

pub map-some : {V W : Type 0} (f : V → W) (vs : List V) → option_map (map f) (some_items vs) ≡ some_items (map f vs)
map-some f [] = refl
map-some f (v ∷ vs) = refl

pub map-twice : {X Y Z : Type 0} (f : X → Y) (g : Y → Z) (r : Option X) → option_map (λ x. g (f x)) r ≡ option_map g (option_map f r)
map-twice f g None = refl
map-twice f g (Some x) = refl

pub push_to_groups-push : {K V : Type 0} (eq : K → K → Bool) (gs : List (K × List V)) (ps : List (K × V)) (p : K × V) → push_to_groups eq gs (ps ++ p ∷ []) ≡ push_to_group eq (push_to_groups eq gs ps) p.0 p.1
push_to_groups-push eq gs [] p = refl
push_to_groups-push eq gs (q ∷ ps) p = push_to_groups-push eq (push_to_group eq gs q.0 q.1) ps p

pub length-groups_of : {K V : Type 0} (es : List (K × Vec V)) → length (groups_of es) ≡ length es
length-groups_of [] = refl
length-groups_of (e ∷ es) = ap suc (length-groups_of es)

module _ {K : Type 0} (eq : K → K → Bool) (o : IsEquivalence eq) where
  alike_lookup : {X : Type 0} (k q : K) (es : List (K × X)) → eq k q ≡ true → lookup (eq k) es ≡ lookup (eq q) es
  alike_lookup k q [] t = refl
  alike_lookup k q (e ∷ es) t = rw (o.congr k q e.0 t, alike_lookup k q es t) refl

  -- the group of a key after pushes
  pub lookup-push_to_groups : {V : Type 0} (gs : List (K × List V)) (ps : List (K × V)) (k : K) → lookup (eq k) (push_to_groups eq gs ps) ≡ grown (lookup (eq k) gs) (values_with (eq k) ps)
  lookup-push_to_groups gs [] k = refl
  lookup-push_to_groups gs (p ∷ ps) k =
      lookup-push_to_groups (push_to_group eq gs p.0 p.1) ps k
      ∙ (ap (λ r. grown r (values_with (eq k) ps)) (lookup-insert_entry eq o gs p.0 (unwrap_or (lookup (eq p.0) gs) [] ++ p.1 ∷ []) k ∙ ap (λ b. cond b (Some (unwrap_or (lookup (eq p.0) gs) [] ++ p.1 ∷ [])) (lookup (eq k) gs)) (o.symm p.0 k))
      ∙ grown-step (eq k p.0) p.1 (values_with (eq k) ps) (lookup (eq k) gs) (lookup (eq p.0) gs) (λ t. sym (alike_lookup k p.0 gs t)))

  module _ (bucket : K → ℕ) (alike : (x y : K) → eq x y ≡ true → bucket x ≡ bucket y) (few : (k : K) → bucket k < 32) where
    pub is_groups_of : {V S W : Type 0} (same : S → S → Bool) (seek : K → S) (see : V → W) (told : (x y : K) → eq x y ≡ same (seek x) (seek y)) → (out : List (K × Vec V)) (v : ℕ × List (List (K × V))) (xs : List (S × W)) → groups_of out ≡ push_to_groups eq [] (joined v.1) → IsDistinct eq (keys_of out) → Has (λ p. bucket p.0) (λ p. (seek p.0, see p.1)) v xs → IsGroupsOf eq same seek see out xs
    is_groups_of {V} same seek see told out v xs e d h = record {
      distinct = d;
      values = λ k.
          map-twice (λ (u : Vec V). u.items) (map see) (lookup (eq k) out)
          ∙ (ap (option_map (map see)) (sym (lookup-map_values (λ (u : Vec V). u.items) (eq k) out) ∙ (ap (lookup (eq k)) e ∙ (lookup-push_to_groups [] (joined v.1) k ∙ grown-none (values_with (eq k) (joined v.1)))))
          ∙ (map-some see (values_with (eq k) (joined v.1))
          ∙ (ap (λ vs. some_items (map see vs)) (values-sorted eq o bucket alike few v h.0 k h.1)
          ∙ (ap some_items (values-shown eq same seek see told k h.0)
          ∙ ap (λ ys. some_items (values_with (same (seek k)) ys)) h.2))));
    }
