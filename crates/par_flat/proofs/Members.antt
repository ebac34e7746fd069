-- Lemmas on a set as the list of its keys, and as a map from its keys to units.
use Rattle.std.proofs.Common.{◌≡◌, ℕ, zero, suc, ◌+◌, ◌≤◌, ◌<◌, Bool, true, false, cond, List, [], ◌∷◌, ◌++◌, length, refl, ap, sym, ◌∙◌, arith, length-append, ◌⊎◌, inl, inr}
use Rattle.std.specs.Prelude.{Option, Some, None, is_some, IsSome, not, option_map}
use Rattle.std.specs.List.{list_any}
use Rattle.std.specs.Map.{lookup, set_value, keys_of}
use Rattle.std.proofs.lemmas.Map.{keys-set_value}
use Rattle.par_index.specs.Entries.{insert_entry}
use Rattle.par_flat.specs.Keys.{insert_key, insert_keys}

pub member : {K V : Type 0} (t : K → Bool) (es : List (K × V)) → is_some (lookup t es) ≡ list_any t (keys_of es)
member t [] = refl
member t (e ∷ es) = grind (arith, member t es)

keys_of-push : {K V : Type 0} (es : List (K × V)) (k : K) (v : V) → keys_of (es ++ (k, v) ∷ []) ≡ keys_of es ++ k ∷ []
keys_of-push [] k v = refl
keys_of-push (x ∷ es) k v = ap (λ l. x.0 ∷ l) (keys_of-push es k v)

keys_by : {K V : Type 0} (eq : K → K → Bool) (es : List (K × V)) (k : K) (v : V) (b c : Bool) → b ≡ c → keys_of (cond b (set_value (eq k) es v) (es ++ (k, v) ∷ [])) ≡ cond c (keys_of es) (keys_of es ++ k ∷ [])
keys_by eq es k v true c e = rw (keys-set_value (eq k) es v, sym e) refl
keys_by eq es k v false c e = rw (keys_of-push es k v, sym e) refl

pub keys_of-insert_entry : {K V : Type 0} (eq : K → K → Bool) (es : List (K × V)) (k : K) (v : V) → keys_of (insert_entry eq es k v) ≡ insert_key eq (keys_of es) k
keys_of-insert_entry eq es k v = keys_by eq es k v (is_some (lookup (eq k) es)) (list_any (eq k) (keys_of es)) (member (eq k) es)

pub length-keys_of : {K V : Type 0} (es : List (K × V)) → length (keys_of es) ≡ length es
length-keys_of [] = refl
length-keys_of (e ∷ es) = ap suc (length-keys_of es)

pub insert_keys-push : {K : Type 0} (eq : K → K → Bool) (ks xs : List K) (x : K) → insert_keys eq ks (xs ++ x ∷ []) ≡ insert_key eq (insert_keys eq ks xs) x
insert_keys-push eq ks [] x = refl
insert_keys-push eq ks (y ∷ xs) x = insert_keys-push eq (insert_key eq ks y) xs x

longer_by_one : {K : Type 0} (b : Bool) (ks : List K) (k : K) → length (cond b ks (ks ++ k ∷ [])) ≤ length ks + 1
longer_by_one true ks k = omega arith
longer_by_one false ks k = omega (arith, length-append ks (k ∷ []))

pub length-insert_keys : {K : Type 0} (eq : K → K → Bool) (ks xs : List K) → length (insert_keys eq ks xs) ≤ length ks + length xs
length-insert_keys eq ks [] = omega arith
length-insert_keys eq ks (x ∷ xs) = omega (arith, length-insert_keys eq (insert_key eq ks x) xs, longer_by_one (list_any (eq x) ks) ks x)

pub room_or_there : {K V : Type 0} (t : K → Bool) (es : List (K × V)) (n : ℕ) → (length (keys_of es) < n) ⊎ (list_any t (keys_of es) ≡ true) → (length es < n) ⊎ IsSome (lookup t es)
room_or_there t es n (inl h) = inl (omega (arith, length-keys_of es))
room_or_there t es n (inr h) = inr (member t es ∙ h)

pub copied_some : {A B : Type 0} (f : A → B) (r : Option A) → is_some (option_map f r) ≡ is_some r
copied_some f None = refl
copied_some f (Some x) = refl

pub flip_not : (a b : Bool) → a ≡ not b → b ≡ not a
flip_not true true e = cc
flip_not true false e = refl
flip_not false true e = refl
flip_not false false e = cc

pub keys_of-append : {K V : Type 0} (es others : List (K × V)) → keys_of (es ++ others) ≡ keys_of es ++ keys_of others
keys_of-append [] others = refl
keys_of-append (e ∷ es) others = ap (λ ks. e.0 ∷ ks) (keys_of-append es others)

pub insert_keys-append : {K : Type 0} (eq : K → K → Bool) (ks xs ys : List K) → insert_keys eq ks (xs ++ ys) ≡ insert_keys eq (insert_keys eq ks xs) ys
insert_keys-append eq ks [] ys = refl
insert_keys-append eq ks (x ∷ xs) ys = insert_keys-append eq (insert_key eq ks x) xs ys
