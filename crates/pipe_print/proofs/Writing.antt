-- Items are written one behind the other.
use Rattle.std.proofs.Common.{◌≡◌, ◌+◌, ◌-◌, ◌<◌, ◌∷◌, ◌++◌, ◌∙◌, sym, refl, ap, ℕ, zero, suc, List, [], length, map, take, drop, get_or, append_assoc, append-nil, arith, Result, Ok, Err}
use Rattle.std.proofs.Math.Seq.{take-suc}
use Rattle.std.proofs.lemmas.Grind.{flat_map-append}
use Rattle.std.specs.Prelude.{OnOk}
use Rattle.std.specs.List.{flat_map}
use Rattle.pipe_text.specs.declared.lexeme.Symbol.TheVariants as m
use Rattle.pipe_print.specs.Items.{Item, Mark, commas, item_text, spaced}

pub spaced_append : (v : ℕ) (a b : List Item) → spaced v (a ++ b) ≡ spaced v a ++ spaced v b
spaced_append v [] b = refl
spaced_append v (i ∷ is) b = ap (λ (x : List ℕ). 32 ∷ x) (ap (λ (x : List ℕ). item_text v i ++ x) (spaced_append v is b) ∙ sym (append_assoc (item_text v i) (spaced v is) (spaced v b)))

-- an item behind a space
pub item : (v : ℕ) (old mid new : List ℕ) (i : Item) → mid ≡ old ++ 32 ∷ [] → new ≡ mid ++ item_text v i → new ≡ old ++ spaced v (i ∷ [])
item v old mid new i e g = g ∙ ap (λ (x : List ℕ). x ++ item_text v i) e ∙ append_assoc old (32 ∷ []) (item_text v i) ∙ ap (λ (x : List ℕ). old ++ 32 ∷ x) (sym (append-nil (item_text v i)))

-- some items and then others
pub then : (v : ℕ) (old mid new : List ℕ) (a b : List Item) → mid ≡ old ++ spaced v a → new ≡ mid ++ spaced v b → new ≡ old ++ spaced v (a ++ b)
then v old mid new a b e g = g ∙ ap (λ (x : List ℕ). x ++ spaced v b) e ∙ append_assoc old (spaced v a) (spaced v b) ∙ ap (λ (x : List ℕ). old ++ x) (sym (spaced_append v a b))

pub ok_then : {T E : Type 0} (r : Result T E) (v : ℕ) (old mid new : List ℕ) (a b : List Item) → mid ≡ old ++ spaced v a → OnOk r (new ≡ mid ++ spaced v b) → OnOk r (new ≡ old ++ spaced v (a ++ b))
ok_then (Ok x) v old mid new a b e g = then v old mid new a b e g
ok_then (Err x) v old mid new a b e g = tt

-- a word and items in parentheses
pub called : {T E : Type 0} (r : Result T E) (v : ℕ) (old a b d new : List ℕ) (first : Item) (is all : List Item)
    → a ≡ old ++ spaced v (first ∷ []) → b ≡ a ++ spaced v (Mark m.Open ∷ []) → d ≡ b ++ spaced v is → OnOk r (new ≡ d ++ spaced v (Mark m.Close ∷ []))
    → all ≡ first ∷ Mark m.Open ∷ (is ++ Mark m.Close ∷ []) → OnOk r (new ≡ old ++ spaced v all)
called r v old a b d new first is all e g h k same =
    let two = then v old a b (first ∷ []) (Mark m.Open ∷ []) e g in
    let three = then v old b d (first ∷ Mark m.Open ∷ []) is two h in
    rw same (ok_then r v old d new (first ∷ Mark m.Open ∷ is) (Mark m.Close ∷ []) three k)

-- an item, some more and a last one
pub around : {T E : Type 0} (r : Result T E) (v : ℕ) (old b d new : List ℕ) (first last : Item) (is all : List Item)
    → b ≡ old ++ spaced v (first ∷ []) → d ≡ b ++ spaced v is → OnOk r (new ≡ d ++ spaced v (last ∷ []))
    → all ≡ first ∷ (is ++ last ∷ []) → OnOk r (new ≡ old ++ spaced v all)
around r v old b d new first last is all g h k same =
    let two = then v old b d (first ∷ []) is g h in
    rw same (ok_then r v old d new (first ∷ is) (last ∷ []) two k)

pub same_items : {T E : Type 0} (r : Result T E) (v : ℕ) (old new : List ℕ) (is all : List Item) → OnOk r (new ≡ old ++ spaced v is) → is ≡ all → OnOk r (new ≡ old ++ spaced v all)
same_items r v old new is all k same = rw same at k

-- an operator between its sides
pub paired : {T E : Type 0} (r : Result T E) (v : ℕ) (old a b new : List ℕ) (op : Item) (xs ys all : List Item)
    → a ≡ old ++ spaced v xs → b ≡ a ++ spaced v (op ∷ []) → OnOk r (new ≡ b ++ spaced v ys)
    → all ≡ xs ++ op ∷ ys → OnOk r (new ≡ old ++ spaced v all)
paired r v old a b new op xs ys all e g k same =
    let two = then v old a b xs (op ∷ []) e g in
    rw (same ∙ sym (append_assoc xs (op ∷ []) ys)) (ok_then r v old b new (xs ++ op ∷ []) ys two k)

-- an entry more behind its comma
pub more_entries : {V : Type 0} (v : ℕ) (f : V → List Item) (first now new : List ℕ) (xs : List V) (i : ℕ) (x : V) → i < length xs → x ≡ get_or xs i x
    → now ≡ first ++ spaced v (flat_map f (take i xs)) → new ≡ now ++ spaced v (f x) → new ≡ first ++ spaced v (flat_map f (take (i + 1) xs))
more_entries v f first now new xs i x lt is before after =
    let one : i + 1 ≡ suc i = omega arith in
    let more : flat_map f (take (suc i) xs) ≡ flat_map f (take i xs) ++ f x =
    ap (flat_map f) (take-suc xs i x lt)
    ∙ flat_map-append f (take i xs) (get_or xs i x ∷ [])
    ∙ ap (λ (y : List Item). flat_map f (take i xs) ++ y) (append-nil (f (get_or xs i x)) ∙ ap f (sym is)) in
    rw (one, more) (then v first now new (flat_map f (take i xs)) (f x) before after)

take_all : {V : Type 0} (n : ℕ) (ys : List V) → n ≡ length ys → take n ys ≡ ys
take_all n [] e = rw e refl
take_all zero (y ∷ ys) e = absurd (omega (arith, e))
take_all (suc n) (y ∷ ys) e = ap (λ (z : List _). y ∷ z) (take_all n ys (omega (arith, e)))

-- a first entry, and those behind their commas
pub all_entries : {V : Type 0} (v : ℕ) (f : V → List Item) (old a new : List ℕ) (xs : List V) (x : V) → 0 < length xs → x ≡ get_or xs 0 x
    → a ≡ old ++ spaced v (f x) → new ≡ a ++ spaced v (flat_map (λ y. Mark m.Comma ∷ f y) (take (length xs - 1) (drop 1 xs))) → new ≡ old ++ spaced v (commas f xs)
all_entries v f old a new [] x some is e g = absurd (omega (arith, some))
all_entries v f old a new (y ∷ ys) x some is e g =
    let rest : take (length (y ∷ ys) - 1) ys ≡ ys = take_all (length (y ∷ ys) - 1) ys (omega arith) in
    then v old a new (f y) (flat_map (λ z. Mark m.Comma ∷ f z) ys) (e ∙ ap (λ z. old ++ spaced v (f z)) is) (g ∙ ap (λ (zs : List _). a ++ spaced v (flat_map (λ z. Mark m.Comma ∷ f z) zs)) rest)

-- the same of lists
pub joined : (old mid new a b : List ℕ) → mid ≡ old ++ a → new ≡ mid ++ b → new ≡ old ++ (a ++ b)
joined old mid new a b e g = g ∙ ap (λ (x : List ℕ). x ++ b) e ∙ append_assoc old a b

-- views of the entries of a list
pub commas_view : {U V : Type 0} (f : V → List Item) (view : U → V) (xs : List U) → commas (λ x. f (view x)) xs ≡ commas f (map view xs)
commas_view f view [] = refl
commas_view f view (x ∷ xs) = ap (λ (y : List Item). f (view x) ++ y) (rest xs)
  where
    rest : (xs : List _) → flat_map (λ x. Mark m.Comma ∷ f (view x)) xs ≡ flat_map (λ y. Mark m.Comma ∷ f y) (map view xs)
    rest [] = refl
    rest (x ∷ xs) = ap (λ (y : List Item). Mark m.Comma ∷ (f (view x) ++ y)) (rest xs)
