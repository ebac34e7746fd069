-- Lemmas on a map as the list of its entries.
use Rattle.std.proofs.Common.{◌≡◌, ◌≢◌, ℕ, zero, suc, ◌+◌, ◌<◌, ◌≤◌, Bool, true, false, ◌||◌, ◌&&◌, true≢false, cond, List, [], ◌∷◌, ◌++◌, length, get_or, set, take, map, append_assoc, refl, ap, sym, ◌∙◌, arith, subst, ◌⊎◌, ⊎_elim, inl, inr, length-append, append-nil, eq-eqb}
use Rattle.std.specs.Prelude.{Result, Ok, Err, OnErr, Option, Some, None, is_some, IsSome, IfSome, IfNone, ◌==◌, slice_get}
use Rattle.std.specs.List.{IsDistinct, AllByRecursion, list_any}
use Rattle.std.specs.Map.{lookup, set_value, keys_of, update}
use Rattle.std.specs.Global.{Vec}
use Rattle.std.specs.Option.{unwrap_or, option_map}
use Rattle.std.specs.Cmp.{IsEquivalence}
use Rattle.std.proofs.lemmas.Bool.{cases_eq}
use Rattle.std.proofs.lemmas.Option.{slice_get_within}
use Rattle.std.proofs.lemmas.List.{length-set}
use Rattle.std.proofs.lemmas.Map.{keys-set_value, lookup-set_value}
use Rattle.std.proofs.lemmas.Map.Keys.{IsDistinct-push}
use Rattle.std.proofs.lemmas.Map.Made.{lookup-map_values}
use Rattle.std.proofs.Math.Seq.{map-set_same}
use Rattle.par_laws.specs.Hash.{mixed}
use Rattle.par_index.specs.Entries.{groups_of, insert_entry, is_key_at, joined, push_to_group, AreBuckets, IsApart, IsKept}
use Rattle.par_index.proofs.Places.{or_true, slice_get-left, slice_get-append, slice_get-last, slice_get-middle, slice_get-set_same, slice_get-set_other}

not_so : (b : Bool) → (b ≡ true → b ≡ false) → b ≡ false
not_so true f = f refl
not_so false f = refl

lookup-no : {K V : Type 0} (t : K → Bool) (es : List (K × V)) → ((i : ℕ) (e : K × V) → slice_get es i ≡ Some e → t e.0 ≡ false) → lookup t es ≡ None
lookup-no t [] h = refl
lookup-no t (e ∷ es) h = rw (h zero e refl) (lookup-no t es (λ i f q. h (suc i) f q))

any_key-no : {K V : Type 0} (t : K → Bool) (es : List (K × V)) → lookup t es ≡ None → list_any t (keys_of es) ≡ false
any_key-no t [] h = refl
any_key-no t (e ∷ es) h = grind (arith, any_key-no t es)

keys_of-push : {K V : Type 0} (es : List (K × V)) (e : K × V) → keys_of (es ++ e ∷ []) ≡ keys_of es ++ e.0 ∷ []
keys_of-push [] e = refl
keys_of-push (x ∷ es) e = ap (λ l. x.0 ∷ l) (keys_of-push es e)

lookup-push : {K V : Type 0} (t : K → Bool) (es : List (K × V)) (e : K × V) → lookup t (es ++ e ∷ []) ≡ cond (is_some (lookup t es)) (lookup t es) (cond (t e.0) (Some e.1) None)
lookup-push t [] e = refl
lookup-push t (x ∷ es) e = grind (arith, lookup-push t es e)

lookup-append_none : {K V : Type 0} (t : K → Bool) (es others : List (K × V)) → lookup t es ≡ None → lookup t others ≡ None → lookup t (es ++ others) ≡ None
lookup-append_none t [] others h g = g
lookup-append_none t (e ∷ es) others h g = grind (arith, lookup-append_none t es others)

pub on_err_any : {T E P : Type 0} (r : Result T E) → P → OnErr r P
on_err_any (Ok t) p = tt
on_err_any (Err e) p = p

pub take_front : {X : Type 0} (xs ys zs : List X) → xs ++ ys ≡ zs → take (length xs) zs ≡ xs
take_front [] ys zs e = refl
take_front (x ∷ xs) ys [] e = cc
take_front (x ∷ xs) ys (z ∷ zs) e =
    let head : z ≡ x = cc in
    let tail : xs ++ ys ≡ zs = cc in
    rw (head, take_front xs ys zs tail) refl

pub joined-append : {X : Type 0} (maps others : List (List X)) → joined (maps ++ others) ≡ joined maps ++ joined others
joined-append [] others = refl
joined-append (es ∷ maps) others = ap (λ xs. es ++ xs) (joined-append maps others) ∙ sym (append_assoc es (joined maps) (joined others))

-- one more map, and its entries at the end
pub joined-push : {X : Type 0} (maps : List (List X)) (es : List X) → joined (maps ++ es ∷ []) ≡ joined maps ++ es
joined-push maps es = joined-append maps (es ∷ []) ∙ ap (λ xs. joined maps ++ xs) (append-nil es)

-- the next map and those before it are no larger than all together
pub joined-room : {X : Type 0} (maps taken rest : List (List X)) (es : List X) → taken ++ es ∷ rest ≡ maps → length (joined taken) + length es ≤ length (joined maps)
joined-room maps taken rest es e =
    let whole : length (joined maps) ≡ length (joined taken) + (length es + length (joined rest)) =
    ap (λ xs. length (joined xs)) (sym e) ∙ (ap length (joined-append taken (es ∷ rest)) ∙ (length-append (joined taken) (es ++ joined rest) ∙ ap (λ n. length (joined taken) + n) (length-append es (joined rest)))) in
    omega arith

pub kept-none : {K V : Type 0} (eq : K → K → Bool) (hash : K → ℕ) (has : ℕ → ℕ → Bool) (count : ℕ) → count ≡ 0 → IsKept {K = K} {V = V} eq hash [] has count
unfolding IsDistinct
kept-none eq hash has count c = record { distinct = tt; placed = λ i e q. cc; counted = c; small = omega arith }

pub room_left : {V : Type 0} (n : ℕ) (r : Option V) → (n < 4194304) ⊎ IsSome r → r ≡ None → n < 4194304
room_left n r (inl h) e = h
room_left n r (inr s) e = absurd (true≢false (sym (subst IsSome e s)))

still_some : {A B : Type 0} (f : A → B) (r : Option A) → is_some r ≡ is_some (option_map f r)
still_some f None = refl
still_some f (Some x) = refl

module _ {K V : Type 0} where
  groups_of-cond : (b : Bool) (es others : List (K × Vec V)) → groups_of (cond b es others) ≡ cond b (groups_of es) (groups_of others)
  groups_of-cond true es others = refl
  groups_of-cond false es others = refl

  groups_of-set_value : (t : K → Bool) (es : List (K × Vec V)) (w : Vec V) → groups_of (set_value t es w) ≡ set_value t (groups_of es) w.items
  groups_of-set_value t [] w = refl
  groups_of-set_value t (e ∷ es) w =
      groups_of-cond (t e.0) ((e.0, w) ∷ es) (e ∷ set_value t es w) ∙ ap (λ gs. cond (t e.0) ((e.0, w.items) ∷ groups_of es) ((e.0, e.1.items) ∷ gs)) (groups_of-set_value t es w)

  groups_of-push : (es : List (K × Vec V)) (k : K) (w : Vec V) → groups_of (es ++ (k, w) ∷ []) ≡ groups_of es ++ (k, w.items) ∷ []
  groups_of-push [] k w = refl
  groups_of-push (e ∷ es) k w = ap (λ gs. (e.0, e.1.items) ∷ gs) (groups_of-push es k w)

  groups_of-insert : (eq : K → K → Bool) (es : List (K × Vec V)) (k : K) (w : Vec V) → groups_of (insert_entry eq es k w) ≡ insert_entry eq (groups_of es) k w.items
  groups_of-insert eq es k w =
      let there : is_some (lookup (eq k) es) ≡ is_some (lookup (eq k) (groups_of es)) = still_some (λ (u : Vec V). u.items) (lookup (eq k) es) ∙ ap is_some (sym (lookup-map_values (λ (u : Vec V). u.items) (eq k) es)) in
      groups_of-cond (is_some (lookup (eq k) es)) (set_value (eq k) es w) (es ++ (k, w) ∷ [])
      ∙ (ap (λ gs. cond (is_some (lookup (eq k) es)) gs (groups_of (es ++ (k, w) ∷ []))) (groups_of-set_value (eq k) es w)
      ∙ (ap (λ gs. cond (is_some (lookup (eq k) es)) (set_value (eq k) (groups_of es) w.items) gs) (groups_of-push es k w)
      ∙ ap (λ b. cond b (set_value (eq k) (groups_of es) w.items) (groups_of es ++ (k, w.items) ∷ [])) there))

  -- an insert of the key's vector with one more value
  pub groups_of-pushed : (eq : K → K → Bool) (es : List (K × Vec V)) (k : K) (v : V) (w : Vec V) (r : Option (Vec V)) → lookup (eq k) es ≡ r → w.items ≡ unwrap_or (option_map (λ (u : Vec V). u.items) r) [] ++ v ∷ [] → groups_of (insert_entry eq es k w) ≡ push_to_group eq (groups_of es) k v
  groups_of-pushed eq es k v w r h e =
      groups_of-insert eq es k w ∙ ap (insert_entry eq (groups_of es) k) (e ∙ ap (λ o. unwrap_or o [] ++ v ∷ []) (sym (lookup-map_values (λ (u : Vec V). u.items) (eq k) es ∙ ap (option_map (λ (u : Vec V). u.items)) h)))

  -- a vector of the same values in the place of one
  pub groups_of-same : (es : List (K × Vec V)) (i : ℕ) (e : K × Vec V) (w : Vec V) → e ≡ get_or es i e → w.items ≡ e.1.items → groups_of (set es i (e.0, w)) ≡ groups_of es
  groups_of-same es i e w g h =
      let seen : (e.0, w.items) ≡ (e.0, e.1.items) = ap (λ vs. (e.0, vs)) h in
      map-set_same (λ (x : K × Vec V). (x.0, x.1.items)) es i (e.0, w) e (seen ∙ ap (λ (x : K × Vec V). (x.0, x.1.items)) g)

module _ {K V : Type 0} (eq : K → K → Bool) (o : IsEquivalence eq) where
  pub absent_place : (hash : K → ℕ) → ((x y : K) → eq x y ≡ true → hash x ≡ hash y) → (es : List (K × V)) (has : ℕ → ℕ → Bool) (count : ℕ) (key : K) (r : Option ℕ) → IsKept eq hash es has count → IfNone r ((at : ℕ) → has (mixed (hash key)) at ≡ true → is_key_at (eq key) (slice_get es at) ≡ false) → IfNone r (lookup (eq key) es ≡ None)
  absent_place hash alike es has count key (Some i) is gone = tt
  absent_place hash alike es has count key None is gone = lookup-no (eq key) es (λ i f q. not_so (eq key f.0) (λ t.
      ap (is_key_at (eq key)) (sym q) ∙ gone i (ap (λ h. has (mixed h) i) (alike key f.0 t) ∙ is.placed i f q)))

  apart_head : (k x : K) (es : List (K × V)) (i : ℕ) → AllByRecursion (λ y. eq x y ≡ false) (keys_of es) → is_key_at (eq k) (slice_get es i) ≡ true → eq k x ≡ false
  apart_head k x [] i d h = absurd (true≢false (sym h))
  apart_head k x (y ∷ es) zero d h = not_so (eq k x) (λ t. absurd (true≢false (sym h ∙ (o.congr k x y.0 t ∙ d.0))))
  apart_head k x (y ∷ es) (suc i) d h = apart_head k x es i d.1 h

  pub value_at : (k : K) (es : List (K × V)) (i : ℕ) (e : K × V) → IsDistinct eq (keys_of es) → is_key_at (eq k) (slice_get es i) ≡ true → e ≡ get_or es i e → lookup (eq k) es ≡ Some e.1
  unfolding IsDistinct
  value_at k [] i e d h g = absurd (true≢false (sym h))
  value_at k (x ∷ es) zero e d h g = rw h (ap (λ (p : K × V). Some p.1) (sym g))
  value_at k (x ∷ es) (suc i) e d h g = rw (apart_head k x.0 es i d.0 h) (value_at k es i e d.1 h g)

  entry_at : (k : K) (es : List (K × V)) (i : ℕ) (e : K × V) → is_key_at (eq k) (slice_get es i) ≡ true → e ≡ get_or es i e → slice_get es i ≡ Some e
  entry_at k [] i e h g = absurd (true≢false (sym h))
  entry_at k (x ∷ es) zero e h g = ap Some (sym g)
  entry_at k (x ∷ es) (suc i) e h g = entry_at k es i e h g

  set-set_value : (k : K) (v : V) (es : List (K × V)) (i : ℕ) (e : K × V) → IsDistinct eq (keys_of es) → is_key_at (eq k) (slice_get es i) ≡ true → e ≡ get_or es i e → set es i (e.0, v) ≡ set_value (eq k) es v
  unfolding IsDistinct
  set-set_value k v [] i e d h g = absurd (true≢false (sym h))
  set-set_value k v (x ∷ es) zero e d h g = rw h (ap (λ (p : K × V). (p.0, v) ∷ es) g)
  set-set_value k v (x ∷ es) (suc i) e d h g = rw (apart_head k x.0 es i d.0 h) (ap (λ l. x ∷ l) (set-set_value k v es i e d.1 h g))

  pub insert_entry-set : (k : K) (v : V) (es : List (K × V)) (i : ℕ) (e : K × V) → IsDistinct eq (keys_of es) → is_key_at (eq k) (slice_get es i) ≡ true → e ≡ get_or es i e → set es i (e.0, v) ≡ insert_entry eq es k v
  insert_entry-set k v es i e d h g = rw (value_at k es i e d h g) (set-set_value k v es i e d h g)

  pub kept-set : (hash : K → ℕ) (k : K) (v : V) (es : List (K × V)) (has : ℕ → ℕ → Bool) (count i : ℕ) (e : K × V) → IsKept eq hash es has count → is_key_at (eq k) (slice_get es i) ≡ true → e ≡ get_or es i e → IsKept eq hash (set es i (e.0, v)) has count
  kept-set hash k v es has count i e is h g =
      let was : slice_get es i ≡ Some e = entry_at k es i e h g in
      record {
        distinct = rw (set-set_value k v es i e is.distinct h g, keys-set_value (eq k) es v) is.distinct;
        placed = λ j f q. ⊎_elim
            (λ (s : j ≡ i).
            let p : Some f ≡ Some (e.0, v) = sym q ∙ (ap (λ n. slice_get (set es i (e.0, v)) n) s ∙ slice_get-set_same es (e.0, v) i (slice_get_within es i e was)) in
            let same : f ≡ (e.0, v) = cc in
            ap (has (mixed (hash f.0))) s ∙ (ap (λ (x : K × V). has (mixed (hash x.0)) i) same ∙ is.placed i e was))
            (λ (s : j ≢ i). is.placed j f (sym (slice_get-set_other es (e.0, v) i j s) ∙ q))
            (cases_eq j i);
        counted = rw length-set is.counted;
        small = rw length-set is.small;
      }

  pub kept-push : (hash : K → ℕ) (k : K) (v : V) (es : List (K × V)) (has more : ℕ → ℕ → Bool) (count counted : ℕ) → IsKept eq hash es has count → lookup (eq k) es ≡ None → length es < 4194304 → counted ≡ count + 1 → ((q a : ℕ) → more q a ≡ (has q a || ((mixed (hash k) == q) && (count == a)))) → IsKept eq hash (es ++ (k, v) ∷ []) more counted
  kept-push hash k v es has more count counted is none room c grown = record {
    distinct = rw keys_of-push (IsDistinct-push o (keys_of es) k is.distinct (any_key-no (eq k) es none));
    placed = λ i e q. ⊎_elim
        (λ (s : i ≡ length es).
        let p : Some e ≡ Some (k, v) = sym q ∙ (ap (λ n. slice_get (es ++ (k, v) ∷ []) n) s ∙ slice_get-last es (k, v)) in
        let same : e ≡ (k, v) = cc in
        let at : count ≡ i = is.counted ∙ sym s in
        ap (λ (x : K × V). more (mixed (hash x.0)) i) same ∙ (grown (mixed (hash k)) i ∙ rw (eq-eqb (mixed (hash k)) (mixed (hash k)) refl, eq-eqb count i at) (or_true (has (mixed (hash k)) i))))
        (λ (s : i ≢ length es).
        let within : i < length es = omega (arith, slice_get_within (es ++ (k, v) ∷ []) i e q, length-append es ((k, v) ∷ [])) in
        grown (mixed (hash e.0)) i ∙ rw (is.placed i e (sym (slice_get-append es (k, v) i within) ∙ q)) refl)
        (cases_eq i (length es));
    counted = rw length-append (omega (arith, is.counted));
    small = rw length-append (omega arith);
  }

  same_lookup : (k q : K) (es : List (K × V)) → eq k q ≡ true → lookup (eq q) es ≡ lookup (eq k) es
  same_lookup k q [] t = refl
  same_lookup k q (e ∷ es) t = rw (sym (o.congr k q e.0 t), same_lookup k q es t) refl

  new_value : (a b : Bool) (v : V) (r s : Option V) → (a ≡ true → r ≡ None) → b ≡ a → s ≡ cond (is_some r) r (cond b (Some v) None) → s ≡ cond a (Some v) r
  new_value true b v None s n e h = h ∙ rw e refl
  new_value true b v (Some w) s n e h = let f = n refl in cc
  new_value false b v None s n e h = h ∙ rw e refl
  new_value false b v (Some w) s n e h = h

  inserted : (es : List (K × V)) (k : K) (v : V) (q : K) (r : Option V) → lookup (eq k) es ≡ r → lookup (eq q) (insert_entry eq es k v) ≡ cond (eq k q) (Some v) (lookup (eq q) es)
  inserted es k v q None h =
      rw h (new_value (eq k q) (eq q k) v (lookup (eq q) es) (lookup (eq q) (es ++ (k, v) ∷ [])) (λ t. same_lookup k q es t ∙ h) (o.symm q k) (lookup-push (eq q) es (k, v)))
  inserted es k v q (Some w) h =
      let some : IsSome (lookup (eq k) es) = rw h refl in
      rw h (lookup-set_value o (eq k) (λ x y t. o.congr k x y t) q v es some)

  -- the value of each key after an insert
  pub lookup-insert_entry : (es : List (K × V)) (k : K) (v : V) (q : K) → lookup (eq q) (insert_entry eq es k v) ≡ update eq (λ p. lookup (eq p) es) k (Some v) q
  lookup-insert_entry es k v q = inserted es k v q (lookup (eq k) es) refl

  head_apart : (x k : K) (es rest : List (K × V)) (v : V) → AllByRecursion (λ y. eq x y ≡ false) (keys_of (es ++ (k, v) ∷ rest)) → eq x k ≡ false
  head_apart x k [] rest v d = d.0
  head_apart x k (e ∷ es) rest v d = head_apart x k es rest v d.1

  earlier_absent : (es rest : List (K × V)) (k : K) (v : V) → IsDistinct eq (keys_of (es ++ (k, v) ∷ rest)) → lookup (eq k) es ≡ None
  unfolding IsDistinct
  earlier_absent [] rest k v d = refl
  earlier_absent (e ∷ es) rest k v d = rw (o.symm k e.0, head_apart e.0 k es rest v d.0) (earlier_absent es rest k v d.1)

  -- the next key of the other map is in neither the first map nor what was taken
  pub next_absent : (es others taken rest : List (K × V)) (k : K) (v : V) → taken ++ (k, v) ∷ rest ≡ others → IsApart eq es others → IsDistinct eq (keys_of others) → lookup (eq k) (es ++ taken) ≡ None
  next_absent es others taken rest k v e apart d =
      let at : slice_get others (length taken) ≡ Some (k, v) = ap (λ xs. slice_get xs (length taken)) (sym e) ∙ slice_get-middle taken (k, v) rest in
      let before : IsDistinct eq (keys_of (taken ++ (k, v) ∷ rest)) = subst (λ xs. IsDistinct eq (keys_of xs)) (sym e) d in
      lookup-append_none (eq k) es taken (apart (length taken) (k, v) at) (earlier_absent taken rest k v before)

  none_equal : (k : K) (maps : List (List (K × V))) → ((i : ℕ) (es : List (K × V)) → slice_get maps i ≡ Some es → (j : ℕ) (e : K × V) → slice_get es j ≡ Some e → eq k e.0 ≡ false) → lookup (eq k) (joined maps) ≡ None
  none_equal k [] h = refl
  none_equal k (es ∷ maps) h = lookup-append_none (eq k) es (joined maps) (lookup-no (eq k) es (λ j e q. h zero es refl j e q)) (none_equal k maps (λ i fs q. h (suc i) fs q))

  -- keys of different buckets are not equal
  pub buckets_apart : (bucket : K → ℕ) → ((x y : K) → eq x y ≡ true → bucket x ≡ bucket y) → (maps taken rest : List (List (K × V))) (es : List (K × V)) → taken ++ es ∷ rest ≡ maps → AreBuckets bucket maps → IsApart eq (joined taken) es
  buckets_apart bucket alike maps taken rest es e are j f q = none_equal f.0 taken (λ i fs p l g r. not_so (eq f.0 g.0) (λ t.
      let within : i < length taken = slice_get_within taken i fs p in
      let here : bucket f.0 ≡ length taken = are (length taken) es (ap (λ ms. slice_get ms (length taken)) (sym e) ∙ slice_get-middle taken es rest) j f q in
      let there : bucket g.0 ≡ i = are i fs (ap (λ ms. slice_get ms i) (sym e) ∙ (slice_get-left taken (es ∷ rest) i within ∙ p)) l g r in
      let same : bucket f.0 ≡ bucket g.0 = alike f.0 g.0 t in
      absurd (omega arith)))
