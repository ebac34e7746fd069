-- Lemmas on the map and the groups of pairs that were copied chunk by chunk.
use Rattle.std.proofs.Common.{◌≡◌, ◌+◌, ◌≤◌, Bool, List, [], ◌∷◌, ◌++◌, length, map, get_or, refl, ap, sym, ◌∙◌, arith, subst, append-nil, append_assoc, length-append}
use Rattle.std.specs.Global.{Vec}
use Rattle.std.specs.List.{AllByRecursion, IsDistinct}
use Rattle.std.specs.Map.{lookup, keys_of}
use Rattle.std.specs.Option.{option_map}
use Rattle.std.specs.Cmp.{IsEquivalence}
use Rattle.std.proofs.lemmas.List.{map-append, length-map}
use Rattle.std.proofs.lemmas.Map.Made.{lookup-map_values}
use Rattle.par_index.specs.Entries.{groups_of, insert_entry, push_to_group}
use Rattle.par_combiner.specs.Chunks.{items_of}
use Rattle.par_flat.specs.Keys.{insert_key, insert_keys}
use Rattle.par_flat.proofs.Members.{keys_of-insert_entry, length-insert_keys, length-keys_of}
use Rattle.par_flat.proofs.Unions.{all-insert_keys, distinct-inserted}
use Rattle.par_buckets.specs.Values.{values_with, last_item, some_items, insert_entries, push_to_groups, IsMapOf, IsGroupsOf}
use Rattle.par_buckets.proofs.Values.{or-none, last-map, grown-none, map-some, map-twice, values-shown, lookup-insert_entries, lookup-push_to_groups}

module _ {X Y : Type 0} (see : X → Y) where
  -- the items so far and a copy of the next chunk
  pub chunk_more : (xs copy : List X) (chunk : Vec X) (rest all : List (Vec X)) → map see xs ++ map see (items_of (chunk ∷ rest)) ≡ map see (items_of all) → map see copy ≡ map see chunk.items → map see (xs ++ copy) ++ map see (items_of rest) ≡ map see (items_of all)
  chunk_more xs copy chunk rest all e c =
      ap (λ ys. ys ++ map see (items_of rest)) (map-append see xs copy ∙ ap (λ ys. map see xs ++ ys) c)
      ∙ (append_assoc (map see xs) (map see chunk.items) (map see (items_of rest))
      ∙ (ap (λ ys. map see xs ++ ys) (sym (map-append see chunk.items (items_of rest))) ∙ e))

  -- they are no more than there are in all
  pub chunk_room : (xs copy : List X) (chunk : Vec X) (rest all : List (Vec X)) → map see xs ++ map see (items_of (chunk ∷ rest)) ≡ map see (items_of all) → map see copy ≡ map see chunk.items → length xs + length copy ≤ length (items_of all)
  chunk_room xs copy chunk rest all e c = omega (arith, ap length (chunk_more xs copy chunk rest all e c), length-append (map see (xs ++ copy)) (map see (items_of rest)), length-map (xs ++ copy) see, length-append xs copy, length-map (items_of all) see)

  -- after the last chunk
  pub chunk_last : (xs : List X) (rest all : List (Vec X)) → rest ≡ [] → map see xs ++ map see (items_of rest) ≡ map see (items_of all) → map see xs ≡ map see (items_of all)
  chunk_last xs rest all n e = sym (append-nil (map see xs)) ∙ (ap (λ chunks. map see xs ++ map see (items_of chunks)) (sym n) ∙ e)

  pub same_length : (xs ys : List X) → map see xs ≡ map see ys → length xs ≡ length ys
  same_length xs ys e = omega (arith, ap length e, length-map xs see, length-map ys see)

module _ {K V : Type 0} (eq : K → K → Bool) where
  pub insert_entries-append : (es ps qs : List (K × V)) → insert_entries eq es (ps ++ qs) ≡ insert_entries eq (insert_entries eq es ps) qs
  insert_entries-append es [] qs = refl
  insert_entries-append es (p ∷ ps) qs = insert_entries-append (insert_entry eq es p.0 p.1) ps qs

  pub push_to_groups-append : (gs : List (K × List V)) (ps qs : List (K × V)) → push_to_groups eq gs (ps ++ qs) ≡ push_to_groups eq (push_to_groups eq gs ps) qs
  push_to_groups-append gs [] qs = refl
  push_to_groups-append gs (p ∷ ps) qs = push_to_groups-append (push_to_group eq gs p.0 p.1) ps qs

  pub keys_of-insert_entries : (es ps : List (K × V)) → keys_of (insert_entries eq es ps) ≡ insert_keys eq (keys_of es) (keys_of ps)
  keys_of-insert_entries es [] = refl
  keys_of-insert_entries es (p ∷ ps) = keys_of-insert_entries (insert_entry eq es p.0 p.1) ps ∙ ap (λ ks. insert_keys eq ks (keys_of ps)) (keys_of-insert_entry eq es p.0 p.1)

  keys_of-push_to_group : (gs : List (K × List V)) (k : K) (v : V) → keys_of (push_to_group eq gs k v) ≡ insert_key eq (keys_of gs) k
  keys_of-push_to_group gs k v = keys_of-insert_entry eq gs k _

  keys_of-push_to_groups : (gs : List (K × List V)) (ps : List (K × V)) → keys_of (push_to_groups eq gs ps) ≡ insert_keys eq (keys_of gs) (keys_of ps)
  keys_of-push_to_groups gs [] = refl
  keys_of-push_to_groups gs (p ∷ ps) = keys_of-push_to_groups (push_to_group eq gs p.0 p.1) ps ∙ ap (λ ks. insert_keys eq ks (keys_of ps)) (keys_of-push_to_group gs p.0 p.1)

keys_of-groups_of : {K V : Type 0} (es : List (K × Vec V)) → keys_of (groups_of es) ≡ keys_of es
keys_of-groups_of [] = refl
keys_of-groups_of (e ∷ es) = ap (λ ks. e.0 ∷ ks) (keys_of-groups_of es)

pub keys_of_groups : {K V : Type 0} (eq : K → K → Bool) (out : List (K × Vec V)) (ps : List (K × V)) → groups_of out ≡ push_to_groups eq [] ps → keys_of out ≡ insert_keys eq [] (keys_of ps)
keys_of_groups eq out ps e = sym (keys_of-groups_of out) ∙ (ap keys_of e ∙ keys_of-push_to_groups eq [] ps)

-- no more keys than pairs
pub few_keys : {K V X : Type 0} (eq : K → K → Bool) (out : List (K × X)) (ps : List (K × V)) → keys_of out ≡ insert_keys eq [] (keys_of ps) → length out ≤ length ps
few_keys eq out ps e = omega (arith, ap length e, length-insert_keys eq [] (keys_of ps), length-keys_of out, length-keys_of ps)

abbrev rest_of : {X : Type 0} → List X → List X
rest_of [] = []
rest_of (x ∷ xs) = xs

module _ {K V S W : Type 0} (seek : K → S) (see : V → W) where
  -- what holds of the keys as they are seen holds of those of the copies
  keys-alike : (P : S → Type 0) (ps qs : List (K × V)) → map {B = S × W} (λ p. (seek p.0, see p.1)) ps ≡ map (λ p. (seek p.0, see p.1)) qs → AllByRecursion (λ k. P (seek k)) (keys_of qs) → AllByRecursion (λ k. P (seek k)) (keys_of ps)
  keys-alike P [] qs e a = tt
  keys-alike P (p ∷ ps) [] e a = absurd (omega (arith, ap length e))
  keys-alike P (p ∷ ps) (q ∷ qs) e a =
      let same : seek p.0 ≡ seek q.0 = ap (λ (ys : List (S × W)). (get_or ys 0 (seek p.0, see p.1)).0) e in
      (subst P (sym same) a.0, keys-alike P ps qs (ap rest_of e) a.1)

  pub keys-copied : {X : Type 0} (eq : K → K → Bool) (P : S → Type 0) (out : List (K × X)) (ps qs : List (K × V)) → keys_of out ≡ insert_keys eq [] (keys_of ps) → map {B = S × W} (λ p. (seek p.0, see p.1)) ps ≡ map (λ p. (seek p.0, see p.1)) qs → AllByRecursion (λ k. P (seek k)) (keys_of qs) → AllByRecursion (λ k. P (seek k)) (keys_of out)
  keys-copied eq P out ps qs e s a = subst (AllByRecursion (λ k. P (seek k))) (sym e) (all-insert_keys (λ k. P (seek k)) eq [] (keys_of ps) tt (keys-alike P ps qs s a))

module _ {K V S W : Type 0} (eq : K → K → Bool) (o : IsEquivalence eq) (same : S → S → Bool) (seek : K → S) (see : V → W) (told : (x y : K) → eq x y ≡ same (seek x) (seek y)) (ps : List (K × V)) (xs : List (S × W)) (h : map (λ p. (seek p.0, see p.1)) ps ≡ xs) where
  pub is_map_of_pairs : (out : List (K × V)) → out ≡ insert_entries eq [] ps → IsMapOf eq same seek see out xs
  is_map_of_pairs out e = record {
    distinct = subst (IsDistinct eq) (sym (ap keys_of e ∙ keys_of-insert_entries eq [] ps)) (distinct-inserted eq o (keys_of ps));
    last = λ k.
        ap (option_map see) (ap (lookup (eq k)) e ∙ (lookup-insert_entries eq o [] ps k ∙ or-none (last_item (values_with (eq k) ps))))
        ∙ (last-map see (values_with (eq k) ps)
        ∙ (ap last_item (values-shown eq same seek see told k ps)
        ∙ ap (λ ys. last_item (values_with (same (seek k)) ys)) h));
  }

  pub is_groups_of_pairs : (out : List (K × Vec V)) → groups_of out ≡ push_to_groups eq [] ps → IsGroupsOf eq same seek see out xs
  is_groups_of_pairs out e = record {
    distinct = subst (IsDistinct eq) (sym (keys_of_groups eq out ps e)) (distinct-inserted eq o (keys_of ps));
    values = λ k.
        map-twice (λ (u : Vec V). u.items) (map see) (lookup (eq k) out)
        ∙ (ap (option_map (map see)) (sym (lookup-map_values (λ (u : Vec V). u.items) (eq k) out) ∙ (ap (lookup (eq k)) e ∙ (lookup-push_to_groups eq o [] ps k ∙ grown-none (values_with (eq k) ps))))
        ∙ (map-some see (values_with (eq k) ps)
        ∙ (ap some_items (values-shown eq same seek see told k ps)
        ∙ ap (λ ys. some_items (values_with (same (seek k)) ys)) h)));
  }
