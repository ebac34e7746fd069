-- A finite map as the list of its entries, in the order in which their keys came.
use Rattle.std.specs.Prelude.{◌≡◌, ℕ, ◌≤◌, Bool, true, false, cond, List, [], ◌∷◌, ◌++◌, length, map, slice_get, Option, Some, None, is_some}
use Rattle.std.specs.List.{IsDistinct}
use Rattle.std.specs.Map.{lookup, set_value, keys_of}
use Rattle.std.specs.Global.{Vec}
use Rattle.std.specs.Option.{unwrap_or}
use Rattle.par_laws.specs.Hash.{mixed}

-- the entries with this value for this key: in the place of the old value, or at the end where the key is new
abbrev pub insert_entry : {K V : Type 0} → (K → K → Bool) → List (K × V) → K → V → List (K × V)
insert_entry eq es k v = cond (is_some (lookup (eq k) es)) (set_value (eq k) es v) (es ++ (k, v) ∷ [])

-- the entries of vectors, each seen as the list of its values
abbrev pub groups_of : {K V : Type 0} → List (K × Vec V) → List (K × List V)
groups_of es = map (λ e. (e.0, e.1.items)) es

-- the groups with one more value: at the end of the key's group, or alone in a group at the end where the key is new
abbrev pub push_to_group : {K V : Type 0} → (K → K → Bool) → List (K × List V) → K → V → List (K × List V)
push_to_group eq gs k v = insert_entry eq gs k (unwrap_or (lookup (eq k) gs) [] ++ v ∷ [])

-- there is an entry, and its key passes
abbrev pub is_key_at : {K V : Type 0} → (K → Bool) → Option (K × V) → Bool
is_key_at test None = false
is_key_at test (Some e) = test e.0

-- the entries of each of the maps, one map after the other
abbrev pub joined : {X : Type 0} → List (List X) → List X
joined [] = []
joined (es ∷ maps) = es ++ joined maps

-- every key of map i is of bucket i
abbrev pub AreBuckets : {K V : Type 0} → (K → ℕ) → List (List (K × V)) → Type 0
AreBuckets {K} {V} bucket maps = (i : ℕ) (es : List (K × V)) → slice_get maps i ≡ Some es → (j : ℕ) (e : K × V) → slice_get es j ≡ Some e → bucket e.0 ≡ i

-- no key of the second map is equal to a key of the first
abbrev pub IsApart : {K V : Type 0} → (K → K → Bool) → List (K × V) → List (K × V) → Type 0
IsApart {K} {V} eq es others = (i : ℕ) (e : K × V) → slice_get others i ≡ Some e → lookup (eq e.0) es ≡ None

-- no two keys are equal, and each entry's place is kept under its hash
pub record IsKept {K V : Type 0} (eq : K → K → Bool) (hash : K → ℕ) (es : List (K × V)) (has : ℕ → ℕ → Bool) (count : ℕ) : Type 0 where
  pub distinct : IsDistinct eq (keys_of es)
  pub placed : (i : ℕ) (e : K × V) → slice_get es i ≡ Some e → has (mixed (hash e.0)) i ≡ true
  pub counted : count ≡ length es
  pub small : length es ≤ 4194304
