-- Guarded: folds of items that may fault.
use Rattle.std.specs.Prelude.{◌≡◌, ℕ, ◌^◌, ◌<◌, refl}
use Rattle.std.proofs.Common.{ap}
use Rattle.par_laws.specs.MonoidLaws.{wrapped_count-associative, wrapped_count-zero_first, wrapped_count-zero_second}
use Rattle.par_laws.specs.Wrapping.{wrapped_count}
use Rattle.par_laws.specs.declared.guard.Made.{Made}
use Rattle.par_laws.specs.declared.guard.Made.TheVariants as made
use Rattle.par_laws.specs.declared.guard.Guarded.{Guarded}
use Rattle.par_laws.specs.declared.guard.Guarded.TheVariants.{Fine, Fault}

-- f of the value, if there is one
abbrev pub made_map : {X Y : Type 0} → (X → Y) → Made X → Made Y
made_map f (made.Value value) = made.Value (f value)
made_map f (made.Fault kind) = made.Fault kind

-- f of the value, if there is one
abbrev pub guarded_map : {X Y : Type 0} → (X → Y) → Guarded X → Guarded Y
guarded_map f (Fine count value) = Fine count (f value)
guarded_map f (Fault count at kind) = Fault count at kind

-- how many items were folded
abbrev pub count_of : {X : Type 0} → Guarded X → ℕ
count_of (Fine count value) = count
count_of (Fault count at kind) = count

-- the fold of no item
abbrev pub guarded_unit : {X : Type 0} → X → Guarded X
guarded_unit unit = Fine 0 unit

-- the fold of one item
abbrev pub guarded_one : {X : Type 0} → Made X → Guarded X
guarded_one (made.Value value) = Fine 1 value
guarded_one (made.Fault kind) = Fault 1 0 kind

-- the fold of the first items and then the second ones: a first fault stays where it is, and a second one stands after
-- the first items
abbrev pub joined_guarded : {X : Type 0} → (X → X → X) → Guarded X → Guarded X → Guarded X
joined_guarded join (Fault count at kind) b = Fault (wrapped_count count (count_of b)) at kind
joined_guarded join (Fine count value) (Fault more at kind) = Fault (wrapped_count count more) (wrapped_count count at) kind
joined_guarded join (Fine count value) (Fine more second) = Fine (wrapped_count count more) (join value second)

-- each part is in its type's range, and the value is one of the monoid's
abbrev pub IsGuarded : {X : Type 0} → (X → Type 0) → Guarded X → Type 0
IsGuarded is_value (Fine count value) = (count < 2 ^ 64) × is_value value
IsGuarded is_value (Fault count at kind) = (count < 2 ^ 64) × (at < 2 ^ 64) × (kind < 2 ^ 8)

-- the laws

count_of-joined : {X : Type 0} (join : X → X → X) (a b : Guarded X) → count_of (joined_guarded join a b) ≡ wrapped_count (count_of a) (count_of b)
count_of-joined join (Fault count at kind) b = refl
count_of-joined join (Fine count value) (Fault more at kind) = refl
count_of-joined join (Fine count value) (Fine more second) = refl

module _ {X : Type 0} (join : X → X → X) (associative : (a b c : X) → join (join a b) c ≡ join a (join b c)) where
  pub joined_guarded-associative : (a b c : Guarded X) → joined_guarded join (joined_guarded join a b) c ≡ joined_guarded join a (joined_guarded join b c)
  joined_guarded-associative (Fault n at kind) b c = rw (count_of-joined join b c) (ap (λ k. Fault k at kind) (wrapped_count-associative n (count_of b) (count_of c)))
  joined_guarded-associative (Fine n v) (Fault m at kind) c = ap (λ k. Fault k (wrapped_count n at) kind) (wrapped_count-associative n m (count_of c))
  joined_guarded-associative (Fine n v) (Fine m w) (Fault l at kind) = λ i. Fault (wrapped_count-associative n m l i) (wrapped_count-associative n m at i) kind
  joined_guarded-associative (Fine n v) (Fine m w) (Fine l x) = λ i. Fine (wrapped_count-associative n m l i) (associative v w x i)

module _ {X : Type 0} (join : X → X → X) (unit : X) (is_value : X → Type 0) where
  pub joined_guarded-unit_first : ((a : X) → is_value a → join unit a ≡ a) → (a : Guarded X) → IsGuarded is_value a → joined_guarded join (guarded_unit unit) a ≡ a
  joined_guarded-unit_first first (Fine n v) known = λ i. Fine (wrapped_count-zero_first n known.0 i) (first v known.1 i)
  joined_guarded-unit_first first (Fault n at kind) known = λ i. Fault (wrapped_count-zero_first n known.0 i) (wrapped_count-zero_first at known.1 i) kind

  pub joined_guarded-unit_second : ((a : X) → is_value a → join a unit ≡ a) → (a : Guarded X) → IsGuarded is_value a → joined_guarded join a (guarded_unit unit) ≡ a
  joined_guarded-unit_second second (Fine n v) known = λ i. Fine (wrapped_count-zero_second n known.0 i) (second v known.1 i)
  joined_guarded-unit_second second (Fault n at kind) known = ap (λ k. Fault k at kind) (wrapped_count-zero_second n known.0)
