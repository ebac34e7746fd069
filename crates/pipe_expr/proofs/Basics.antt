-- Small facts.
use Rattle.std.proofs.Common.{◌≡◌, refl, Option, Some, None}
use Rattle.pipe_expr.specs.Reading.{◌>>=◌}

pub bind_some : {A B : Type 0} (r : Option A) (f : A → Option B) (y : B) → (r >>= f) ≡ Some y → (x : A) × (r ≡ Some x) × (f x ≡ Some y)
bind_some None f y h = cc h
bind_some (Some x) f y h = (x, refl, h)

pub some_inj : {A : Type 0} (x y : A) → Some x ≡ Some y → x ≡ y
some_inj x y h = cc h
