use Rattle.std.proofs.Common.{◌≡◌, ◌++◌, refl, Bool, true, false, List, ℕ, if◌then◌else◌, is_ok, IsUtf8}
use Rattle.std.specs.Str.{chars}
use Rattle.std.proofs.lemmas.Str.{IsUtf8-had, IsUtf8-append, chars-append}
use Rattle.par_laws.proofs.words.Words.push.Goals as goal

IsUtf8-pushed :
    (pushed : Bool) → (s t : List ℕ) → IsUtf8 s → IsUtf8 t →
    IsUtf8 (if pushed then s ++ t else s)
IsUtf8-pushed true s t u v = IsUtf8-append s t u v
IsUtf8-pushed false s t u v = u

chars-pushed :
    (pushed : Bool) → (s t : List ℕ) → IsUtf8 s →
    chars (if pushed then s ++ t else s) ≡ (if pushed then chars s ++ chars t else chars s)
chars-pushed true s t u = chars-append s t u
chars-pushed false s t u = refl

pub invariant_of-self : goal.invariant_of-self
invariant_of-self c =
    ∣ rw (c.push.ensures) (IsUtf8-pushed (is_ok c.push.result) _ _ (IsUtf8-had _ c.self.invariant) c.utf8.text) ∣₁

pub returns : goal.returns
returns c =
    rw (← c.self.view_is, c.push.ensures)
    (chars-pushed (is_ok c.push.result) _ _ (IsUtf8-had _ c.self.invariant))
