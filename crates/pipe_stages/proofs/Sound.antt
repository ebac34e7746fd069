-- What a sound step promises of its parts.
use Rattle.std.proofs.Common.{◌≡◌, ◌≢◌, ◌&&◌, not, true, false, Bool, ℕ, ℤ, pos, List, [], length, refl, ap, sym, ◌∙◌}
use Rattle.std.specs.Prelude.{◌==◌, encode_utf8_all}
use Rattle.std.proofs.lemmas.Bool.{false≢true}
use Rattle.pipe_checks.specs.Kinds.{is_zero}

pub first_holds : (a b : Bool) → (a && b) ≡ true → a ≡ true
first_holds true b h = refl
first_holds false b h = absurd (false≢true h)

pub second_holds : (a b : Bool) → (a && b) ≡ true → b ≡ true
second_holds true b h = h
second_holds false b h = absurd (false≢true h)

-- a step of a range that isn't the int 0
pub moves_on : (c : ℤ) → not (is_zero c) ≡ true → c ≢ pos 0
moves_on c h e = false≢true (sym (ap (λ z. not (is_zero z)) e) ∙ h)

-- a separator that has bytes
pub has_some : (sep : List ℕ) → not (length (encode_utf8_all sep) == 0) ≡ true → sep ≢ []
has_some sep h e = false≢true (sym (ap (λ s. not (length (encode_utf8_all s) == 0)) e) ∙ h)
