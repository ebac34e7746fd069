-- Probing: what contracts see of a probe.
use Rattle.std.specs.Prelude.{ℕ, refl}
use Rattle.std.specs.Coded.{Coded, code_by, coded×, coded_ℕ}

-- the test that a probe asks, and how many tests it made
pub record Probing (P : Type 0) : Type 0 where
  pub inner : P
  pub made : ℕ

-- a probe is stored as the pair of its parts
abbrev pub probing_code : {P : Type 0} → Coded P → Coded (Probing P)
probing_code {P} code =
    code_by (P × ℕ) (coded× code coded_ℕ) (λ p. (p.inner, p.made)) (λ p. record { inner = p.0; made = p.1 }) (λ _. refl)
