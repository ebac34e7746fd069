-- What contracts see of the marks of a test over a splitter.
use Rattle.std.specs.Prelude.{◌≡◌, Bool, true, false, refl}
use Rattle.std.specs.Coded.{Coded, code_by, coded×, coded_bool}
use Rattle.par_laws.specs.declared.test.Verdict.{Verdict}
use Rattle.par_task.specs.Marking.{passes, halts}

-- a splitter, a test, and whether a fault is a mark
pub record MarkedBy (S P : Type 0) : Type 0 where
  pub split : S
  pub inner : P
  pub faults : Bool

abbrev pub marked_code : {S P : Type 0} → Coded S → Coded P → Coded (MarkedBy S P)
marked_code {S} {P} s p =
    code_by (S × (P × Bool)) (coded× s (coded× p coded_bool)) (λ m. (m.split, (m.inner, m.faults))) (λ q. record { split = q.0; inner = q.1.0; faults = q.1.1 }) (λ _. refl)

-- Pass is a mark, and where faults count a Fault too
abbrev pub marks_by : Bool → Verdict → Bool
marks_by true v = halts v
marks_by false v = passes v
