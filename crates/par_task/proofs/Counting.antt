-- How many items one thread tests, leaf by leaf.
use Rattle.std.proofs.Common.{◌≡◌, ℕ, zero, suc, ◌+◌, ◌≤◌, ◌<◌, ◌⊎◌, inl, inr, min, ◌-◌, sum_by, Bool, true, false, List, [], ◌∷◌, length, get_or, refl, ap, sym, ◌∙◌, subst, arith, rules}
use Rattle.std.proofs.lemmas.Bool.{cases_lt}
use Rattle.par_laws.specs.Marks.{IsMarked, Clear, stop}
use Rattle.par_signal.specs.Seen.{Seen}
use Rattle.par_signal.specs.Values.{IsSet}
use Rattle.par_task.specs.Marking.{Kind, low_flag, abort_flag, high_flag, no_flag, no_test}
use Rattle.par_task.specs.Leaves.{EndsMarked, IsScan, IsSkipOrScan, IsLowLeaf, IsAbortLeaf, IsHighLeaf, IsLawful, AnyMarked}
use Rattle.par_task.specs.Seats.{IsLater, Heeds, HasFound, IsGreatest, IsFresh, IsFull, IsFullAlone, IsLeafOf}
use Rattle.par_task.specs.Audits.{Learns}
use Rattle.par_task.specs.Alone.{TestsInAll}
use Rattle.par_task.specs.declared.audit.Leaf.{Leaf}
use Rattle.par_task.proofs.Stops.{bool_cases, marked_below, stop_at, stop_none, clear_join, clear_one}

-- a leaf tests no more than its items
pub tested_within : (kind : Kind) (marks : List Bool) (lo hi flag c : ℕ) → lo ≤ hi → IsLawful kind marks lo hi flag c → lo + c ≤ hi
tested_within low_flag marks lo hi flag c h l =
    elim (cases_lt lo flag) [ inl lt ↦ (l.tests.scanned lt).within | inr ge ↦ let z = l.tests.skipped ge in omega (arith, z) ]
tested_within abort_flag marks lo hi flag c h l =
    elim (cases_lt lo flag) [ inl lt ↦ (l.tests.scanned lt).within | inr ge ↦ let z = l.tests.skipped ge in omega (arith, z) ]
tested_within high_flag marks lo hi flag c h l =
    elim (cases_lt flag hi) [ inl lt ↦ let e = l.scanned lt in omega (arith, e) | inr ge ↦ let z = l.skipped ge in omega (arith, z) ]
tested_within no_flag marks lo hi flag c h l = omega (arith, l.1)
tested_within no_test marks lo hi flag c h l = omega (arith, l.1)

-- what a seat knows of a leaf it knows later too
pub found_later : (kind : Kind) (marks : List Bool) (lo c : ℕ) (old new : Seen) → IsLater old new → HasFound kind marks lo c old → HasFound kind marks lo c new
found_later low_flag marks lo c old new l f = λ s e g m. let k = f s e g m in omega (arith, k, l.low)
found_later abort_flag marks lo c old new l f = λ m. l.abort (f m)
found_later high_flag marks lo c old new l f = λ p i g. let k = f p i g in omega (arith, k, l.high)
found_later no_flag marks lo c old new l f = tt
found_later no_test marks lo c old new l f = tt

-- and a later leaf heeds it
pub learns : (kind : Kind) (marks : List Bool) (a b : Leaf) (seat : Seen) → HasFound kind marks a.lo a.tested seat → Heeds kind seat b.flag → Learns kind marks a b
learns low_flag marks a b seat f g = λ s e h m. let k = f s e h m in omega (arith, k, g)
learns abort_flag marks a b seat f g = λ s e h m. let k = g (f (s, e, h, m)) in omega (arith, k)
learns high_flag marks a b seat f g = λ p i h. let k = f p i h in omega (arith, k, g)
learns no_flag marks a b seat f g = tt
learns no_test marks a b seat f g = tt

-- nothing marked was met in what was done, all of which was tested
pub record IsUnfound (marks : List Bool) (hi total : ℕ) (seat : Seen) : Type 0 where
  pub clear : Clear marks 0 hi
  pub total_is : total ≡ hi
  pub fresh : IsFresh seat

-- the first marked one was met
pub record IsMet (marks : List Bool) (hi total : ℕ) (known : Type 0) : Type 0 where
  pub before : stop marks < hi
  pub total_is : total ≡ stop marks + 1
  pub known_is : known

abbrev pub IsCounted : Kind → List Bool → ℕ → ℕ → Seen → Type 0
IsCounted low_flag marks hi total seat = IsUnfound marks hi total seat ⊎ IsMet marks hi total (seat.low ≤ stop marks)
IsCounted abort_flag marks hi total seat = IsUnfound marks hi total seat ⊎ IsMet marks hi total (IsSet seat.abort)
IsCounted high_flag marks hi total seat = Unit {0}
IsCounted no_flag marks hi total seat = Unit {0}
IsCounted no_test marks hi total seat = Unit {0}

module _ (marks : List Bool) (lo hi flag c : ℕ) (excuse : Type 0) (clear : Clear marks 0 lo) (tests : IsSkipOrScan marks lo hi flag c excuse) where
  -- all but the last of the tested items are clear
  pub clear_but_last : (s : ℕ) → lo ≤ s → s + 1 ≡ lo + c → Clear marks 0 s
  clear_but_last s h e =
      clear_join marks 0 lo s clear
      (λ k a b. elim (cases_lt lo flag) [
        | inl lt ↦ (tests.scanned lt).clear k a (omega arith)
        | inr ge ↦ let z = tests.skipped ge in absurd (omega (arith, z))
      ])

  pub met_here : (known : Type 0) (s : ℕ) → lo ≤ s → s + 1 ≡ lo + c → lo + c ≤ hi → IsMarked marks s → (stop marks ≡ s → known) → IsMet marks hi (lo + c) known
  met_here known s h e w m k =
      let at = stop_at marks s (clear_but_last s h e) m in
      record { before = omega (arith, at); total_is = omega (arith, at); known_is = k at }

  pub whole_span :
      (known : Type 0) (new : Seen) → lo + c ≡ hi → (Clear marks lo hi → IsFresh new) → ((s : ℕ) → s + 1 ≡ lo + c → lo ≤ s → IsMarked marks s → stop marks ≡ s → known) →
      IsUnfound marks hi (lo + c) new ⊎ IsMet marks hi (lo + c) known
  whole_span known new e stays k =
      elim (cases_lt lo hi) [
        | inr ge ↦
            let z : hi ≡ lo = omega arith in
            inl (record { clear = subst (λ v. Clear marks 0 v) (sym z) clear; total_is = e; fresh = stays (λ j a b. absurd (omega arith)) })
        | inl lt ↦
            let s : ℕ = hi - 1 in
            let h : lo ≤ s = omega arith in
            let f : s + 1 ≡ lo + c = omega arith in
            let g : s + 1 ≡ hi = omega arith in
            elim (bool_cases (get_or marks s false)) [
              | inl m ↦ inr (met_here known s h f (omega arith) m (λ at. k s f h m at))
              | inr u ↦
                  let all : Clear marks 0 hi = clear_join marks 0 s hi (clear_but_last s h f) (subst (λ v. Clear marks s v) g (clear_one marks s u)) in
                  inl (record { clear = all; total_is = e; fresh = stays (λ j a b. all j (omega arith) b) })
            ]
      ]

  pub counted_here :
      (known : Type 0) (new : Seen) → lo + c ≤ hi → IsFull marks lo hi c new → ((s : ℕ) → s + 1 ≡ lo + c → lo ≤ s → IsMarked marks s → stop marks ≡ s → known) →
      IsUnfound marks hi (lo + c) new ⊎ IsMet marks hi (lo + c) known
  counted_here known new w full k =
      elim full.ended [
        | inr m ↦ inr (met_here known m.0 m.2 m.1 w m.3 (λ at. k m.0 m.1 m.2 m.3 at))
        | inl e ↦ whole_span known new e full.stays k
      ]

-- one leaf more
pub counted_next :
    (kind : Kind) (marks : List Bool) (lo hi flag c total : ℕ) (old new : Seen) →
    lo ≤ hi → old.alone ≡ true → IsLater old new → IsLeafOf kind marks lo hi old new flag c → IsCounted kind marks lo total old → IsCounted kind marks hi (total + c) new
counted_next low_flag marks lo hi flag c total old new h alone later leaf (inl u) =
    let w = tested_within low_flag marks lo hi flag c h leaf.lawful in
    rw u.total_is (counted_here marks lo hi flag c (stop marks ≤ lo + c) u.clear leaf.lawful.tests (new.low ≤ stop marks) new w (leaf.full alone u.fresh)
    (λ s e g m at. let k = leaf.found s e g m in omega (arith, k, at)))
counted_next low_flag marks lo hi flag c total old new h alone later leaf (inr m) =
    let z : c ≡ 0 = leaf.lawful.tests.skipped (omega (arith, leaf.heeds, m.known_is, m.before)) in
    inr (record { before = omega (arith, m.before); total_is = omega (arith, m.total_is, z); known_is = omega (arith, later.low, m.known_is) })
counted_next abort_flag marks lo hi flag c total old new h alone later leaf (inl u) =
    let w = tested_within abort_flag marks lo hi flag c h leaf.lawful in
    rw u.total_is (counted_here marks lo hi flag c (AnyMarked marks) u.clear leaf.lawful.tests (IsSet new.abort) new w (leaf.full alone u.fresh)
    (λ s e g m at. leaf.found (s, e, g, m)))
counted_next abort_flag marks lo hi flag c total old new h alone later leaf (inr m) =
    let f = leaf.heeds m.known_is in
    let z : c ≡ 0 = leaf.lawful.tests.skipped (omega (arith, f)) in
    inr (record { before = omega (arith, m.before); total_is = omega (arith, m.total_is, z); known_is = later.abort m.known_is })
counted_next high_flag marks lo hi flag c total old new h alone later leaf t = tt
counted_next no_flag marks lo hi flag c total old new h alone later leaf t = tt
counted_next no_test marks lo hi flag c total old new h alone later leaf t = tt

pub counted_none : (kind : Kind) (marks : List Bool) (seat : Seen) → IsFresh seat → IsCounted kind marks 0 0 seat
counted_none low_flag marks seat f = inl (record { clear = λ k a b. absurd (omega arith); total_is = refl; fresh = f })
counted_none abort_flag marks seat f = inl (record { clear = λ k a b. absurd (omega arith); total_is = refl; fresh = f })
counted_none high_flag marks seat f = tt
counted_none no_flag marks seat f = tt
counted_none no_test marks seat f = tt

in_all : (marks : List Bool) (n total : ℕ) (seat : Seen) (known : Type 0) → n ≡ length marks → IsUnfound marks n total seat ⊎ IsMet marks n total known → total ≡ min (length marks) (stop marks + 1)
in_all marks n total seat known e (inl u) = let s = stop_none marks (subst (λ v. Clear marks 0 v) e u.clear) in omega (arith, s, u.total_is)
in_all marks n total seat known e (inr m) = omega (arith, m.before, m.total_is)

pub counted_all : (kind : Kind) (marks : List Bool) (n : ℕ) (seat : Seen) (leaves : List Leaf) → n ≡ length marks → IsCounted kind marks n (sum_by (λ l. l.tested) leaves) seat → TestsInAll kind marks leaves
counted_all low_flag marks n seat leaves e t = in_all marks n _ seat _ e t
counted_all abort_flag marks n seat leaves e t = in_all marks n _ seat _ e t
counted_all high_flag marks n seat leaves e t = tt
counted_all no_flag marks n seat leaves e t = tt
counted_all no_test marks n seat leaves e t = tt
