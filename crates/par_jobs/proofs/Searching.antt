-- A search on its way: none of the items that it looked through passes, and the first fault of them is noted.
use Rattle.std.proofs.Common.{◌≡◌, ℕ, ◌+◌, ◌≤◌, ◌<◌, false, List, ◌∷◌, length, map, get_or, Option, Some, None, refl, ap, sym, ◌∙◌, arith}
use Rattle.std.proofs.lemmas.Bool.{false≢true}
use Rattle.std.proofs.lemmas.List.{get_or-map, length-map}
use Rattle.par_laws.specs.declared.test.Verdict.{Verdict}
use Rattle.par_laws.specs.declared.test.Verdict.TheVariants.{Pass, Fail, Fault}
use Rattle.par_laws.specs.declared.tried.FaultAt.{FaultAt}
use Rattle.par_laws.specs.Marks.{Clear}
use Rattle.par_task.specs.Marking.{low_flag, abort_flag, marks_of, is_mark, passes, halts}
use Rattle.par_task.specs.Parts.{Sound}
use Rattle.par_task.proofs.Stops.{clear_join}
use Rattle.par_jobs.specs.declared.few.Stage.{Stage}
use Rattle.par_jobs.specs.Steps.{noted}
use Rattle.par_jobs.specs.Merges.{sound_join, fault_left}
use Rattle.par_jobs.specs.Few.{IsScanning, IsFew, left_few}
use Rattle.par_jobs.proofs.Faults.{IsFaultSoFar, fault_step}
use Rattle.par_jobs.proofs.Scanning.{scan_next, verdict_at, mark_at}

no_pass : (v : Verdict) → halts v ≡ false → passes v ≡ false
no_pass Pass e = e
no_pass Fail e = refl
no_pass (Fault k) e = refl

no_fault : (v : Verdict) (kind : ℕ) → halts v ≡ false → v ≡ Fault kind → ⊥
no_fault v kind e f = false≢true (sym e ∙ ap halts f)

module _ (vs : List Verdict) (lo hi : ℕ) (within : hi ≤ length vs) (clear : Clear (marks_of low_flag vs) lo hi) where
  fails_at : (k : ℕ) → lo ≤ k → k < hi → halts (get_or vs k Fail) ≡ false
  fails_at k a b = let h : k < length vs = omega (arith, within, b) in sym (get_or-map (is_mark low_flag) vs k Fail false h) ∙ clear k a b

  -- items that fail don't pass
  unmarked_pass : Clear (marks_of abort_flag vs) lo hi
  unmarked_pass k a b = let h : k < length vs = omega (arith, within, b) in get_or-map (is_mark abort_flag) vs k Fail false h ∙ no_pass (get_or vs k Fail) (fails_at k a b)

  -- and don't fault
  unmarked_fault : Sound vs lo hi
  unmarked_fault k a b kind f = no_fault (get_or vs k Fail) kind (fails_at k a b) f

-- the first fault so far is the same where no item more faults
fault_on : (vs : List Verdict) (lo mid hi : ℕ) (fault : Option FaultAt) → mid ≤ hi → IsFaultSoFar vs lo mid fault → Sound vs mid hi → IsFaultSoFar vs lo hi fault
fault_on vs lo mid hi None h s t = sound_join vs lo mid hi s t
fault_on vs lo mid hi (Some f) h s t = fault_left vs lo mid hi f.at f.kind h s

-- the items from lo to at were looked through and none passes; the first fault of them is known
pub record IsSearching {X : Type 0} (source : List X) (verdicts : List Verdict) (lo hi at : ℕ) (items : List X) (fault : Option FaultAt) : Type 0 where
  pub scan : IsScanning source (marks_of abort_flag verdicts) lo hi at items
  pub first : IsFaultSoFar verdicts lo at fault

module _ {X : Type 0} (V : X → Verdict) (source : List X) (lo hi : ℕ) (fault : Option FaultAt) where
  -- after a few items more
  pub search_few :
      {I : Type 0} (shown : I → X) (at : ℕ) (items : List X) (to : ℕ) (stage : Stage I) (rest : List X) (tested : ℕ) →
      IsSearching source (map V source) lo hi at items fault → IsFew shown V source at items to stage rest tested → IsSearching source (map V source) lo hi to (left_few shown stage rest) fault
  search_few shown at items to stage rest tested p q =
      let within : to ≤ length (map V source) = omega (arith, q.scan.ends, p.scan.span.within, length-map source V) in
      record {
        scan = record {
          span = q.scan.span;
          ends = omega (arith, p.scan.ends, q.scan.ends);
          from = omega (arith, p.scan.from, q.scan.from);
          clear = clear_join (marks_of abort_flag (map V source)) lo at to p.scan.clear (unmarked_pass (map V source) at to within q.scan.clear);
        };
        first = fault_on (map V source) lo at to fault q.scan.from p.first (unmarked_fault (map V source) at to within q.scan.clear);
      }

  -- after an item that doesn't pass
  pub search_met :
      (at : ℕ) (x : X) (rest : List X) (v : Verdict) → v ≡ V x → passes v ≡ false →
      IsSearching source (map V source) lo hi at (x ∷ rest) fault → IsSearching source (map V source) lo hi (at + 1) rest (noted fault v at)
  search_met at x rest v e u p = record {
    scan = scan_next source _ lo hi at x rest p.scan (mark_at V source (map V source) refl abort_flag at x rest p.scan.span ∙ (ap passes (sym e) ∙ u));
    first = fault_step (map V source) lo at fault v p.scan.from (verdict_at V source (map V source) refl at x rest p.scan.span ∙ sym e) p.first;
  }
