-- A run over a whole list: what is known of its part is what its function answers.
use Rattle.std.proofs.Common.{◌≡◌, ℕ, ◌-◌, ◌≤◌, inl, inr, min, Bool, true, false, List, [], ◌∷◌, length, map, take, drop, Result, Ok, Err, IfOk, refl, ap, ◌∙◌, subst, arith}
use Rattle.std.proofs.lemmas.Bool.{cases_lt}
use Rattle.std.proofs.lemmas.List.{length-map, take_all, length-drop}
use Rattle.par_laws.specs.Marks.{stop, last}
use Rattle.par_laws.specs.declared.test.Verdict.{Verdict}
use Rattle.par_task.specs.declared.audit.Leaf.{Leaf}
use Rattle.par_task.specs.Marking.{Kind, low_flag, high_flag, marks_of, is_mark, no_test}
use Rattle.par_task.specs.MarkedBy.{MarkedBy, marks_by}
use Rattle.par_task.specs.Audits.{IsAudit, threshold_of}
use Rattle.par_task.specs.Alone.{IsOneChain, TestsInAll}
use Rattle.par_task.specs.Manners.{alone}
use Rattle.par_task.specs.Parts.{between, IsFront, IsSpanned, IsLastIn}
use Rattle.par_task.proofs.Stops.{stop_within, last_within}
use Rattle.par_jobs.specs.Runs.{IsRunOver, untested}

-- three facts of an answer, where there is one, are one
pub ran_alone :
    {X P E : Type 0} (kind : Kind) (verdict : X → Verdict) (items : List X) (level : ℕ) (r : Result (P × List Leaf) E) →
    IfOk r (λ a. IsAudit kind (marks_of kind (map verdict items)) (length items) (threshold_of (length items) level) 1 a.1) →
    IfOk r (λ a. IsOneChain a.1) → IfOk r (λ a. TestsInAll kind (marks_of kind (map verdict items)) a.1) →
    IfOk r (λ a. IsRunOver kind verdict items (alone level) a.1)
ran_alone kind verdict items level (Ok a) audit chain tested = record { audit = audit; chain = λ _. chain; tested = λ _. tested }
ran_alone kind verdict items level (Err e) audit chain tested = tt

-- a test that no item passes marks none
pub never_marks : {X : Type 0} (faults : Bool) (xs : List X) → map (marks_by faults) (map untested xs) ≡ map (is_mark no_test) (map untested xs)
never_marks true [] = refl
never_marks false [] = refl
never_marks true (x ∷ xs) = ap (λ l. false ∷ l) (never_marks true xs)
never_marks false (x ∷ xs) = ap (λ l. false ∷ l) (never_marks false xs)

-- all items from the first on, before an index
between_front : {X : Type 0} (xs : List X) (m : ℕ) → between xs 0 m ≡ take m xs
between_front xs m = let e : m - 0 ≡ m = omega arith in ap (λ k. take k xs) e

-- all items from an index on
between_back : {X : Type 0} (xs : List X) (m : ℕ) → between xs m (length xs) ≡ drop m xs
between_back xs m = take_all (length xs - m) (drop m xs) (omega (arith, length-drop m xs))

pub between_all : {X : Type 0} (xs : List X) → between xs 0 (length xs) ≡ xs
between_all xs = between_front xs (length xs) ∙ take_all (length xs) xs (omega arith)

-- what an answer tells, where there is one
pub ok_map : {T E : Type 0} (r : Result T E) (p q : T → Type 0) → ((a : T) → p a → q a) → IfOk r p → IfOk r q
ok_map (Ok a) p q f h = f a h
ok_map (Err e) p q f h = tt

-- what is told of the marks' own source and test, told of the call's
pub retold :
    {S P X R E : Type 0} (items : S → List X) (m : MarkedBy S P) (dup source : S) (test : P) (faults : Bool) (r : Result R E) (holds : P → List X → R → Type 0) →
    m ≡ record { split = dup; inner = test; faults = faults } → items dup ≡ items source → IfOk r (holds m.inner (items m.split)) → IfOk r (holds test (items source))
retold items m dup source test faults r holds over same h =
    subst (λ xs. IfOk r (holds test xs)) same (subst (λ n. IfOk r (holds n.inner (items n.split))) over h)

module _ {X : Type 0} (verdict : X → Verdict) where
  marks_count : (kind : Kind) (xs : List X) → length (marks_of kind (map verdict xs)) ≡ length xs
  marks_count kind xs = length-map (map verdict xs) (is_mark kind) ∙ length-map xs verdict

  stop_in : (xs : List X) → min (length xs) (stop (marks_of low_flag (map verdict xs))) ≡ stop (marks_of low_flag (map verdict xs))
  stop_in xs = omega (arith, marks_count low_flag xs, stop_within (marks_of low_flag (map verdict xs)))

  -- an end at the stop is within the list
  pub end_within : (xs : List X) (end : ℕ) → end ≡ stop (marks_of low_flag (map verdict xs)) → end ≤ length xs
  end_within xs end e = omega (arith, e, marks_count low_flag xs, stop_within (marks_of low_flag (map verdict xs)))

  -- the front of a whole list ends at the stop
  pub front_end :
      {K : Type 0} (built : List X → K → Type 0) (xs : List X) (kept : K) (end : ℕ) (whole : Bool) →
      IsFront built xs (marks_of low_flag (map verdict xs)) 0 (length xs) kept end whole → end ≡ stop (marks_of low_flag (map verdict xs))
  front_end built xs kept end whole front = front.ends.at (omega arith) ∙ stop_in xs

  -- and is built of the items before it
  pub front_kept :
      {K : Type 0} (built : List X → K → Type 0) (xs : List X) (kept : K) (end : ℕ) (whole : Bool) →
      IsFront built xs (marks_of low_flag (map verdict xs)) 0 (length xs) kept end whole → built (take (stop (marks_of low_flag (map verdict xs))) xs) kept
  front_kept built xs kept end whole front =
      subst (λ ys. built ys kept) (front.front (omega arith) ∙ (ap (between xs 0) (stop_in xs) ∙ between_front xs (stop (marks_of low_flag (map verdict xs))))) front.built_is

  module _ {K : Type 0} (built : List X → K → Type 0) (xs : List X) (prefix suffix : K) (end : ℕ) (whole : Bool) (s : IsSpanned built xs (marks_of low_flag (map verdict xs)) 0 (length xs) prefix suffix end whole) where
    -- both sides of a whole list meet at the stop
    pub spanned_end : end ≡ stop (marks_of low_flag (map verdict xs))
    spanned_end = s.ends.at (omega arith) ∙ stop_in xs

    pub spanned_prefix : built (take (stop (marks_of low_flag (map verdict xs))) xs) prefix
    spanned_prefix = subst (λ ys. built ys prefix) (between_front xs end ∙ ap (λ k. take k xs) spanned_end) s.prefix_is

    pub spanned_suffix : built (drop (stop (marks_of low_flag (map verdict xs))) xs) suffix
    spanned_suffix = subst (λ ys. built ys suffix) (between_back xs end ∙ ap (λ k. drop k xs) spanned_end) s.suffix_is

  -- what a search for the last mark finds of a whole list
  pub above_is : (xs : List X) (h : ℕ) → IsLastIn (marks_of high_flag (map verdict xs)) 0 (length xs) h → h ≡ last (marks_of high_flag (map verdict xs))
  above_is xs h l =
      let marks = marks_of high_flag (map verdict xs) in
      elim (cases_lt 0 (last marks)) [
        | inl lt ↦ l.found (omega (arith, last_within marks, marks_count high_flag xs)) lt
        | inr ge ↦ let z = l.none ge in omega (arith, z, ge)
      ]
