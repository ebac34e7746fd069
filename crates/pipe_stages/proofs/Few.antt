-- No step gives more rows than a collection has.
use Rattle.std.proofs.Common.{◌≡◌, ℕ, ◌+◌, ◌-◌, ◌≤◌, inl, inr, true, false, Bool, not, cond, suc, List, [], ◌∷◌, length, map, drop, ℤ, ◌+ℤ◌, Option, Some, None, Ok, Err, IfOk, refl, ap, sym, ◌∙◌, subst, arith}
use Rattle.std.specs.Prelude.{IfErr}
use Rattle.std.specs.List.{enumerate_from, filter, flat_map, prefix_len}
use Rattle.std.proofs.lemmas.Bool.{cases_lt}
use Rattle.std.proofs.lemmas.List.Sums.{length-filter, count_by-le-length}
use Rattle.std.proofs.lemmas.List.{length-drop, length-map, length-reverse, length-take}
use Rattle.par_laws.specs.declared.guard.Made.{Made}
use Rattle.par_laws.specs.declared.guard.Made.TheVariants as made
use Rattle.par_laws.specs.declared.tried.FaultAt.{FaultAt}
use Rattle.par_lists.specs.Cuts.{place}
use Rattle.par_rows.specs.declared.schema.Column.{Column}
use Rattle.par_rows.specs.declared.row.Row.{Row}
use Rattle.par_rows.specs.declared.value.Value.TheVariants as v
use Rattle.par_task.specs.declared.audit.Leaf.{Leaf}
use Rattle.par_transform.specs.Indexes.{with_indexes}
use Rattle.par_lists.specs.Scans.{zip_with_index}
use Rattle.pipe_eval.specs.Bound.{place_named}
use Rattle.pipe_stages.proofs.Flat.{few_rows, many_rows}
use Rattle.pipe_steps.specs.Said.{Middle}
use Rattle.pipe_steps.specs.Said as x
use Rattle.pipe_stages.specs.Rows.{listed}
use Rattle.pipe_stages.specs.Runs.{Gives, Ran}
use Rattle.pipe_stages.specs.Stages.{Answer, after, all_made, at_most, comes_before, each_made, filtered, holds, indexed, led_by, made_by, ranged, split_at_place, then_made, unless, with_last}
use Rattle.pipe_stages.specs.Stops.{StopsAs}

-- at most this many rows, where there is an answer
abbrev pub AtMost : ℕ → Answer → Type 0
AtMost n answer = IfOk answer (λ rows. length rows ≤ n)

kept_few : {X : Type 0} (p : X → Bool) (xs : List X) → length (filter p xs) ≤ length xs
kept_few p xs = omega (arith, length-filter p xs, count_by-le-length p xs)

unless_few : (first : Option FaultAt) (rows : List Row) (n : ℕ) → length rows ≤ n → AtMost n (unless first rows)
unless_few None rows n few = few
unless_few (Some fault) rows n few = tt

led_few : (row : Row) (n : ℕ) (answer : Answer) → AtMost n answer → AtMost (n + 1) (led_by row answer)
led_few row n (Ok rows) few = omega (arith, few)
led_few row n (Err stop) few = tt

made_few : (at : ℕ) (items : List (Made Row)) → AtMost (length items) (all_made at items)
made_few at [] = omega arith
made_few at (made.Value row ∷ rest) = subst (λ n. AtMost n (led_by row (all_made (at + 1) rest))) (omega arith) (led_few row (length rest) (all_made (at + 1) rest) (made_few (at + 1) rest))
made_few at (made.Fault kind ∷ rest) = tt

wider : (m n : ℕ) (answer : Answer) → m ≤ n → AtMost m answer → AtMost n answer
wider m n (Ok rows) le few = omega (arith, le, few)
wider m n (Err stop) le few = tt

each_few : (f : Row → Made Row) (rows : List Row) (n : ℕ) → length rows ≤ n → AtMost n (each_made f rows)
each_few f rows n few = wider (length (map f rows)) n (each_made f rows) (omega (arith, few, length-map rows f)) (made_few 0 (map f rows))

then_few : (f : Row → Made Row) (answer : Answer) (n : ℕ) → AtMost n answer → AtMost n (then_made f answer)
then_few f (Ok rows) n few = each_few f rows n few
then_few f (Err stop) n few = tt

front_few : (t : Bool) (row : Row) (rows : List Row) (n : ℕ) → length rows ≤ n → length (cond t (row ∷ rows) []) ≤ suc n
front_few true row rows n few = omega (arith, few)
front_few false row rows n few = omega arith

ranged_few : (a b c : ℤ) (rows : List Row) → length (ranged a b c rows) ≤ length rows
ranged_few a b c [] = omega arith
ranged_few a b c (row ∷ rows) = front_few (comes_before c a b) (with_last row (v.Int a)) (ranged (a +ℤ c) b c rows) (length rows) (ranged_few (a +ℤ c) b c rows)

enumerated : {X : Type 0} (k : ℕ) (xs : List X) → length (enumerate_from k xs) ≡ length xs
enumerated k [] = refl
enumerated k (x ∷ xs) = ap suc (enumerated (k + 1) xs)

as_many : (rows : List Row) → length (indexed rows) ≡ length rows
as_many rows =
    length-map (with_indexes rows) _
    ∙ (length-map (zip_with_index rows) _
    ∙ (length-map (enumerate_from 0 rows) _ ∙ enumerated 0 rows))

limited : (rows : List Row) → AtMost 4194304 (at_most rows)
limited rows =
    elim (cases_lt 4194304 (length rows)) [
      | inl many ↦ subst (AtMost 4194304) (sym (many_rows rows many)) tt
      | inr few ↦ subst (AtMost 4194304) (sym (few_rows rows few)) few
    ]

module _ (cs : List Column) (rows : List Row) (few : length rows ≤ 4194304) where
  pub after_few : (m : Middle) → AtMost 4194304 (after cs m rows)
  after_few (x.Filter e) = unless_few _ _ 4194304 (omega (arith, few, kept_few (holds cs e) rows))
  after_few (x.FilterNot e) = unless_few _ _ 4194304 (omega (arith, few, kept_few (λ row. not (holds cs e row)) rows))
  after_few (x.Map fields) = each_few (made_by cs fields) rows 4194304 few
  after_few (x.Collect fields e) = then_few (made_by cs fields) (filtered cs e rows) 4194304 (unless_few _ _ 4194304 (omega (arith, few, kept_few (holds cs e) rows)))
  after_few (x.FlatMap name sep) = limited (flat_map (split_at_place (place_named cs name) sep) rows)
  after_few (x.Take n) = omega (arith, few, length-take (place n) rows)
  after_few (x.Drop n) = omega (arith, few, length-drop (place n) rows)
  after_few (x.Slice a b) = omega (arith, few, length-take (place b - place a) (drop (place a) rows), length-drop (place a) rows)
  after_few (x.TakeWhile e) = unless_few _ _ 4194304 (omega (arith, few, length-take (prefix_len (holds cs e) rows) rows))
  after_few (x.DropWhile e) = unless_few _ _ 4194304 (omega (arith, few, length-drop (prefix_len (holds cs e) rows) rows))
  after_few (x.ZipWithIndex name) = omega (arith, few, as_many rows)
  after_few (x.ZipRange a b c name) = omega (arith, few, ranged_few a b c rows)
  after_few x.Reverse = omega (arith, few, length-reverse rows)
  after_few (x.Scan how e n) = few
  after_few (x.GroupBy ks ts) = few
  after_few x.Distinct = few

-- ---- what a call that gives it answers

module _ (wanted : Answer) (audited : Option (List Leaf) → Type 0) where
  pub given_rows : (r : Ran) → Gives wanted audited r → IfOk r (λ a. wanted ≡ Ok (listed a.0))
  given_rows (Ok a) h = h.0
  given_rows (Err stop) h = tt

  pub given_few : (r : Ran) → AtMost 4194304 wanted → Gives wanted audited r → IfOk r (λ a. length (listed a.0) ≤ 4194304)
  given_few (Ok a) few h = subst (AtMost 4194304) h.0 few
  given_few (Err stop) few h = tt

  pub given_stop : (r : Ran) → Gives wanted audited r → IfErr r (StopsAs wanted)
  given_stop (Ok a) h = tt
  given_stop (Err stop) h = h

  pub given_audit : (r : Ran) → Gives wanted audited r → IfOk r (λ a. audited a.1)
  given_audit (Ok a) h = h.1
  given_audit (Err stop) h = tt
