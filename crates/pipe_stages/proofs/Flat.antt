-- What a run that makes several rows of each row gives, and a row with another value at a place.
use Rattle.std.proofs.Common.{◌≡◌, ℕ, ◌<◌, ◌≤◌, ◌-◌, take, drop, append_assoc, cond, min, List, [], ◌∷◌, ◌++◌, length, set, map, Option, Ok, Err, Some, refl, ap, sym, ◌∙◌, subst, append-nil, length-append, arith}
use Rattle.std.specs.Prelude.{IsErrAnd}
use Rattle.std.specs.List.{flat_map}
use Rattle.std.specs.Global.{Vec}
use Rattle.std.proofs.lemmas.Bool.{le-ltb, lt-ltb}
use Rattle.std.proofs.lemmas.List.{map-id, set_at, set_past, take_all}
use Rattle.std.specs.Prelude.{slice_get}
use Rattle.std.specs.Borrow.{Bor}
use Rattle.std.specs.Str.{chars}
use Rattle.par_rows.specs.declared.row.Row.{Row}
use Rattle.par_rows.specs.declared.value.Value.TheVariants.{Text}
use Rattle.pipe_eval.specs.Answers.{row_of, text_held}
use Rattle.par_task.specs.Manners.{Manner}
use Rattle.par_task.specs.Marking.{no_test}
use Rattle.par_task.specs.declared.audit.Leaf.{Leaf}
use Rattle.par_jobs.specs.Runs.{IsRunOver, untested}
use Rattle.par_transform.specs.TooMany.{IsStop}
use Rattle.par_transform.specs.declared.stop.FlatStop.{FlatStop}
use Rattle.par_transform.specs.declared.stop.FlatStop.TheVariants as flats
use Rattle.pipe_stages.specs.Audits.{IsRun}
use Rattle.pipe_stages.specs.Pieces.{pieces}
use Rattle.pipe_stages.specs.Runs.{Gives, Ran}
use Rattle.pipe_stages.specs.Stages.{Answer, at_most, split_at_place}
use Rattle.pipe_stages.specs.Stops.{StopsAs, of_flat}
use Rattle.pipe_stages.specs.declared.stepped.Stepped.TheVariants.{Made}
use Rattle.pipe_stages.specs.declared.stop.StepStop.{StepStop}
use Rattle.pipe_stages.specs.declared.stop.StepStop.TheVariants.{TooMany}

pub few_rows : (rows : List Row) → length rows ≤ 4194304 → at_most rows ≡ Ok rows
few_rows rows few = ap (λ t. cond t (Err TooMany) (Ok rows)) (le-ltb 4194304 (length rows) few)

pub many_rows : (rows : List Row) → 4194304 < length rows → at_most rows ≡ Err TooMany
many_rows rows many = ap (λ t. cond t (Err TooMany) (Ok rows)) (lt-ltb 4194304 (length rows) many)

pub flat_gives :
    (f : Row → List Row) (items rows : List Row) (manner : Manner) (all : Vec Row) (leaves : List Leaf) → items ≡ rows → map (λ row. row) all.items ≡ flat_map f items → length (flat_map f items) ≤ 4194304 →
    IsRunOver no_test untested items manner leaves → Gives (at_most (flat_map f rows)) (IsRun no_test untested rows manner) (Ok (Made all, Some leaves))
flat_gives f items rows manner all leaves same h few run =
    subst (λ r. Gives (at_most (flat_map f r)) (IsRun no_test untested r manner) (Ok (Made all, Some leaves))) same
    (few_rows (flat_map f items) few ∙ ap Ok (sym h ∙ map-id all.items), run)

stops_as : (rows : List Row) (stop : FlatStop) → IsStop (length rows) stop → StopsAs (at_most rows) (of_flat stop)
stops_as rows flats.TooMany many = many_rows rows many
stops_as rows flats.Memory many = tt

pub flat_stops : (f : Row → List Row) (items rows : List Row) (stop : FlatStop) → items ≡ rows → IsStop (length (flat_map f items)) stop → StopsAs (at_most (flat_map f rows)) (of_flat stop)
flat_stops f items rows stop same h = subst (λ r. StopsAs (at_most (flat_map f r)) (of_flat stop)) same (stops_as (flat_map f items) stop h)

-- ---- a list cut at a place

module _ {X : Type 0} (xs before rest : List X) (at : ℕ) (parts : xs ≡ before ++ rest) (count : length before ≡ min at (length xs)) (y : X) where
  -- there is no such place
  pub past_end : rest ≡ [] → set xs at y ≡ before
  past_end none =
      let all : xs ≡ before = parts ∙ (ap (λ l. before ++ l) none ∙ append-nil before) in
      set_past xs at y (omega (arith, count, ap length all)) ∙ all

  -- another value stands there
  pub replaced : (x : X) (after : List X) → rest ≡ x ∷ after → set xs at y ≡ before ++ y ∷ after
  replaced x after some =
      let all : xs ≡ before ++ x ∷ after = parts ∙ ap (λ l. before ++ l) some in
      ap (λ l. set l at y) all ∙ set_at before x after y at (omega (arith, count, ap length all, length-append before (x ∷ after)))

-- the items after the first one
pub after_first : {X : Type 0} (rest : List X) → 1 ≤ length rest → (x : X) × (rest ≡ x ∷ take (length rest - 1) (drop 1 rest))
after_first [] some = absurd (omega (arith, some))
after_first (x ∷ rest) some = (x, ap (λ l. x ∷ l) (sym (take_all (length (x ∷ rest) - 1) rest (omega arith))))

-- the parts joined again, one item replaced
pub joined :
    {X : Type 0} (xs before rest v0 v1 v2 v3 : List X) (at : ℕ) (y : X) → xs ≡ before ++ rest → length before ≡ min at (length xs) → 1 ≤ length rest → v0 ≡ [] → v1 ≡ v0 ++ before → v2 ≡ v1 ++ y ∷ [] →
    v3 ≡ v2 ++ take (length rest - 1) (drop 1 rest) → v3 ≡ set xs at y
joined xs before rest v0 v1 v2 v3 at y parts count some e0 e1 e2 e3 =
    let f = after_first rest some in
    let after = take (length rest - 1) (drop 1 rest) in
    e3 ∙ (ap (λ l. l ++ after) (e2 ∙ ap (λ l. l ++ y ∷ []) (e1 ∙ ap (λ l. l ++ before) e0))
    ∙ (append_assoc before (y ∷ []) after ∙ sym (replaced xs before rest at parts count y f.0 after f.1)))

-- a stop that was handed on
pub handed_on : (wanted : Answer) (audited : Option (List Leaf) → Type 0) (r : Ran) (stop : StepStop) → IsErrAnd r (λ s. s ≡ stop) → StopsAs wanted stop → Gives wanted audited r
handed_on wanted audited (Ok a) stop h p = absurd h
handed_on wanted audited (Err s) stop h p = subst (StopsAs wanted) (sym h) p

each_placed : (f : List ℕ → Row) (parts : List (Bor (List ℕ))) → map (λ p. f (chars p.now)) parts ≡ map f (map (λ p. chars p.now) parts)
each_placed f [] = refl
each_placed f (part ∷ parts) = ap (λ l. f (chars part.now) ∷ l) (each_placed f parts)

-- a row for each piece of the text at that place
pub with_pieces :
    (at : ℕ) (row : Row) (sep separator text : List ℕ) (parts : List (Bor (List ℕ))) → map (λ p. chars p.now) parts ≡ pieces separator text → separator ≡ sep → text ≡ text_held (slice_get row.values at) →
    map (λ p. row_of (set row.values at (Text (chars p.now)))) parts ≡ split_at_place at sep row
with_pieces at row sep separator text parts cut same held =
    let placed : List ℕ → Row = λ piece. row_of (set row.values at (Text piece)) in
    each_placed placed parts ∙ ap (map placed) (cut ∙ (λ k. pieces (same k) (held k)))
