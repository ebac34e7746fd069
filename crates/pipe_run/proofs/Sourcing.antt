-- What of a plan is there to run, and the rows of a source.
use Rattle.std.proofs.Common.{◌≡◌, ◌≢◌, ◌∙◌, sym, refl, ap, subst, inl, inr, ℕ, suc, ◌+◌, ◌<◌, ◌≤◌, ◌⊎◌, ℤ, pos, Bool, true, false, Option, Some, None, Result, Ok, Err, arith, List, [], ◌∷◌, ◌++◌, length, map}
use Rattle.std.specs.Prelude.{◌&&◌, nat_lt, not, if◌then◌else◌}
use Rattle.std.specs.List.{list_all}
use Rattle.std.proofs.lemmas.Bool.{cases_Bool, leb-false}
use Rattle.par_rows.specs.declared.row.Row.{Row}
use Rattle.par_rows.specs.declared.schema.Column.{Column}
use Rattle.par_splitter.specs.Range.{IsRange, IsRangeCount}
use Rattle.pipe_steps.specs.declared.source.Kind.{Kind}
use Rattle.pipe_steps.specs.Said.{Origin, Middle, End, Said, Second, Begins, Par, Goes, Ends}
use Rattle.pipe_steps.specs.Said as x
use Rattle.pipe_checks.specs.Places.{moves}
use Rattle.pipe_program.specs.Plans.{Plan, AreOf, Holds, Opens}
use Rattle.pipe_program.specs.Reading.{AreNumbered, Reads, IsFaultless}
use Rattle.pipe_data.specs.Data.{are_names, data_of, row_of, rows_from, table_of, with_row}
use Rattle.pipe_data.specs.declared.stop.DataStop.{DataStop}
use Rattle.pipe_data.specs.declared.stop.DataStop.TheVariants as stops
use Rattle.pipe_data.specs.declared.stop.Flaw.{Flaw}
use Rattle.pipe_data.specs.declared.stop.Flaw.TheVariants as flaws
use Rattle.pipe_stages.specs.Stages.{is_built}
use Rattle.pipe_answers.specs.Lasts.{is_built_last}
use Rattle.pipe_run.specs.declared.built.Sought.{Sought}
use Rattle.pipe_run.specs.declared.built.Sought.TheVariants as sought
use Rattle.pipe_run.specs.Rulings.{Decides}
use Rattle.pipe_run.proofs.Agreeing.{count_one}
use Rattle.std.proofs.lemmas.List.{length-map}
use Rattle.pipe_run.specs.Sources.{AreBuilt, IsFirstLine, IsGiven, IsNamed, IsRangeRows, Moves, first_at, number_row, says}
use Rattle.pipe_run.specs.declared.outcome.Outcome.{Outcome}
use Rattle.pipe_run.specs.declared.outcome.Outcome.TheVariants.{Limit}

-- ---- what is there

-- no line says such a thing
abbrev pub NoneSays : (Said → Bool) → List Said → Type 0
NoneSays such [] = Unit {0}
NoneSays such (y ∷ ys) = (such y ≡ false) × NoneSays such ys

none_says : (such : Said → Bool) (zs : List (ℕ × Said)) → first_at such zs ≡ None → NoneSays such (map (λ z. z.1) zs)
none_says such [] h = tt
none_says such (z ∷ zs) h = elim (cases_Bool (such z.1)) [
  | inl t ↦ (let bad : Some z.0 ≡ None = rw t at h in cc bad)
  | inr u ↦ (u, none_says such zs (rw u at h))
]

not_false : (b : Bool) → not b ≡ false → b ≡ true
not_false true h = refl
not_false false h = cc h

of_steps : (ms : List Middle) (l : End) → NoneSays (says sought.Unbuilt) (map Goes ms ++ Ends l ∷ []) → AreBuilt ms l
of_steps [] l h = (refl, not_false (is_built_last l) h.0)
of_steps (m ∷ ms) l h =
    let built : is_built m ≡ true = not_false (is_built m) h.0 in
    let rest = of_steps ms l h.1 in
    (rw built rest.0, rest.1)

of_body : (such : Said → Bool) (k : Kind) (par rest : List Said) → Holds k par → NoneSays such (par ++ rest) → NoneSays such rest
of_body such k par rest (inl a) h = rw a.1 at h
of_body such k par rest (inr a) h = let g : NoneSays such (Par k ∷ rest) = rw a at h in g.1

of_head : (such : Said → Bool) (v : ℕ) (head rest : List Said) → Opens v head → NoneSays such (head ++ rest) → NoneSays such rest
of_head such v head rest (inl a) h = rw a.1 at h
of_head such v head rest (inr a) h = let g : NoneSays such (Second ∷ rest) = rw a.1 at h in g.1

-- where no line of a plan says such a thing, its source and its steps don't
pub none_of : (such : Said → Bool) (p : Plan) (zs : List (ℕ × Said)) (ys : List Said) → AreOf p ys → map (λ z. z.1) zs ≡ ys → first_at such zs ≡ None → (such (Begins p.origin) ≡ false) × NoneSays such (map Goes p.middles ++ Ends p.last ∷ [])
none_of such p zs ys a same h =
    let all : NoneSays such (a.0 ++ Begins p.origin ∷ (a.1 ++ (map Goes p.middles ++ Ends p.last ∷ []))) = rw (sym a.4 ∙ sym same) (none_says such zs h) in
    let body = of_head such p.version a.0 _ a.2 all in
    (body.0, of_body such p.kind a.1 _ a.3 body.1)

pub built_of : (p : Plan) (zs : List (ℕ × Said)) (ys : List Said) → AreOf p ys → map (λ z. z.1) zs ≡ ys → first_at (says sought.Unbuilt) zs ≡ None → AreBuilt p.middles p.last
built_of p zs ys a same h = of_steps p.middles p.last (none_of (says sought.Unbuilt) p zs ys a same h).1

-- a source of data stands on some line
pub data_stands : (p : Plan) (columns : List Column) (zs : List (ℕ × Said)) (ys : List Said) → p.origin ≡ x.Csv columns → AreOf p ys → map (λ z. z.1) zs ≡ ys → first_at (says sought.Data) zs ≡ None → ⊥
data_stands p columns zs ys is a same h = let bad : true ≡ false = rw is at (none_of (says sought.Data) p zs ys a same h).0 in cc bad

pub given_named : (text : List ℕ) (origin : Origin) (name : Option (List ℕ)) → IsGiven text origin name (Ok tt) → IsNamed origin name
given_named text (x.Range a b c) name h = tt
given_named text (x.Csv columns) (Some name) h = tt
given_named text (x.Csv columns) None h = absurd h

pub source_moves : (origin : Origin) → IsFaultless [] (Begins origin) → Moves origin
source_moves (x.Csv columns) h = tt
source_moves (x.Range a b c) h = λ e. (let bad : false ≡ true = rw e at h.moving in cc bad)

-- ---- ranges

-- the numbers of a range that isn't too long, each a row
pub rows_given : (a b c : ℤ) (n : ℕ) (rows : List Row) (numbers : List ℤ) → IsRangeCount a b c n → n ≤ 4194304 → IsRange a b c numbers → length numbers ≡ n → rows ≡ map number_row numbers → Decides (IsRangeRows a b c) (Ok rows)
rows_given a b c n rows numbers count few range size same = record { ruled = (numbers, range, omega (arith, size, few), same); inner = tt }

-- ---- data

few_with : (n : ℕ) (q : Result Row Flaw) (rest : Result (List Row) DataStop) (rows : List Row) → with_row n q rest ≡ Ok rows → ((more : List Row) → rest ≡ Ok more → n + 1 + length more ≤ 4194305) → n + length rows ≤ 4194305
few_with n (Err flaw) rest rows e f = cc e
few_with n (Ok row) (Err stop) rows e f = cc e
few_with n (Ok row) (Ok more) rows e f = let same : row ∷ more ≡ rows = cc e in let few = f more refl in rw (← same) (omega (arith, few))

few_from : (cs : List Column) (n : ℕ) (rs : List (List (List ℕ))) (rows : List Row) → rows_from cs n rs ≡ Ok rows → n ≤ 4194305 → n + length rows ≤ 4194305
few_from cs n [] rows e h = let none : [] ≡ rows = cc e in rw (← none) (omega (arith, h))
few_from cs n (r ∷ rs) rows e h = elim (cases_Bool (nat_lt 4194304 n)) [
  | inl t ↦ (let bad : Err stops.TooMany ≡ Ok rows = rw t at e in cc bad)
  | inr u ↦
      let room : n < 4194305 = leb-false (suc 4194304) n u in
      let behind : n + 1 ≤ 4194305 = omega (arith, room) in
      few_with n (row_of cs r) (rows_from cs (suc n) rs) rows (rw u at e) (λ more q. (let few = few_from cs (suc n) rs more q (omega (arith, behind)) in omega (arith, few)))
]

few_table : (cs : List Column) (rs : List (List (List ℕ))) (rows : List Row) → table_of cs rs ≡ Ok rows → length rows ≤ 4194304
few_table cs [] rows e = cc e
few_table cs (header ∷ rest) rows e = elim (cases_Bool (are_names cs header)) [
  | inl t ↦ (let few = few_from cs 1 rest rows (rw t at e) (omega arith) in omega (arith, few))
  | inr u ↦ (let bad : Err (stops.Flawed 0 flaws.Header) ≡ Ok rows = rw u at e in cc bad)
]

-- data has at most 4,194,304 rows
pub few_data : (cs : List Column) (bytes : List ℕ) (rows : List Row) → data_of cs bytes ≡ Ok rows → length rows ≤ 4194304
few_data cs bytes rows e = few_table cs _ rows e

pub few_numbers : (a b c : ℤ) (n : ℕ) (rows : List Row) (numbers : List ℤ) → IsRangeCount a b c n → n ≤ 4194304 → IsRange a b c numbers → rows ≡ map number_row numbers → length rows ≤ 4194304
few_numbers a b c n rows numbers count few range same =
    let size : length numbers ≡ n = count_one a b c (length numbers) n range.count count in
    let rows_are : length rows ≡ length numbers = ap length same ∙ length-map numbers number_row in
    omega (arith, size, few, rows_are)
