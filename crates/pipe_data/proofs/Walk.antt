-- Fields and records taken from the front.
use Rattle.std.proofs.Common.{◌≡◌, ◌≤◌, ◌<◌, ◌+◌, ◌∷◌, ◌++◌, ◌∙◌, sym, refl, ap, ℕ, zero, suc, List, [], length, drop, Option, Some, None, option_map, Result, Ok, Err, arith, append_assoc, nat_eq, nat_lt, false}
use Rattle.std.proofs.lemmas.Bool.Decides.{nat_tests}
use Rattle.csv.specs.Records.{field_at}
use Rattle.par_rows.specs.declared.schema.Column.{Column}
use Rattle.par_rows.specs.declared.value.Value.{Value}
use Rattle.par_rows.specs.declared.row.Row.{Row}
use Rattle.pipe_data.specs.Data.{are_names, row_of, rows_from, with_row, with_value}
use Rattle.pipe_data.specs.declared.stop.DataStop.{DataStop}

taken : (fs : List (List ℕ)) (i : ℕ) (f : List ℕ) → field_at fs i ≡ Some f → drop i fs ≡ f ∷ drop (suc i) fs
unfolding field_at
taken [] i f h = cc h
taken (g ∷ fs) zero f h = cc h
taken (g ∷ fs) (suc i) f h = taken fs i f h

pub field_taken : (fs : List (List ℕ)) (i : ℕ) (f : List ℕ) → field_at fs i ≡ Some f → drop i fs ≡ f ∷ drop (i + 1) fs
field_taken fs i f h = let e : i + 1 ≡ suc i = omega arith in rw e (taken fs i f h)

pub no_field : (fs : List (List ℕ)) (i : ℕ) → field_at fs i ≡ None → drop i fs ≡ []
unfolding field_at
no_field [] zero h = refl
no_field [] (suc i) h = refl
no_field (g ∷ fs) zero h = cc h
no_field (g ∷ fs) (suc i) h = no_field fs i h

pub field_within : (fs : List (List ℕ)) (i : ℕ) (f : List ℕ) → field_at fs i ≡ Some f → i < length fs
unfolding field_at
field_within [] i f h = cc h
field_within (g ∷ fs) zero f h = omega arith
field_within (g ∷ fs) (suc i) f h = let less = field_within fs i f h in omega (arith, less)

pub no_columns : (cs : List Column) → length cs ≡ 0 → cs ≡ []
no_columns [] h = refl
no_columns (c ∷ cs) h = cc h

-- no names are left exactly where no field is
pub names_end : (fs : List (List ℕ)) (i : ℕ) → i ≤ length fs → nat_eq i (length fs) ≡ are_names [] (drop i fs)
names_end [] zero le = refl
names_end [] (suc i) le = absurd (omega (arith, le))
names_end (f ∷ fs) zero le = grind (arith, nat_tests)
names_end (f ∷ fs) (suc i) le =
    let same : nat_eq (suc i) (length (f ∷ fs)) ≡ nat_eq i (length fs) = grind (arith, nat_tests) in
    same ∙ names_end fs i (omega (arith, le))

-- values before those of the fields that are left
abbrev pub values_then : List Value → Option (List Value) → Option (List Value)
values_then vs rest = option_map (λ ws. vs ++ ws) rest

pub values_begin : (o : Option (List Value)) → o ≡ values_then [] o
values_begin None = refl
values_begin (Some vs) = refl

pub values_more : (vs : List Value) (x : Value) (o : Option (List Value)) → values_then vs (with_value (Some x) o) ≡ values_then (vs ++ x ∷ []) o
values_more vs x None = refl
values_more vs x (Some ws) = ap Some (sym (append_assoc vs (x ∷ []) ws))

-- rows before those of the records that are left
abbrev pub rows_then : List Row → Result (List Row) DataStop → Result (List Row) DataStop
rows_then rows (Ok more) = Ok (rows ++ more)
rows_then rows (Err stop) = Err stop

pub rows_begin : (r : Result (List Row) DataStop) → r ≡ rows_then [] r
rows_begin (Ok more) = refl
rows_begin (Err stop) = refl

pub rows_more : (rows : List Row) (n : ℕ) (row : Row) (r : Result (List Row) DataStop) → rows_then rows (with_row n (Ok row) r) ≡ rows_then (rows ++ row ∷ []) r
rows_more rows n row (Ok more) = ap Ok (sym (append_assoc rows (row ∷ []) more))
rows_more rows n row (Err stop) = refl

-- a record that is a row is put behind the rows before it
pub next_row : (cs : List Column) (rows : List Row) (n : ℕ) (fields : List (List ℕ)) (rest : List (List (List ℕ))) (row : Row) → n ≤ 4194304 → row_of cs fields ≡ Ok row → rows_then rows (rows_from cs n (fields ∷ rest)) ≡ rows_then (rows ++ row ∷ []) (rows_from cs (n + 1) rest)
next_row cs rows n fields rest row few is =
    let within : nat_lt 4194304 n ≡ false = grind (arith, nat_tests) in
    let next : n + 1 ≡ suc n = omega arith in
    rw (within, is, next) (rows_more rows n row (rows_from cs (suc n) rest))
