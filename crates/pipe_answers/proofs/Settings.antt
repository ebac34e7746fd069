-- A record's text does not depend on whether records may differ in length.
use Rattle.std.proofs.Common.{◌≡◌, ◌++◌, ◌∷◌, [], ℕ, List, Bool, true, refl, ap}
use Rattle.csv.specs.Writing.{default_writer, escaped, fields_text, is_blank, row_text}
use Rattle.pipe_answers.specs.Texts.{record_text}
use Rattle.pipe_answers.specs.Writers.{row_writer}

escaped_same : (xs : List ℕ) → escaped row_writer xs ≡ escaped default_writer xs
unfolding escaped
escaped_same [] = refl
escaped_same (x ∷ xs) = rw (escaped_same xs) refl

fields_same : (xs : List (List ℕ)) → fields_text row_writer xs ≡ fields_text default_writer xs
unfolding fields_text
fields_same [] = refl
fields_same (x ∷ xs) = rw (escaped_same x, fields_same xs) refl

blank_same : (xs : List (List ℕ)) → is_blank row_writer xs ≡ is_blank default_writer xs
unfolding is_blank
blank_same [] = refl
blank_same (x ∷ []) = rw (escaped_same x) refl
blank_same (x ∷ y ∷ ys) = refl

pub record_same : (xs : List (List ℕ)) → row_text row_writer xs ≡ record_text xs
unfolding record_text
record_same [] = rw (blank_same []) refl
record_same (x ∷ xs) = rw (escaped_same x, fields_same xs, blank_same (x ∷ xs)) refl
