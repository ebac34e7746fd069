-- The lines of a text whose lines end with a line feed each.
use Rattle.std.proofs.Common.{◌≡◌, ◌==◌, ◌-◌, ◌∷◌, ◌++◌, ◌∙◌, sym, refl, ap, inl, inr, ℕ, zero, suc, List, [], length, map, get_or, take, Bool, true, false, append_assoc}
use Rattle.std.specs.Prelude.{◌&&◌, not}
use Rattle.std.specs.List.{flat_map, list_all, slice_split}
use Rattle.std.specs.Str.Lines.{lines, lines_of_parts, strip_carriage_return}
use Rattle.std.proofs.lemmas.Bool.{cases_Bool}
use Rattle.pipe_steps.specs.Said.{Said}
use Rattle.pipe_print.specs.Lines.{ended, line_text}
use Rattle.pipe_print.proofs.Lexing.{clean}

abbrev feed : ℕ → Bool
feed b = b == 10

and_true : (a b : Bool) → (a && b) ≡ true → (a ≡ true) × (b ≡ true)
and_true true b h = (refl, h)
and_true false b h = cc h

no_feed : (c : ℕ) → clean c ≡ true → feed c ≡ false
no_feed c h = elim (cases_Bool (c == 10)) [
  | inl e ↦ elim (cases_Bool (c == 13)) [
    | inl q ↦ let bad = rw q at h in cc bad
    | inr q ↦ let bad = rw (q, e) at h in cc bad
  ]
  | inr e ↦ e
]

no_return : (c : ℕ) → clean c ≡ true → (c == 13) ≡ false
no_return c h = elim (cases_Bool (c == 13)) [
  | inl e ↦ let bad = rw e at h in cc bad
  | inr e ↦ e
]

split_clean : (l rest : List ℕ) → list_all clean l ≡ true → slice_split feed (l ++ 10 ∷ rest) ≡ l ∷ slice_split feed rest
split_clean [] rest h = refl
split_clean (c ∷ l) rest h =
    let b = and_true (clean c) (list_all clean l) h in
    rw (no_feed c b.0, split_clean l rest b.1) refl

split_some : (xs : List ℕ) → (y : List ℕ) × (more : List (List ℕ)) × (slice_split feed xs ≡ y ∷ more)
split_some [] = ([], [], refl)
split_some (x ∷ xs) = elim (cases_Bool (feed x)) [
  | inl e ↦ ([], slice_split feed xs, rw e refl)
  | inr e ↦ let (y, more, is) = split_some xs in (x ∷ y, more, rw (e, is) refl)
]

at_clean : (l : List ℕ) (i : ℕ) → list_all clean l ≡ true → (get_or l i 0 == 13) ≡ false
at_clean [] i h = refl
at_clean (c ∷ l) zero h = no_return c (and_true (clean c) (list_all clean l) h).0
at_clean (c ∷ l) (suc i) h = at_clean l i (and_true (clean c) (list_all clean l) h).1

strip_clean : (l : List ℕ) → list_all clean l ≡ true → strip_carriage_return l ≡ l
strip_clean l h = rw (at_clean l (length l - 1) h) refl

line_ended : (l rest : List ℕ) → list_all clean l ≡ true → lines (l ++ 10 ∷ rest) ≡ l ∷ lines rest
line_ended l rest h =
    let (y, more, is) = split_some rest in
    rw (split_clean l rest h, is) (ap (λ (x : List ℕ). x ∷ lines_of_parts (y ∷ more)) (strip_clean l h))

-- each line is clean
abbrev pub AllClean : ℕ → List Said → Type 0
AllClean v [] = Unit {0}
AllClean v (y ∷ ys) = (list_all clean (line_text v y) ≡ true) × AllClean v ys

pub lines_ended : (v : ℕ) (ys : List Said) → AllClean v ys → lines (flat_map (ended v) ys) ≡ map (line_text v) ys
lines_ended v [] h = refl
lines_ended v (y ∷ ys) h =
    rw (append_assoc (line_text v y) (10 ∷ []) (flat_map (ended v) ys)) (line_ended (line_text v y) (flat_map (ended v) ys) h.0 ∙ ap (λ (x : List (List ℕ)). line_text v y ∷ x) (lines_ended v ys h.1))
