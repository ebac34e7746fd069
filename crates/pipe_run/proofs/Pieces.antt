-- Pieces that are written one after the other.
use Rattle.std.proofs.Common.{◌≡◌, ◌∙◌, refl, sym, ap, ℕ, ◌+◌, ◌<◌, min, List, [], ◌∷◌, ◌++◌, map, length, take, drop, get_or, Bor, Option, Some, None, Result, Ok, Err, OnOk, OnErr, MatchResult, append_assoc, add-one, arith}
use Rattle.std.specs.List.{concat}
use Rattle.std.proofs.lemmas.List.{append-nil, map-append, take-append-drop, take-append-le, take_min}
use Rattle.std.proofs.lemmas.List.Folds.{concat-append}
use Rattle.std.proofs.Math.Seq.{take-append-add, take-length, take-suc}
use Rattle.par_edge.specs.Sinks.{SinkState, Appends, AppendsPart, appended}

abbrev Piece : Type 0
Piece = Bor (List ℕ)

-- the text of pieces
abbrev pub text_of : List Piece → List ℕ
text_of pieces = concat (map (λ x. x.now) pieces)

text_of-append : (xs ys : List Piece) → text_of (xs ++ ys) ≡ text_of xs ++ text_of ys
text_of-append xs ys = ap concat (map-append (λ (x : Piece). x.now) xs ys) ∙ concat-append (map (λ x. x.now) xs) (map (λ x. x.now) ys)

next_text : (pieces : List Piece) (i : ℕ) (d : Piece) → i < length pieces → text_of (take (i + 1) pieces) ≡ text_of (take i pieces) ++ (get_or pieces i d).now
next_text pieces i d small =
    let taken : take (i + 1) pieces ≡ take i pieces ++ (get_or pieces i d ∷ []) = rw (add-one i) (take-suc pieces i d small) in
    rw taken (text_of-append (take i pieces) (get_or pieces i d ∷ []) ∙ ap (λ t. text_of (take i pieces) ++ t) (append-nil (get_or pieces i d).now))

appended_nil : (w : Option (List ℕ)) → w ≡ appended [] w
appended_nil None = refl
appended_nil (Some x) = ap (λ z. Some z) (sym (append-nil x))

appended_both : (x y : List ℕ) (w : Option (List ℕ)) → appended y (appended x w) ≡ appended (x ++ y) w
appended_both x y None = refl
appended_both x y (Some w) = ap (λ z. Some z) (append_assoc w x y)

pub nothing_written : (s : SinkState) → Appends s s []
nothing_written s = record { written = appended_nil s.written; faults = omega arith }

-- one more piece
pub piece_written : (a b c : SinkState) (pieces : List Piece) (i : ℕ) (d : Piece) → i < length pieces → Appends a b (text_of (take i pieces)) → Appends b c (get_or pieces i d).now → Appends a c (text_of (take (i + 1) pieces))
piece_written a b c pieces i d small h k = record {
  written = k.written ∙ (rw (h.written, next_text pieces i d small) (appended_both _ _ a.written));
  faults = (let x = h.faults in let y = k.faults in omega (arith, x, y));
}

-- the rest of the text after the pieces before i and the piece at i
whole_text : (pieces : List Piece) (i : ℕ) (d : Piece) → i < length pieces → text_of pieces ≡ text_of (take i pieces) ++ ((get_or pieces i d).now ++ text_of (drop (i + 1) pieces))
whole_text pieces i d small =
    ap text_of (sym (take-append-drop (i + 1) pieces))
    ∙ text_of-append (take (i + 1) pieces) (drop (i + 1) pieces)
    ∙ (rw (next_text pieces i d small) (append_assoc (text_of (take i pieces)) (get_or pieces i d).now (text_of (drop (i + 1) pieces))))

part_of : (x p rest : List ℕ) (k : ℕ) → take (length x + min k (length p)) (x ++ (p ++ rest)) ≡ x ++ take k p
part_of x p rest k =
    take-append-add x (p ++ rest) (min k (length p))
    ∙ ap (λ t. x ++ t) (take-append-le (min k (length p)) p rest (omega arith) ∙ take_min k p)

-- a piece that was written in part
pub piece_cut : (a b c : SinkState) (pieces : List Piece) (i : ℕ) (d : Piece) → i < length pieces → Appends a b (text_of (take i pieces)) → AppendsPart b c (get_or pieces i d).now → AppendsPart a c (text_of pieces)
piece_cut a b c pieces i d small h k = record {
  count = length (text_of (take i pieces)) + min k.count (length (get_or pieces i d).now);
  written = k.written ∙ (rw (h.written, whole_text pieces i d small, part_of (text_of (take i pieces)) (get_or pieces i d).now (text_of (drop (i + 1) pieces)) k.count) (appended_both _ _ a.written));
  rose = (let x = h.faults in let y = k.rose in omega (arith, x, y));
}

pub all_written : (a b : SinkState) (pieces : List Piece) → Appends a b (text_of (take (length pieces) pieces)) → Appends a b (text_of pieces)
all_written a b pieces h = rw (take-length pieces) at h

-- a line that was written whole, or in part where the write failed
pub by_result : {T E : Type 0} (a b : SinkState) (line : List ℕ) (r : Result T E) → OnOk r (Appends a b line) → OnErr r (AppendsPart a b line) → MatchResult r (λ _. Appends a b line) (λ _. AppendsPart a b line)
by_result a b line (Ok x) p q = p
by_result a b line (Err x) p q = q
