-- The second of two parts of a span, for the tests.
use Rattle.std.proofs.Common.{ℕ, ◌+◌, List, ◌++◌, length, take, drop, sym, ap, ◌∙◌, arith, length-append, subst}
use Rattle.std.proofs.lemmas.List.{drop-take, drop-drop}
use Rattle.std.proofs.Math.Seq.{drop-append_seam, take-length}
use Rattle.par_task.specs.Spans.{IsSpan}
use Rattle.par_splitter.specs.Parts.{AreHalves}
use Rattle.par_board.specs.Loads.{IsPiece}

pub second_span : {X : Type 0} (source : List X) (lo : ℕ) (xs ys : List X) → IsSpan source lo (xs ++ ys) → IsSpan source (lo + length xs) ys
second_span source lo xs ys h = record {
  within = let e = length-append xs ys in let w = h.within in omega (arith, e, w);
  same = sym (drop-append_seam xs ys) ∙ ap (drop (length xs)) h.same ∙ ap (λ (k : ℕ). drop (length xs) (take k (drop lo source))) (length-append xs ys)
      ∙ drop-take (length xs) (length ys) (drop lo source) ∙ ap (take (length ys)) (drop-drop (length xs) lo source);
}

-- the second half of a piece of the source
pub second_piece : {S X : Type 0} (items : S → List X) (lo_of : S → ℕ) (source : List X) (a b : ℕ) (whole left right : S) → IsPiece items lo_of source a b whole → AreHalves items lo_of whole left right → IsSpan source (lo_of right) (items right)
second_piece items lo_of source a b whole left right piece halves = subst (λ (k : ℕ). IsSpan source k (items right)) (sym (halves.parts.lo_right ∙ ap (λ (k : ℕ). k + length (items left)) piece.place))
    (second_span source a (items left) (items right) (subst (IsSpan source a) halves.parts.joined piece.span))

-- the whole source is a span of itself
pub whole_span : {X : Type 0} (source : List X) → IsSpan source 0 source
whole_span source = record { within = omega arith; same = sym (take-length source) }
