-- Lines are written one behind the other.
use Rattle.std.proofs.Common.{◌≡◌, ◌+◌, ◌<◌, ◌∷◌, ◌++◌, ◌∙◌, sym, refl, ap, ℕ, suc, List, [], length, map, take, get_or, append_assoc, append-nil, arith}
use Rattle.std.specs.List.{flat_map}
use Rattle.std.proofs.Math.Seq.{take-suc}
use Rattle.std.proofs.lemmas.List.{map-append}
use Rattle.std.proofs.lemmas.Grind.{flat_map-append}
use Rattle.pipe_steps.specs.declared.source.Kind.{Kind}
use Rattle.pipe_steps.specs.declared.step.Step.{Step}
use Rattle.pipe_steps.specs.Said.{Origin, End, Said, Begins, Par, Goes, Ends, middle_view}
use Rattle.pipe_print.specs.Items.{Item, spaced}
use Rattle.pipe_print.specs.Lines.{ended, part_items, parts_items, piece}
use Rattle.pipe_print.specs.declared.piece.Piece.{Piece}
use Rattle.pipe_print.proofs.Writing.{joined, then}

pub more_pieces : (v : ℕ) (first now new : List ℕ) (xs : List Piece) (i : ℕ) (x : Piece) → i < length xs → x ≡ get_or xs i x
    → now ≡ first ++ spaced v (parts_items (map piece (take i xs))) → new ≡ now ++ spaced v (part_items (piece x)) → new ≡ first ++ spaced v (parts_items (map piece (take (i + 1) xs)))
more_pieces v first now new xs i x lt is before after =
    let one : i + 1 ≡ suc i = omega arith in
    let more : parts_items (map piece (take (suc i) xs)) ≡ parts_items (map piece (take i xs)) ++ part_items (piece x) =
    ap (λ (ys : List Piece). parts_items (map piece ys)) (take-suc xs i x lt)
    ∙ ap parts_items (map-append piece (take i xs) (get_or xs i x ∷ []))
    ∙ flat_map-append part_items (map piece (take i xs)) (piece (get_or xs i x) ∷ [])
    ∙ ap (λ (y : List Item). parts_items (map piece (take i xs)) ++ y) (append-nil (part_items (piece (get_or xs i x))) ∙ ap (λ (z : Piece). part_items (piece z)) (sym is)) in
    rw (one, more) (then v first now new (parts_items (map piece (take i xs))) (part_items (piece x)) before after)

abbrev lines_of : ℕ → List Step → List ℕ
lines_of v xs = flat_map (ended v) (map Goes (map middle_view xs))

pub more_steps : (v : ℕ) (first now new : List ℕ) (xs : List Step) (i : ℕ) (x : Step) → i < length xs → x ≡ get_or xs i x
    → now ≡ first ++ lines_of v (take i xs) → new ≡ now ++ ended v (Goes (middle_view x)) → new ≡ first ++ lines_of v (take (i + 1) xs)
more_steps v first now new xs i x lt is before after =
    let one : i + 1 ≡ suc i = omega arith in
    let front = map Goes (map middle_view (take i xs)) in
    let more : lines_of v (take (suc i) xs) ≡ lines_of v (take i xs) ++ ended v (Goes (middle_view x)) =
    ap (lines_of v) (take-suc xs i x lt)
    ∙ ap (λ (ms : List _). flat_map (ended v) (map Goes ms)) (map-append middle_view (take i xs) (get_or xs i x ∷ []))
    ∙ ap (flat_map (ended v)) (map-append Goes (map middle_view (take i xs)) (middle_view (get_or xs i x) ∷ []))
    ∙ flat_map-append (ended v) front (Goes (middle_view (get_or xs i x)) ∷ [])
    ∙ ap (λ (y : List ℕ). lines_of v (take i xs) ++ y) (append-nil (ended v (Goes (middle_view (get_or xs i x)))) ∙ ap (λ (z : Step). ended v (Goes (middle_view z))) (sym is)) in
    rw (one, more) (joined first now new (lines_of v (take i xs)) (ended v (Goes (middle_view x))) before after)

regroup : (a b c d e : List ℕ) → (((a ++ b) ++ c) ++ d) ++ e ≡ a ++ (b ++ (c ++ (d ++ e)))
regroup a b c d e = simp append_assoc

-- the lines of a plan, piece by piece
pub whole_text : (v : ℕ) (head ms : List Said) (o : Origin) (k : Kind) (l : End) (none a b c d new : List ℕ)
    → none ≡ [] → a ≡ none ++ flat_map (ended v) head → b ≡ a ++ ended v (Begins o) → c ≡ b ++ ended v (Par k) → d ≡ c ++ flat_map (ended v) ms → new ≡ d ++ ended v (Ends l)
    → new ≡ flat_map (ended v) (head ++ Begins o ∷ Par k ∷ (ms ++ Ends l ∷ []))
whole_text v head ms o k l none a b c d new e0 e1 e2 e3 e4 e5 =
    let all : new ≡ (((flat_map (ended v) head ++ ended v (Begins o)) ++ ended v (Par k)) ++ flat_map (ended v) ms) ++ ended v (Ends l) =
    e5 ∙ ap (λ (x : List ℕ). x ++ ended v (Ends l)) (e4 ∙ ap (λ (x : List ℕ). x ++ flat_map (ended v) ms) (e3 ∙ ap (λ (x : List ℕ). x ++ ended v (Par k)) (e2 ∙ ap (λ (x : List ℕ). x ++ ended v (Begins o)) (e1 ∙ ap (λ (x : List ℕ). x ++ flat_map (ended v) head) e0)))) in
    let tail : flat_map (ended v) (ms ++ Ends l ∷ []) ≡ flat_map (ended v) ms ++ ended v (Ends l) =
    flat_map-append (ended v) ms (Ends l ∷ []) ∙ ap (λ (x : List ℕ). flat_map (ended v) ms ++ x) (append-nil (ended v (Ends l))) in
    all
    ∙ regroup (flat_map (ended v) head) (ended v (Begins o)) (ended v (Par k)) (flat_map (ended v) ms) (ended v (Ends l))
    ∙ ap (λ (x : List ℕ). flat_map (ended v) head ++ (ended v (Begins o) ++ (ended v (Par k) ++ x))) (sym tail)
    ∙ sym (flat_map-append (ended v) head (Begins o ∷ Par k ∷ (ms ++ Ends l ∷ [])))
