-- The item behind a cut.
use Rattle.std.proofs.Common.{◌≡◌, ◌∙◌, ◌<◌, ℕ, min, get_or, sym, ap, List, ◌∷◌, ◌++◌, length, length-append, map, false, arith}
use Rattle.std.proofs.lemmas.List.{get_or-map, length-map}
use Rattle.std.proofs.Math.Seq.{get_or-append_seam}
use Rattle.par_laws.specs.declared.test.Verdict.{Verdict}
use Rattle.par_laws.specs.declared.test.Verdict.TheVariants.{Fail}
use Rattle.par_task.specs.Marking.{low_flag, halts, marks_of}

-- the first item behind a cut at an index is marked at that index as its verdict says
pub marked : {X : Type 0} (V : X → Verdict) (source left right : List X) (at : ℕ) (x : X) (rest : List X) → source ≡ left ++ right → length left ≡ min at (length source) → right ≡ x ∷ rest → get_or (marks_of low_flag (map V source)) at false ≡ halts (V x)
marked V source left right at x rest e n r =
    let same : source ≡ left ++ (x ∷ rest) = e ∙ ap (λ v. left ++ v) r in
    let size = length-append left (x ∷ rest) in
    let here : length left ≡ at = omega (arith, n, ap length same, size) in
    let within : at < length source = omega (arith, here, ap length same, size) in
    let there : get_or source at x ≡ x = ap (λ l. get_or l at x) same ∙ (ap (λ k. get_or (left ++ (x ∷ rest)) k x) (sym here) ∙ get_or-append_seam left x rest x) in
    get_or-map halts (map V source) at Fail false (omega (arith, within, length-map source V)) ∙ ap halts (get_or-map V source at x Fail within ∙ ap V there)
