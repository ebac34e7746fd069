-- Both sides of a span: what a leaf passed, and what it left.
use Rattle.std.proofs.Common.{◌≡◌, ℕ, ◌<◌, ◌≤◌, List, ◌∷◌, ◌++◌, length, length-append, Bool, ap, ◌∙◌, subst, arith}
use Rattle.par_task.specs.Parts.{between, IsSpanned}
use Rattle.par_jobs.specs.Passing.{IsPassed, IsLeft}
use Rattle.par_jobs.proofs.Fronts.{front_of, span_between}

-- an item that is still to come is one more than those that were taken
pub few_taken : {X : Type 0} (done : List X) (x : X) (rest all : List X) → done ++ x ∷ rest ≡ all → length done < length all
few_taken done x rest all e = omega (arith, ap length e, length-append done (x ∷ rest))

-- what is left are the items between the place on where the leaf ended and its end
pub left_between : {X : Type 0} (source : List X) (at hi : ℕ) (items : List X) → IsLeft source at hi items → items ≡ between source at hi
left_between source at hi items l = span_between source at items l.span ∙ ap (λ k. between source at k) l.ends

pub few_left : {X : Type 0} (source : List X) (at hi : ℕ) (items : List X) → IsLeft source at hi items → length source ≤ 4194304 → length items ≤ 4194304
few_left source at hi items l h = omega (arith, l.span.within, h)

-- what a leaf passed, with what is built of the items that it left, is a good part
pub spanned_of :
    {X K : Type 0} (built : List X → K → Type 0) (source : List X) (marks : List Bool) (lo hi at : ℕ) (prefix suffix : K) (whole : Bool) (items : List X) →
    hi ≤ length marks → IsPassed built source marks lo hi at prefix whole → IsLeft source at hi items → built items suffix → IsSpanned built source marks lo hi prefix suffix at whole
spanned_of built source marks lo hi at prefix suffix whole items w p l s = record {
  from = p.from;
  within = p.within;
  prefix_is = p.kept_is;
  suffix_is = subst (λ v. built v suffix) (left_between source at hi items l) s;
  no_suffix = p.all;
  ends = (front_of built source marks lo hi at prefix whole w p).ends;
}
