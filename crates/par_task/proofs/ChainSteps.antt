-- A chain as it is cut: the first, and one cut more.
use Rattle.std.proofs.Common.{◌≡◌, ℕ, zero, suc, ◌+◌, ◌*◌, ◌^◌, ◌≤◌, ◌<◌, ◌⊎◌, inl, inr, ⊎_elim, List, [], ◌∷◌, ◌++◌, length, map, length-append, append_assoc, refl, ap, sym, ◌∙◌, subst, arith, rules}
use Rattle.std.proofs.lemmas.List.{append-nil, length-map}
use Rattle.std.proofs.lemmas.Bool.{cases_lt}
use Rattle.std.proofs.Math.Pow.{pow_mono}
use Rattle.std.proofs.Math.Nat.{pow-suc}
use Rattle.par_splitter.specs.Parts.{AreHalves, AreParts}
use Rattle.par_task.specs.Alone.{tail_nodes}
use Rattle.par_task.specs.Chains.{Follows, IsLinked}

pub pow_next : (a d : ℕ) → a * 2 ^ (suc d) ≡ 2 * (a * 2 ^ d)
pow_next a d = rw pow-suc (omega arith)

pub length-tail_nodes : (at d : ℕ) → length (tail_nodes at d) ≡ d
length-tail_nodes at zero = refl
length-tail_nodes at (suc d) = ap suc (length-tail_nodes at d)

pub depth_small : (at d : ℕ) → 1 ≤ at → at * 2 ^ d ≤ 1023 → d < 10
depth_small zero d h k = absurd (omega (arith, h))
depth_small (suc b) d h k = elim (cases_lt d 10) [
  | inl lt ↦ lt
  | inr ge ↦ let p : 2 ^ 10 ≤ 2 ^ d = pow_mono ge in let q : 1024 ≤ 2 ^ d = p in absurd (omega (arith, q, k))
]

module _ {S X : Type 0} (items : S → List X) (lo : S → ℕ) where
  pub linked_first : (source : S) (at : ℕ) → at ≤ 2047 → IsLinked items lo source at at source []
  linked_first source at h = record {
    head_lo = refl;
    joined = ([], (sym (append-nil (items source)), refl));
    nodes = (0, (omega arith, refl));
    small = h;
    some = λ k. k;
  }

  pub linked_next :
      (source : S) (at node : ℕ) (head a b : S) (tails : List (ℕ × S)) →
      IsLinked items lo source at node head tails → AreHalves items lo head a b → 2 * node + 1 ≤ 2047 →
      IsLinked items lo source at (node * 2) a ((2 * node + 1, b) ∷ tails)
  linked_next source at node head a b tails l h k =
      let d = l.nodes.0 in
      let rest = l.joined.0 in
      let count : length (items head) ≡ length (items a) + length (items b) = ap length h.parts.joined ∙ length-append (items a) (items b) in
      let up : node * 2 ≡ at * 2 ^ (suc d) = omega (arith, l.nodes.1.0, pow_next at d) in
      let number : 2 * node + 1 ≡ at * 2 ^ (suc d) + 1 = omega (arith, up) in
      let from : lo source + length (items head) ≡ lo source + length (items a) + length (items b) = omega (arith, count) in
      record {
        head_lo = h.parts.lo_left ∙ l.head_lo;
        joined = (
          items b ++ rest,
          (
            l.joined.1.0 ∙ (ap (λ v. v ++ rest) h.parts.joined ∙ append_assoc (items a) (items b) rest),
            (omega (arith, h.parts.lo_right, l.head_lo), h.right_some, (rest, (refl, subst (λ v. Follows items lo v rest tails) from l.joined.1.1))),
          ),
        );
        nodes = (suc d, (up, rw number (ap (λ r. (at * 2 ^ (suc d) + 1) ∷ r) l.nodes.1.1)));
        small = omega arith;
        some = λ _. h.left_some;
      }

  pub halves_count : (head a b : S) → AreHalves items lo head a b → (t : ℕ) → t < length (items head) → t < length (items a) + length (items b)
  halves_count head a b h t more = omega (arith, ap length h.parts.joined, length-append (items a) (items b))

  pub no_whole :
      (source : S) (at node : ℕ) (head : S) (tails : List (ℕ × S)) (t : ℕ) →
      IsLinked items lo source at node head tails → (1 ≤ t) ⊎ (items source ≡ []) → t < length (items head) → length (items head) < 2 → ⊥
  no_whole source at node head tails t l (inl h) more few = omega arith
  no_whole source at node head tails t l (inr e) more few =
      let count = sym (ap length l.joined.1.0) ∙ ap length e in
      omega (arith, count, length-append (items head) l.joined.0)

  pub room :
      (source : S) (at node : ℕ) (head : S) (tails : List (ℕ × S)) → IsLinked items lo source at node head tails → 1 ≤ at → 2 * node + 1 ≤ 2047 → length tails < 10
  room source at node head tails l h few =
      let d = l.nodes.0 in
      let e : length tails ≡ d = sym (length-map tails (λ (x : ℕ × S). x.0)) ∙ (ap length l.nodes.1.1 ∙ length-tail_nodes at d) in
      let k : at * 2 ^ d ≤ 1023 = omega (arith, few, l.nodes.1.0) in
      omega (arith, e, depth_small at d h k)
