-- Leaves of one seat in the order of their turns, at the nodes of one chain.
use Rattle.std.proofs.Common.{◌≡◌, ◌≢◌, ℕ, zero, suc, ◌+◌, ◌*◌, ◌^◌, ◌≤◌, ◌<◌, ◌⊎◌, inl, inr, Bool, List, [], ◌∷◌, ◌++◌, length, map, get_or, refl, ap, sym, ◌∙◌, subst, arith, rules}
use Rattle.std.specs.List.{Contains, AllPairs}
use Rattle.std.proofs.lemmas.List.{length-map, get_or-map, get_or_default}
use Rattle.std.proofs.lemmas.List.Elements.{Contains-push_cases, Contains-get_or, Contains-append_cases}
use Rattle.std.proofs.Math.Pow.{pow_mono}
use Rattle.par_task.specs.Marking.{Kind}
use Rattle.par_task.specs.Audits.{IsLeafed, Comes, one, both, HasTurns, IsLawfulLeaf}
use Rattle.par_task.specs.Alone.{HasTurnsFrom, tail_nodes, chain_nodes}
use Rattle.par_task.specs.declared.audit.Leaf.{Leaf}
use Rattle.par_task.proofs.ChainSteps.{length-tail_nodes, pow_next}

pub turns_push : (seat k : ℕ) (ls : List Leaf) (l : Leaf) → HasTurnsFrom seat k ls → l.seat ≡ seat → l.turn ≡ k + length ls → HasTurnsFrom seat k (ls ++ l ∷ [])
turns_push seat k [] l h s t = (s, omega (arith, t), tt)
turns_push seat k (a ∷ ls) l h s t = (h.0, h.1, turns_push seat (k + 1) ls l h.2 s (omega (arith, t)))

-- the seat and the turn of the leaf at a place
pub turn_at : (seat k : ℕ) (ls : List Leaf) → HasTurnsFrom seat k ls → (i : ℕ) (d : Leaf) → i < length ls → ((get_or ls i d).seat ≡ seat) × ((get_or ls i d).turn ≡ k + i)
turn_at seat k [] h i d lt = absurd (omega arith)
turn_at seat k (l ∷ ls) h zero d lt = (h.0, omega (arith, h.1))
turn_at seat k (l ∷ ls) h (suc i) d lt = let r = turn_at seat (k + 1) ls h.2 i d (omega arith) in (r.0, omega (arith, r.1))

-- a leaf of the list, by its place
pub turn_of : (seat : ℕ) (ls : List Leaf) (h : HasTurnsFrom seat 0 ls) (a : Leaf) (c : Contains ls a) → (a.seat ≡ seat) × (a.turn ≡ c.0)
turn_of seat ls h a c =
    let r = turn_at seat 0 ls h c.0 a c.1 in
    (ap (λ (l : Leaf). l.seat) (sym c.2) ∙ r.0, omega (arith, ap (λ (l : Leaf). l.turn) c.2, r.1))

pub seats_of : (ls : List Leaf) → HasTurnsFrom 0 0 ls → (a : Leaf) → Contains ls a → a.seat < 1
seats_of ls h a c = omega (arith, (turn_of 0 ls h a c).0)

pub turns_of : (seat : ℕ) (ls : List Leaf) → HasTurnsFrom seat 0 ls → HasTurns ls
turns_of seat ls h = record {
  no_gap = λ a c k lt.
      let p = turn_of seat ls h a c in
      let w : k < length ls = omega (arith, lt, p.1, c.1) in
      let r = turn_at seat 0 ls h k a w in
      (get_or ls k a, Contains-get_or ls k a w, r.0 ∙ sym p.0, omega (arith, r.1));
  once = λ a b c d e f.
      let p = turn_of seat ls h a c in
      let q = turn_of seat ls h b d in
      let i : c.0 ≡ d.0 = omega (arith, p.1, q.1, f) in
      sym c.2 ∙ (get_or_default ls c.0 a b c.1 ∙ (ap (λ k. get_or ls k b) i ∙ d.2));
}

power_some : (a d : ℕ) → 1 ≤ a → 1 ≤ a * 2 ^ d
power_some a zero h = omega arith
power_some a (suc d) h = omega (arith, pow_next a d, power_some a d h)

-- a tail's node is odd, at least 3, and at most one above the node of the head
tail_odd : (node d i : ℕ) → i < d → (m : ℕ) × (get_or (tail_nodes node d) i 0 ≡ 2 * m + 1)
tail_odd node zero i lt = absurd (omega arith)
tail_odd node (suc d) zero lt = (node * 2 ^ d, omega (arith, pow_next node d))
tail_odd node (suc d) (suc i) lt = tail_odd node d i (omega arith)

tail_low : (node d i : ℕ) → 1 ≤ node → i < d → 3 ≤ get_or (tail_nodes node d) i 0
tail_low node zero i h lt = absurd (omega arith)
tail_low node (suc d) zero h lt = omega (arith, pow_next node d, power_some node d h)
tail_low node (suc d) (suc i) h lt = tail_low node d i h (omega arith)

tail_high : (node d i : ℕ) → 1 ≤ node → i < d → get_or (tail_nodes node d) i 0 ≤ node * 2 ^ d + 1
tail_high node zero i h lt = absurd (omega arith)
tail_high node (suc d) zero h lt = omega arith
tail_high node (suc d) (suc i) h lt = let r = tail_high node d i h (omega arith) in omega (arith, r, pow_next node d)

-- and the nodes of the tails fall
tails_fall : (node d i j : ℕ) → 1 ≤ node → i < j → j < d → get_or (tail_nodes node d) j 0 < get_or (tail_nodes node d) i 0
tails_fall node zero i j h lt k = absurd (omega arith)
tails_fall node (suc d) i zero h lt k = absurd (omega arith)
tails_fall node (suc d) zero (suc j) h lt k = let r = tail_high node d j h (omega arith) in omega (arith, r, pow_next node d, power_some node d h)
tails_fall node (suc d) (suc i) (suc j) h lt k = tails_fall node d i j h (omega arith) (omega arith)

head_apart : (node d i : ℕ) → i < d → get_or (tail_nodes node d) i 0 ≢ node * 2 ^ d
head_apart node zero i lt e = absurd (omega arith)
head_apart node (suc d) i lt e = let o = tail_odd node (suc d) i lt in omega (arith, o.1, e, pow_next node d)

chain_apart : (node d i j : ℕ) → 1 ≤ node → i < j → j < length (chain_nodes node d) → get_or (chain_nodes node d) i 0 ≢ get_or (chain_nodes node d) j 0
chain_apart node d i zero h lt k e = absurd (omega arith)
chain_apart node d zero (suc j) h lt k e = head_apart node d j (omega (arith, length-tail_nodes node d)) (sym e)
chain_apart node d (suc i) (suc j) h lt k e = let r = tails_fall node d i j h (omega arith) (omega (arith, length-tail_nodes node d)) in omega (arith, r, e)

chain_within : (node d i : ℕ) → 1 ≤ node → i < length (chain_nodes node d) → (1 ≤ get_or (chain_nodes node d) i 0) × (get_or (chain_nodes node d) i 0 ≤ node * 2 ^ d + 1)
chain_within node d zero h lt = (power_some node d h, omega arith)
chain_within node d (suc i) h lt =
    let w : i < d = omega (arith, length-tail_nodes node d) in
    (omega (arith, tail_low node d i h w), tail_high node d i h w)

-- the node of the leaf at a place
node_at : (ls : List Leaf) (ns : List ℕ) → map (λ (l : Leaf). l.node) ls ≡ ns → (i : ℕ) (d : Leaf) → i < length ls → (get_or ls i d).node ≡ get_or ns i 0
node_at ls ns e i d lt = sym (get_or-map (λ (l : Leaf). l.node) ls i d 0 lt) ∙ ap (λ v. get_or v i 0) e

pub distinct_of : (ls : List Leaf) (d : ℕ) → map (λ (l : Leaf). l.node) ls ≡ chain_nodes 1 d → AllPairs (λ (a b : Leaf). a.node ≢ b.node) ls
distinct_of ls d e i j x lt k same =
    let n : length ls ≡ length (chain_nodes 1 d) = sym (length-map ls (λ (l : Leaf). l.node)) ∙ ap length e in
    let p = node_at ls (chain_nodes 1 d) e i x (omega (arith, lt, k)) in
    let q = node_at ls (chain_nodes 1 d) e j x k in
    chain_apart 1 d i j (omega arith) lt (omega (arith, k, n)) (sym p ∙ (same ∙ q))

pub nodes_of : (ls : List Leaf) (d : ℕ) → d ≤ 10 → map (λ (l : Leaf). l.node) ls ≡ chain_nodes 1 d → (a : Leaf) → Contains ls a → (1 ≤ a.node) × (a.node ≤ 2047)
nodes_of ls d few e a c =
    let n : length ls ≡ length (chain_nodes 1 d) = sym (length-map ls (λ (l : Leaf). l.node)) ∙ ap length e in
    let p = node_at ls (chain_nodes 1 d) e c.0 a c.1 in
    let q : a.node ≡ get_or (chain_nodes 1 d) c.0 0 = ap (λ (l : Leaf). l.node) (sym c.2) ∙ p in
    let w = chain_within 1 d c.0 (omega arith) (omega (arith, c.1, n)) in
    let m : 2 ^ d ≤ 2 ^ 10 = pow_mono few in
    let k : 2 ^ d ≤ 1024 = m in
    (omega (arith, q, w.0), omega (arith, q, w.1, k))

-- each leaf that a part comes from is lawful
pub comes_lawful :
    {P : Type 0} (kind : Kind) (marks : List Bool) (good : ℕ → ℕ → P → Type 0) (merges : P → P → P → Type 0) {leaves : List Leaf} {part : P} →
    Comes (IsLeafed kind marks good) merges leaves part → (a : Leaf) → Contains leaves a → IsLawfulLeaf kind marks a
comes_lawful kind marks good merges (one {l} q) a c = elim (Contains-push_cases [] l a c) [
  | inl n ↦ absurd (omega (arith, n.1))
  | inr e ↦ subst (IsLawfulLeaf kind marks) e q.lawful_is
]
comes_lawful kind marks good merges (both {xs} {ys} p q m e) a c = elim (Contains-append_cases xs ys a (subst (λ v. Contains v a) e c)) [
  | inl h ↦ comes_lawful kind marks good merges p a h
  | inr h ↦ comes_lawful kind marks good merges q a h
]
