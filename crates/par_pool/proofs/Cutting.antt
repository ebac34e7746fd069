-- The first of the tails that are left.
use Rattle.std.proofs.Common.{◌≡◌, ℕ, suc, ◌+◌, ◌*◌, ◌^◌, ◌<◌, List, ◌∷◌, ◌++◌, length, take, drop, sym, refl, ap, ◌∙◌, subst, arith, length-append}
use Rattle.std.proofs.lemmas.List.{length-map, take-take, drop-take, drop-drop}
use Rattle.std.proofs.Math.Seq.{drop-append_seam, take-append_seam}
use Rattle.par_board.specs.Loads.{IsPiece}
use Rattle.par_task.specs.Alone.{tail_nodes}
use Rattle.par_task.specs.Chains.{Follows, IsLinked, IsChain}
use Rattle.par_task.specs.Spans.{IsSpan}
use Rattle.par_pool.specs.Tails.{AreTails}
use Rattle.par_pool.proofs.Spines.{pow_next, length-tail_nodes}

head_eq : (x y : ℕ) (xs ys : List ℕ) → x ∷ xs ≡ y ∷ ys → x ≡ y
head_eq x y xs ys e = cc

tail_eq : (x y : ℕ) (xs ys : List ℕ) → x ∷ xs ≡ y ∷ ys → xs ≡ ys
tail_eq x y xs ys e = cc

-- a span that falls into two
module _ {X : Type 0} (source : List X) (from : ℕ) (xs ys : List X) (h : IsSpan source from (xs ++ ys)) where
  abbrev count : length (xs ++ ys) ≡ length xs + length ys
  count = length-append xs ys

  pub span_left : IsSpan source from xs
  span_left = record {
    within = let a = h.within in let b = count in omega (arith, a, b);
    same = sym (take-append_seam xs ys) ∙ (ap (λ (v : List X). take (length xs) v) h.same ∙ take-take (length xs) (length (xs ++ ys)) (drop from source) (let b = count in omega (arith, b)));
  }

  pub span_right : IsSpan source (from + length xs) ys
  span_right = record {
    within = let a = h.within in let b = count in omega (arith, a, b);
    same = sym (drop-append_seam xs ys) ∙ (ap (λ (v : List X). drop (length xs) v) (h.same ∙ ap (λ (c : ℕ). take c (drop from source)) count) ∙ (drop-take (length xs) (length ys) (drop from source) ∙ ap (λ (v : List X). take (length ys) v) (drop-drop (length xs) from source)));
  }

module _ {S X : Type 0} (items : S → List X) (lo : S → ℕ) (source : List X) (k from hi x : ℕ) (s : S) (ts : List (ℕ × S)) (a : AreTails items lo source k from hi ((x, s) ∷ ts)) where
  abbrev f : Follows items lo from a.rest ((x, s) ∷ ts)
  f = a.follows

  abbrev spans : IsSpan source from (items s ++ f.2.0)
  spans = subst (λ (v : List X). IsSpan source from v) f.2.1.0 a.spans

  pub tails_next : (x ≡ k * 2 ^ suc (length ts) + 1) × AreTails items lo source k (from + length (items s)) hi ts
  tails_next = (
    head_eq _ _ _ _ a.nodes,
    record {
      rest = f.2.0;
      nodes = tail_eq _ _ _ _ a.nodes;
      follows = f.2.1.1;
      spans = span_right source from (items s) f.2.0 spans;
      ends = let e = ap length f.2.1.0 ∙ length-append (items s) f.2.0 in omega (arith, e, a.ends);
      small = let e = pow_next k (length ts) in let m = a.small in omega (arith, e, m);
    },
  )

  pub piece_next : IsPiece items lo source (lo s) (lo s + length (items s)) s
  piece_next = record { place = refl; ends = refl; span = subst (λ (v : ℕ). IsSpan source v (items s)) (sym f.0) (span_left source from (items s) f.2.0 spans) }

pub few_next : {S X : Type 0} (items : S → List X) (lo : S → ℕ) (source : List X) (k hi : ℕ) (all before : List (ℕ × S)) (x : ℕ) (s : S) (ts : List (ℕ × S)) → all ≡ before ++ (x, s) ∷ ts → length ts < length all
few_next items lo source k hi all before x s ts e = let a = ap length e ∙ length-append before ((x, s) ∷ ts) in omega (arith, a)

-- what a chain of a part of the source leaves
module _ {S X : Type 0} (items : S → List X) (lo : S → ℕ) (source : List X) (from hi : ℕ) (whole : S) (k t node : ℕ) (head : S) (tails : List (ℕ × S)) (p : IsPiece items lo source from hi whole) (c : IsChain items lo whole k t node head tails) where
  abbrev l : IsLinked items lo whole k node head tails
  l = c.linked

  abbrev rest : List X
  rest = l.joined.0

  depth : l.nodes.0 ≡ length tails
  depth = sym (length-tail_nodes k l.nodes.0) ∙ (ap length (sym l.nodes.1.1) ∙ length-map tails (λ (x : ℕ × S). x.0))

  whole_spans : IsSpan source from (items head ++ rest)
  whole_spans = subst (λ (v : List X). IsSpan source from v) l.joined.1.0 p.span

  pub head_node : node ≡ k * 2 ^ length tails
  head_node = l.nodes.1.0 ∙ ap (λ (d : ℕ). k * 2 ^ d) depth

  pub head_lo_is : lo head ≡ from
  head_lo_is = l.head_lo ∙ p.place

  pub head_spans : IsSpan source (lo head) (items head)
  head_spans = subst (λ (v : ℕ). IsSpan source v (items head)) (sym head_lo_is) (span_left source from (items head) rest whole_spans)

  pub tails_of : AreTails items lo source k (from + length (items head)) hi tails
  tails_of = record {
    rest = rest;
    nodes = l.nodes.1.1 ∙ ap (λ (d : ℕ). tail_nodes k d) depth;
    follows = subst (λ (v : ℕ). Follows items lo (v + length (items head)) rest tails) p.place l.joined.1.1;
    spans = span_right source from (items head) rest whole_spans;
    ends = let e = ap length l.joined.1.0 ∙ length-append (items head) rest in omega (arith, e, p.ends);
    small = let e = head_node in let m = l.small in omega (arith, e, m);
  }

-- a piece as a call names it
pub piece_at : {S X : Type 0} {items : S → List X} {lo : S → ℕ} {source source' : List X} {a b a' b' : ℕ} {s : S} → IsPiece items lo source a b s → a' ≡ a → b' ≡ b → source' ≡ source → IsPiece items lo source' a' b' s
piece_at {items = items} {lo} {source} {source'} {a} {b} {a'} {b'} {s} p e f h =
    subst (λ (x : List _). IsPiece items lo x a' b' s) (sym h) (subst (λ (x : ℕ). IsPiece items lo source x b' s) (sym e) (subst (λ (x : ℕ). IsPiece items lo source a x s) (sym f) p))
