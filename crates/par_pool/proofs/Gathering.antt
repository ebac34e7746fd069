-- The tails of a chain, merged one by one, the nearest first.
use Rattle.std.proofs.Common.{◌≡◌, ◌≢◌, ℕ, suc, ◌+◌, ◌*◌, ◌/◌, ◌^◌, ◌≤◌, ◌<◌, ◌⊎◌, inl, inr, ⊎_elim, List, [], ◌∷◌, length, map, get_or, sym, ap, ◌∙◌, subst, arith, true, false}
use mathlib.Core.Logic.{dite}
use native.Mathlib.Decide.{ℕ_discrete}
use Rattle.par_board.specs.declared.answers.NodeState.{NodeState}
use Rattle.par_board.specs.Tree.{below, TreeLaws}
use Rattle.par_board.specs.Seen.{Owned, Held, not_held, not_owned, Sight, owns_at, holds_at}
use Rattle.par_board.specs.Calls.{HasOpen, IsClaimed, IsElsewhere, IsFinished, HoldsNothing, OpensNothing, HoldsSame}
use Rattle.par_task.specs.Alone.{tail_nodes}
use Rattle.par_task.specs.Chains.{Follows}
use Rattle.par_task.specs.Spans.{IsSpan}
use Rattle.par_pool.specs.Tails.{AreTails, Opens, AreOffered, IsSettled, WasCollected, Pending, IsShut}
use Rattle.par_pool.proofs.Spines.{not_true, true_or, pow_more, left_is, up_pos}
use Rattle.par_pool.proofs.Cutting.{tails_next, span_left}

module _ {S X F : Type 0} (items : S → List X) (lo : S → ℕ) where
  -- what was merged ends where the tails that are left begin; `done` says it of a place
  pub record Gathering (source : List X) (done : ℕ → Type 0) (k at hi : ℕ) (v : Sight F) : Type 0 where
    pub tails : List (ℕ × S)
    pub from : ℕ
    pub done_is : done from
    pub at_is : at ≡ k * 2 ^ length tails
    pub ahead : AreTails items lo source k from hi tails
    pub opens : Opens items lo v tails
    pub shut : (m : ℕ) → m < 2048 → IsShut (owns_at v m) ⊎ Pending k 0 (length tails) m

  -- tails that lie lower on the spine stay open
  opens_still : (laws : TreeLaws) (k x : ℕ) (v w : Sight F) (ts : List (ℕ × S)) → 0 < k → map (λ t. t.0) ts ≡ tail_nodes k (length ts) → 0 < x → k * 2 ^ length ts + 1 < x → k * 2 ^ length ts ≤ 2047 → IsSettled x v w → Opens items lo v ts → Opens items lo w ts
  opens_still laws k x v w [] pos e px low small s o = tt
  opens_still laws k x v w (t ∷ ts) pos e px low small s o =
      let is : t.0 ≡ k * 2 ^ suc (length ts) + 1 = cc in
      let rest : map (λ y. y.0) ts ≡ tail_nodes k (length ts) = cc in
      let a = left_is k (length ts) pos in let b = up_pos k (length ts) pos in
      let near : t.0 < 2048 = omega (arith, is, a, small) in
      let less : t.0 < x = omega (arith, is, low) in
      let out : below x t.0 ≡ false = not_true (below x t.0) (λ z. let m = laws.greater x t.0 px z in omega (arith, m, less)) in
      (s.owns t.0 near (λ z. omega (arith, z, less)) out ∙ o.0, opens_still laws k x v w ts pos rest px (omega (arith, low, a)) (omega (arith, small, a)) s o.1)

  pub gathering_first :
      {source : List X} {done : ℕ → Type 0} {k at from hi : ℕ} {tails : List (ℕ × S)} {u v : Sight F} →
      done from → at ≡ k * 2 ^ length tails → AreTails items lo source k from hi tails → AreOffered items lo k tails u v → ((m : ℕ) → m < 2048 → IsShut (owns_at u m)) → Gathering source done k at hi v
  gathering_first {from = from} {tails = tails} d e a o q = record {
    tails = tails;
    from = from;
    done_is = d;
    at_is = e;
    ahead = a;
    opens = o.opens;
    shut = λ m near. o.shut m near (q m near);
  }

  -- there is a next tail
  pub record Next (source : List X) (done : ℕ → Type 0) (k at hi : ℕ) (v : Sight F) : Type 0 where
    pub ts : List (ℕ × S)
    pub s : S
    pub from : ℕ
    pub done_is : done from
    pub at_is : at ≡ k * 2 ^ suc (length ts)
    pub now : AreTails items lo source k from hi ((at + 1, s) ∷ ts)
    pub opens : Opens items lo v ((at + 1, s) ∷ ts)
    pub shut : (m : ℕ) → m < 2048 → IsShut (owns_at v m) ⊎ Pending k 0 (suc (length ts)) m

  pub gathering_next : {source : List X} {done : ℕ → Type 0} {k at hi : ℕ} {v : Sight F} → k < at → Gathering source done k at hi v → Next source done k at hi v
  gathering_next {source} {done} {k} {at} {hi} {v} some g = go g.tails g.from g.done_is g.at_is g.ahead g.opens g.shut
    where
      go :
          (tails : List (ℕ × S)) (from : ℕ) → done from → at ≡ k * 2 ^ length tails → AreTails items lo source k from hi tails → Opens items lo v tails →
          ((m : ℕ) → m < 2048 → IsShut (owns_at v m) ⊎ Pending k 0 (length tails) m) → Next source done k at hi v
      go [] from d e a o q = absurd (omega (arith, e, some))
      go ((x, s) ∷ ts) from d e a o q =
          let is : x ≡ at + 1 = (tails_next items lo source k from hi x s ts a).0 ∙ ap (λ (y : ℕ). y + 1) (sym e) in
          record {
            ts = ts;
            s = s;
            from = from;
            done_is = d;
            at_is = e;
            now = subst (λ (y : ℕ). AreTails items lo source k from hi ((y, s) ∷ ts)) is a;
            opens = subst (λ (y : ℕ). Opens items lo v ((y, s) ∷ ts)) is o;
            shut = q;
          }

  module _ {source : List X} {done : ℕ → Type 0} {k at hi : ℕ} {v : Sight F} (pos : 0 < k) (g : Next source done k at hi v) where
    abbrev f : Follows items lo g.from g.now.rest ((at + 1, g.s) ∷ g.ts)
    f = g.now.follows

    abbrev pub to : ℕ
    to = g.from + length (items g.s)

    pub to_within : to ≤ length source
    to_within = let p = span_left source g.from (items g.s) f.2.0 (subst (λ (y : List X). IsSpan source g.from y) f.2.1.0 g.now.spans) in p.within

    pub next_open : HasOpen (at + 1) g.from to v
    next_open = subst (λ (y : ℕ). HasOpen (at + 1) y (y + length (items g.s)) v) f.0 g.opens.0

    pub next_near : (0 < at + 1) × (at + 1 < 2048)
    next_near = let l = left_is k (length g.ts) pos in let small = g.now.small in let e = g.at_is in (omega arith, omega (arith, e, l, small))

    pub gathering_after : (laws : TreeLaws) (done' : ℕ → Type 0) (w : Sight F) → IsSettled (at + 1) v w → done' to → Gathering source done' k (at / 2) hi w
    gathering_after laws done' w t d =
        let n = (tails_next items lo source k g.from hi (at + 1) g.s g.ts g.now).1 in
        let l = left_is k (length g.ts) pos in let up = up_pos k (length g.ts) pos in let e = g.at_is in
        record {
          tails = g.ts;
          from = to;
          done_is = d;
          at_is = omega (arith, e, l);
          ahead = n;
          opens = let small = n.small in opens_still laws k (at + 1) v w g.ts pos n.nodes (omega arith) (omega (arith, e, l, up)) small t g.opens.1;
          shut = λ m near. dite (ℕ_discrete m (at + 1))
              (λ z. inl (inr (inr (ap (λ (y : ℕ). owns_at w y) z ∙ t.merged))))
              (λ ne. ⊎_elim
              (λ (c : IsShut (owns_at v m)). inl (t.shut m near c))
              (λ (p : Pending k 0 (suc (length g.ts)) m). dite (ℕ_discrete p.0 (length g.ts))
              (λ z. absurd (ne (p.3 ∙ (ap (λ (y : ℕ). k * 2 ^ suc y + 1) z ∙ ap (λ (y : ℕ). y + 1) (sym e)))))
              (λ other. inr (p.0, omega arith, (let q2 = p.2 in omega (arith, q2, other)), p.3)))
              (g.shut m near));
        }

  -- no tail is left
  pub gathering_last : {source : List X} {done : ℕ → Type 0} {k at hi : ℕ} {v : Sight F} → 0 < k → at ≤ k → Gathering source done k at hi v → done hi × ((m : ℕ) → m < 2048 → IsShut (owns_at v m))
  gathering_last {source} {done} {k} {at} {hi} {v} pos none g = go g.tails g.from g.done_is g.at_is g.ahead g.shut
    where
      go :
          (tails : List (ℕ × S)) (from : ℕ) → done from → at ≡ k * 2 ^ length tails → AreTails items lo source k from hi tails →
          ((m : ℕ) → m < 2048 → IsShut (owns_at v m) ⊎ Pending k 0 (length tails) m) → done hi × ((m : ℕ) → m < 2048 → IsShut (owns_at v m))
      go [] from d e a q = let r : a.rest ≡ [] = a.follows in let n = ap length r in
          (subst done (omega (arith, n, a.ends)) d, λ m near. ⊎_elim (λ (c : IsShut (owns_at v m)). c) (λ (p : Pending k 0 0 m). absurd (let z = p.2 in omega (arith, z))) (q m near))
      go (t ∷ ts) from d e a q = let l = left_is k (length ts) pos in let up = pow_more k (length ts) in absurd (omega (arith, e, l, up, none, pos))

-- what a seat that held nothing knows when it has claimed a node
module _ {F : Type 0} {k lo hi : ℕ} {v w : Sight F} (c : IsClaimed k lo hi v w) where
  pub claimed_shut : ((m : ℕ) → m < 2048 → IsShut (owns_at v m)) → (m : ℕ) → m < 2048 → IsShut (owns_at w m)
  claimed_shut q m near = ⊎_elim
      (λ (t : below k m ≡ true). inr (inl (c.tree m near t)))
      (λ (f : below k m ≡ false). subst (λ (p : Owned). IsShut p) (sym (c.owns m near f)) (q m near))
      (true_or (below k m))

  pub claimed_loose : HoldsNothing v → (m : ℕ) → m < 2048 → m ≢ k → holds_at w m ≡ not_held
  claimed_loose q m near ne = c.holds m near ne ∙ q m near

-- the node was finished
module _ {F : Type 0} {k : ℕ} {v w : Sight F} (f : IsFinished k v w) where
  pub finished_loose : ((m : ℕ) → m < 2048 → m ≢ k → holds_at v m ≡ not_held) → HoldsNothing w
  finished_loose h m near = dite (ℕ_discrete m k) (λ z. ap (λ (y : ℕ). holds_at w y) z ∙ f.loose) (λ ne. f.holds m near ne ∙ h m near ne)

  pub finished_shut : ((m : ℕ) → m < 2048 → IsShut (owns_at v m)) → OpensNothing w
  finished_shut s m near = subst (λ (p : Owned). IsShut p) (sym (f.owns m near)) (s m near)

-- a claim in vain leaves the seat as it was but for its notes
module _ {F : Type 0} {k : ℕ} (state : NodeState) {v w : Sight F} (e : IsElsewhere k state v w) where
  elsewhere_owns : w.owns ≡ v.owns
  elsewhere_owns = elim e.3 [ inl a ↦ ap (λ (s : Sight F). s.owns) a | inr b ↦ ap (λ (s : Sight F). s.owns) b.1 ]

  elsewhere_holds : w.holds ≡ v.holds
  elsewhere_holds = elim e.3 [ inl a ↦ ap (λ (s : Sight F). s.holds) a | inr b ↦ ap (λ (s : Sight F). s.holds) b.1 ]

  pub elsewhere_loose : HoldsNothing v → HoldsNothing w
  elsewhere_loose h m near = ap (λ (l : List Held). get_or l m not_held) elsewhere_holds ∙ h m near

  pub elsewhere_shut : OpensNothing v → OpensNothing w
  elsewhere_shut s m near = subst (λ (p : Owned). IsShut p) (sym (ap (λ (l : List Owned). get_or l m not_owned) elsewhere_owns)) (s m near)

-- a node was tried and then taken back
pub settled_of :
    {F : Type 0} {k : ℕ} {v u w : Sight F} → HoldsSame v u → ((m : ℕ) → m < 2048 → below k m ≡ false → owns_at u m ≡ owns_at v m) → ((m : ℕ) → m < 2048 → IsShut (owns_at v m) → IsShut (owns_at u m)) →
    WasCollected k u w → IsSettled k v w
settled_of {k = k} {v} {u} {w} holds owns shut c = record {
  merged = c.merged;
  owns = λ m near ne out. c.owns m near ne ∙ owns m near out;
  shut = λ m near s. dite (ℕ_discrete m k)
      (λ (z : m ≡ k). inr (inr (ap (λ (y : ℕ). owns_at w y) z ∙ c.merged)))
      (λ ne. subst (λ (p : Owned). IsShut p) (sym (c.owns m near ne)) (shut m near s));
  holds = λ m near. c.holds m near ∙ holds m near;
}
