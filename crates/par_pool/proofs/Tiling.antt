-- What the check of an audit shows.
use Rattle.std.proofs.Common.{◌≡◌, ◌≢◌, ℕ, zero, suc, ◌+◌, ◌<◌, ◌≤◌, inl, inr, Bool, List, [], ◌∷◌, ◌++◌, Result, Ok, Err, IfOk, length, get_or, set, take, refl, ap, sym, ◌∙◌, subst, arith}
use Rattle.std.specs.List.{All, Contains, AllPairs}
use Rattle.std.proofs.lemmas.List.{get_or-set_same, get_or-set_other, get_or_read, take_all}
use Rattle.std.proofs.lemmas.List.Elements.{All-contains, Contains-get_or, Contains-push_cases, Contains-append_cases}
use mathlib.Core.Logic.{dite}
use native.Mathlib.Decide.{ℕ_discrete}
use Rattle.par_task.specs.Marking.{Kind}
use Rattle.par_task.specs.Alone.{HasTurnsFrom, IsOneChain, TestsInAll}
use Rattle.par_task.specs.Audits.{Adjoins, Covers, IsLeafed, Comes, one, both, HasTurns, IsAudit, IsIdle, IsLawfulLeaf, threshold_of}
use Rattle.par_task.specs.Manners.{IsRunBy}
use Rattle.par_pool.specs.Plans.{planned}
use Rattle.par_task.specs.declared.audit.Leaf.{Leaf}
use Rattle.par_pool.specs.Lists.{IsList, StandsAt, IsTable, IsTiling}

pub adjoins_push : (lo hi : ℕ) (ls : List Leaf) (l : Leaf) → Adjoins lo hi ls → l.lo ≡ hi → l.lo < l.hi → Adjoins lo l.hi (ls ++ l ∷ [])
adjoins_push lo hi [] l h e f = (e ∙ sym h, f, refl)
adjoins_push lo hi (a ∷ ls) l h e f = (h.0, h.1, adjoins_push a.hi hi ls l h.2 e f)

-- the places of the first k leaves are in the table, at their nodes, and nothing else
pub record IsFilling (table : List ℕ) (leaves : List Leaf) (k : ℕ) : Type 0 where
  pub wide : length table ≡ 2048
  pub nodes : (i : ℕ) (d : Leaf) → i < k → (1 ≤ (get_or leaves i d).node) × ((get_or leaves i d).node ≤ 2047)
  pub places : (i : ℕ) (d : Leaf) → i < k → get_or table (get_or leaves i d).node 0 ≡ i + 1

pub filling_first : (table : List ℕ) (leaves : List Leaf) → length table ≡ 2048 → IsFilling table leaves 0
filling_first table leaves w = record { wide = w; nodes = λ i d lt. absurd (omega (arith, lt)); places = λ i d lt. absurd (omega (arith, lt)) }

pub filling_next :
    (table table' : List ℕ) (leaves : List Leaf) (k : ℕ) (leaf : Leaf) → IsFilling table leaves k → k < length leaves → leaf ≡ get_or leaves k leaf → 1 ≤ leaf.node → leaf.node ≤ 2047 →
    get_or table leaf.node 0 ≡ 0 → table' ≡ set table leaf.node (k + 1) → length table' ≡ 2048 → IsFilling table' leaves (k + 1)
filling_next table table' leaves k leaf f lt is low high empty after wide = record {
  wide = wide;
  nodes = λ i d less. dite (ℕ_discrete i k)
      (λ (e : i ≡ k). let h = here i d e in (omega (arith, ap (λ (x : Leaf). x.node) h, low), omega (arith, ap (λ (x : Leaf). x.node) h, high)))
      (λ (ne : i ≢ k). f.nodes i d (omega (arith, less, ne)));
  places = λ i d less. rw after (dite (ℕ_discrete i k)
      (λ (e : i ≡ k). let n = ap (λ (x : Leaf). x.node) (here i d e) in subst (λ (x : ℕ). get_or (set table leaf.node (k + 1)) x 0 ≡ i + 1) (sym n) (get_or-set_same table leaf.node (k + 1) 0 (omega (arith, high, f.wide)) ∙ omega (arith, e)))
      (λ (ne : i ≢ k). let p = f.places i d (omega (arith, less, ne)) in
      get_or-set_other table leaf.node (get_or leaves i d).node (k + 1) 0 (λ z. let q = ap (λ (x : ℕ). get_or table x 0) z in omega (arith, p, q, empty)) ∙ p));
}
  where
    here : (i : ℕ) (d : Leaf) → i ≡ k → get_or leaves i d ≡ leaf
    here i d e = ap (λ (x : ℕ). get_or leaves x d) e ∙ sym (get_or_read leaves k leaf lt is d)

pub filled : (table : List ℕ) (leaves : List Leaf) (k : ℕ) → length leaves ≤ k → IsFilling table leaves k → IsTable table leaves
filled table leaves k all f = record { nodes = λ i d lt. f.nodes i d (omega (arith, lt, all)); places = λ i d lt. f.places i d (omega (arith, lt, all)) }

module _ (table : List ℕ) (leaves : List Leaf) (t : IsTable table leaves) where
  pub nodes_of : (a : Leaf) → Contains leaves a → (1 ≤ a.node) × (a.node ≤ 2047)
  nodes_of a c = subst (λ (x : Leaf). (1 ≤ x.node) × (x.node ≤ 2047)) c.2 (t.nodes c.0 a c.1)

  pub distinct_of : AllPairs (λ (a b : Leaf). a.node ≢ b.node) leaves
  distinct_of i j d lt k same =
      let p = t.places i d (omega (arith, lt, k)) in
      let q = t.places j d k in
      let r = ap (λ (x : ℕ). get_or table x 0) same in
      omega (arith, p, q, r, lt)

-- the seat and the turn of the leaf at a place of a worker's list
turn_at : (seat k : ℕ) (ls : List Leaf) → HasTurnsFrom seat k ls → (i : ℕ) (d : Leaf) → i < length ls → ((get_or ls i d).seat ≡ seat) × ((get_or ls i d).turn ≡ k + i)
turn_at seat k [] h i d lt = absurd (omega arith)
turn_at seat k (l ∷ ls) h zero d lt = (h.0, omega (arith, h.1))
turn_at seat k (l ∷ ls) h (suc i) d lt = let r = turn_at seat (k + 1) ls h.2 i d (omega arith) in (r.0, omega (arith, r.1))

-- each leaf that a part comes from is lawful
comes_lawful :
    {P : Type 0} (kind : Kind) (marks : List Bool) (good : ℕ → ℕ → P → Type 0) (merges : P → P → P → Type 0) {leaves : List Leaf} {part : P} →
    Comes (IsLeafed kind marks good) merges leaves part → (a : Leaf) → Contains leaves a → IsLawfulLeaf kind marks a
comes_lawful kind marks good merges (one {l} q) a c = elim (Contains-push_cases [] l a c) [
  | inl n ↦ absurd (omega (arith, n.1))
  | inr e ↦ subst (IsLawfulLeaf kind marks) e q.lawful_is
]
comes_lawful kind marks good merges (both {xs} {ys} p q m e) a c = elim (Contains-append_cases xs ys a (subst (λ v. Contains v a) e c)) [
  | inl h ↦ comes_lawful kind marks good merges p a h
  | inr h ↦ comes_lawful kind marks good merges q a h
]

module _ {V : Type 0} (items : V → List Leaf) (lists : List V) (kind : Kind) (marks : List Bool) (each : (v : V) → Contains lists v → IsList kind marks (items v)) (n t seats : ℕ) (leaves : List Leaf) (is : IsTiling items lists n t seats leaves) where
  -- the list of the leaf is one of the lists
  has_list : (a : Leaf) (s : StandsAt items lists a) → Contains lists s.list
  has_list a s = (a.seat, s.seat_is, s.list_is s.list)

  -- two leaves of one seat stand in one list
  same_list : (a b : Leaf) (s : StandsAt items lists a) (r : StandsAt items lists b) → a.seat ≡ b.seat → s.list ≡ r.list
  same_list a b s r e = sym (s.list_is s.list) ∙ (ap (λ (k : ℕ). get_or lists k s.list) e ∙ r.list_is s.list)

  stands_in : (a : Leaf) (s : StandsAt items lists a) → Contains (items s.list) a
  stands_in a s = (a.turn, s.turn_is, s.leaf_is a)

  turns_of : HasTurns leaves
  turns_of = record {
    no_gap = λ a c k lt.
        let s = is.stand a c in
        let own = each s.list (has_list a s) in
        let w : k < length (items s.list) = let q = s.turn_is in omega (arith, lt, q) in
        let b : Leaf = get_or (items s.list) k a in
        let r = turn_at own.seat 0 (items s.list) own.turns k a w in
        let p = turn_at own.seat 0 (items s.list) own.turns a.turn a s.turn_is in
        (b, is.told s.list (has_list a s) b (Contains-get_or (items s.list) k a w), r.0 ∙ (sym p.0 ∙ ap (λ (x : Leaf). x.seat) (s.leaf_is a)), omega (arith, r.1));
    once = λ a b c d e f.
        let s = is.stand a c in
        let r = is.stand b d in
        let l = same_list a b s r e in
        sym (s.leaf_is a) ∙ (ap (λ (v : V). get_or (items v) a.turn a) l ∙ (ap (λ (k : ℕ). get_or (items r.list) k a) f ∙ r.leaf_is a));
  }

  idle_of : IsIdle kind marks leaves
  idle_of a b c d e f =
      let s = is.stand a c in
      let r = is.stand b d in
      let own = each s.list (has_list a s) in
      own.idle a b (stands_in a s) (subst (λ (v : V). Contains (items v) b) (sym (same_list a b s r e)) (stands_in b r)) e f

  pub audit_of : {P : Type 0} (good : ℕ → ℕ → P → Type 0) (merges : P → P → P → Type 0) (part : P) → Comes (IsLeafed kind marks good) merges leaves part → IsAudit kind marks n t seats leaves
  audit_of good merges part comes = record {
    lawful = comes_lawful kind marks good merges comes;
    tiles = record {
      covers = is.covers;
      many = is.many;
      nodes = is.nodes;
      distinct = is.distinct;
      each_seat = λ a c. let s = is.stand a c in let q = s.seat_is in let f = is.few in omega (arith, q, f);
      turns = turns_of;
    };
    idle = idle_of;
  }

-- an audit of fewer seats
pub audit_seats : (kind : Kind) (marks : List Bool) (n t few seats : ℕ) (leaves : List Leaf) → few ≤ seats → IsAudit kind marks n t few leaves → IsAudit kind marks n t seats leaves
audit_seats kind marks n t few seats leaves le a = record {
  lawful = a.lawful;
  tiles = record {
    covers = a.tiles.covers;
    many = a.tiles.many;
    nodes = a.tiles.nodes;
    distinct = a.tiles.distinct;
    each_seat = λ x c. let l = a.tiles.each_seat x c in omega (arith, l, le);
    turns = a.tiles.turns;
  };
  idle = a.idle;
}

-- what the run of one worker tells, told of a run by so many
pub by_more :
    {P E : Type 0} (kind : Kind) (marks : List Bool) (n level workers : ℕ) (r : Result (P × List Leaf) E) → 1 ≤ workers → IfOk r (λ a. IsAudit kind marks n (threshold_of n level) 1 a.1) →
    IfOk r (λ a. IsOneChain a.1) → IfOk r (λ a. TestsInAll kind marks a.1) → IfOk r (λ a. IsRunBy (planned workers level) kind marks n a.1)
by_more kind marks n level workers (Ok a) least audit chain tested = record {
  audit = audit_seats kind marks n (threshold_of n level) 1 workers a.1 least audit;
  chain = λ _. chain;
  tested = λ _. tested;
}
by_more kind marks n level workers (Err e) least audit chain tested = tt

-- the leaf that a list has past its end
abbrev pub blank : Leaf
blank = record { node = 0; lo = 0; hi = 0; seat = 0; turn = 0; flag = 0; tested = 0 }

-- what holds of the first few, and of all when the list was gone through
pub all_of : {X : Type 0} (P : X → Type 0) (xs : List X) (i : ℕ) → length xs ≤ i → All P (take i xs) → (x : X) → Contains xs x → P x
all_of P xs i le all x c = All-contains P xs x (subst (λ (v : List _). All P v) (take_all i xs le) all) c

pub covers_of : (n : ℕ) (leaves : List Leaf) → n ≢ 0 → Adjoins 0 n leaves → Covers n leaves
covers_of n leaves ne a = record { some = λ h. a; none = λ e. absurd (ne e) }

-- what an answer tells, where there is one
pub ok_map : {T E : Type 0} (r : Result T E) (p q : T → Type 0) → ((a : T) → p a → q a) → IfOk r p → IfOk r q
ok_map (Ok a) p q f h = f a h
ok_map (Err e) p q f h = tt
