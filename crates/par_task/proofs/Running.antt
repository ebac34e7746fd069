-- A run of a job on one thread, leaf by leaf.
use Rattle.std.proofs.Common.{◌≡◌, ℕ, zero, suc, ◌+◌, ◌*◌, ◌^◌, ◌≤◌, ◌<◌, ◌⊎◌, inl, inr, min, ◌-◌, sum_by, Bool, true, false, List, [], ◌∷◌, ◌++◌, length, map, take, drop, get_or, refl, ap, sym, ◌∙◌, subst, arith, rules, length-append, append_assoc}
use Rattle.std.specs.List.{Contains}
use Rattle.std.proofs.lemmas.List.{append-nil, map-append, length-map}
use Rattle.std.proofs.lemmas.Bool.{cases_lt}
use Rattle.std.proofs.Math.Pow.{pow_mono}
use Rattle.std.proofs.lemmas.List.Elements.{Contains-push_cases}
use Rattle.std.proofs.lemmas.List.Sums.{sum_by_push}
use Rattle.std.proofs.Math.Seq.{drop-append_seam, take-append_seam}
use Rattle.par_laws.specs.declared.test.Verdict.{Verdict}
use Rattle.par_laws.specs.Marks.{Clear}
use Rattle.par_signal.specs.Seen.{Seen, Flags}
use Rattle.par_signal.specs.Calls.{opened}
use Rattle.par_signal.specs.Values.{IsSet}
use Rattle.par_task.specs.Marking.{Kind}
use Rattle.par_task.specs.Spans.{IsSpan}
use Rattle.par_task.specs.Marking.{marks_of, is_mark}
use Rattle.par_task.specs.Seats.{IsLater, Heeds, HasFound, IsFresh, IsLeafOf}
use Rattle.par_task.specs.Audits.{IsLeafed, Comes, one, both, Adjoins, Covers, Tiles, IsAudit, IsIdle, Learns}
use Rattle.par_task.specs.Alone.{HasTurnsFrom, IsOneChain, TestsInAll, tail_nodes, chain_nodes}
use Rattle.par_task.specs.Chains.{Follows, IsLinked, IsChain}
use Rattle.par_task.specs.Runs.{IsRun}
use Rattle.par_task.specs.declared.audit.Leaf.{Leaf}
use Rattle.par_task.proofs.ChainSteps.{length-tail_nodes}
use Rattle.par_task.proofs.Tiling.{turns_push, turns_of, seats_of, distinct_of, nodes_of, comes_lawful}
use Rattle.par_task.proofs.Counting.{counted_all, tested_within, found_later, learns, IsCounted, counted_next, counted_none}

pub adjoins_push : (lo hi : ℕ) (ls : List Leaf) (l : Leaf) → Adjoins lo hi ls → l.lo ≡ hi → l.lo < l.hi → Adjoins lo l.hi (ls ++ l ∷ [])
adjoins_push lo hi [] l h e f = (e ∙ sym h, f, refl)
adjoins_push lo hi (a ∷ ls) l h e f = (h.0, h.1, adjoins_push a.hi hi ls l h.2 e f)

-- the part and the leaves of what was done, from 0 to hi
pub record IsSoFar {P : Type 0} (kind : Kind) (marks : List Bool) (good : ℕ → ℕ → P → Type 0) (merges : P → P → P → Type 0) (hi turn : ℕ) (seat : Seen) (leaves : List Leaf) (part : P) : Type 0 where
  pub good_is : good 0 hi part
  pub comes : Comes (IsLeafed kind marks good) merges leaves part
  pub turns : HasTurnsFrom 0 0 leaves
  pub count : length leaves ≡ turn
  pub earlier : (a : Leaf) → Contains leaves a → a.turn < turn
  pub knows : (a : Leaf) → Contains leaves a → HasFound kind marks a.lo a.tested seat
  pub idle : IsIdle kind marks leaves
  pub counted : IsCounted kind marks hi (sum_by (λ l. l.tested) leaves) seat
  pub within : sum_by (λ l. l.tested) leaves ≤ hi
  pub alone : seat.alone ≡ true
  pub adjoins : 0 < hi → Adjoins 0 hi leaves
  pub single : hi ≡ 0 → (l : Leaf) × (leaves ≡ l ∷ []) × (l.lo ≡ 0) × (l.hi ≡ 0)

module _ {P : Type 0} (kind : Kind) (marks : List Bool) (good : ℕ → ℕ → P → Type 0) (merges : P → P → P → Type 0) where
  pub leaf_is : {lo count node turn before after : ℕ} {old new : Seen} {part : P} {leaf : Leaf} → IsRun kind marks good lo count node 0 turn before after old new part leaf → IsLeafed kind marks good leaf part
  leaf_is r = record { lawful_is = r.leaf_of.lawful; good_is = r.good_is }

  pub so_far_first :
      (count node before after : ℕ) (old new : Seen) (part : P) (leaf : Leaf) →
      IsRun kind marks good 0 count node 0 0 before after old new part leaf → IsLater old new → IsFresh old → old.alone ≡ true →
      IsSoFar kind marks good merges count 1 new (leaf ∷ []) part
  so_far_first count node before after old new part leaf r later fresh alone =
      let hi : leaf.hi ≡ count = omega (arith, r.hi_is) in
      let lo : leaf.lo ≡ 0 = r.lo_is in
      let is : (a : Leaf) → Contains (leaf ∷ []) a → leaf ≡ a = λ a c. elim (Contains-push_cases [] leaf a c) [ inl n ↦ absurd (omega (arith, n.1)) | inr e ↦ e ] in
      let w : leaf.lo + leaf.tested ≤ leaf.hi = tested_within kind marks leaf.lo leaf.hi leaf.flag leaf.tested (omega arith) r.leaf_of.lawful in
      record {
        good_is = subst (λ v. good 0 v part) hi (subst (λ v. good v leaf.hi part) lo r.good_is);
        comes = one (leaf_is r);
        turns = (r.seat_is, r.turn_is, tt);
        count = refl;
        earlier = λ a c. let e = is a c in rw (← e) (omega (arith, r.turn_is));
        knows = λ a c. subst (λ (v : Leaf). HasFound kind marks v.lo v.tested new) (is a c) r.leaf_of.found;
        idle = λ a b c d e f. let x = ap (λ (v : Leaf). v.turn) (is a c) in let y = ap (λ (v : Leaf). v.turn) (is b d) in absurd (omega (arith, x, y, f));
        counted = subst (λ v. IsCounted kind marks v (0 + leaf.tested) new) hi (counted_next kind marks leaf.lo leaf.hi leaf.flag leaf.tested 0 old new (omega arith) alone later r.leaf_of (subst (λ v. IsCounted kind marks v 0 old) (sym lo) (counted_none kind marks old fresh)));
        within = omega (arith, w, hi, lo);
        alone = later.alone alone;
        adjoins = λ h. (lo, omega arith, hi);
        single = λ h. (leaf, refl, lo, hi ∙ h);
      }

  pub so_far_next :
      (hi count node turn before after : ℕ) (old new : Seen) (leaves : List Leaf) (part next merged : P) (leaf : Leaf) →
      IsSoFar kind marks good merges hi turn old leaves part →
      IsRun kind marks good hi count node 0 turn before after old new next leaf → IsLater old new → 0 < hi → 0 < count → merges part next merged → good 0 (hi + count) merged →
      IsSoFar kind marks good merges (hi + count) (turn + 1) new (leaves ++ leaf ∷ []) merged
  so_far_next hi count node turn before after old new leaves part next merged leaf s r later started some m g =
      let e : leaf.hi ≡ hi + count = r.hi_is in
      let w : leaf.lo + leaf.tested ≤ leaf.hi = tested_within kind marks leaf.lo leaf.hi leaf.flag leaf.tested (omega (arith, r.lo_is, r.hi_is)) r.leaf_of.lawful in
      let total = sum_by_push (λ (l : Leaf). l.tested) leaves leaf in
      let is : (a : Leaf) → Contains (leaves ++ leaf ∷ []) a → Contains leaves a ⊎ (leaf ≡ a) = λ a c. Contains-push_cases leaves leaf a c in
      let before_it : (a : Leaf) → Contains leaves a → Learns kind marks a leaf = λ a c. learns kind marks a leaf old (s.knows a c) r.leaf_of.heeds in
      record {
        good_is = g;
        comes = both s.comes (one (leaf_is r)) m refl;
        turns = turns_push 0 0 leaves leaf s.turns r.seat_is (omega (arith, r.turn_is, s.count));
        count = length-append leaves (leaf ∷ []) ∙ omega (arith, s.count);
        earlier = λ a c. elim (is a c) [ inl n ↦ omega (arith, s.earlier a n) | inr e ↦ let f = ap (λ (v : Leaf). v.turn) e in omega (arith, f, r.turn_is) ];
        knows = λ a c. elim (is a c) [ inl n ↦ found_later kind marks a.lo a.tested old new later (s.knows a n) | inr e ↦ subst (λ (v : Leaf). HasFound kind marks v.lo v.tested new) e r.leaf_of.found ];
        idle = λ a b c d e f. elim (is b d) [
          | inl n ↦ elim (is a c) [
            | inl k ↦ s.idle a b k n e f
            | inr i ↦ let x = ap (λ (v : Leaf). v.turn) i in absurd (omega (arith, x, f, s.earlier b n, r.turn_is))
          ]
          | inr i ↦ elim (is a c) [
            | inl k ↦ subst (λ (v : Leaf). Learns kind marks a v) i (before_it a k)
            | inr j ↦ let x = ap (λ (v : Leaf). v.turn) i in let y = ap (λ (v : Leaf). v.turn) j in absurd (omega (arith, x, y, f))
          ]
        ];
        counted = rw total (subst (λ v. IsCounted kind marks v (sum_by (λ l. l.tested) leaves + leaf.tested) new) e (counted_next kind marks leaf.lo leaf.hi leaf.flag leaf.tested (sum_by (λ l. l.tested) leaves) old new (omega (arith, r.lo_is, r.hi_is)) s.alone later r.leaf_of (subst (λ v. IsCounted kind marks v (sum_by (λ l. l.tested) leaves) old) (sym r.lo_is) s.counted)));
        within = rw total (omega (arith, w, e, r.lo_is, s.within));
        alone = later.alone s.alone;
        adjoins = λ h. subst (λ v. Adjoins 0 v (leaves ++ leaf ∷ [])) e (adjoins_push 0 hi leaves leaf (s.adjoins started) r.lo_is (omega (arith, r.lo_is, r.hi_is)));
        single = λ h. absurd (omega arith);
      }

pub span_of : {X : Type 0} (source before xs rest : List X) → source ≡ before ++ (xs ++ rest) → IsSpan source (length before) xs
span_of source before xs rest e =
    let f = ap length e ∙ (length-append before (xs ++ rest) ∙ ap (λ k. length before + k) (length-append xs rest)) in
    record {
      within = omega (arith, f);
      same = sym (ap (λ v. take (length xs) (drop (length before) v)) e ∙ (ap (λ v. take (length xs) v) (drop-append_seam before (xs ++ rest)) ∙ take-append_seam xs rest));
    }

depth_of : (d : ℕ) → 1 * 2 ^ d ≤ 2047 → d ≤ 10
depth_of d h = elim (cases_lt d 11) [ inl lt ↦ omega (arith, lt) | inr ge ↦ let p : 2 ^ 11 ≤ 2 ^ d = pow_mono ge in let q : 2048 ≤ 2 ^ d = p in absurd (omega (arith, q, h)) ]

-- all that is owed of a run on one thread
pub record IsRunWhole {P : Type 0} (kind : Kind) (marks : List Bool) (good : ℕ → ℕ → P → Type 0) (merges : P → P → P → Type 0) (n t : ℕ) (leaves : List Leaf) (part : P) : Type 0 where
  pub good_is : good 0 n part
  pub comes : Comes (IsLeafed kind marks good) merges leaves part
  pub audit : IsAudit kind marks n t 1 leaves
  pub chain : IsOneChain leaves
  pub tested : TestsInAll kind marks leaves

-- the state of a run between two leaves: what was done, and the tails ahead
pub record IsGoing {S X P : Type 0} (items : S → List X) (lo : S → ℕ) (kind : Kind) (marks : List Bool) (good : ℕ → ℕ → P → Type 0) (merges : P → P → P → Type 0) (source : List X) (node : ℕ) (all tails : List (ℕ × S)) (turn : ℕ) (seat : Seen) (leaves : List Leaf) (part : P) : Type 0 where
  pub hi : ℕ
  pub before : List X
  pub rest : List X
  pub done : IsSoFar kind marks good merges hi turn seat leaves part
  pub source_is : source ≡ before ++ rest
  pub before_is : length before ≡ hi
  pub ahead : Follows items lo hi rest tails
  pub nodes : map (λ (l : Leaf). l.node) leaves ++ map (λ (x : ℕ × S). x.0) tails ≡ node ∷ map (λ (x : ℕ × S). x.0) all
  pub started : 0 < length source → 0 < hi

module _ {S X P : Type 0} (items : S → List X) (lo : S → ℕ) (kind : Kind) (marks : List Bool) (good : ℕ → ℕ → P → Type 0) (merges : P → P → P → Type 0) where
  -- the head is a part of the source
  pub span_first : (source : List X) (whole : S) (at t node : ℕ) (head : S) (tails : List (ℕ × S)) → IsChain items lo whole at t node head tails → lo whole ≡ 0 → items whole ≡ source → (lo head ≡ 0) × IsSpan source (lo head) (items head)
  span_first source whole at t node head tails c z e =
      let l = c.linked in
      let h : lo head ≡ 0 = l.head_lo ∙ z in
      (h, subst (λ v. IsSpan source v (items head)) (sym h) (span_of source [] (items head) l.joined.0 (sym e ∙ l.joined.1.0)))

  pub going_first :
      (source : List X) (whole : S) (at t node : ℕ) (head : S) (tails : List (ℕ × S)) (before after : ℕ) (old new : Seen) (part : P) (leaf : Leaf) →
      IsChain items lo whole at t node head tails → lo whole ≡ 0 → items whole ≡ source →
      IsRun kind marks good (lo head) (length (items head)) node 0 0 before after old new part leaf → IsLater old new → IsFresh old → old.alone ≡ true →
      IsGoing items lo kind marks good merges source node tails tails 1 new (leaf ∷ []) part
  going_first source whole at t node head tails before after old new part leaf c z e r later fresh alone =
      let l = c.linked in
      let h : lo head ≡ 0 = l.head_lo ∙ z in
      record {
        hi = length (items head);
        before = items head;
        rest = l.joined.0;
        done = so_far_first kind marks good merges (length (items head)) node before after old new part leaf (subst (λ v. IsRun kind marks good v (length (items head)) node 0 0 before after old new part leaf) h r) later fresh alone;
        source_is = sym e ∙ l.joined.1.0;
        before_is = refl;
        ahead = let f : lo whole + length (items head) ≡ length (items head) = omega (arith, z) in subst (λ v. Follows items lo v l.joined.0 tails) f l.joined.1.1;
        nodes = ap (λ v. v ∷ map (λ (x : ℕ × S). x.0) tails) r.node_is;
        started = λ k. l.some (rw e k);
      }

  tail_nodes_none : (at d : ℕ) → tail_nodes at d ≡ [] → d ≡ 0
  tail_nodes_none at zero e = refl
  tail_nodes_none at (suc d) e = cc

  -- a chain with no tails is the source at its own node
  lone : (source : List X) (whole : S) (t node : ℕ) (head : S) → IsChain items lo whole 1 t node head [] → items whole ≡ source → (node ≡ 1) × (length source ≤ t)
  lone source whole t node head c e =
      let l = c.linked in
      let d0 : l.nodes.0 ≡ 0 = tail_nodes_none 1 l.nodes.0 (sym l.nodes.1.1) in
      let at : node ≡ 1 = l.nodes.1.0 ∙ ap (λ v. 1 * 2 ^ v) d0 in
      let n = sym (ap length e) ∙ (ap length l.joined.1.0 ∙ (length-append (items head) l.joined.0 ∙ ap (λ v. length (items head) + length v) l.joined.1.1)) in
      (at, elim c.ended [ inl h ↦ omega (arith, n, h) | inr h ↦ absurd (omega (arith, at, h)) ])

  first_node : (source : List X) (whole : S) (t node : ℕ) (head : S) (all : List (ℕ × S)) (a : Leaf) → IsChain items lo whole 1 t node head all → items whole ≡ source → (a.node ∷ []) ≡ node ∷ map (λ (x : ℕ × S). x.0) all → a.node ≡ 1
  first_node source whole t node head [] a c e h = let k : a.node ≡ node = cc in k ∙ (lone source whole t node head c e).0
  first_node source whole t node head (x ∷ xs) a c e h = let f = ap length h in absurd (omega (arith, f))

  many_leaves : (source : List X) (whole : S) (t node : ℕ) (head : S) (all : List (ℕ × S)) (leaves : List Leaf) → IsChain items lo whole 1 t node head all → items whole ≡ source → map (λ (l : Leaf). l.node) leaves ≡ node ∷ map (λ (x : ℕ × S). x.0) all → t < length source → 1 < length leaves
  many_leaves source whole t node head [] leaves c e h k = absurd (omega (arith, k, (lone source whole t node head c e).1))
  many_leaves source whole t node head (x ∷ xs) leaves c e h k = let f = sym (length-map leaves (λ (l : Leaf). l.node)) ∙ ap length h in omega (arith, f)

  pub answer :
      (source : List X) (whole : S) (t node : ℕ) (head : S) (all : List (ℕ × S)) (turn : ℕ) (seat : Seen) (leaves : List Leaf) (part : P) →
      length source ≡ length marks → IsChain items lo whole 1 t node head all → items whole ≡ source →
      IsGoing items lo kind marks good merges source node all [] turn seat leaves part → IsRunWhole kind marks good merges (length source) t leaves part
  answer source whole t node head all turn seat leaves part m c e g =
      let l = c.linked in
      let d = l.nodes.0 in
      let n : length source ≡ g.hi = ap length g.source_is ∙ (length-append g.before g.rest ∙ (ap (λ v. length g.before + length v) g.ahead ∙ omega (arith, g.before_is))) in
      let nodes : map (λ (l : Leaf). l.node) leaves ≡ node ∷ map (λ (x : ℕ × S). x.0) all = sym (append-nil (map (λ (l : Leaf). l.node) leaves)) ∙ g.nodes in
      let few : d ≤ 10 = depth_of d (omega (arith, l.small, l.nodes.1.0)) in
      let chained : map (λ (l : Leaf). l.node) leaves ≡ chain_nodes 1 d = nodes ∙ cc (l.nodes.1.0, l.nodes.1.1) in
      record {
        good_is = subst (λ v. good 0 v part) (sym n) g.done.good_is;
        comes = g.done.comes;
        audit = record {
          lawful = comes_lawful kind marks good merges g.done.comes;
          tiles = record {
            covers = record {
              some = λ h. subst (λ v. Adjoins 0 v leaves) (sym n) (g.done.adjoins (omega (arith, h, n)));
              none = λ z. let o = g.done.single (sym n ∙ z) in (o.0, o.1, first_node source whole t node head all o.0 c e (sym (ap (λ v. map (λ (l : Leaf). l.node) v) o.1) ∙ nodes), o.2, o.3);
            };
            many = many_leaves source whole t node head all leaves c e nodes;
            nodes = nodes_of leaves d few chained;
            distinct = distinct_of leaves d chained;
            each_seat = seats_of leaves g.done.turns;
            turns = turns_of 0 leaves g.done.turns;
          };
          idle = g.done.idle;
        };
        chain = record { nodes = (d, few, chained); turns = g.done.turns };
        tested = counted_all kind marks g.hi seat leaves (sym n ∙ m) g.done.counted;
      }

module _ {S X P : Type 0} {items : S → List X} {lo : S → ℕ} {kind : Kind} {marks : List Bool} {good : ℕ → ℕ → P → Type 0} {merges : P → P → P → Type 0} {source : List X} {node : ℕ} {all tails : List (ℕ × S)} {k : ℕ} {tail : S} {turn : ℕ} {old : Seen} {leaves : List Leaf} {part : P} (g : IsGoing items lo kind marks good merges source node all ((k, tail) ∷ tails) turn old leaves part) where
  -- the next tail is a part of the source, where what was done ends
  pub next_lo : lo tail ≡ g.hi
  next_lo = g.ahead.0

  pub next_source : source ≡ g.before ++ (items tail ++ g.ahead.2.0)
  next_source = g.source_is ∙ ap (λ v. g.before ++ v) g.ahead.2.1.0

  pub span_next : IsSpan source (lo tail) (items tail)
  span_next = subst (λ v. IsSpan source v (items tail)) (g.before_is ∙ sym next_lo) (span_of source g.before (items tail) g.ahead.2.0 next_source)

  pub going_next :
      {before after : ℕ} {new : Seen} {next merged : P} {leaf : Leaf} →
      IsRun kind marks good (lo tail) (length (items tail)) k 0 turn before after old new next leaf → IsLater old new → merges part next merged → good 0 (g.hi + length (items tail)) merged →
      IsGoing items lo kind marks good merges source node all tails (turn + 1) new (leaves ++ leaf ∷ []) merged
  going_next {before} {after} {new} {next} {merged} {leaf} r later m good_is =
      let some : 0 < length (items tail) = g.ahead.1 in
      let n = ap length next_source ∙ (length-append g.before (items tail ++ g.ahead.2.0) ∙ ap (λ v. length g.before + v) (length-append (items tail) g.ahead.2.0)) in
      let started : 0 < g.hi = g.started (omega (arith, n)) in
      record {
        hi = g.hi + length (items tail);
        before = g.before ++ items tail;
        rest = g.ahead.2.0;
        done = so_far_next kind marks good merges g.hi (length (items tail)) k turn before after old new leaves part next merged leaf g.done (subst (λ v. IsRun kind marks good v (length (items tail)) k 0 turn before after old new next leaf) next_lo r) later started some m good_is;
        source_is = next_source ∙ sym (append_assoc g.before (items tail) g.ahead.2.0);
        before_is = length-append g.before (items tail) ∙ ap (λ v. v + length (items tail)) g.before_is;
        ahead = g.ahead.2.1.1;
        nodes = ap (λ v. v ++ map (λ (x : ℕ × S). x.0) tails) (map-append (λ (l : Leaf). l.node) leaves (leaf ∷ [])) ∙ (append_assoc (map (λ (l : Leaf). l.node) leaves) (leaf.node ∷ []) (map (λ (x : ℕ × S). x.0) tails) ∙ (ap (λ v. map (λ (l : Leaf). l.node) leaves ++ (v ∷ map (λ (x : ℕ × S). x.0) tails)) r.node_is ∙ g.nodes));
        started = λ _. omega (arith, started);
      }

  pub next_good : {before after : ℕ} {new : Seen} {next : P} {leaf : Leaf} → IsRun kind marks good (lo tail) (length (items tail)) k 0 turn before after old new next leaf → good g.hi (g.hi + length (items tail)) next
  next_good {before} {after} {new} {next} {leaf} r =
      let l : leaf.lo ≡ g.hi = r.lo_is ∙ g.ahead.0 in
      let h : leaf.hi ≡ g.hi + length (items tail) = r.hi_is ∙ ap (λ v. v + length (items tail)) g.ahead.0 in
      subst (λ v. good v (g.hi + length (items tail)) next) l (subst (λ v. good leaf.lo v next) h r.good_is)

  pub next_within : g.hi + length (items tail) ≤ length source
  next_within = omega (arith, span_next.within, g.ahead.0)

  pub merge_ready :
      {before after : ℕ} {new : Seen} {next : P} {leaf : Leaf} → IsRun kind marks good (lo tail) (length (items tail)) k 0 turn before after old new next leaf →
      (a : ℕ) × (mid : ℕ) × (b : ℕ) × (a ≤ mid) × (mid ≤ b) × (b ≤ length source) × ∥ good a mid part ∥₁ × ∥ good mid b next ∥₁
  merge_ready {before} {after} {new} {next} {leaf} r = (0, g.hi, g.hi + length (items tail), omega arith, omega arith, next_within, ∣ g.done.good_is ∣₁, ∣ next_good r ∣₁)

  pub made_room : (made : ℕ) → made ≡ sum_by (λ (l : Leaf). l.tested) leaves → length source ≤ 4194304 → made + length (items tail) ≤ 4194304
  made_room made e h = omega (arith, e, h, next_within, g.done.within)

pub few_tails : {S X : Type 0} {items : S → List X} {lo : S → ℕ} {whole : S} {t node : ℕ} {head : S} {all : List (ℕ × S)} → IsChain items lo whole 1 t node head all → length all ≤ 10
few_tails {S} {all = all} c =
    let l = c.linked in
    let d = l.nodes.0 in
    let e : length all ≡ d = sym (length-map all (λ (x : ℕ × S). x.0)) ∙ (ap length l.nodes.1.1 ∙ length-tail_nodes 1 d) in
    omega (arith, e, depth_of d (omega (arith, l.small, l.nodes.1.0)))

pub going_count :
    {S X P : Type 0} {items : S → List X} {lo : S → ℕ} {kind : Kind} {marks : List Bool} {good : ℕ → ℕ → P → Type 0} {merges : P → P → P → Type 0} {source : List X} {node : ℕ} {all tails : List (ℕ × S)} {turn : ℕ} {seat : Seen} {leaves : List Leaf} {part : P} →
    IsGoing items lo kind marks good merges source node all tails turn seat leaves part → turn + length tails ≡ 1 + length all
going_count {S} {all = all} {tails} {leaves = leaves} g =
    let f = sym (length-append (map (λ (l : Leaf). l.node) leaves) (map (λ (x : ℕ × S). x.0) tails)) ∙ ap length g.nodes in
    omega (arith, f, length-map leaves (λ (l : Leaf). l.node), length-map tails (λ (x : ℕ × S). x.0), length-map all (λ (x : ℕ × S). x.0), g.done.count)

-- a seat that was just opened is fresh and alone
pub fresh_open : (seat : Seen) (flags : Flags) (marks : List Bool) → flags.marks ≡ marks → seat ≡ opened flags marks → IsFresh seat × (seat.alone ≡ true)
fresh_open seat flags marks e s = subst (λ (v : Seen). IsFresh v × (v.alone ≡ true)) (sym s) (record { low = ap length (sym e); abort = λ x. x }, refl)

pub marks_length : {X : Type 0} (kind : Kind) (v : X → Verdict) (source : List X) (verdicts : List Verdict) → map v source ≡ verdicts → length source ≡ length (marks_of kind verdicts)
marks_length kind v source verdicts e = sym (length-map source v) ∙ (ap length e ∙ sym (length-map verdicts (is_mark kind)))
