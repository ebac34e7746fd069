-- One leaf more of a worker.
use Rattle.std.proofs.Common.{◌≡◌, ℕ, ◌+◌, ◌⊎◌, inl, inr, Bool, List, [], ◌∷◌, ◌++◌, length, length-append, refl, ap, sym, ◌∙◌, subst, arith}
use Rattle.std.specs.List.{Contains}
use Rattle.std.proofs.lemmas.List.Elements.{Contains-push_cases}
use Rattle.par_signal.specs.Seen.{Seen, Flags}
use Rattle.par_signal.specs.Calls.{aborts_memory}
use Rattle.par_signal.specs.declared.abort.Abort.{Abort}
use Rattle.par_task.specs.Marking.{Kind, low_flag, abort_flag, high_flag, no_flag, no_test}
use Rattle.par_task.specs.Seats.{IsLater, Heeds, HasFound, IsLeafOf}
use Rattle.par_task.specs.Alone.{HasTurnsFrom}
use Rattle.par_task.specs.Audits.{Learns, IsLeafed, Comes, one}
use Rattle.par_task.specs.Runs.{IsRun}
use Rattle.par_task.specs.declared.audit.Leaf.{Leaf}
use Rattle.par_board.specs.Seen.{Sight}
use Rattle.par_board.specs.Calls.{looks}
use Rattle.par_pool.specs.Bundles.{IsWhole}
use Rattle.par_pool.specs.Own.{IsOwn, IsWorker, IsResting}

turns_push : (seat k : ℕ) (ls : List Leaf) (l : Leaf) → HasTurnsFrom seat k ls → l.seat ≡ seat → l.turn ≡ k + length ls → HasTurnsFrom seat k (ls ++ l ∷ [])
turns_push seat k [] l h s t = (s, omega (arith, t), tt)
turns_push seat k (a ∷ ls) l h s t = (h.0, h.1, turns_push seat (k + 1) ls l h.2 s (omega (arith, t)))

-- what a seat has seen of a leaf it sees later too
found_later : (kind : Kind) (marks : List Bool) (lo c : ℕ) (old new : Seen) → IsLater old new → HasFound kind marks lo c old → HasFound kind marks lo c new
found_later low_flag marks lo c old new l f = λ s e g m. let k = f s e g m in omega (arith, k, l.low)
found_later abort_flag marks lo c old new l f = λ m. l.abort (f m)
found_later high_flag marks lo c old new l f = λ p i g. let k = f p i g in omega (arith, k, l.high)
found_later no_flag marks lo c old new l f = tt
found_later no_test marks lo c old new l f = tt

-- and a later leaf heeds it
learns : (kind : Kind) (marks : List Bool) (a b : Leaf) (seat : Seen) → HasFound kind marks a.lo a.tested seat → Heeds kind seat b.flag → Learns kind marks a b
learns low_flag marks a b seat f g = λ s e h m. let k = f s e h m in omega (arith, k, g)
learns abort_flag marks a b seat f g = λ s e h m. let k = g (f (s, e, h, m)) in omega (arith, k)
learns high_flag marks a b seat f g = λ p i h. let k = f p i h in omega (arith, k, g)
learns no_flag marks a b seat f g = tt
learns no_test marks a b seat f g = tt

pub memory_later : (s t : Seen) (a : Abort) → t ≡ aborts_memory s a → IsLater s t
memory_later s t a e = subst (λ (x : Seen). IsLater s x) (sym e) (record { of = refl; low = omega arith; high = omega arith; abort = λ _. tt; alone = λ h. h })

pub later_later : (a b c : Seen) → IsLater a b → IsLater b c → IsLater a c
later_later a b c p q = record { of = q.of ∙ p.of; low = omega (arith, p.low, q.low); high = omega (arith, p.high, q.high); abort = λ h. q.abort (p.abort h); alone = λ h. q.alone (p.alone h) }

module _ (kind : Kind) (marks : List Bool) (seat : ℕ) where
  pub own_later : (old new : Seen) (leaves : List Leaf) → IsLater old new → IsOwn kind marks seat old leaves → IsOwn kind marks seat new leaves
  own_later old new leaves later o = record {
    turns = o.turns;
    earlier = o.earlier;
    idle = o.idle;
    knows = λ a c. found_later kind marks a.lo a.tested old new later (o.knows a c);
  }

  pub own_push :
      (old new : Seen) (leaves : List Leaf) (leaf : Leaf) → IsLater old new → IsOwn kind marks seat old leaves →
      leaf.seat ≡ seat → leaf.turn ≡ length leaves → IsLeafOf kind marks leaf.lo leaf.hi old new leaf.flag leaf.tested → IsOwn kind marks seat new (leaves ++ leaf ∷ [])
  own_push old new leaves leaf later o s t r =
      let is : (a : Leaf) → Contains (leaves ++ leaf ∷ []) a → Contains leaves a ⊎ (leaf ≡ a) = λ a c. Contains-push_cases leaves leaf a c in
      let count : length (leaves ++ leaf ∷ []) ≡ length leaves + 1 = length-append leaves (leaf ∷ []) in
      record {
        turns = turns_push seat 0 leaves leaf o.turns s (omega (arith, t));
        earlier = λ a c. elim (is a c) [ inl n ↦ omega (arith, o.earlier a n, count) | inr e ↦ let f = ap (λ (v : Leaf). v.turn) e in omega (arith, f, t, count) ];
        idle = λ a b c d e f. elim (is b d) [
          | inl n ↦ elim (is a c) [
            | inl k ↦ o.idle a b k n e f
            | inr i ↦ let x = ap (λ (v : Leaf). v.turn) i in absurd (omega (arith, x, f, o.earlier b n, t))
          ]
          | inr i ↦ elim (is a c) [
            | inl k ↦ subst (λ (v : Leaf). Learns kind marks a v) i (learns kind marks a leaf old (o.knows a k) r.heeds)
            | inr j ↦ let x = ap (λ (v : Leaf). v.turn) i in let y = ap (λ (v : Leaf). v.turn) j in absurd (omega (arith, x, y, f))
          ]
        ];
        knows = λ a c. elim (is a c) [ inl n ↦ found_later kind marks a.lo a.tested old new later (o.knows a n) | inr e ↦ subst (λ (v : Leaf). HasFound kind marks v.lo v.tested new) e r.found ];
      }

-- a worker that ran nothing yet
pub own_none : (kind : Kind) (marks : List Bool) (seat : ℕ) (seen : Seen) → IsOwn kind marks seat seen []
own_none kind marks seat seen = record {
  turns = tt;
  earlier = λ a c. none_of a c;
  idle = λ a b c d e f. absurd (none_of a c);
  knows = λ a c. absurd (none_of a c);
}
  where
    none_of : {F : Type 0} (a : Leaf) → Contains [] a → F
    none_of a c = absurd (omega (arith, c.1))

module _ {F : Type 0} (kind : Kind) (marks : List Bool) (board : F) (flags : Flags) (number : ℕ) where
  -- a worker whose seat saw more
  pub worker_later : {seat : Sight F} {old new : Seen} {leaves : List Leaf} → IsLater old new → IsWorker kind marks board flags number seat old leaves → IsWorker kind marks board flags number seat new leaves
  worker_later {seat} {old} {new} {leaves} later w = record { board_is = w.board_is; signal_is = later.of ∙ w.signal_is; own = own_later kind marks number old new leaves later w.own }

  -- a worker that ran a leaf and noted it
  pub worker_ran :
      {P : Type 0} {good : ℕ → ℕ → P → Type 0} {seat : Sight F} {old new : Seen} {leaves noted : List Leaf} {leaf : Leaf} {part : P} {lo count node turn before after : ℕ} →
      IsLater old new → IsRun kind marks good lo count node number turn before after old new part leaf → turn ≡ length leaves → noted ≡ leaves ++ leaf ∷ [] →
      IsWorker kind marks board flags number seat old leaves → IsWorker kind marks board flags number seat new noted
  worker_ran {old = old} {new} {leaves} {noted} {leaf} later r t e w = record {
    board_is = w.board_is;
    signal_is = later.of ∙ w.signal_is;
    own = subst (λ (x : List Leaf). IsOwn kind marks number new x) (sym e) (own_push kind marks number old new leaves leaf later w.own r.seat_is (r.turn_is ∙ t) r.leaf_of);
  }

-- the bundle of one leaf
pub whole_alone :
    {P : Type 0} {kind : Kind} {marks : List Bool} {good : ℕ → ℕ → P → Type 0} (merges : P → P → P → Type 0) {lo count node seat turn before after : ℕ} {old new : Seen} {part : P} {leaf : Leaf} {list : List Leaf} →
    IsRun kind marks good lo count node seat turn before after old new part leaf → list ≡ leaf ∷ [] → IsWhole kind marks good merges lo (lo + count) part list
whole_alone {kind = kind} {marks} {good} merges {lo} {count} {part = part} {leaf} {list} r e = record {
  good_is = subst (λ (x : ℕ). good x (lo + count) part) r.lo_is (subst (λ (x : ℕ). good leaf.lo x part) r.hi_is r.good_is);
  comes = subst (λ (x : List Leaf). Comes (IsLeafed kind marks good) merges x part) (sym e) (one (record { lawful_is = r.leaf_of.lawful; good_is = r.good_is }));
}

-- a worker that loaded a node's word
pub looked_resting :
    {F : Type 0} {kind : Kind} {marks : List Bool} {board : F} {flags : Flags} {number : ℕ} {v w : Sight F} {signal : Seen} {leaves : List Leaf} {k read : ℕ} →
    w ≡ looks k read v → IsResting kind marks board flags number v signal leaves → IsResting kind marks board flags number w signal leaves
looked_resting {kind = kind} {marks} {board} {flags} {number} {signal = signal} {leaves} e r =
    subst (λ (x : Sight _). IsResting kind marks board flags number x signal leaves) (sym e) (record {
      worker = record { board_is = r.worker.board_is; signal_is = r.worker.signal_is; own = r.worker.own };
      holds = r.holds;
      opens = r.opens;
    })
