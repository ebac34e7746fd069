-- What the word of a node says of its cell.
use Rattle.std.proofs.Common.{◌≡◌, ℕ, ◌<◌, ◌≤◌, sym, refl, subst, arith}
use Rattle.std.specs.Prelude.{Option, slice_index}
use Rattle.atomic_table.specs.Table.{State}
use Rattle.par_board.specs.declared.answers.NodeState.{NodeState}
use Rattle.par_board.specs.declared.answers.NodeState.TheVariants.{Free, Filling, Offered, Taken, Done, Merging, Merged}
use Rattle.par_board.specs.Words.{state_of, lo_of, hi_of, code}
use Rattle.par_board.specs.Rule.{Plain, Cell, face, Later, Kept, Known}
use Rattle.par_board.proofs.Tables.{state_pack, hi_pack, lo_pack}

pub code_small : (st : NodeState) → code st < 16
code_small Free = omega arith
code_small Filling = omega arith
code_small Offered = omega arith
code_small Taken = omega arith
code_small Done = omega arith
code_small Merging = omega arith
code_small Merged = omega arith

code_most : (st : NodeState) → code st ≤ 6
code_most Free = omega arith
code_most Filling = omega arith
code_most Offered = omega arith
code_most Taken = omega arith
code_most Done = omega arith
code_most Merging = omega arith
code_most Merged = omega arith

-- the state whose code is read
pub is_offered : (st : NodeState) → code st ≡ 2 → st ≡ Offered
is_offered Free e = absurd (omega arith)
is_offered Filling e = absurd (omega arith)
is_offered Offered e = refl
is_offered Taken e = absurd (omega arith)
is_offered Done e = absurd (omega arith)
is_offered Merging e = absurd (omega arith)
is_offered Merged e = absurd (omega arith)

module _ {J : Type 0} (job : Option J) (n : ℕ) (s : State (Option (Plain J)) (Known J)) (r : Kept job n s) where
  abbrev pub Shown : ℕ → ℕ → Type 0
  Shown k w = (state_of w ≡ code (r.cells k).state) × (lo_of w ≡ (r.cells k).lo) × (hi_of w ≡ (r.cells k).hi)

  -- what the word of a node says
  pub shown : (k : ℕ) → k < 2048 → Shown k (slice_index s.words k)
  shown k near = let ok = r.each_cell k near in let c : Cell = r.cells k in let small = code_small c.state in let h : c.hi < 1073741824 = (let a = ok.within in let b = r.few in omega arith) in
      let e : face c ≡ slice_index s.words k = sym ok.shows in subst (Shown k) e (state_pack c.lo c.hi (code c.state) small, lo_pack c.lo c.hi (code c.state) small h, hi_pack c.lo c.hi (code c.state) small h)

  pub shown_most : (k : ℕ) → k < 2048 → state_of (slice_index s.words k) ≤ 6
  shown_most k near = let e = (shown k near).0 in let c = code_most (r.cells k).state in omega arith

  pub later_now : (k : ℕ) → k < 2048 → Later (slice_index s.words k) (r.cells k)
  later_now k near some_state = let e = shown k near in let z = e.0 in (e.1, e.2, omega arith)
