use Rattle.std.proofs.Common.{◌≡◌, ◌≤◌, ℕ, length}
use Rattle.par_trie.specs.Slots.{places_in}
use Rattle.par_trie.proofs.wide.fill.Given as goal

-- more slots hold nothing more, and there is room for the rest
abbrev pub invariant-loop : goal.invariant-loop
invariant-loop g l = record {
  same : (q : ℕ) → places_in g.N.Node.places l.slots.items q ≡ places_in g.N.Node.places l.fn.slots.items q;
  count : length l.slots.items ≡ l.counter;
  room : 32 ≤ l.slots.cap;
}
