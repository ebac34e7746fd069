-- The word of a node: its span lo..hi and its state, as lo * 2^34 + hi * 2^4 + state.
use Rattle.std.specs.Prelude.{ℕ, ◌+◌, ◌*◌, ◌/◌, ◌%◌}
use Rattle.par_board.specs.declared.answers.NodeState.{NodeState}
use Rattle.par_board.specs.declared.answers.NodeState.TheVariants.{Free, Filling, Offered, Taken, Done, Merging, Merged}

-- the word of a span and the number of a state
abbrev pub pack : ℕ → ℕ → ℕ → ℕ
pack lo hi state = lo * 17179869184 + hi * 16 + state

-- the number of the state in a word, and the span in it
abbrev pub state_of : ℕ → ℕ
state_of word = word % 16

abbrev pub hi_of : ℕ → ℕ
hi_of word = word / 16 % 1073741824

abbrev pub lo_of : ℕ → ℕ
lo_of word = word / 17179869184

-- the number of a state
abbrev pub code : NodeState → ℕ
code Free = 0
code Filling = 1
code Offered = 2
code Taken = 3
code Done = 4
code Merging = 5
code Merged = 6
