-- What a step requires, for a seat that moves no slot.
use Rattle.std.proofs.Common.{◌≡◌, ℕ, get_or, set, sym, subst}
use mathlib.Core.Option.{some}
use lib.ListN.{get_elem?}
use Rattle.atomic_table.specs.Table.{State, Me, Act, keeps, stepped, Valid, carried_after, Allows}

module _ {S V : Type 0} where
  -- the table after: the word i is n, and the seat id has the view w
  abbrev pub after : State S V → ℕ → ℕ → ℕ → V → State S V
  after s i n id w = record { words = set s.words i n; homes = s.homes; views = set s.views id w }

  -- The step is allowed where each state that keeps the rule tells the word's value x, and a view with which the rule holds after
  pub plain : (holds : State S V → Type 0) (slots id : ℕ) (me : Me S V) (i : ℕ) (f : ℕ → ℕ) (then : ℕ → Me S V → Type 0)
      → ((s : State S V) → holds s → get_elem? s.views id ≡ some me.0 → (x : ℕ) × (get_or s.words i 0 ≡ x) × (w : V) × holds (after s i (f x) id w) × then x (w, me.1)) → Allows holds slots id me i f then
  plain holds slots id me i f then tells s r _ at _ = let t = tells s r at in
      subst (λ (x : ℕ). (w : V) × (a : Act S) × Valid s.homes me.1 a × holds (stepped s i (f x) id me.1 w a) × then x (w, carried_after me.1 a)) (sym t.1) (t.2, keeps, tt, t.3, t.4)
