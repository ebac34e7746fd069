-- The parts of the words as uses of clap's arguments, and what is held between two words.
use Rattle.std.proofs.Common.{◌≡◌, Bool, true, false, cond, List, [], ◌∷◌, fold, Option, Some, None, option_and_then, refl, sym, subst}
use Rattle.clap.specs.Walk.{Held, Row, Text, Walk, Waiting, settled, settled_rows, used, walked}
use Rattle.clap.specs.Faults.{settle_fault, turn_fault, walk_fault}
use Rattle.clap.specs.Kinds.{Kinds, or_else}
use Rattle.clap.specs.declared.error.kind.ErrorKind.TheVariants as kind
use Rattle.pipe_words.specs.Parts.{Part, Role}
use Rattle.pipe_words.proofs.Rules.{IsFault, IsValued, again_fault, by_id, id_of, no_values, repeats, rule_by, rules, shape, use_faults, values_for}

-- the rows after the uses that the parts stand for; None where one repeats what may not be
abbrev pub applied : List Part → List Row → Option (List Row)
applied [] rows = Some rows
applied (p ∷ ps) rows = cond (repeats p.0 rows) None (applied ps (used (rule_by p.0) (values_for p.0 p.1) rows))

-- a part whose use is held back until the next one
abbrev pub pending : Option Part → Option (Text × List Text)
pending None = None
pending (Some p) = Some (id_of p.0, values_for p.0 p.1)

abbrev pub before : Option Part → List Part → List Part
before None ps = ps
before (Some p) ps = p ∷ ps

abbrev pub used_now : Option Part → List Row → List Row
used_now None rows = rows
used_now (Some p) rows = used (rule_by p.0) (values_for p.0 p.1) rows

abbrev pub fault_now : Option Part → List Row → Kinds
fault_now None rows = []
fault_now (Some p) rows = again_fault p.0 rows

abbrev pub held : List Row → Option (Text × List Text) → Held
held rows p = record { rows = rows; pending = p; skip = 0 }

abbrev pub stand : Held → Waiting → Bool → Walk
stand h waiting is_trailing = record { held = h; waiting = waiting; position = 1; is_trailing = is_trailing; stopped = None }

pub settled_is : (p : Option Part) (rows : List Row) → settled rules (held rows (pending p)) ≡ held (used_now p rows) None
settled_is None rows = refl
settled_is (Some p) rows = rw (by_id p.0) refl

pub settled_rows_is : (p : Option Part) (rows : List Row) → settled_rows rules (pending p) rows ≡ used_now p rows
settled_rows_is None rows = refl
settled_rows_is (Some p) rows = rw (by_id p.0) refl

pub settle_is : (p : Option Part) (rows : List Row) → settle_fault rules false (held rows (pending p)) ≡ fault_now p rows
settle_is None rows = refl
settle_is (Some p) rows = rw (by_id p.0) (use_faults p.0 p.1 rows)

pub settle_unvalued : (role : Role) → IsValued role → (rows : List Row) → IsFault (settle_fault rules false (held rows (Some (id_of role, []))))
settle_unvalued role h rows = rw (by_id role) (no_values role h rows)

-- ---- what is left of a walk, and how it agrees with the parts

abbrev pub total : Walk → List Text → Kinds
total w words = or_else (walk_fault shape [] w words) (settle_fault rules false (fold (walked rules []) w words).held)

abbrev pub final : Walk → List Text → List Row
final w words = (settled rules (fold (walked rules []) w words).held).rows

-- clap's kinds are empty just where there are rows, and the rows are those
abbrev pub Agrees : Kinds → List Row → Option (List Row) → Type 0
Agrees kinds rows None = IsFault kinds
Agrees kinds rows (Some wanted) = (kinds ≡ []) × (rows ≡ wanted)

pub or_else_assoc : (a b c : Kinds) → or_else (or_else a b) c ≡ or_else a (or_else b c)
or_else_assoc [] b c = refl
or_else_assoc (k ∷ ks) b c = refl

pub or_else_none : (a : Kinds) → or_else a [] ≡ a
or_else_none [] = refl
or_else_none (k ∷ ks) = refl

pub fault_first : (a b : Kinds) → IsFault a → IsFault (or_else a b)
fault_first [] b h = absurd h
fault_first (k ∷ ks) b h = tt

pub fault_second : (a b : Kinds) → IsFault b → IsFault (or_else a b)
fault_second [] b h = h
fault_second (k ∷ ks) b h = tt

-- one word more
abbrev pub Turns : Walk → Text → Kinds → Walk → Type 0
Turns w word kinds after = (turn_fault shape [] w word ≡ kinds) × (walked rules [] w word ≡ after)

pub turned : (w after : Walk) (word : Text) (words : List Text) (kinds : Kinds) (o : Option (List Row)) → Turns w word kinds after
    → Agrees (or_else kinds (total after words)) (final after words) o → Agrees (total w (word ∷ words)) (final w (word ∷ words)) o
unfolding walk_fault
turned w after word words kinds o turn h =
    let here : Agrees (or_else (turn_fault shape [] w word) (total (walked rules [] w word) words)) (final (walked rules [] w word) words) o =
    subst (λ (k : Kinds). Agrees (or_else k (total (walked rules [] w word) words)) (final (walked rules [] w word) words) o) (sym turn.0)
    (subst (λ (v : Walk). Agrees (or_else kinds (total v words)) (final v words) o) (sym turn.1) h) in
    subst (λ (k : Kinds). Agrees k (final (walked rules [] w word) words) o) (sym (or_else_assoc (turn_fault shape [] w word) _ _)) here

pub refused : (w : Walk) (word : Text) (words : List Text) → IsFault (turn_fault shape [] w word) → IsFault (total w (word ∷ words))
unfolding walk_fault
refused w word words h = fault_first _ _ (fault_first _ _ h)

-- ---- uses

pub settles : (p : Option Part) (rows : List Row) → Agrees (fault_now p rows) (used_now p rows) (applied (before p []) rows)
settles None rows = (refl, refl)
settles (Some p) rows = go (repeats p.0 rows)
  where
    go : (b : Bool) → Agrees (cond b (kind.ArgumentConflict ∷ []) []) (used_now (Some p) rows) (cond b None (Some (used_now (Some p) rows)))
    go true = tt
    go false = (refl, refl)

-- the use of a part, and what the parts after it come to
pub uses_first : (p : Option Part) (rows final : List Row) (rest : Option (List Part)) (after : List Part → List Part) (kinds : Kinds)
    → Agrees kinds final (option_and_then (λ ps. applied (after ps) (used_now p rows)) rest)
    → Agrees (or_else (fault_now p rows) kinds) final (option_and_then (λ ps. applied (before p (after ps)) rows) rest)
uses_first None rows final rest after kinds h = h
uses_first (Some p) rows final None after kinds h = fault_second (fault_now (Some p) rows) kinds h
uses_first (Some p) rows final (Some ps) after kinds h = go (repeats p.0 rows) h
  where
    go : (b : Bool) → Agrees kinds final (applied (after ps) (used_now (Some p) rows))
        → Agrees (or_else (cond b (kind.ArgumentConflict ∷ []) []) kinds) final (cond b None (applied (after ps) (used_now (Some p) rows)))
    go true h = tt
    go false h = h
