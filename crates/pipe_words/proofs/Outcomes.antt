-- What clap answers, and what the words ask for.
use Rattle.std.proofs.Common.{◌≡◌, ◌∙◌, ◌++◌, ◌≤◌, ◌⊎◌, inl, inr, ◌&&◌, ◌||◌, Bool, true, false, cond, not, List, [], ◌∷◌, map, length, fold, Option, Some, None, is_some, unwrap_or, option_map, option_and_then, slice_get, bytes_eq, codes, refl, sym, ap, subst, arith, map-id}
use Rattle.std.specs.List.{find, list_any}
use Rattle.clap.specs.Walk.{Row, Rule, Walk, all_of, default_rows, first_of, has_row, idle, nothing_held, one_of, reading_by, row_text, rows_after, with_default}
use Rattle.clap.specs.Simple.{App, matches_of, names_of}
use Rattle.clap.specs.Values.{read_as}
use Rattle.clap.specs.Faults.{built_fault, check_fault, default_fault, defaults_fault, entered_fault, fault_of}
use Rattle.clap.specs.Kinds.{Kinds, or_else}
use Rattle.clap.specs.declared.builder.value_parser.Reading.{Reading}
use Rattle.clap.specs.declared.builder.value_parser.Reading.TheVariants as reading
use Rattle.clap.specs.declared.parser.matches.ValueSource.TheVariants.{DefaultValue}
use Rattle.pipe_words.specs.App.{parcoll_app}
use Rattle.pipe_words.specs.Rows.{asked_by_rows, flag_text}
use Rattle.pipe_words.specs.Parts.{Audit, Level, Part, Positional, Role, Text, Workers, texts_of}
use Rattle.pipe_words.specs.Commands.{Asked, asked, asked_by, at_most_one, command_of}
use Rattle.pipe_words.proofs.Agreeing.{AreUtf8, agrees, clap_parts}
use Rattle.pipe_words.proofs.Refusals.{command_is, repeated_none}
use Rattle.pipe_words.proofs.Rows.{Holds, IsSingle, Reads, all_with_other, all_with_same, as_option, has_all, reads, text_for}
use Rattle.pipe_words.proofs.Rules.{IsFault, built_is, rule_by, rules, shape}
use Rattle.pipe_words.proofs.Settling.{Agrees, applied, final, held, or_else_none, stand, total}

-- ---- after the walk

rules_are : rules ≡ rule_by Positional ∷ rule_by Workers ∷ rule_by Level ∷ rule_by Audit ∷ []
unfolding rules rule_by
rules_are = refl

same_rows : (b : Bool) (rows : List Row) → cond b rows rows ≡ rows
same_rows true rows = refl
same_rows false rows = refl

no_default : (role : Role) → (rule_by role).defaults ≡ [] → (rows : List Row) → with_default rows (rule_by role) ≡ rows
no_default role e rows = rw e (same_rows (has_row (rule_by role).id rows) rows)

fault_free : (a : Bool) (k : Kinds) → cond (a || true) [] k ≡ []
fault_free true k = refl
fault_free false k = refl

no_default_fault : (role : Role) → (rule_by role).defaults ≡ [] → (rows : List Row) → default_fault rows (rule_by role) ≡ []
no_default_fault role e rows = rw e (fault_free (has_row (rule_by role).id rows) _)

-- the flag's default
flag_default : (rows : List Row) → default_fault rows (rule_by Audit) ≡ []
unfolding rule_by
flag_default rows = go (has_row (codes "audit") rows)
  where
    go : (b : Bool) → cond {A = Kinds} (b || false) [] [] ≡ []
    go true = refl
    go false = refl

none_by_default : ((rule_by Positional).defaults ≡ []) × ((rule_by Workers).defaults ≡ []) × ((rule_by Level).defaults ≡ [])
unfolding rule_by
none_by_default = (refl, refl, refl)

one_default : (role : Role) → (rule_by role).defaults ≡ [] → (rows : List Row) (rest : List Rule) → defaults_fault rows rest ≡ [] → defaults_fault rows (rule_by role ∷ rest) ≡ []
unfolding defaults_fault
one_default role e rows rest h =
    ap (λ k. or_else k (defaults_fault (with_default rows (rule_by role)) rest)) (no_default_fault role e rows)
    ∙ (ap (λ rs. defaults_fault rs rest) (no_default role e rows) ∙ h)

last_default : (rows : List Row) → defaults_fault rows (rule_by Audit ∷ []) ≡ []
unfolding defaults_fault
last_default rows = or_else_none (default_fault rows (rule_by Audit)) ∙ flag_default rows

defaults_pass : (rows : List Row) → defaults_fault rows rules ≡ []
defaults_pass rows =
    let d = none_by_default in
    rw rules_are (one_default Positional d.0 rows _ (one_default Workers d.1 rows _ (one_default Level d.2 rows _ (last_default rows))))

none_required : (given : Text → Bool) → list_any (λ (a : Rule). a.required && not (given a.id)) rules ≡ false
unfolding rules
none_required given = refl

checks_pass : (rows : List Row) (entered : Bool) → check_fault shape rows entered ≡ []
unfolding rules
checks_pass rows true = refl
checks_pass rows false = refl

-- ---- the whole of clap's clause

abbrev pub start : Walk
start = stand (held [] None) idle false

no_stop : (stop : Option (Text × List Text)) → entered_fault (record { top = shape; subs = [] }) stop ≡ []
no_stop None = refl
no_stop (Some p) = refl

built_fault_is : (words : List Text) → built_fault (record { top = shape; subs = [] }) nothing_held words ≡ total start words
built_fault_is words = rw (no_stop, defaults_pass, checks_pass, or_else_none) refl

pub fault_is : (words : List Text) → fault_of parcoll_app words ≡ total start words
fault_is words = ap (λ (b : App). built_fault b nothing_held words) built_is ∙ built_fault_is words

finished_is : (rows : List Row) → fold with_default rows rules ≡ with_default rows (rule_by Audit)
finished_is rows =
    let d = none_by_default in
    rw rules_are (ap (λ rs. with_default (with_default (with_default rs (rule_by Workers)) (rule_by Level)) (rule_by Audit)) (no_default Positional d.0 rows)
    ∙ (ap (λ rs. with_default (with_default rs (rule_by Level)) (rule_by Audit)) (no_default Workers d.1 rows)
    ∙ ap (λ rs. with_default rs (rule_by Audit)) (no_default Level d.2 rows)))

pub rows_are : (words : List Text) → matches_of parcoll_app words ≡ with_default (final start words) (rule_by Audit)
rows_are words = ap (λ (b : App). rows_after b.top.rules (names_of b) words) built_is ∙ finished_is (final start words)

-- ---- what the getters read

pub first_by_all : (id : Text) (rows : List Row) → first_of id rows ≡ option_and_then (λ vs. slice_get vs 0) (all_of id rows)
first_by_all id rows = go (find (λ r. bytes_eq r.id id) rows)
  where
    go : (o : Option Row) → option_and_then (λ (r : Row). slice_get r.values 0) o ≡ option_and_then (λ vs. slice_get vs 0) (option_map (λ (r : Row). r.values) o)
    go None = refl
    go (Some r) = refl

read_bool : (how : Reading) (b : Bool) → read_as how (flag_text b) ≡ flag_text b
read_bool reading.AsWritten b = refl
read_bool reading.WithoutMinus true = refl
read_bool reading.WithoutMinus false = refl
read_bool reading.Boolish true = refl
read_bool reading.Boolish false = refl
read_bool reading.Falsey true = refl
read_bool reading.Falsey false = refl

one_by_all : (id : Text) (rows : List Row) (b : Bool) (rest : List Text) → all_of id rows ≡ Some (flag_text b ∷ rest) → one_of id rows ≡ Some (flag_text b)
one_by_all id rows b rest h = go (find (λ r. bytes_eq r.id id) rows) h
  where
    go : (o : Option Row) → option_map (λ (r : Row). r.values) o ≡ Some (flag_text b ∷ rest) → option_and_then row_text o ≡ Some (flag_text b)
    go None h = cc h
    go (Some r) h =
        let is : r.values ≡ flag_text b ∷ rest = cc h in
        ap (λ vs. option_map (read_as r.reading) (slice_get vs 0)) is ∙ ap Some (read_bool r.reading b)

-- the flag's default changes no other row
audit_rule : ((rule_by Audit).id ≡ codes "audit") × ((rule_by Audit).defaults ≡ codes "false" ∷ [])
unfolding rule_by
audit_rule = (refl, refl)

default_kept : (id : Text) (rows : List Row) → bytes_eq (codes "audit") id ≡ false → all_of id (with_default rows (rule_by Audit)) ≡ all_of id rows
default_kept id rows differ = rw (audit_rule.0, audit_rule.1) (go (has_row (codes "audit") rows))
  where
    go : (b : Bool) → all_of id (cond b rows (default_rows (codes "audit") (reading_by (rule_by Audit)) (codes "false" ∷ []) rows)) ≡ all_of id rows
    go true = refl
    go false = all_with_other (codes "audit") id _ _ _ rows differ

-- ---- what the matches say

abbrev pub Tells : List Row → Option Asked → Type 0
Tells rows c = (b : Bool) × (one_of (codes "audit") rows ≡ Some (flag_text b))
    × (c ≡ asked_by_rows rows b)

texts_back : (xs : List Text) → unwrap_or (as_option (map (text_for Positional) xs)) [] ≡ xs
texts_back [] = refl
texts_back (x ∷ xs) = ap (λ l. x ∷ l) (map-id xs)

once_workers : (xs : List Text) → length xs ≤ 1 → at_most_one xs ≡ Some (option_and_then (λ vs. slice_get vs 0) (as_option (map (text_for Workers) xs)))
once_workers [] h = refl
once_workers (x ∷ []) h = refl
once_workers (x ∷ y ∷ xs) h = absurd (omega arith)

once_level : (xs : List Text) → length xs ≤ 1 → at_most_one xs ≡ Some (option_and_then (λ vs. slice_get vs 0) (as_option (map (text_for Level) xs)))
once_level [] h = refl
once_level (x ∷ []) h = refl
once_level (x ∷ y ∷ xs) h = absurd (omega arith)

audit_told : (rows : List Row) (xs : List Text) → all_of (codes "audit") rows ≡ as_option (map (text_for Audit) xs) → length xs ≤ 1
    → (b : Bool) × (one_of (codes "audit") (with_default rows (rule_by Audit)) ≡ Some (flag_text b)) × (option_map is_some (at_most_one xs) ≡ Some b)
audit_told rows [] h single =
    let none : has_row (codes "audit") rows ≡ false = has_all (codes "audit") rows ∙ ap is_some h in
    let given : all_of (codes "audit") (with_default rows (rule_by Audit)) ≡ Some (codes "false" ∷ []) =
    rw (audit_rule.0, audit_rule.1, none) (all_with_same (codes "audit") _ DefaultValue (codes "false" ∷ []) rows ∙ ap (λ o. Some (unwrap_or o [] ++ codes "false" ∷ [])) h) in
    (false, one_by_all (codes "audit") (with_default rows (rule_by Audit)) false [] given, refl)
audit_told rows (x ∷ []) h single =
    let some : has_row (codes "audit") rows ≡ true = has_all (codes "audit") rows ∙ ap is_some h in
    let given : all_of (codes "audit") (with_default rows (rule_by Audit)) ≡ Some (codes "true" ∷ []) = rw (audit_rule.0, audit_rule.1, some) h in
    (true, one_by_all (codes "audit") (with_default rows (rule_by Audit)) true [] given, refl)
audit_told rows (x ∷ y ∷ xs) h single = absurd (omega arith)

and_map : {A B C : Type 0} (f : B → Option C) (g : A → B) (o : Option A) (b : B) → option_map g o ≡ Some b → option_and_then (λ x. f (g x)) o ≡ f b
and_map f g None b h = cc h
and_map f g (Some x) b h = ap f (cc h)

tells : (rows : List Row) (ps : List Part) → Holds rows ps → IsSingle ps → Tells (with_default rows (rule_by Audit)) (asked_by ps)
tells rows ps holds single =
    let ended = with_default rows (rule_by Audit) in
    let a = audit_told rows (texts_of Audit ps) (holds Audit) (single Audit tt) in
    let plain : unwrap_or (all_of (codes "word") ended) [] ≡ texts_of Positional ps = rw (default_kept (codes "word") rows refl, holds Positional) (texts_back (texts_of Positional ps)) in
    let workers : at_most_one (texts_of Workers ps) ≡ Some (first_of (codes "workers") ended) =
    rw (first_by_all (codes "workers") ended, default_kept (codes "workers") rows refl, holds Workers) (once_workers (texts_of Workers ps) (single Workers tt)) in
    let level : at_most_one (texts_of Level ps) ≡ Some (first_of (codes "level") ended) =
    rw (first_by_all (codes "level") ended, default_kept (codes "level") rows refl, holds Level) (once_level (texts_of Level ps) (single Level tt)) in
    (a.0, a.1, rw (workers, level, plain) (and_map (λ b. asked (texts_of Positional ps) (first_of (codes "workers") ended) (first_of (codes "level") ended) b) is_some (at_most_one (texts_of Audit ps)) a.0 a.2))

-- clap refuses, and the words are not lawful; or its matches say what they ask for
abbrev pub Ended : Kinds → List Row → Option Asked → Type 0
Ended kinds rows c = (IsFault kinds × (c ≡ None)) ⊎ ((kinds ≡ []) × Tells rows c)

holds_none : Holds [] []
holds_none Positional = refl
holds_none Workers = refl
holds_none Level = refl
holds_none Audit = refl

single_none : IsSingle []
single_none role o = omega arith

pub ended : (words : List Text) → AreUtf8 words → Ended (fault_of parcoll_app words) (matches_of parcoll_app words) (command_of words)
ended words utf8 =
    let whole = go (clap_parts None words) ((agrees words utf8).0 false [] None) in
    subst (λ (k : Kinds). Ended k (matches_of parcoll_app words) (command_of words)) (sym (fault_is words))
    (subst (λ (rows : List Row). Ended (total start words) rows (command_of words)) (sym (rows_are words))
    (subst (λ (c : Option Asked). Ended (total start words) (with_default (final start words) (rule_by Audit)) c) (sym (command_is words)) whole))
  where
    by : (ps : List Part) (r : Option (List Row)) → Agrees (total start words) (final start words) r → Reads r ps
        → Ended (total start words) (with_default (final start words) (rule_by Audit)) (asked_by ps)
    by ps None fault twice = inl (fault, repeated_none ps twice)
    by ps (Some rows) same read = inr (same.0, subst (λ (rs : List Row). Tells (with_default rs (rule_by Audit)) (asked_by ps)) (sym same.1) (tells rows ps read.0 read.1))

    go : (o : Option (List Part)) → Agrees (total start words) (final start words) (option_and_then (λ ps. applied ps []) o)
        → Ended (total start words) (with_default (final start words) (rule_by Audit)) (option_and_then asked_by o)
    go None fault = inl (fault, refl)
    go (Some ps) h = by ps (applied ps []) h (reads ps [] [] holds_none single_none)
