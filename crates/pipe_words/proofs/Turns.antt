-- One word of clap's walk, by what the word looks like.
use Rattle.std.proofs.Common.{◌≡◌, ◌∙◌, Bool, true, false, cond, List, [], ◌∷◌, Option, Some, None, codes, IsUtf8, bytes_eq, refl, ap}
use Rattle.clap.specs.Lexer.{long_of, short_of}
use Rattle.clap.specs.Walk.{Held, Row, Walk, Waiting, idle, option, positional, used, walked, subcommand_met}
use Rattle.clap.specs.Faults.{flags_fault, settle_fault, turn_fault, use_fault}
use Rattle.clap.specs.Kinds.{Kinds, or_else}
use Rattle.pipe_words.specs.Parts.{Audit, End, Level, Long, Part, Plain, Positional, Role, Short, Text, Workers, role_named}
use Rattle.pipe_words.proofs.Looks.{Looks, first_flag}
use Rattle.pipe_words.proofs.Rules.{IsFault, IsValued, by_id, by_index, by_long, again_fault, by_short, flag_takes_none, id_of, ids, many_words, not_last, not_several, one_value, rule_by, rules, shape, takes_value, use_faults}
use Rattle.pipe_words.proofs.Settling.{Turns, fault_first, fault_now, held, or_else_none, pending, settle_is, settle_unvalued, settled_rows_is, stand, used_now}

-- no option waits for its value
abbrev pub calm : Bool → Waiting
calm true = positional
calm false = idle

abbrev dashes : Text
dashes = 45 ∷ 45 ∷ []

pub plain_turn : (b : Bool) (rows : List Row) (p : Option Part) (word : Text)
    → Looks (bytes_eq word dashes) (long_of word) (short_of word) Plain
    → Turns (stand (held rows (pending p)) (calm b) false) word (fault_now p rows) (stand (held (used_now p rows) (pending (Some (Positional, word)))) positional false)
unfolding walked
plain_turn true rows p word h = (
  rw (h.0, h.1, h.2, by_index, not_several) (settle_is p rows),
  rw (h.0, h.1, h.2, by_index, not_several, settled_rows_is p rows, many_words, not_last, ids) refl,
)
plain_turn false rows p word h = (
  rw (h.0, h.1, h.2, by_index, not_several) (settle_is p rows),
  rw (h.0, h.1, h.2, by_index, not_several, settled_rows_is p rows, many_words, not_last, ids) refl,
)

pub end_turn : (b : Bool) (h : Held) (word : Text) → bytes_eq word dashes ≡ true → Turns (stand h (calm b) false) word [] (stand h (calm b) true)
unfolding walked
end_turn true h word e = (rw e refl, rw e refl)
end_turn false h word e = (rw e refl, rw e refl)

pub late_turn : (w : Waiting) (rows : List Row) (p : Option Part) (word : Text)
    → Turns (stand (held rows (pending p)) w true) word (fault_now p rows) (stand (held (used_now p rows) (pending (Some (Positional, word)))) positional true)
unfolding walked
late_turn w rows p word = (
  rw (by_index, not_several) (settle_is p rows),
  rw (by_index, not_several, settled_rows_is p rows, many_words, ids) refl,
)

-- a short option is refused, whatever waits
pub short_refused : (w : Waiting) (rows : List Row) (p : Option (Text × List Text)) (word : Text) → Looks (bytes_eq word dashes) (long_of word) (short_of word) Short → IsUtf8 word
    → subcommand_met [] w word ≡ None → IsFault (turn_fault shape [] (stand (held rows p) w false) word)
unfolding flags_fault
short_refused w rows p word h utf8 none = let first = first_flag word h.2 h.3 h.4 utf8 in rw (none, h.0, h.1, h.4, first.1, by_short) tt

-- ---- options by their names

pub unknown_refused : (w : Waiting) (h : Held) (word name : Text) (value : Option Text) → Looks (bytes_eq word dashes) (long_of word) (short_of word) (Long name value)
    → role_named name ≡ None → subcommand_met [] w word ≡ None → IsFault (turn_fault shape [] (stand h w false) word)
unknown_refused w h word name value l unknown none = rw (none, l.0, l.1, by_long, unknown) tt

pub flag_value_refused : (w : Waiting) (h : Held) (word name value : Text) → Looks (bytes_eq word dashes) (long_of word) (short_of word) (Long name (Some value))
    → role_named name ≡ Some Audit → subcommand_met [] w word ≡ None → IsFault (turn_fault shape [] (stand h w false) word)
flag_value_refused w h word name value l known none = rw (none, l.0, l.1, by_long, known, flag_takes_none) tt

pub flag_turn : (b : Bool) (rows : List Row) (p : Option Part) (word name : Text) → Looks (bytes_eq word dashes) (long_of word) (short_of word) (Long name None)
    → role_named name ≡ Some Audit
    → Turns (stand (held rows (pending p)) (calm b) false) word (or_else (fault_now p rows) (again_fault Audit (used_now p rows)))
    (stand (held (used (rule_by Audit) [] (used_now p rows)) None) idle false)
unfolding walked
flag_turn true rows p word name l known = (
  rw (l.0, l.1, by_long, known, flag_takes_none, settled_rows_is p rows, use_faults Audit [] (used_now p rows), settle_is p rows, or_else_none) refl,
  rw (l.0, l.1, by_long, known, flag_takes_none, settled_rows_is p rows) refl,
)
flag_turn false rows p word name l known = (
  rw (l.0, l.1, by_long, known, flag_takes_none, settled_rows_is p rows, use_faults Audit [] (used_now p rows), settle_is p rows, or_else_none) refl,
  rw (l.0, l.1, by_long, known, flag_takes_none, settled_rows_is p rows) refl,
)

value_fault : (role : Role) → IsValued role → (value : Text) (rows : List Row) (k : Kinds)
    → or_else (or_else k (use_fault false (rule_by role) (value ∷ []) rows)) [] ≡ or_else k (again_fault role rows)
value_fault Positional h value rows k = absurd h
value_fault Workers h value rows k = or_else_none _ ∙ ap (or_else k) (use_faults Workers value rows)
value_fault Level h value rows k = or_else_none _ ∙ ap (or_else k) (use_faults Level value rows)
value_fault Audit h value rows k = absurd h

pub value_turn : (b : Bool) (rows : List Row) (p : Option Part) (word name value : Text) (role : Role) → IsValued role
    → Looks (bytes_eq word dashes) (long_of word) (short_of word) (Long name (Some value)) → role_named name ≡ Some role
    → Turns (stand (held rows (pending p)) (calm b) false) word (or_else (fault_now p rows) (again_fault role (used_now p rows)))
    (stand (held (used (rule_by role) (value ∷ []) (used_now p rows)) None) idle false)
unfolding walked
value_turn true rows p word name value role valued l known = (
  rw (l.0, l.1, by_long, known, takes_value role valued, settled_rows_is p rows) (value_fault role valued value (used_now p rows) _ ∙ ap (λ k. or_else k (again_fault role (used_now p rows))) (settle_is p rows)),
  rw (l.0, l.1, by_long, known, takes_value role valued, settled_rows_is p rows) refl,
)
value_turn false rows p word name value role valued l known = (
  rw (l.0, l.1, by_long, known, takes_value role valued, settled_rows_is p rows) (value_fault role valued value (used_now p rows) _ ∙ ap (λ k. or_else k (again_fault role (used_now p rows))) (settle_is p rows)),
  rw (l.0, l.1, by_long, known, takes_value role valued, settled_rows_is p rows) refl,
)

pub wait_turn : (b : Bool) (rows : List Row) (p : Option Part) (word name : Text) (role : Role) → IsValued role
    → Looks (bytes_eq word dashes) (long_of word) (short_of word) (Long name None) → role_named name ≡ Some role
    → Turns (stand (held rows (pending p)) (calm b) false) word (fault_now p rows)
    (stand (held (used_now p rows) (Some (id_of role, []))) (option (id_of role)) false)
unfolding walked
wait_turn true rows p word name role valued l known = (
  rw (l.0, l.1, by_long, known, takes_value role valued, settle_is p rows, or_else_none) refl,
  rw (l.0, l.1, by_long, known, takes_value role valued, settled_rows_is p rows, ids) refl,
)
wait_turn false rows p word name role valued l known = (
  rw (l.0, l.1, by_long, known, takes_value role valued, settle_is p rows, or_else_none) refl,
  rw (l.0, l.1, by_long, known, takes_value role valued, settled_rows_is p rows, ids) refl,
)

-- ---- where an option waits for its value

abbrev pub waits : Role → List Row → Bool → Walk
waits role rows is_trailing = stand (held rows (Some (id_of role, []))) (option (id_of role)) is_trailing

pub take_turn : (role : Role) → IsValued role → (rows : List Row) (word : Text) → Looks (bytes_eq word dashes) (long_of word) (short_of word) Plain
    → Turns (waits role rows false) word [] (stand (held rows (Some (id_of role, word ∷ []))) idle false)
unfolding walked
take_turn Positional valued rows word l = absurd valued
take_turn Workers valued rows word l = (rw (l.0, l.1, l.2) refl, rw (l.0, l.1, l.2, by_id Workers, ids, one_value Workers valued) refl)
take_turn Level valued rows word l = (rw (l.0, l.1, l.2) refl, rw (l.0, l.1, l.2, by_id Level, ids, one_value Level valued) refl)
take_turn Audit valued rows word l = absurd valued

pub value_missed : (role : Role) → IsValued role → (rows : List Row) (word : Text) → Looks (bytes_eq word dashes) (long_of word) (short_of word) End
    → Turns (waits role rows false) word [] (waits role rows true)
unfolding walked
value_missed role valued rows word e = (rw e refl, rw e refl)

pub not_positional : (name : Text) → role_named name ≡ Some Positional → ⊥
not_positional name = go (bytes_eq (codes "workers") name) (bytes_eq (codes "level") name) (bytes_eq (codes "audit") name)
  where
    go : (x y z : Bool) → cond x (Some Workers) (cond y (Some Level) (cond z (Some Audit) None)) ≡ Some Positional → ⊥
    go true y z e = cc e
    go false true z e = cc e
    go false false true e = cc e
    go false false false e = cc e

pub option_refused : (role : Role) → IsValued role → (rows : List Row) (word name : Text) (value : Option Text)
    → Looks (bytes_eq word dashes) (long_of word) (short_of word) (Long name value) → IsFault (turn_fault shape [] (waits role rows false) word)
option_refused role valued rows word name value l = go (role_named name) refl value l
  where
    missed : IsFault (settle_fault rules false (held rows (Some (id_of role, []))))
    missed = settle_unvalued role valued rows

    valued_met : (met : Role) → IsValued met → role_named name ≡ Some met → (v : Option Text) → Looks (bytes_eq word dashes) (long_of word) (short_of word) (Long name v)
        → IsFault (turn_fault shape [] (waits role rows false) word)
    valued_met met h known None l = rw (l.0, l.1, by_long, known, takes_value met h) (fault_first _ _ missed)
    valued_met met h known (Some v) l = rw (l.0, l.1, by_long, known, takes_value met h) (fault_first _ _ (fault_first _ _ missed))

    go : (r : Option Role) → role_named name ≡ r → (v : Option Text) → Looks (bytes_eq word dashes) (long_of word) (short_of word) (Long name v)
        → IsFault (turn_fault shape [] (waits role rows false) word)
    go None unknown v l = unknown_refused (option (id_of role)) _ word name v l unknown refl
    go (Some Positional) known v l = absurd (not_positional name known)
    go (Some Workers) known v l = valued_met Workers tt known v l
    go (Some Level) known v l = valued_met Level tt known v l
    go (Some Audit) known (Some v) l = flag_value_refused (option (id_of role)) _ word name v l known refl
    go (Some Audit) known None l = rw (l.0, l.1, by_long, known, flag_takes_none) (fault_first _ _ (fault_first _ _ missed))

pub late_refused : (role : Role) → IsValued role → (rows : List Row) (word : Text) → IsFault (turn_fault shape [] (waits role rows true) word)
late_refused role valued rows word = rw (by_index, not_several) (settle_unvalued role valued rows)
