-- Clap's walk over all the words, and the parts of the words.
use Rattle.std.proofs.Common.{◌≡◌, Bool, true, false, List, [], ◌∷◌, map, Option, Some, None, codes, IsUtf8, bytes_eq, option_and_then, refl}
use Rattle.clap.specs.Lexer.{long_of, short_of}
use Rattle.clap.specs.Walk.{Row, Waiting, idle, option, positional, subcommand_met}
use Rattle.clap.specs.Faults.{walk_fault}
use Rattle.clap.specs.Kinds.{or_else}
use Rattle.pipe_words.specs.Parts.{Audit, End, Level, Long, Look, Part, Plain, Positional, Role, Short, Text, Workers, look_of, role_named, with_part, word_met}
use Rattle.pipe_words.specs.Parts as parts
use Rattle.pipe_words.proofs.Looks.{Looks, looks}
use Rattle.pipe_words.proofs.Rules.{IsFault, IsValued, id_of}
use Rattle.pipe_words.proofs.Settling.{Agrees, Turns, applied, before, fault_now, final, held, or_else_assoc, pending, refused, settle_is, settle_unvalued, settled_rows_is, settles, stand, total, turned, used_now, uses_first}
use Rattle.pipe_words.proofs.Turns.{calm, end_turn, flag_turn, flag_value_refused, late_refused, late_turn, not_positional, option_refused, plain_turn, short_refused, take_turn, unknown_refused, value_missed, value_turn, wait_turn, waits}

-- ---- after `--`

pub late : (words : List Text) (w : Waiting) (rows : List Row) (p : Option Part)
    → Agrees (total (stand (held rows (pending p)) w true) words) (final (stand (held rows (pending p)) w true) words) (applied (before p (map parts.positional words)) rows)
unfolding walk_fault
late [] w rows p = rw (settle_is p rows, settled_rows_is p rows) (settles p rows)
late (word ∷ words) w rows p =
    turned _ _ word words _ _ (late_turn w rows p word)
    (uses_first p rows _ (Some (map parts.positional words)) (λ ps. parts.positional word ∷ ps) _
    (late words positional (used_now p rows) (Some (Positional, word))))

pub never : (words : List Text) (role : Role) → IsValued role → (rows : List Row) → IsFault (total (waits role rows true) words)
unfolding walk_fault
never [] role valued rows = settle_unvalued role valued rows
never (word ∷ words) role valued rows = refused (waits role rows true) word words (late_refused role valued rows word)

-- ---- the parts as clap reads them: a word that looks like an option is no value

abbrev pub value_met : Look → Role → Text → Option (List Part) → Option (List Part)
value_met Plain role word rest = with_part (role, word) rest
value_met _ role word rest = None

abbrev pub clap_parts : Option Role → List Text → Option (List Part)
clap_parts None [] = Some []
clap_parts None (word ∷ words) = word_met (look_of word) word words (clap_parts None words) (λ role. clap_parts (Some role) words)
clap_parts (Some role) [] = None
clap_parts (Some role) (word ∷ words) = value_met (look_of word) role word (clap_parts None words)

pub through : {A : Type 0} (f : List Part → Option A) (x : Part) (o : Option (List Part)) → option_and_then f (with_part x o) ≡ option_and_then (λ ps. f (x ∷ ps)) o
through f x None = refl
through f x (Some ps) = refl

abbrev pub CalmAt : List Text → Type 0
CalmAt words = (b : Bool) (rows : List Row) (p : Option Part)
    → Agrees (total (stand (held rows (pending p)) (calm b) false) words) (final (stand (held rows (pending p)) (calm b) false) words)
    (option_and_then (λ ps. applied (before p ps) rows) (clap_parts None words))

abbrev pub WaitsAt : List Text → Type 0
WaitsAt words = (role : Role) → IsValued role → (rows : List Row)
    → Agrees (total (waits role rows false) words) (final (waits role rows false) words)
    (option_and_then (λ ps. applied ps rows) (clap_parts (Some role) words))

module _ (word : Text) (words : List Text) (utf8 : IsUtf8 word) (calm_rest : CalmAt words) (waits_rest : WaitsAt words) where
  after_value : (role : Role) → IsValued role → (rows : List Row) (look : Look) → Looks (bytes_eq word (45 ∷ 45 ∷ [])) (long_of word) (short_of word) look
      → Agrees (total (waits role rows false) (word ∷ words)) (final (waits role rows false) (word ∷ words))
      (option_and_then (λ ps. applied ps rows) (value_met look role word (clap_parts None words)))
  after_value Positional h rows look l = absurd h
  after_value Audit h rows look l = absurd h
  after_value Workers h rows Plain l =
      turned (waits Workers rows false) _ word words _ _ (take_turn Workers h rows word l)
      (rw (through (λ ps. applied ps rows) (Workers, word) (clap_parts None words)) (calm_rest false rows (Some (Workers, word))))
  after_value Level h rows Plain l =
      turned (waits Level rows false) _ word words _ _ (take_turn Level h rows word l)
      (rw (through (λ ps. applied ps rows) (Level, word) (clap_parts None words)) (calm_rest false rows (Some (Level, word))))
  after_value Workers h rows End l = turned (waits Workers rows false) (waits Workers rows true) word words [] None (value_missed Workers h rows word l) (never words Workers h rows)
  after_value Level h rows End l = turned (waits Level rows false) (waits Level rows true) word words [] None (value_missed Level h rows word l) (never words Level h rows)
  after_value Workers h rows (Long name value) l = refused (waits Workers rows false) word words (option_refused Workers h rows word name value l)
  after_value Level h rows (Long name value) l = refused (waits Level rows false) word words (option_refused Level h rows word name value l)
  after_value Workers h rows Short l = refused (waits Workers rows false) word words (short_refused (option (id_of Workers)) rows _ word l utf8 refl)
  after_value Level h rows Short l = refused (waits Level rows false) word words (short_refused (option (id_of Level)) rows _ word l utf8 refl)

  met_none : (b : Bool) → subcommand_met [] (calm b) word ≡ None
  met_none true = refl
  met_none false = refl

  -- an option and its value are used at once, after what was held back
  after_use : (b : Bool) (rows : List Row) (p : Option Part) (part : Part)
      → Turns (stand (held rows (pending p)) (calm b) false) word (or_else (fault_now p rows) (fault_now (Some part) (used_now p rows)))
      (stand (held (used_now (Some part) (used_now p rows)) None) idle false)
      → Agrees (total (stand (held rows (pending p)) (calm b) false) (word ∷ words)) (final (stand (held rows (pending p)) (calm b) false) (word ∷ words))
      (option_and_then (λ ps. applied (before p ps) rows) (with_part part (clap_parts None words)))
  after_use b rows p part turn =
      let now = used_now p rows in
      let rest = calm_rest false (used_now (Some part) now) None in
      let both = uses_first p rows _ (clap_parts None words) (λ ps. part ∷ ps) _ (uses_first (Some part) now _ (clap_parts None words) (λ ps. ps) _ rest) in
      turned _ _ word words _ _ turn
      (rw (or_else_assoc, through (λ ps. applied (before p ps) rows) part (clap_parts None words)) both)

  after_option : (b : Bool) (rows : List Row) (p : Option Part) (name : Text) (value : Option Text) (r : Option Role) → role_named name ≡ r
      → Looks (bytes_eq word (45 ∷ 45 ∷ [])) (long_of word) (short_of word) (Long name value)
      → Agrees (total (stand (held rows (pending p)) (calm b) false) (word ∷ words)) (final (stand (held rows (pending p)) (calm b) false) (word ∷ words))
      (option_and_then (λ ps. applied (before p ps) rows) (parts.option_met r value (clap_parts None words) (λ role. clap_parts (Some role) words)))
  after_option b rows p name value None known l = refused _ word words (unknown_refused (calm b) (held rows (pending p)) word name value l known (met_none b))
  after_option b rows p name value (Some Positional) known l = absurd (not_positional name known)
  after_option b rows p name None (Some Audit) known l = after_use b rows p (Audit, codes "true") (flag_turn b rows p word name l known)
  after_option b rows p name (Some value) (Some Audit) known l =
      refused _ word words (flag_value_refused (calm b) (held rows (pending p)) word name value l known (met_none b))
  after_option b rows p name (Some value) (Some Workers) known l = after_use b rows p (Workers, value) (value_turn b rows p word name value Workers tt l known)
  after_option b rows p name (Some value) (Some Level) known l = after_use b rows p (Level, value) (value_turn b rows p word name value Level tt l known)
  after_option b rows p name None (Some Workers) known l =
      turned _ _ word words _ _ (wait_turn b rows p word name Workers tt l known)
      (uses_first p rows _ (clap_parts (Some Workers) words) (λ ps. ps) _ (waits_rest Workers tt (used_now p rows)))
  after_option b rows p name None (Some Level) known l =
      turned _ _ word words _ _ (wait_turn b rows p word name Level tt l known)
      (uses_first p rows _ (clap_parts (Some Level) words) (λ ps. ps) _ (waits_rest Level tt (used_now p rows)))

  after_word : (b : Bool) (rows : List Row) (p : Option Part) (look : Look) → Looks (bytes_eq word (45 ∷ 45 ∷ [])) (long_of word) (short_of word) look
      → Agrees (total (stand (held rows (pending p)) (calm b) false) (word ∷ words)) (final (stand (held rows (pending p)) (calm b) false) (word ∷ words))
      (option_and_then (λ ps. applied (before p ps) rows) (word_met look word words (clap_parts None words) (λ role. clap_parts (Some role) words)))
  after_word b rows p Plain l =
      turned _ _ word words _ _ (plain_turn b rows p word l)
      (rw (through (λ ps. applied (before p ps) rows) (parts.positional word) (clap_parts None words))
      (uses_first p rows _ (clap_parts None words) (λ ps. parts.positional word ∷ ps) _ (calm_rest true (used_now p rows) (Some (parts.positional word)))))
  after_word b rows p End l = turned _ _ word words _ _ (end_turn b (held rows (pending p)) word l) (late words (calm b) rows p)
  after_word b rows p (Long name value) l = after_option b rows p name value (role_named name) refl l
  after_word b rows p Short l = refused _ word words (short_refused (calm b) rows (pending p) word l utf8 (met_none b))

-- each text is UTF-8
abbrev pub AreUtf8 : List Text → Type 0
AreUtf8 [] = Unit {0}
AreUtf8 (word ∷ words) = IsUtf8 word × AreUtf8 words

pub agrees : (words : List Text) → AreUtf8 words → CalmAt words × WaitsAt words
unfolding walk_fault
agrees [] utf8 = (
  λ b rows p. rw (settle_is p rows, settled_rows_is p rows) (settles p rows),
  λ role valued rows. settle_unvalued role valued rows,
)
agrees (word ∷ words) utf8 =
    let rest = agrees words utf8.1 in (
      λ b rows p. after_word word words utf8.0 rest.0 rest.1 b rows p (look_of word) (looks word),
      λ role valued rows. after_value word words utf8.0 rest.0 rest.1 role valued rows (look_of word) (looks word),
    )
