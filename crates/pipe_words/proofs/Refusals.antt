-- Parts that ask for nothing, and the words that clap reads as other parts.
use Rattle.std.proofs.Common.{◌≡◌, ◌∙◌, ◌≤◌, ◌==◌, ◌⊎◌, ◌&&◌, ◌||◌, inl, inr, ℕ, Bool, true, false, cond, not, List, [], ◌∷◌, length, Option, Some, None, is_some, option_and_then, bytes_eq, codes, nat_le, refl, sym, ap, subst, arith, eqb-true}
use Rattle.std.specs.List.{list_any}
use Rattle.pipe_words.specs.Parts.{Audit, End, Level, Long, Look, Part, Plain, Positional, Role, Short, Text, Workers, is_role, look_of, option_met, parts_after, role_named, texts_of, with_part, word_met}
use Rattle.pipe_words.specs.Parts as parts
use Rattle.pipe_words.specs.Numbers.{number_of, number_or}
use Rattle.pipe_words.specs.Commands.{asked, asked_by, at_most_one, check_of, command_of, run_of, run_with}
use Rattle.pipe_words.proofs.Agreeing.{clap_parts, value_met}
use Rattle.pipe_words.proofs.Rules.{IsValued}
use Rattle.pipe_words.proofs.Rows.{IsRepeated, is_itself}
use Rattle.pipe_words.proofs.Turns.{not_positional}

-- ---- an option is given again

at_most_two : (xs : List Text) → 2 ≤ length xs → at_most_one xs ≡ None
at_most_two [] h = absurd (omega arith)
at_most_two (x ∷ []) h = absurd (omega arith)
at_most_two (x ∷ y ∷ ys) h = refl

all_none : {A B : Type 0} (f : A → Option B) (o : Option A) → ((x : A) → f x ≡ None) → option_and_then f o ≡ None
all_none f None h = refl
all_none f (Some x) h = h x

pub repeated_none : (ps : List Part) → IsRepeated ps → asked_by ps ≡ None
repeated_none ps (Positional, o, many) = absurd o
repeated_none ps (Workers, o, many) = rw (at_most_two (texts_of Workers ps) many) refl
repeated_none ps (Level, o, many) = rw (at_most_two (texts_of Level ps) many) (all_none _ (at_most_one (texts_of Workers ps)) (λ x. refl))
repeated_none ps (Audit, o, many) =
    rw (at_most_two (texts_of Audit ps) many) (all_none _ (at_most_one (texts_of Workers ps)) (λ x. all_none _ (at_most_one (texts_of Level ps)) (λ y. refl)))

-- ---- a value is no number

and_false : (b : Bool) → (b && false) ≡ false
and_false true = refl
and_false false = refl

abbrev IsPlain : Look → Type 0
IsPlain Plain = Unit {0}
IsPlain _ = ⊥

not_number : (v : Text) → (IsPlain (look_of v) → ⊥) → number_of v ≡ None
not_number [] h = absurd (h tt)
not_number (c ∷ cs) h = go (c == 45) refl h
  where
    go : (b : Bool) → (c == 45) ≡ b → (IsPlain (cond b (parts.after_dash cs) Plain) → ⊥) → number_of (c ∷ cs) ≡ None
    go false e h = absurd (h tt)
    go true e h =
        let is : c ≡ 45 = eqb-true c 45 e in
        subst (λ (x : ℕ). number_of (x ∷ cs) ≡ None) (sym is) (rw (and_false (nat_le (length (45 ∷ cs)) 2)) refl)

abbrev is_bad : Text → Bool
is_bad v = not (is_some (number_of v))

abbrev IsSpoiled : List Part → Type 0
IsSpoiled ps = (role : Role) × IsValued role × (list_any is_bad (texts_of role ps) ≡ true)

no_number : (v : Text) → (is_bad v || false) ≡ true → number_of v ≡ None
no_number v = go (number_of v)
  where
    go : (o : Option ℕ) → (not (is_some o) || false) ≡ true → o ≡ None
    go None h = refl
    go (Some n) h = cc h

no_workers : (plain : List Text) (v : Text) (level : Option Text) (audit : Bool) → number_of v ≡ None → asked plain (Some v) level audit ≡ None
no_workers [] v level audit h = refl
no_workers (mode ∷ names) v level audit h = go (bytes_eq mode (codes "run")) (bytes_eq mode (codes "check")) names
  where
    go : (x y : Bool) (ns : List Text) → cond x (run_of ns (Some v) level audit) (cond y (check_of ns (Some v) level audit) None) ≡ None
    go true y [] = refl
    go true y (p ∷ []) = rw h refl
    go true y (p ∷ d ∷ []) = rw h refl
    go true y (p ∷ d ∷ e ∷ es) = refl
    go false true [] = refl
    go false true (p ∷ []) = refl
    go false true (p ∷ d ∷ es) = refl
    go false false ns = refl

no_level : (plain : List Text) (workers : Option Text) (v : Text) (audit : Bool) → number_of v ≡ None → asked plain workers (Some v) audit ≡ None
no_level [] workers v audit h = refl
no_level (mode ∷ names) workers v audit h = go (bytes_eq mode (codes "run")) (bytes_eq mode (codes "check")) names workers
  where
    run : (p : Text) (d w : Option Text) → run_with p d w (Some v) audit ≡ None
    run p d w = all_none _ (number_or 4 w) (λ n. rw h refl)

    go : (x y : Bool) (ns : List Text) (w : Option Text) → cond x (run_of ns w (Some v) audit) (cond y (check_of ns w (Some v) audit) None) ≡ None
    go true y [] w = refl
    go true y (p ∷ []) w = run p None w
    go true y (p ∷ d ∷ []) w = run p (Some d) w
    go true y (p ∷ d ∷ e ∷ es) w = refl
    go false true [] w = refl
    go false true (p ∷ []) None = refl
    go false true (p ∷ []) (Some u) = refl
    go false true (p ∷ d ∷ es) w = refl
    go false false ns w = refl

pub spoiled_none : (ps : List Part) → IsSpoiled ps → asked_by ps ≡ None
spoiled_none ps (Positional, o, bad) = absurd o
spoiled_none ps (Audit, o, bad) = absurd o
spoiled_none ps (Workers, o, bad) = go (texts_of Workers ps) bad
  where
    go : (ws : List Text) → list_any is_bad ws ≡ true
        → option_and_then (λ workers. option_and_then (λ level. option_and_then (λ audit. asked (texts_of Positional ps) workers level (is_some audit))
        (at_most_one (texts_of Audit ps))) (at_most_one (texts_of Level ps))) (at_most_one ws) ≡ None
    go [] h = cc h
    go (v ∷ []) h = all_none _ (at_most_one (texts_of Level ps)) (λ level. all_none _ (at_most_one (texts_of Audit ps)) (λ audit. no_workers (texts_of Positional ps) v level (is_some audit) (no_number v h)))
    go (v ∷ w ∷ ws) h = refl
spoiled_none ps (Level, o, bad) = all_none _ (at_most_one (texts_of Workers ps)) (λ workers. go workers (texts_of Level ps) bad)
  where
    go : (workers : Option Text) (ls : List Text) → list_any is_bad ls ≡ true
        → option_and_then (λ level. option_and_then (λ audit. asked (texts_of Positional ps) workers level (is_some audit))
        (at_most_one (texts_of Audit ps))) (at_most_one ls) ≡ None
    go workers [] h = cc h
    go workers (v ∷ []) h = all_none _ (at_most_one (texts_of Audit ps)) (λ audit. no_level (texts_of Positional ps) workers v (is_some audit) (no_number v h))
    go workers (v ∷ w ∷ ws) h = refl

-- ---- clap's parts are those of the rule, but for values that look like options

abbrev Spoils : Option (List Part) → Type 0
Spoils None = Unit {0}
Spoils (Some ps) = IsSpoiled ps

abbrev Follows : Option (List Part) → Option (List Part) → Type 0
Follows clap rule = (clap ≡ rule) ⊎ ((clap ≡ None) × Spoils rule)

or_true : (b c : Bool) → c ≡ true → (b || c) ≡ true
or_true true c h = refl
or_true false c h = h

spoils_more : (x : Part) (o : Option (List Part)) → Spoils o → Spoils (with_part x o)
spoils_more x None h = tt
spoils_more x (Some ps) (role, valued, bad) = (role, valued, go (is_role role x.0))
  where
    go : (b : Bool) → list_any is_bad (cond b (x.1 ∷ texts_of role ps) (texts_of role ps)) ≡ true
    go true = or_true (is_bad x.1) _ bad
    go false = bad

follows_more : (x : Part) (clap rule : Option (List Part)) → Follows clap rule → Follows (with_part x clap) (with_part x rule)
follows_more x clap rule (inl e) = inl (ap (with_part x) e)
follows_more x clap rule (inr h) = inr (rw h.0 refl, spoils_more x rule h.1)

spoils_value : (role : Role) → IsValued role → (word : Text) (o : Option (List Part)) → (IsPlain (look_of word) → ⊥) → Spoils (with_part (role, word) o)
spoils_value role valued word None h = tt
spoils_value role valued word (Some ps) h = (role, valued, rw (is_itself role, not_number word h) refl)

abbrev FollowsAt : List Text → Type 0
FollowsAt words = Follows (clap_parts None words) (parts_after None words) × ((role : Role) → IsValued role → Follows (clap_parts (Some role) words) (parts_after (Some role) words))

module _ (word : Text) (words : List Text) (rest : FollowsAt words) where
  follows_option : (r : Option Role) (value : Option Text) → (r ≡ Some Positional → ⊥)
      → Follows (option_met r value (clap_parts None words) (λ role. clap_parts (Some role) words)) (option_met r value (parts_after None words) (λ role. parts_after (Some role) words))
  follows_option None value h = inl refl
  follows_option (Some Positional) value h = absurd (h refl)
  follows_option (Some Workers) None h = rest.1 Workers tt
  follows_option (Some Workers) (Some v) h = follows_more (Workers, v) _ _ rest.0
  follows_option (Some Level) None h = rest.1 Level tt
  follows_option (Some Level) (Some v) h = follows_more (Level, v) _ _ rest.0
  follows_option (Some Audit) None h = follows_more (Audit, codes "true") _ _ rest.0
  follows_option (Some Audit) (Some v) h = inl refl

  follows_word : (look : Look)
      → Follows (word_met look word words (clap_parts None words) (λ role. clap_parts (Some role) words)) (word_met look word words (parts_after None words) (λ role. parts_after (Some role) words))
  follows_word Plain = follows_more (parts.positional word) _ _ rest.0
  follows_word End = inl refl
  follows_word (Long name value) = follows_option (role_named name) value (not_positional name)
  follows_word Short = inl refl

  follows_value : (role : Role) → IsValued role → (look : Look) → look_of word ≡ look
      → Follows (value_met look role word (clap_parts None words)) (with_part (role, word) (parts_after None words))
  follows_value role valued Plain e = follows_more (role, word) _ _ rest.0
  follows_value role valued End e = inr (refl, spoils_value role valued word _ (λ h. subst IsPlain e h))
  follows_value role valued (Long name value) e = inr (refl, spoils_value role valued word _ (λ h. subst IsPlain e h))
  follows_value role valued Short e = inr (refl, spoils_value role valued word _ (λ h. subst IsPlain e h))

follows : (words : List Text) → FollowsAt words
follows [] = (inl refl, λ role valued. inl refl)
follows (word ∷ words) = let rest = follows words in (follows_word word words rest (look_of word), λ role valued. follows_value word words rest role valued (look_of word) refl)

-- what the words ask for, by clap's parts
pub command_is : (words : List Text) → command_of words ≡ option_and_then asked_by (clap_parts None words)
command_is words = go (parts_after None words) (clap_parts None words) (follows words).0
  where
    spoils_none : (o : Option (List Part)) → Spoils o → option_and_then asked_by o ≡ None
    spoils_none None h = refl
    spoils_none (Some ps) h = spoiled_none ps h

    go : (rule clap : Option (List Part)) → Follows clap rule → option_and_then asked_by rule ≡ option_and_then asked_by clap
    go rule clap (inl e) = ap (option_and_then asked_by) (sym e)
    go rule clap (inr h) = spoils_none rule h.1 ∙ sym (ap (option_and_then asked_by) h.0)
