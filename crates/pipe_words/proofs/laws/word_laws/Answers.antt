use Rattle.std.proofs.Common.{◌≡◌, ◌≤◌, ◌&&◌, ap, refl, Bool, true, false, cond, List, [], ◌∷◌, ℕ, Option, Some, None, IfSome, codes, map, nat_le, option_map, option_and_then, is_some, bytes_eq, arith, leb-true, length}
use Rattle.std.specs.Str.{all_ascii_digits}
use Rattle.std.specs.Str.Parse.{digits_value}
use Rattle.pipe_words.specs.Commands.{Asked, Run, IsWithinLimits, asked, asked_by, at_most_one, check_of, run_of, run_with}
use Rattle.pipe_words.specs.Numbers.{limited, number_of, number_or}
use Rattle.pipe_words.specs.Parts.{Audit, Level, Part, Positional, Text, Workers, parts_after, positional, texts_of}
use Rattle.pipe_words.proofs.laws.word_laws.Goals as goal

-- ---- limits

within : (n : ℕ) → IfSome (limited n) (λ m. (1 ≤ m) × (m ≤ 64))
within n = go (nat_le 1 n) (nat_le n 64) refl refl
  where
    go : (x y : Bool) → nat_le 1 n ≡ x → nat_le n 64 ≡ y → IfSome (cond (x && y) (Some n) None) (λ m. (1 ≤ m) × (m ≤ 64))
    go true true e f = (leb-true 1 n e, leb-true n 64 f)
    go true false e f = tt
    go false y e f = tt

number_within : (text : Text) → IfSome (number_of text) (λ m. (1 ≤ m) × (m ≤ 64))
number_within text = go (nat_le (length text) 2 && all_ascii_digits text)
  where
    go : (b : Bool) → IfSome (cond b (limited (digits_value 10 text)) None) (λ m. (1 ≤ m) × (m ≤ 64))
    go true = within (digits_value 10 text)
    go false = tt

or_within : (n : ℕ) → 1 ≤ n → n ≤ 64 → (o : Option Text) → IfSome (number_or n o) (λ m. (1 ≤ m) × (m ≤ 64))
or_within n low high None = (low, high)
or_within n low high (Some text) = number_within text

run_within : (pipe : Text) (table workers level : Option Text) (audit : Bool) → IfSome (run_with pipe table workers level audit) IsWithinLimits
run_within pipe table workers level audit = go (number_or 4 workers) (or_within 4 (omega arith) (omega arith) workers)
  where
    both : (n : ℕ) → 1 ≤ n → n ≤ 64 → (o : Option ℕ) → IfSome o (λ m. (1 ≤ m) × (m ≤ 64)) → IfSome (option_map (λ m. Run pipe table n m audit) o) IsWithinLimits
    both n low high None h = tt
    both n low high (Some m) h = (low, high, h.0, h.1)

    go : (o : Option ℕ) → IfSome o (λ m. (1 ≤ m) × (m ≤ 64))
        → IfSome (option_and_then (λ n. option_map (λ m. Run pipe table n m audit) (number_or n level)) o) IsWithinLimits
    go None h = tt
    go (Some n) h = both n h.0 h.1 (number_or n level) (or_within n h.0 h.1 level)

names_within : (x y : Bool) (names : List Text) (workers level : Option Text) (audit : Bool)
    → IfSome (cond x (run_of names workers level audit) (cond y (check_of names workers level audit) None)) IsWithinLimits
names_within true y [] workers level audit = tt
names_within true y (p ∷ []) workers level audit = run_within p None workers level audit
names_within true y (p ∷ d ∷ []) workers level audit = run_within p (Some d) workers level audit
names_within true y (p ∷ d ∷ e ∷ es) workers level audit = tt
names_within false true [] workers level audit = tt
names_within false true (p ∷ []) None None false = tt
names_within false true (p ∷ []) None None true = tt
names_within false true (p ∷ []) None (Some l) audit = tt
names_within false true (p ∷ []) (Some w) level audit = tt
names_within false true (p ∷ d ∷ es) workers level audit = tt
names_within false false names workers level audit = tt

asked_within : (plain : List Text) (workers level : Option Text) (audit : Bool) → IfSome (asked plain workers level audit) IsWithinLimits
asked_within [] workers level audit = tt
asked_within (mode ∷ names) workers level audit = names_within (bytes_eq mode (codes "run")) (bytes_eq mode (codes "check")) names workers level audit

then_within : {A : Type 0} (f : A → Option Asked) (o : Option A) → ((x : A) → IfSome (f x) IsWithinLimits) → IfSome (option_and_then f o) IsWithinLimits
then_within f None h = tt
then_within f (Some x) h = h x

by_within : (ps : List Part) → IfSome (asked_by ps) IsWithinLimits
by_within ps =
    then_within _ (at_most_one (texts_of Workers ps)) (λ workers.
    then_within _ (at_most_one (texts_of Level ps)) (λ level.
    then_within _ (at_most_one (texts_of Audit ps)) (λ audit. asked_within (texts_of Positional ps) workers level (is_some audit))))

pub returns-clause-limits : goal.returns-clause-limits
returns-clause-limits c = λ words. then_within asked_by (parts_after None words) by_within

-- ---- after `--`

plain_texts : (words : List Text) → texts_of Positional (map positional words) ≡ words
plain_texts [] = refl
plain_texts (word ∷ words) = ap (λ l. word ∷ l) (plain_texts words)

no_workers : (words : List Text) → texts_of Workers (map positional words) ≡ []
no_workers [] = refl
no_workers (word ∷ words) = no_workers words

no_level : (words : List Text) → texts_of Level (map positional words) ≡ []
no_level [] = refl
no_level (word ∷ words) = no_level words

no_audit : (words : List Text) → texts_of Audit (map positional words) ≡ []
no_audit [] = refl
no_audit (word ∷ words) = no_audit words

pub returns-clause-separated : goal.returns-clause-separated
returns-clause-separated c = λ words. rw (plain_texts words, no_workers words, no_level words, no_audit words) refl

pub returns-clause-plain : goal.returns-clause-plain
returns-clause-plain c = λ pipe plain. rw plain refl

pub returns-clause-level : goal.returns-clause-level
returns-clause-level c = refl

pub returns-clause-anywhere : goal.returns-clause-anywhere
returns-clause-anywhere c = refl

pub returns-clause-late : goal.returns-clause-late
returns-clause-late c = refl

pub returns-clause-twice : goal.returns-clause-twice
returns-clause-twice c = refl

pub returns-clause-short : goal.returns-clause-short
returns-clause-short c = refl
