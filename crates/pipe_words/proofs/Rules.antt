-- The rules of the built command, and what clap's definitions say of them.
use Rattle.std.proofs.Common.{◌≡◌, ◌&&◌, ◌||◌, ℕ, Bool, true, false, cond, List, [], ◌∷◌, Option, Some, None, option_map, codes, bytes_eq, refl}
use Rattle.clap.specs.Walk.{Row, Rule, Text, arg_by_id, arg_by_index, arg_by_long, arg_by_short, has_row, most_values, takes_values, takes_several, is_multiple}
use Rattle.clap.specs.Simple.{Shape, built, new_rule}
use Rattle.clap.specs.Faults.{is_simple_and_free, use_fault}
use Rattle.clap.specs.Kinds.{Kinds, or_else}
use Rattle.clap.specs.declared.error.kind.ErrorKind.TheVariants as kind
use Rattle.pipe_words.specs.App.{parcoll_app}
use Rattle.pipe_words.specs.Parts.{Audit, Level, Positional, Role, Workers, role_named}

unfoldable pub rules : List Rule
rules = (built parcoll_app).top.rules

-- the built command, whose rules stay closed to proofs
abbrev pub shape : Shape
shape = record {
  name = codes "parcoll";
  aliases = [];
  rules = rules;
  is_plain = true;
  is_leaf = true;
  no_binary_name = true;
  disable_help_flag = true;
  disable_help_subcommand = true;
  disable_version_flag = true;
  propagate_version = false;
  has_version = false;
  has_long_version = false;
  args_override_self = false;
  arg_required_else_help = false;
  subcommand_required = false;
  subcommand_negates_reqs = false;
  is_built = true;
}

abbrev pub id_of : Role → Text
id_of Positional = codes "word"
id_of Workers = codes "workers"
id_of Level = codes "level"
id_of Audit = codes "audit"

abbrev pub or_nothing : Option Rule → Rule
or_nothing (Some a) = a
or_nothing None = new_rule []

unfoldable pub rule_by : Role → Rule
rule_by role = or_nothing (arg_by_id (built parcoll_app).top.rules (id_of role))

pub is_fit : is_simple_and_free parcoll_app ≡ true
is_fit = refl

pub built_is : built parcoll_app ≡ record { top = shape; subs = [] }
unfolding rules
built_is = refl

pub by_id : (role : Role) → arg_by_id rules (id_of role) ≡ Some (rule_by role)
unfolding rules rule_by
by_id Positional = refl
by_id Workers = refl
by_id Level = refl
by_id Audit = refl

pub by_index : arg_by_index rules 1 ≡ Some (rule_by Positional)
unfolding rules rule_by
by_index = refl

pub by_short : (x : ℕ) → arg_by_short rules x ≡ None
unfolding rules
by_short x = refl

pub by_long : (name : Text) → arg_by_long rules name ≡ option_map rule_by (role_named name)
unfolding rules rule_by
by_long name = go (bytes_eq (codes "workers") name) (bytes_eq (codes "level") name) (bytes_eq (codes "audit") name)
  where
    go : (x y z : Bool) → cond (x || false) (Some (rule_by Workers)) (cond (y || false) (Some (rule_by Level)) (cond (z || false) (Some (rule_by Audit)) None))
        ≡ option_map rule_by (cond x (Some Workers) (cond y (Some Level) (cond z (Some Audit) None)))
    go true y z = refl
    go false true z = refl
    go false false true = refl
    go false false false = refl

-- the option has a value
abbrev pub IsValued : Role → Type 0
IsValued Workers = Unit {0}
IsValued Level = Unit {0}
IsValued _ = ⊥

abbrev pub IsFault : Kinds → Type 0
IsFault [] = ⊥
IsFault (k ∷ ks) = Unit {0}

-- which texts a use of the role has
abbrev pub values_for : Role → Text → List Text
values_for Audit text = []
values_for role text = text ∷ []

abbrev pub repeats : Role → List Row → Bool
repeats Positional rows = false
repeats role rows = has_row (id_of role) rows

abbrev pub again_fault : Role → List Row → Kinds
again_fault role rows = cond (repeats role rows) (kind.ArgumentConflict ∷ []) []

once_only : (b : Bool) → or_else (cond (b && true) (kind.ArgumentConflict ∷ []) []) [] ≡ cond b (kind.ArgumentConflict ∷ []) []
once_only true = refl
once_only false = refl

pub use_faults : (role : Role) (text : Text) (rows : List Row) → use_fault false (rule_by role) (values_for role text) rows ≡ again_fault role rows
unfolding rule_by
use_faults Positional text rows = refl
use_faults Workers text rows = once_only (has_row (codes "workers") rows)
use_faults Level text rows = once_only (has_row (codes "level") rows)
use_faults Audit text rows = once_only (has_row (codes "audit") rows)

pub no_values : (role : Role) → (IsValued role) → (rows : List Row) → IsFault (use_fault false (rule_by role) [] rows)
unfolding rule_by
no_values Positional h rows = absurd h
no_values Workers h rows = tt
no_values Level h rows = tt
no_values Audit h rows = absurd h

pub not_several : (b : Bool) → (b && takes_several (rule_by Positional)) ≡ false
unfolding rule_by
not_several true = refl
not_several false = refl

pub many_words : is_multiple (rule_by Positional) ≡ true
unfolding rule_by
many_words = refl

pub not_last : (rule_by Positional).trailing_var_arg ≡ false
unfolding rule_by
not_last = refl

pub ids : (role : Role) → (rule_by role).id ≡ id_of role
unfolding rule_by
ids Positional = refl
ids Workers = refl
ids Level = refl
ids Audit = refl

pub takes_value : (role : Role) → IsValued role → takes_values (rule_by role) ≡ true
unfolding rule_by
takes_value Positional h = absurd h
takes_value Workers h = refl
takes_value Level h = refl
takes_value Audit h = absurd h

pub one_value : (role : Role) → IsValued role → most_values (rule_by role) ≡ 1
unfolding rule_by
one_value Positional h = absurd h
one_value Workers h = refl
one_value Level h = refl
one_value Audit h = absurd h

pub flag_takes_none : takes_values (rule_by Audit) ≡ false
unfolding rule_by
flag_takes_none = refl
