-- The command that clap reads: any number of positionals, two options with a value and a flag.
use Rattle.std.specs.Prelude.{Some, true, codes}
use Rattle.clap.specs.Words.{App, Rule, Text, new_app, new_rule, with_rule}
use Rattle.clap.specs.declared.builder.ArgAction.TheVariants.{Append, Set, SetTrue}

abbrev pub words_rule : Rule
words_rule = record (new_rule (codes "word")) { action = Some Append }

abbrev pub value_rule : Text → Rule
value_rule id = record (new_rule id) { long = Some id; action = Some Set }

abbrev pub flag_rule : Text → Rule
flag_rule id = record (new_rule id) { long = Some id; action = Some SetTrue }

abbrev pub plain_app : App
plain_app = record (new_app (codes "parcoll")) { top = record (new_app (codes "parcoll")).top { no_binary_name = true; disable_help_flag = true; disable_version_flag = true } }

abbrev pub parcoll_app : App
parcoll_app = with_rule (with_rule (with_rule (with_rule plain_app words_rule) (value_rule (codes "workers"))) (value_rule (codes "level"))) (flag_rule (codes "audit"))
