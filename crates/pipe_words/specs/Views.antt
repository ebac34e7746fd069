-- What a command of the code stands for.
use Rattle.std.specs.Prelude.{option_map}
use Rattle.pipe_words.specs.Commands.{Asked, Check, Run}
use Rattle.pipe_words.specs.declared.command.Command.{Command}
use Rattle.pipe_words.specs.declared.command.Command.TheVariants as command

abbrev pub view : Command → Asked
view (command.Run pipe table workers level audit) = Run pipe.now (option_map (λ t. t.now) table) workers level audit
view (command.Check pipe) = Check pipe.now
