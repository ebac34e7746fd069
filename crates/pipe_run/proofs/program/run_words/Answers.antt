use Rattle.std.specs.Prelude.{map, string_bytes}
use Rattle.pipe_run.proofs.Ending.{runnable}
use Rattle.pipe_run.proofs.program.run_words.Goals as goal

pub run_command-requires-after_bounds : goal.run_command-requires-after_bounds
run_command-requires-after_bounds g c = λ κs within. runnable _ _ (rw c.in-Ok-Some.field-0-is at c.in-Ok-Some.ensures) (c.word_laws.ensures.limits (map string_bytes c.args.words.now))
