use Rattle.pipe_text.specs.Token.{views}
use Rattle.pipe_steps.specs.Said.{view}
use Rattle.pipe_checks.specs.Places.{spot}
use Rattle.pipe_program.proofs.Walk.{full_views, late_stops, says}
use Rattle.pipe_program.proofs.reading.read_tokens.Goals as goal

pub returns-in-Ok-clause-said : goal.returns-in-Ok-clause-said
returns-in-Ok-clause-said c =
    says (spot c.args.place.now) c.args.line.now (views c.args.lexemes.now) (view c.in-Ok.both.0) c.requires.reads (full_views c.args.lexemes.now c.requires.full) c.in-Ok.ensures.accepted

pub returns-in-Err-clause-stopped : goal.returns-in-Err-clause-stopped
returns-in-Err-clause-stopped c =
    rw c.late_stop.ensures (late_stops (spot c.args.place.now) c.args.line.now c.args.at (views c.args.lexemes.now) c.in-Err.stop c.requires.reads (full_views c.args.lexemes.now c.requires.full) c.in-Err.ensures.refused)
