use Rattle.std.proofs.Common.{◌∙◌, sym}
use Rattle.clap.specs.Matches.{found_of}
use Rattle.clap.specs.Simple.{app_of}
use Rattle.clap.specs.Walk.{rows_of}
use Rattle.pipe_words.proofs.Reading.{app_refused, app_told}
use Rattle.pipe_words.proofs.reader.read_words.Goals as goal

pub returns-in-Ok : goal.returns-in-Ok
returns-in-Ok c =
    let told = app_told (app_of c.in_ok-grammar.field-0) c.args.words.now (rows_of (found_of c.in-Ok.matches)) c.in_ok-grammar.ensures c.in-Ok.ensures.kinds (λ simple. (c.in-Ok.ensures.matches simple).0) in
    c.command_of_matches.ensures told.0 told.1 ∙ sym told.2

pub returns : goal.returns
returns c =
    sym (app_refused (app_of c.in_ok-grammar.field-0) c.args.words.now c.in-Err.error c.in_ok-grammar.ensures c.in-Err.ensures.kinds (λ memory. c.in_default.not-OutOfMemory (c.kind.ensures ∙ memory)))
