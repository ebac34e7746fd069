use Rattle.pipe_program.specs.Plans.{plan}
use Rattle.pipe_print.specs.Lines.{written_text}
use Rattle.pipe_print.proofs.Lexing.{Stops}
use Rattle.pipe_print.proofs.Round.{Laws, ok_reads, reads}
use Rattle.pipe_print.proofs.printing.print.Goals as goal

pub returns-clause-reads : goal.returns-clause-reads
returns-clause-reads c =
    let stops : Stops = record { space = c.line_laws.ensures.space; last = c.line_laws.ensures.last; minus = c.line_laws.ensures.minus } in
    let laws : Laws = record { stops = stops; utf8 = c.line_laws.ensures.utf8; each = c.spelling_laws.ensures.each; again = c.spelling_laws.ensures.again } in
    ok_reads c.text.result (written_text (plan c.args.p.now)) (plan c.args.p.now) c.text.ensures (reads laws (plan c.args.p.now) c.requires)
