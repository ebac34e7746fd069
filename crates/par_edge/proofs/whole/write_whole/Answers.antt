use Rattle.std.proofs.Common.{rules, arith}
use Rattle.std.proofs.lemmas.Grind.{common_steps}
use Rattle.par_edge.specs.Sinks.{AppendsPart}
use Rattle.par_edge.proofs.Writing.{goes_on, breaks_off}
use Rattle.par_edge.proofs.whole.write_whole.Goals as goal

pub returns-in_err-count-clause-part : goal.returns-in_err-count-clause-part
returns-in_err-count-clause-part g c =
    let part : AppendsPart (g.K.Sink.state c.args.sink.now) (g.K.Sink.state c.write.new.self) c.args.bytes.now = breaks_off _ _ _ _ _ c.loop-rest.invariant c.in_err-count.ensures.fails in
    search rules

pub loop-rest-preserved : goal.loop-rest-preserved
loop-rest-preserved g c = goes_on _ _ _ _ _ _ c.in_ok-count.count c.loop-rest.invariant c.in_ok-count.ensures.takes (grind (arith, common_steps))
