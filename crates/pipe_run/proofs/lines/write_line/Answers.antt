use Rattle.pipe_run.specs.Outcomes.{line_of}
use Rattle.pipe_run.specs.declared.outcome.Outcome.TheVariants as is
use Rattle.pipe_run.proofs.Pieces.{by_result}
use Rattle.pipe_run.proofs.lines.write_line.Goals as goal

pub returns-in-BadPipeline : goal.returns-in-BadPipeline
returns-in-BadPipeline g c = rw c.in-BadPipeline.is (rw c.pipeline_word.ensures at c.write_kind.ensures)

pub returns-in-BadData : goal.returns-in-BadData
returns-in-BadData g c = rw c.in-BadData.is (rw c.data_word.ensures at c.write_kind-in-BadData.ensures)

pub returns-in-ReadFault : goal.returns-in-ReadFault
returns-in-ReadFault g c = rw c.in-ReadFault.is (by_result (g.E.Sink.state c.args.err.now) (g.E.Sink.state c.write_whole-in-ReadFault.new.sink) (line_of is.ReadFault) c.write_whole-in-ReadFault.result c.write_whole-in-ReadFault.ensures.all c.write_whole-in-ReadFault.ensures.part)

pub returns-in-WriteFault : goal.returns-in-WriteFault
returns-in-WriteFault g c = rw c.in-WriteFault.is (by_result (g.E.Sink.state c.args.err.now) (g.E.Sink.state c.write_whole-in-WriteFault.new.sink) (line_of is.WriteFault) c.write_whole-in-WriteFault.result c.write_whole-in-WriteFault.ensures.all c.write_whole-in-WriteFault.ensures.part)

pub returns-in-Limit : goal.returns-in-Limit
returns-in-Limit g c = rw c.in-Limit.is c.write_limit.ensures

pub returns-in-Memory : goal.returns-in-Memory
returns-in-Memory g c = rw c.in-Memory.is (by_result (g.E.Sink.state c.args.err.now) (g.E.Sink.state c.write_whole-in-Memory.new.sink) (line_of is.Memory) c.write_whole-in-Memory.result c.write_whole-in-Memory.ensures.all c.write_whole-in-Memory.ensures.part)

pub returns-in-Fault : goal.returns-in-Fault
returns-in-Fault g c = rw c.in-Fault.is c.write_fault.ensures
