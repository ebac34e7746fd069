use Rattle.std.proofs.Common.{◌≡◌, length, map, refl, arith}
use Rattle.par_task.specs.Marking.{low_flag, marks_of}
use Rattle.par_task.proofs.Running.{marks_length}
use Rattle.par_jobs.proofs.Fronts.{front_of}
use Rattle.par_jobs.proofs.front.FrontJobJob.leaf.Goals as goal

pub returns-clause-good : goal.returns-clause-good
returns-clause-good g c =
    let source = g.S.Splitter.items c.args.self.now.marked.split in
    let marks = marks_of low_flag (map (g.P.Test.verdict c.args.self.now.marked.inner) source) in
    let size : length source ≡ length marks = marks_length low_flag (g.P.Test.verdict c.args.self.now.marked.inner) source _ refl in
    rw c.is_whole-whole.ensures (front_of _ source marks _ _ _ _ _ (omega (arith, c.requires.part.within, size)) c.in_ok-passed.ensures.passed)
