use Rattle.std.proofs.Common.{[], refl, ◌∙◌, subst, arith}
use Rattle.par_laws.specs.declared.test.Verdict.TheVariants.{Fail}
use Rattle.par_task.specs.Marking.{no_test}
use Rattle.par_task.proofs.Running.{marks_length}
use Rattle.par_jobs.proofs.Fronts.{span_between}
use Rattle.par_jobs.proofs.gather.GatherJobJob.leaf.Goals as goal

pub add_all-requires : goal.add_all-requires
add_all-requires g c = ([], omega (arith, c.requires.part.within, c.args.self.now.small), c.in_ok-none.ensures)

pub returns-clause-leaf : goal.returns-clause-leaf
returns-clause-leaf g c = record {
  lawful = (c.count.ensures ∙ marks_length no_test (λ _. Fail) (g.S.Splitter.items c.args.self.now.marked.split) _ refl, omega arith);
  heeds = tt;
  found = tt;
  full = λ _ _. tt;
}

pub returns-clause-good : goal.returns-clause-good
returns-clause-good g c =
    let source = g.S.Splitter.items c.args.self.now.marked.split in
    subst (λ v. g.B.Builder.built c.args.self.now.builder.now v (g.B.Built.Shown.shown c.in_ok-built.built)) (span_between source _ _ c.requires.part) (c.in_ok-built.ensures [] c.in_ok-none.ensures)
