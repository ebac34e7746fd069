use Rattle.std.proofs.Common.{rules, sym, subst, length, ◌<◌}
use Rattle.par_vector.specs.Runs.{IsRun}
use Rattle.par_vector.proofs.Packed.{kid_at, place_at, run_at}
use Rattle.par_vector.proofs.branch.BranchNode.run.Goals as goal

pub index-requires : goal.index-requires
index-requires g c =
    let h = subst (λ v. c.args.i < length v) (sym c.self.view_is) c.requires.within in
    let there = kid_at g.N.Node.items g.N.Node.room g.N.Node.roomy c.args.i c.room-room.result c.room-room.ensures c.self.inside.kids.items c.self.invariant.1 h in
    search rules

pub run-requires-clause-within : goal.run-requires-clause-within
run-requires-clause-within g c =
    let h = subst (λ v. c.args.i < length v) (sym c.self.view_is) c.requires.within in
    place_at g.N.Node.items g.N.Node.room g.N.Node.roomy c.args.i c.room-room.result c.room-room.ensures c.self.inside.kids.items c.index.result.now c.self.invariant.1 h c.index.ensures

pub returns : goal.returns
returns g c =
    let h = subst (λ v. c.args.i < length v) (sym c.self.view_is) c.requires.within in
    subst (λ v. IsRun v c.args.i c.run.result.now) c.self.view_is (run_at g.N.Node.items g.N.Node.room g.N.Node.roomy c.args.i c.room-room.result c.room-room.ensures c.self.inside.kids.items c.index.result.now c.run.result.now c.self.invariant.1 h c.index.ensures c.run.ensures)
