use Rattle.std.proofs.Common.{rules, sym, subst, ap, ◌∙◌, ◌≡◌, ◌≤◌, length, length-set, set, arith, List}
use Rattle.std.specs.Prelude.{is_ok}
use Rattle.par_vector.specs.Packed.{IsPacked}
use Rattle.par_vector.proofs.Packed.{kid_packed, last_kid_at, last_place, last_packed, last_grown}
use Rattle.par_vector.proofs.Pushes.{added, few_added, to_added, of_added, either_way}
use Rattle.par_vector.proofs.branch.BranchNode.push.Goals as goal

pub invariant_of-self : goal.invariant_of-self
invariant_of-self g c =
    let place = c.requires.place ∙ ap length (sym c.self.view_is) in
    either_way
    (λ kids. (length kids ≤ 32) × IsPacked g.N.Node.items g.N.Node.room kids) c.push_kid.result c.self.inside.kids.items c.push_kid.new.kids.items c.push_kid.ensures.ok c.push_kid.ensures.err
    (kid_packed g.N.Node.items g.N.Node.room g.N.Node.roomy c.args.at c.room-room.result c.room-room.ensures c.self.inside.kids.items c.push_kid.new.kids.items c.args.item c.self.invariant.1 place c.if-at-room-eq0.true c.requires.room)
    c.self.invariant

pub index_mut-requires : goal.index_mut-requires
index_mut-requires g c =
    let place = c.requires.place ∙ ap length (sym c.self.view_is) in
    let there = last_kid_at g.N.Node.items g.N.Node.room g.N.Node.roomy c.args.at c.room-room.result c.room-room.ensures c.self.inside.kids.items c.self.invariant.1 place c.if-at-room-eq0.false in
    search rules

pub push-requires-clause-place : goal.push-requires-clause-place
push-requires-clause-place g c =
    let place = c.requires.place ∙ ap length (sym c.self.view_is) in
    last_place g.N.Node.items g.N.Node.room g.N.Node.roomy c.args.at c.room-room.result c.room-room.ensures c.self.inside.kids.items c.index_mut.result.now c.self.invariant.1 place c.if-at-room-eq0.false c.index_mut.ensures.value

pub invariant_of-self-else-at-room-eq0 : goal.invariant_of-self-else-at-room-eq0
invariant_of-self-else-at-room-eq0 g c =
    let place = c.requires.place ∙ ap length (sym c.self.view_is) in
    let grown = to_added (is_ok c.push.result) (g.N.Node.items c.index_mut.result.now) (g.N.Node.items c.push.new.self) c.args.item c.push.ensures.items in (
      subst (λ v. v ≤ 32) (sym (length-set c.self.inside.kids.items _ c.push.new.self)) c.self.invariant.0,
      last_packed g.N.Node.items g.N.Node.room g.N.Node.roomy c.args.at c.room-room.result c.room-room.ensures c.self.inside.kids.items c.index_mut.result.now c.push.new.self (added (is_ok c.push.result) c.args.item) c.self.invariant.1 place c.if-at-room-eq0.false (few_added (is_ok c.push.result) c.args.item) c.index_mut.ensures.value grown,
    )

pub returns-else-at-room-eq0-clause-items : goal.returns-else-at-room-eq0-clause-items
returns-else-at-room-eq0-clause-items g c =
    let place = c.requires.place ∙ ap length (sym c.self.view_is) in
    let grown = to_added (is_ok c.push.result) (g.N.Node.items c.index_mut.result.now) (g.N.Node.items c.push.new.self) c.args.item c.push.ensures.items in
    rw (sym c.self.view_is) (of_added (is_ok c.push.result) _ _ c.args.item (last_grown g.N.Node.items g.N.Node.room g.N.Node.roomy c.args.at c.room-room.result c.room-room.ensures c.self.inside.kids.items c.index_mut.result.now c.push.new.self (added (is_ok c.push.result) c.args.item) c.self.invariant.1 place c.if-at-room-eq0.false c.index_mut.ensures.value grown))
