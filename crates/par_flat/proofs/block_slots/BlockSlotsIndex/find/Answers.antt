use Rattle.std.proofs.Common.{◌≡◌, ◌∙◌, ◌-◌, sym, ap, subst, drop, take, length}
use Rattle.par_flat.specs.Slots.{looked, is_in}
use Rattle.par_flat.specs.Blocks.{IsWalked}
use Rattle.par_flat.proofs.Walks.{looked-found, back_is}
use Rattle.par_flat.proofs.Blocks.{block-gap, block-end}
use Rattle.par_flat.proofs.block_slots.BlockSlotsIndex.find.Goals as goal

pub returns-in-Found-clause-found : goal.returns-in-Found-clause-found
returns-in-Found-clause-found g c = looked-found (g.W.Wanted.is_wanted c.args.wanted.now) c.args.hash _ c.in-Found.at (sym c.in-Found.ensures)

pub returns-in-Gap-clause-absent : goal.returns-in-Gap-clause-absent
returns-in-Gap-clause-absent g c = λ at there.
    let walk : drop c.home_of-home.result c.self.inside.slots.items ≡ take (length c.deref.result.now - c.home_of-home.result) (drop c.home_of-home.result c.deref.result.now) = ap (drop c.home_of-home.result) (sym c.deref.ensures.value) ∙ sym (back_is c.home_of-home.result c.deref.result.now) in
    let at_home : IsWalked c.args.hash c.home_of-home.result c.self.inside.slots.items = subst (λ home. IsWalked c.args.hash home c.self.inside.slots.items) (sym c.home_of-home.ensures.home) (c.self.invariant.0.walked c.args.hash) in
    block-gap (g.W.Wanted.is_wanted c.args.wanted.now) c.args.hash c.home_of-home.result c.self.inside.slots.items at_home (ap (looked (g.W.Wanted.is_wanted c.args.wanted.now) c.args.hash) walk ∙ sym c.in-Gap.ensures) at (ap (λ slots. is_in slots c.args.hash at) c.self.view_is ∙ there)

pub returns-in-End-clause-absent : goal.returns-in-End-clause-absent
returns-in-End-clause-absent g c = λ at there.
    let walk : drop c.home_of-home.result c.self.inside.slots.items ≡ take (length c.deref.result.now - c.home_of-home.result) (drop c.home_of-home.result c.deref.result.now) = ap (drop c.home_of-home.result) (sym c.deref.ensures.value) ∙ sym (back_is c.home_of-home.result c.deref.result.now) in
    let at_home : IsWalked c.args.hash c.home_of-home.result c.self.inside.slots.items = subst (λ home. IsWalked c.args.hash home c.self.inside.slots.items) (sym c.home_of-home.ensures.home) (c.self.invariant.0.walked c.args.hash) in
    block-end (g.W.Wanted.is_wanted c.args.wanted.now) c.args.hash c.home_of-home.result c.self.inside.slots.items at_home (ap (looked (g.W.Wanted.is_wanted c.args.wanted.now) c.args.hash) walk ∙ sym c.in-End.ensures) at (ap (λ slots. is_in slots c.args.hash at) c.self.view_is ∙ there)
