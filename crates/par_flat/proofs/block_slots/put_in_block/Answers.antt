use Rattle.std.proofs.Common.{◌≡◌, ◌+◌, ◌∙◌, ap, drop, arith}
use Rattle.std.proofs.Math.Nat.{mod-lt}
use Rattle.par_flat.specs.Slots.{first_free}
use Rattle.par_flat.specs.Blocks.{home_in}
use Rattle.par_flat.proofs.Walks.{back_is}
use Rattle.par_flat.proofs.Puts.{late_is_free, is_in-put, taken-set}
use Rattle.par_flat.proofs.Blocks.{block-set, block-push, is_in-push, taken-push}
use Rattle.par_flat.proofs.block_slots.put_in_block.Goals as goal

pub returns-then-first-len-clause-block : goal.returns-then-first-len-clause-block
returns-then-first-len-clause-block c =
    let gap : c.gap_in.result ≡ first_free (drop (home_in c.args.shift c.args.size c.args.leaf.rest) c.args.slots.now.items) = c.gap_in.ensures.first ∙ ap first_free (back_is c.home_of-home.result c.deref.result.now ∙ (ap (drop c.home_of-home.result) c.deref.ensures.value ∙ ap (λ h. drop h c.args.slots.now.items) c.home_of-home.ensures.home)) in
    rw c.home_of-home.ensures.home (block-set c.args.shift c.args.size c.args.slots.now.items c.args.leaf c.gap_in.result c.requires.block (λ q. mod-lt _ c.requires.block.some) gap (omega (arith, c.home_of-home.ensures.home, c.if-first-len.true, c.len.ensures)))

pub returns-then-first-len-clause-count : goal.returns-then-first-len-clause-count
returns-then-first-len-clause-count c =
    let gap : c.gap_in.result ≡ first_free (drop c.home_of-home.result c.args.slots.now.items) = c.gap_in.ensures.first ∙ ap first_free (back_is c.home_of-home.result c.deref.result.now ∙ ap (drop c.home_of-home.result) c.deref.ensures.value) in
    taken-set c.args.slots.now.items (c.home_of-home.result + c.gap_in.result) c.args.leaf (late_is_free c.home_of-home.result c.gap_in.result c.args.slots.now.items gap (omega (arith, c.if-first-len.true, c.len.ensures)))

pub returns-then-first-len-clause-leaves : goal.returns-then-first-len-clause-leaves
returns-then-first-len-clause-leaves c = λ q a.
    let gap : c.gap_in.result ≡ first_free (drop c.home_of-home.result c.args.slots.now.items) = c.gap_in.ensures.first ∙ ap first_free (back_is c.home_of-home.result c.deref.result.now ∙ ap (drop c.home_of-home.result) c.deref.ensures.value) in
    is_in-put c.args.slots.now.items (c.home_of-home.result + c.gap_in.result) c.args.leaf q a (late_is_free c.home_of-home.result c.gap_in.result c.args.slots.now.items gap (omega (arith, c.if-first-len.true, c.len.ensures)))

pub returns-clause-block : goal.returns-clause-block
returns-clause-block c =
    let gap : c.gap_in.result ≡ first_free (drop (home_in c.args.shift c.args.size c.args.leaf.rest) c.args.slots.now.items) = c.gap_in.ensures.first ∙ ap first_free (back_is c.home_of-home.result c.deref.result.now ∙ (ap (drop c.home_of-home.result) c.deref.ensures.value ∙ ap (λ h. drop h c.args.slots.now.items) c.home_of-home.ensures.home)) in
    rw c.in_ok-push.ensures.items (block-push c.args.shift c.args.size c.args.slots.now.items c.args.leaf c.gap_in.result c.requires.block (λ q. mod-lt _ c.requires.block.some) gap (omega (arith, c.home_of-home.ensures.home, c.if-first-len.false, c.len.ensures)))

pub returns-clause-count : goal.returns-clause-count
returns-clause-count c = rw c.in_ok-push.ensures.items (taken-push c.args.slots.now.items c.args.leaf)

pub returns-clause-leaves : goal.returns-clause-leaves
returns-clause-leaves c = λ q a. rw c.in_ok-push.ensures.items (is_in-push c.args.slots.now.items c.args.leaf q a)
