use Rattle.std.proofs.Common.{rules, arith, ◌≡◌, ◌++◌, take, length, true}
use Rattle.std.proofs.lemmas.Grind.{common_steps}
use Rattle.std.specs.Result.{is_ok}
use Rattle.par_edge.proofs.Reading.{begun, goes_on}
use Rattle.par_edge.proofs.whole.read_whole.Goals as goal

pub loop-buffer-init : goal.loop-buffer-init
loop-buffer-init g c = (rw c.new-bytes.ensures.items (begun _ _), search rules)

pub loop-buffer-preserved : goal.loop-buffer-preserved
loop-buffer-preserved g c =
    let stored : is_ok c.extend_from_slice.result ≡ true = search rules in
    let items : c.extend_from_slice.new.self.items ≡ c.loop-buffer.bytes.items ++ take c.in_ok-count.count c.read.new.buf = let h = rw stored at c.extend_from_slice.ensures.items in grind (arith, common_steps, h) in
    let at : c.len-in-loop-buffer-2.result ≡ length c.loop-buffer.bytes.items = search rules in
    (goes_on _ _ _ _ _ _ _ _ _ c.loop-buffer.invariant.0 c.read.ensures.later c.in_ok-count.ensures.gives at items, search rules)
