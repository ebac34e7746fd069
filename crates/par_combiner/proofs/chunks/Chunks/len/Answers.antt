use Rattle.std.proofs.Common.{rules, arith, ap, length, ◌≡◌, ◌<◌, Fits, w32}
use Rattle.par_combiner.proofs.Pieces.{last_total}
use Rattle.par_combiner.proofs.chunks.Chunks.len.Goals as goal

pub overflow_add-result : goal.overflow_add-result
overflow_add-result g c =
    let some : 0 < length c.self.inside.list = search rules in
    let len : c.len.result ≡ length c.in-Some.last.now.items = search rules in
    let all = last_total c.self.inside.list c.in-Some.last.now some c.in-Some.ensures.lookup in
    omega (arith, all, len, c.self.invariant.0, c.self.invariant.2)

pub returns-in-Some : goal.returns-in-Some
returns-in-Some g c =
    let some : 0 < length c.self.inside.list = search rules in
    let len : c.len.result ≡ length c.in-Some.last.now.items = search rules in
    let all = last_total c.self.inside.list c.in-Some.last.now some c.in-Some.ensures.lookup in
    omega (arith, all, len, c.self.invariant.0, ap length c.self.view_is)
