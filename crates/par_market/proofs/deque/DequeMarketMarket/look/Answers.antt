use Rattle.std.proofs.Common.{arith, ◌<◌, ◌∙◌, sym, ap, length}
use Rattle.std.proofs.lemmas.List.{length-map}
use Rattle.crossbeam_deque.specs.Handles.{worker_view}
use Rattle.par_market.proofs.Lanes.{id_of, is_pass, deques_after, bare_after, count_after, looked}
use Rattle.par_market.proofs.deque.DequeMarketMarket.look.Goals as goal

pub take_by-requires : goal.take_by-requires
take_by-requires g c =
    let same = ap (λ s. s.deques) c.seat.view_is ∙ (c.requires.of.0 ∙ sym c.self.view_is) in
    let lt : c.args.k < length c.seat.inside.lanes.items = let n = ap length same in let q = c.requires.queue in let v = ap length c.self.view_is in let m = length-map c.seat.inside.lanes.items id_of in omega (arith, n, q, v, m) in
    is_pass c.seat.inside.lanes.items c.self.inside.thieves.items c.args.k same lt c.index_mut.result.now c.index-thief.result.now c.index_mut.ensures.value c.index-thief.ensures c.seat.invariant.4

pub invariant_of-seat : goal.invariant_of-seat
invariant_of-seat g c =
    let same = ap (λ s. s.deques) c.seat.view_is ∙ (c.requires.of.0 ∙ sym c.self.view_is) in
    let lt : c.args.k < length c.seat.inside.lanes.items = let n = ap length same in let q = c.requires.queue in let v = ap length c.self.view_is in let m = length-map c.seat.inside.lanes.items id_of in omega (arith, n, q, v, m) in
    let after = deques_after c.seat.inside.lanes.items c.self.inside.thieves.items c.args.k same lt c.index_mut.result.now c.index-thief.result.now c.index_mut.ensures.value c.index-thief.ensures c.take_by.new.lane c.take_by.ensures.of in
    let inv = c.seat.invariant in (
      (let a = count_after c.seat.inside.lanes.items c.args.k lt c.index_mut.result.now c.take_by.new.lane c.index_mut.ensures.value in let b = inv.0 in omega (arith, a, b)),
      rw after inv.1,
      inv.2,
      inv.3,
      bare_after c.seat.inside.lanes.items c.self.inside.thieves.items c.args.k same lt c.index_mut.result.now c.index-thief.result.now c.index_mut.ensures.value c.index-thief.ensures c.take_by.new.lane c.take_by.ensures.of inv.4,
    )

pub returns-clause-of : goal.returns-clause-of
returns-clause-of g c =
    let same = ap (λ s. s.deques) c.seat.view_is ∙ (c.requires.of.0 ∙ sym c.self.view_is) in
    let lt : c.args.k < length c.seat.inside.lanes.items = let n = ap length same in let q = c.requires.queue in let v = ap length c.self.view_is in let m = length-map c.seat.inside.lanes.items id_of in omega (arith, n, q, v, m) in
    let after = deques_after c.seat.inside.lanes.items c.self.inside.thieves.items c.args.k same lt c.index_mut.result.now c.index-thief.result.now c.index_mut.ensures.value c.index-thief.ensures c.take_by.new.lane c.take_by.ensures.of in
    (after ∙ (ap (λ s. s.deques) c.seat.view_is ∙ c.requires.of.0), rw (ap (λ s. s.own) c.seat.view_is) c.requires.of.1)

pub returns-clause-empty : goal.returns-clause-empty
returns-clause-empty g c =
    let same = ap (λ s. s.deques) c.seat.view_is ∙ (c.requires.of.0 ∙ sym c.self.view_is) in
    let lt : c.args.k < length c.seat.inside.lanes.items = let n = ap length same in let q = c.requires.queue in let v = ap length c.self.view_is in let m = length-map c.seat.inside.lanes.items id_of in omega (arith, n, q, v, m) in
    rw (← c.seat.view_is) (looked c.seat.inside.lanes.items c.args.k lt c.index_mut.result.now c.take_by.new.lane c.index_mut.ensures.value (worker_view c.seat.inside.owner).posted c.take_by.result c.take_by.ensures.found).0

pub returns-clause-found : goal.returns-clause-found
returns-clause-found g c =
    let same = ap (λ s. s.deques) c.seat.view_is ∙ (c.requires.of.0 ∙ sym c.self.view_is) in
    let lt : c.args.k < length c.seat.inside.lanes.items = let n = ap length same in let q = c.requires.queue in let v = ap length c.self.view_is in let m = length-map c.seat.inside.lanes.items id_of in omega (arith, n, q, v, m) in
    rw (← c.seat.view_is) (looked c.seat.inside.lanes.items c.args.k lt c.index_mut.result.now c.take_by.new.lane c.index_mut.ensures.value (worker_view c.seat.inside.owner).posted c.take_by.result c.take_by.ensures.found).1
