use Rattle.std.proofs.Common.{◌-◌, Ok, length, ap, sym}
use Rattle.std.specs.Int.{w64}
use Rattle.std.proofs.lemmas.Int.{to_z-of_z}
use Rattle.std.proofs.lemmas.List.{length-map}
use Rattle.par_splitter.specs.Range.{stepped}
use Rattle.pipe_stages.specs.Ranges.{AreFirst}
use Rattle.pipe_stages.specs.Rows.{pointed}
use Rattle.pipe_stages.proofs.Ranging.{unbits, zip_gives}
use Rattle.par_pool.specs.Plans.{planned}
use Rattle.pipe_stages.proofs.making.zip_range.Goals as goal

pub returns : goal.returns
returns g c =
    let a = to_z-of_z w64 _ c.ranges.a in
    let b = to_z-of_z w64 _ c.ranges.b in
    let step = to_z-of_z w64 _ c.ranges.c in
    let range = c.first_numbers-numbers.result in
    let numbers = stepped range.first range.step (range.hi - range.lo) in
    let first = unbits (λ x y z. AreFirst x y z (length c.args.rows.now) numbers) _ _ _ _ _ _ a b step c.first_numbers-numbers.ensures in
    let h =
    zip_gives c.args.a c.args.b c.args.c (length c.args.rows.now) (planned c.args.plan.now.workers c.args.plan.now.level) (pointed c.args.rows.now) _ c.in_ok-all.all.items numbers c.in_ok-all.audit c.requires.step (sym (length-map c.args.rows.now _)) c.new-source.ensures.list
    first c.in_ok-all.ensures.answer c.in_ok-all.ensures.audit in
    (ap Ok (sym h.0), h.1)
