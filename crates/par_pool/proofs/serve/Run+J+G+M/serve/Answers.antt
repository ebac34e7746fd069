use Rattle.std.proofs.Common.{arith, ℕ, ◌+◌, ◌<◌, ◌≤◌, length, refl, ◌∙◌, ap, sym, subst}
use Rattle.par_task.specs.Marking.{marks_of}
use Rattle.par_pool.specs.Bundles.{IsBundle, IsShownBundle, bundle_shown}
use Rattle.par_pool.proofs.Cutting.{piece_at, head_lo_is, head_spans, head_node, tails_of}
use Rattle.par_pool.proofs.Gathering.{gathering_first, gathering_next, gathering_after, gathering_last, to_within, next_open, next_near, claimed_shut, claimed_loose, finished_loose, finished_shut, elsewhere_loose, elsewhere_shut}
use Rattle.par_pool.proofs.serve.Run+J+G+M.serve.Goals as goal

pub returns-in-Elsewhere-clause-worker : goal.returns-in-Elsewhere-clause-worker
returns-in-Elsewhere-clause-worker g c = let q = c.requires.worker in record {
  worker = record { board_is = c.claim.ensures.of; signal_is = q.worker.signal_is; own = q.worker.own };
  holds = elsewhere_loose _ c.in-Elsewhere.ensures.claim q.holds;
  opens = elsewhere_shut _ c.in-Elsewhere.ensures.claim q.opens;
}

pub offer_tails-requires-clause-tails : goal.offer_tails-requires-clause-tails
offer_tails-requires-clause-tails g c =
    let cl = c.in-Mine.ensures.claim in
    let p = piece_at cl.3 refl refl (sym (ap g.J.Job.source c.requires.tracked)) in
    (cl.0 + length (g.J.Split.Splitter.items c.chain-node.result.head), cl.1, tails_of g.J.Split.Splitter.items g.J.Split.Splitter.lo _ _ _ _ _ _ _ _ _ p c.chain-node.ensures)

pub run_part-part-requires-clause-part : goal.run_part-part-requires-clause-part
run_part-part-requires-clause-part g c =
    let cl = c.in-Mine.ensures.claim in
    let p = piece_at cl.3 refl refl (sym (ap g.J.Job.source c.requires.tracked)) in
    head_spans g.J.Split.Splitter.items g.J.Split.Splitter.lo _ _ _ _ _ _ _ _ _ p c.chain-node.ensures

pub run_part-part-requires-clause-worker : goal.run_part-part-requires-clause-worker
run_part-part-requires-clause-worker g c = let q = c.requires.worker.worker in record { board_is = c.offer_tails.ensures.board; signal_is = q.signal_is; own = q.own }

pub loop-at-init : goal.loop-at-init
loop-at-init g c =
    let items = g.J.Split.Splitter.items in
    let lo = g.J.Split.Splitter.lo in
    let cl = c.in-Mine.ensures.claim in
    let p = piece_at cl.3 refl refl (sym (ap g.J.Job.source c.requires.tracked)) in
    let quiet = c.requires.worker in
    let offered = c.offer_tails.ensures.offered in
    let ran = c.run_part-part.ensures in
    let here = head_lo_is items lo _ _ _ _ _ _ _ _ _ p c.chain-node.ensures in
    let from : ℕ = cl.0 + length (items c.chain-node.result.head) in
    let bundle : IsBundle g.J.Job.kind (marks_of g.J.Job.kind (g.J.Job.verdicts c.args.self.now.job.now)) (g.J.Job.good c.args.self.now.job.now) (g.J.Job.merges c.args.self.now.job.now) g.J.Part.Shown.shown cl.0 from c.run_part-part.result =
    subst (λ (x : ℕ). IsBundle g.J.Job.kind (marks_of g.J.Job.kind (g.J.Job.verdicts c.args.self.now.job.now)) (g.J.Job.good c.args.self.now.job.now) (g.J.Job.merges c.args.self.now.job.now) g.J.Part.Shown.shown x (x + length (items c.chain-node.result.head)) c.run_part-part.result) here ran.bundle in
    rw ran.same.1 (record {
      number = ran.same.0;
      worker = record { board_is = c.offer_tails.ensures.board; signal_is = ran.worker.signal_is; own = ran.worker.own };
      node = c.requires.node.0;
      gathering = (
        cl.0,
        cl.1,
        offered.holds c.args.k c.requires.node.1 ∙ cl.2.holds_it,
        (let w = p.span.within in let e = p.ends in omega (arith, w, e)),
        gathering_first items lo (omega arith, bundle) (head_node items lo _ _ _ _ _ _ _ _ _ p c.chain-node.ensures) (tails_of items lo _ _ _ _ _ _ _ _ _ p c.chain-node.ensures) offered (claimed_shut cl.2 quiet.opens),
      );
      loose = λ m near ne. offered.holds m near ∙ claimed_loose cl.2 quiet.holds m near ne;
    })

pub settle-next-requires-clause-node : goal.settle-next-requires-clause-node
settle-next-requires-clause-node g c =
    let lt : c.args.k < c.loop-at.at = omega arith in
    next_near g.J.Split.Splitter.items g.J.Split.Splitter.lo c.requires.node.0 (gathering_next g.J.Split.Splitter.items g.J.Split.Splitter.lo lt c.loop-at.invariant.gathering.4)

pub settle-next-requires-clause-loose : goal.settle-next-requires-clause-loose
settle-next-requires-clause-loose g c =
    let lt : c.args.k < c.loop-at.at = omega arith in
    let near = next_near g.J.Split.Splitter.items g.J.Split.Splitter.lo c.requires.node.0 (gathering_next g.J.Split.Splitter.items g.J.Split.Splitter.lo lt c.loop-at.invariant.gathering.4) in
    c.loop-at.invariant.loose (c.loop-at.at + 1) near.1 (λ z. omega (arith, z, lt))

pub settle-next-requires-clause-opened : goal.settle-next-requires-clause-opened
settle-next-requires-clause-opened g c =
    let lt : c.args.k < c.loop-at.at = omega arith in
    let nx = gathering_next g.J.Split.Splitter.items g.J.Split.Splitter.lo lt c.loop-at.invariant.gathering.4 in
    (nx.from, nx.from + length (g.J.Split.Splitter.items nx.s), next_open g.J.Split.Splitter.items g.J.Split.Splitter.lo c.requires.node.0 nx)

pub merged-part-requires : goal.merged-part-requires
merged-part-requires g c =
    let lt : c.args.k < c.loop-at.at = omega arith in
    let nx = gathering_next g.J.Split.Splitter.items g.J.Split.Splitter.lo lt c.loop-at.invariant.gathering.4 in
    let to : ℕ = nx.from + length (g.J.Split.Splitter.items nx.s) in (
      c.loop-at.invariant.gathering.0,
      nx.from,
      to,
      nx.done_is.0,
      omega arith,
      to_within g.J.Split.Splitter.items g.J.Split.Splitter.lo c.requires.node.0 nx,
      nx.done_is.1,
      c.settle-next.ensures.bundle nx.from to (next_open g.J.Split.Splitter.items g.J.Split.Splitter.lo c.requires.node.0 nx),
    )

pub loop-at-preserved : goal.loop-at-preserved
loop-at-preserved g c =
    let items = g.J.Split.Splitter.items in
    let lo = g.J.Split.Splitter.lo in
    let inv = c.loop-at.invariant in
    let lt : c.args.k < c.loop-at.at = omega arith in
    let nx = gathering_next items lo lt inv.gathering.4 in
    let to : ℕ = nx.from + length (items nx.s) in
    let within = to_within items lo c.requires.node.0 nx in
    let bundle = c.settle-next.ensures.bundle nx.from to (next_open items lo c.requires.node.0 nx) in
    let settled = c.settle-next.ensures.settled in
    record {
      number = c.settle-next.ensures.number ∙ inv.number;
      worker = c.settle-next.ensures.worker;
      node = inv.node;
      gathering = (
        inv.gathering.0,
        inv.gathering.1,
        settled.holds c.args.k c.requires.node.1 ∙ inv.gathering.2,
        inv.gathering.3,
        gathering_after items lo c.requires.node.0 nx c.tree_laws.ensures _ _ settled (let l = nx.done_is.0 in omega (arith, l), c.merged-part.ensures inv.gathering.0 nx.from to nx.done_is.0 (omega arith) within nx.done_is.1 bundle),
      );
      loose = λ m near ne. settled.holds m near ∙ inv.loose m near ne;
    }

pub finish-requires-clause-held : goal.finish-requires-clause-held
finish-requires-clause-held g c =
    let inv = c.loop-at.invariant in
    let le : c.loop-at.at ≤ c.args.k = omega arith in
    let end = gathering_last g.J.Split.Splitter.items g.J.Split.Splitter.lo c.requires.node.0 le inv.gathering.4 in (
      inv.gathering.0,
      inv.gathering.1,
      inv.gathering.2,
      subst (λ (t : g.row.J.Denot). IsShownBundle g.J.Job.kind (marks_of g.J.Job.kind (g.J.Job.verdicts t)) (g.J.Job.good t) (g.J.Job.merges t) inv.gathering.0 inv.gathering.1 (bundle_shown g.J.Part.Shown.shown c.loop-at.part)) (sym c.requires.tracked) end.0.1,
    )

pub returns-clause-worker : goal.returns-clause-worker
returns-clause-worker g c =
    let inv = c.loop-at.invariant in
    let le : c.loop-at.at ≤ c.args.k = omega arith in
    let end = gathering_last g.J.Split.Splitter.items g.J.Split.Splitter.lo c.requires.node.0 le inv.gathering.4 in
    let done = c.finish.ensures in
    record {
      worker = record { board_is = done.of; signal_is = inv.worker.signal_is; own = inv.worker.own };
      holds = finished_loose done.finished inv.loose;
      opens = finished_shut done.finished end.1;
    }
