use Rattle.std.proofs.Common.{rules, arith, ◌≤◌}
use Rattle.par_jobs.proofs.Fronts.{low_past}
use Rattle.par_jobs.proofs.low.is_lowered.Goals as goal

pub returns-clause-read : goal.returns-clause-read
returns-clause-read c = c.read_low.ensures.read

pub returns-clause-past : goal.returns-clause-past
returns-clause-past c e =
    let h : c.read_low.result ≤ c.args.at = search rules in
    record {
      more = omega (arith, c.if-hi-at.false);
      past = omega (arith, h, low_past c.args.signals.now.marks c.read_low.result c.read_low.ensures.names);
      by_another = λ a. omega (arith, h, c.read_low.ensures.seen, c.read_low.ensures.read.still a);
    }
