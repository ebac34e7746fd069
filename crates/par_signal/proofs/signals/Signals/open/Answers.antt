use Rattle.std.proofs.Common.{◌≡◌, rules, ap, ◌∙◌, length, arith}
use Rattle.par_signal.proofs.Parting.{begins}
use Rattle.par_signal.proofs.signals.Signals.open.Goals as goal

pub of_words-requires : goal.of_words-requires
of_words-requires g c = let long : length c.in-Ok.told.value.me.0.seen.of ≡ c.args.n = ap length c.in-Ok.ensures ∙ c.requires.length in
    begins _ _ (let few = c.requires.few in omega arith) (search (rules, long))
