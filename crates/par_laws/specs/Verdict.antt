-- Verdict: what a test finds of an item.
use Rattle.par_laws.specs.declared.test.Verdict.{Verdict}
use Rattle.par_laws.specs.declared.test.Verdict.TheVariants.{Pass, Fail, Fault}

-- the contrary verdict: it exchanges Pass and Fail, and keeps a fault
abbrev pub contrary : Verdict → Verdict
contrary Pass = Fail
contrary Fail = Pass
contrary (Fault kind) = Fault kind
