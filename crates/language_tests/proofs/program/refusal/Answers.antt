use Rattle.std.proofs.Common.{arith}
use Rattle.language_tests.proofs.program.refusal.Goals as goal

pub parse-requires : goal.parse-requires
parse-requires c = omega (arith, c.text_laws.ensures.few c.args.text.now, c.if-text-ge65536.false)
