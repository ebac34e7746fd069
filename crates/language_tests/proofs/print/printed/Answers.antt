use Rattle.std.proofs.Common.{arith}
use Rattle.language_tests.proofs.print.printed.Goals as goal

pub parse-requires : goal.parse-requires
parse-requires c = omega (arith, c.text_laws.ensures.few c.args.text.now, c.if-text-lt65536.true)

pub print-requires : goal.print-requires
print-requires c = (c.args.text.now, c.in-Ok.ensures.read)
