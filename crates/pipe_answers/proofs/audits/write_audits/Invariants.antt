use Rattle.std.proofs.Common.{◌≡◌, ◌++◌, take}
use Rattle.pipe_answers.specs.AuditTexts.{audits_text}
use Rattle.pipe_answers.proofs.audits.write_audits.Given as goal

abbrev pub invariant-loop-audit : goal.invariant-loop-audit
invariant-loop-audit l = l.text.items ≡ l.fn.text.items ++ audits_text (take l.audit-index l.audits)
