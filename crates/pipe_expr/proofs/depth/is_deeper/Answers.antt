use Rattle.std.proofs.Common.{◌≡◌, ◌∙◌, sym, true}
use Rattle.pipe_expr.specs.Grammar.{view}
use Rattle.pipe_expr.specs.Depth.{over}
use Rattle.pipe_expr.proofs.Deep.{deep-over, over-deep}
use Rattle.pipe_expr.proofs.depth.is_deeper.Goals as goal

pub returns : goal.returns
returns c = (
  λ h. over-deep c.args.bound (view c.args.e.now) (rw c.over.ensures at h),
  λ h. c.over.ensures ∙ deep-over c.args.bound (view c.args.e.now) h,
)
