use Rattle.std.proofs.Common.{◌≡◌, ◌∙◌, sym, List, Some, Result, Ok, Err}
use Rattle.std.specs.Prelude.{IfOk}
use Rattle.pipe_expr.specs.declared.token.Token.{Token}
use Rattle.pipe_expr.specs.declared.parser.ParseError.{ParseError}
use Rattle.pipe_expr.specs.Reading.{Gives}
use Rattle.pipe_expr.proofs.Basics.{some_inj}
use Rattle.pipe_steps.specs.declared.line.Line.{Line}
use Rattle.pipe_steps.specs.Said.{Said, view}
use Rattle.pipe_steps.specs.Forms.{Says}
use Rattle.pipe_steps.specs.Reading.{said}
use Rattle.pipe_steps.proofs.Again.{said-again, said-sound}
use Rattle.pipe_steps.proofs.reader.line_of.Goals as goal

found : (r : Result Line ParseError) (ts : List Token) → Gives view r (said ts) → IfOk r (λ x. Says (view x) ts)
found (Ok x) ts h = said-sound (view x) ts h
found (Err e) ts h = tt

pub returns-clause-found : goal.returns-clause-found
returns-clause-found c = found c.read_line.result c.args.tokens.now c.read_line.ensures

pub returns-clause-one : goal.returns-clause-one
returns-clause-one c = λ x y a b. some_inj _ _ (sym (said-again x c.args.tokens.now a) ∙ said-again y c.args.tokens.now b)

pub returns-clause-only : goal.returns-clause-only
returns-clause-only c = λ x h. rw (said-again x c.args.tokens.now h) at c.read_line.ensures
