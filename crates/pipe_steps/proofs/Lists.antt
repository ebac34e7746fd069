-- A loop over a list with commas.
use Rattle.std.proofs.Common.{◌≡◌, ◌≤◌, ◌<◌, ◌-◌, ◌∷◌, ◌++◌, ◌∙◌, sym, refl, ap, ℕ, zero, suc, List, [], length, Option, Some, None, arith, append_assoc}
use Rattle.pipe_expr.specs.declared.token.Token.{Token}
use Rattle.pipe_expr.specs.Reading.{◌>>=◌, Fails}
use Rattle.pipe_expr.specs.declared.parser.ParseError.{ParseError}
use Rattle.pipe_expr.specs.declared.parser.ParseError.TheVariants as errors
use Rattle.pipe_steps.specs.declared.joint.Joint.TheVariants as j
use Rattle.par_rows.specs.declared.schema.Column.{Column}
use Rattle.pipe_steps.specs.declared.step.Running.{Running}
use Rattle.pipe_steps.specs.declared.step.Running.TheVariants as runnings
use Rattle.pipe_steps.specs.Said.{Text, Field, How, Counted, Summed, Multiplied, Least, Greatest, Chained, Total, Said}
use Rattle.pipe_steps.specs.Forms.{Part, AName, AnInt, AnExpr, AText, AStride, AKind, ASort, ARunning, Columns, Fields, Keys, Totals, Value, Slot, Fixed, A, Takes, Form, column_form, field_form, key_form, valued_form, total_form, source_form, expr_form, last_form, count_form, line_form, joint_token, IsStride, IsSimple, Fills, HasForm, AreMany, IsTotal, IsPart, Says, kind_word, running_word, sort_word}
use Rattle.pipe_steps.specs.Reading.{ReaderOf, is_joint, past, joint_at, stride_behind, stride_at, text_at, kind_at, running_at, sort_at, simple_at, fill, form_at, with_first, behind_comma, many, column_at, field_at, key_at, total_at, part_at, whole, said}

-- what was read before, and then a list
abbrev pub behind : {V : Type 0} → List V → List V × List Token → Option (List V × List Token)
behind before (xs, rest) = Some (before ++ xs, rest)

pub list_none : {V : Type 0} (one : List Token → Option (V × List Token)) (n : ℕ) (before : List V) (ts : List Token) → one ts ≡ None → (many one n ts >>= behind before) ≡ None
unfolding many
list_none one zero before ts e = refl
list_none one (suc n) before ts e = rw e refl

pub list_last : {V : Type 0} (one : List Token → Option (V × List Token)) (n : ℕ) (before : List V) (ts after : List Token) (x : V) → one ts ≡ Some (x, after) → None ≡ joint_at j.Comma after → length after < length ts → length ts ≤ n → (many one n ts >>= behind before) ≡ Some (before ++ x ∷ [], after)
unfolding many
list_last one zero before ts after x e c lt le = absurd (omega (arith, lt, le))
list_last one (suc n) before ts after x e c lt le = rw (e, ← c) refl

pub list_more : {V : Type 0} (one : List Token → Option (V × List Token)) (n : ℕ) (before : List V) (ts after next : List Token) (x : V) → one ts ≡ Some (x, after) → Some next ≡ joint_at j.Comma after → length after < length ts → length ts ≤ n → (many one n ts >>= behind before) ≡ (many one (n - 1) next >>= behind (before ++ x ∷ []))
unfolding many
list_more one zero before ts after next x e c lt le = absurd (omega (arith, lt, le))
list_more one (suc n) before ts after next x e c lt le = let z : suc n - 1 ≡ n = omega arith in rw (e, ← c, z) (go (many one n next))
  where
    go : (found : Option (List _ × List Token)) → ((found >>= with_first x) >>= behind before) ≡ (found >>= behind (before ++ x ∷ []))
    go None = refl
    go (Some (xs, rest)) = rw (append_assoc before (x ∷ []) xs) refl

-- what the exit of a failing entry owes
pub list_fails : {V : Type 0} (e : ParseError) (one : List Token → Option (V × List Token)) (n : ℕ) (before : List V) (ts : List Token) (all : Option (List V × List Token)) → Fails e (one ts) → (many one n ts >>= behind before) ≡ all → Fails e all
list_fails errors.Shape one n before ts all f h = sym h ∙ list_none one n before ts f
list_fails errors.Memory one n before ts all f h = tt
