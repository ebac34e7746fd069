-- What all tokens of a list read as.
use Rattle.std.proofs.Common.{◌≡◌, ◌==◌, ◌∷◌, ◌∙◌, sym, ap, suc, List, [], length, Some, None, append-nil, arith, true, false, eqb→eq}
use Rattle.pipe_expr.specs.declared.token.Token.{Token}
use Rattle.pipe_expr.specs.declared.parser.ParseError.{ParseError}
use Rattle.pipe_expr.specs.declared.parser.ParseError.TheVariants as errors
use Rattle.pipe_expr.specs.Grammar.{Tree, Reads}
use Rattle.pipe_expr.specs.Reading.{Fails, expr_at}
use Rattle.pipe_expr.proofs.Basics.{some_inj}
use Rattle.pipe_expr.proofs.Turns.{expr-again, expr-sound}

pub again_whole : (e : Tree) (ts : List Token) → Reads 6 e ts → expr_at ts ≡ Some (e, [])
again_whole e ts r = ap expr_at (sym (append-nil ts)) ∙ expr-again e ts [] r tt

pub found_whole : (e : Tree) (ts rest : List Token) → expr_at ts ≡ Some (e, rest) → length rest ≡ 0 → Reads 6 e ts
found_whole e ts [] h z = let (used, r, is) = expr-sound ts [] e h in let same : ts ≡ used = is ∙ append-nil used in rw same r
found_whole e ts (k ∷ rest) h z = let bad : suc (length rest) ≡ 0 = z in absurd (omega (arith, bad))

pub fails_whole : (x : ParseError) (e : Tree) (ts : List Token) → Fails x (expr_at ts) → Reads 6 e ts → Fails x (Some e)
fails_whole errors.Shape e ts f r = let both : Some (e, []) ≡ None = sym (again_whole e ts r) ∙ f in cc both
fails_whole errors.Memory e ts f r = tt

pub only_whole : (d e : Tree) (ts rest : List Token) → expr_at ts ≡ Some (d, rest) → Reads 6 e ts → (e ≡ d) × (rest ≡ [])
only_whole d e ts rest h r =
    let both = some_inj _ _ (sym (again_whole e ts r) ∙ h) in
    (ap (λ (x : Tree × List Token). x.0) both, sym (ap (λ (x : Tree × List Token). x.1) both))

-- no tokens read as two expressions
pub one_tree : (d e : Tree) (ts : List Token) → Reads 6 d ts → Reads 6 e ts → d ≡ e
one_tree d e ts a b =
    let both = some_inj _ _ (sym (again_whole d ts a) ∙ again_whole e ts b) in
    ap (λ (x : Tree × List Token). x.0) both

pub empty_is : (rest : List Token) → true ≡ (length rest == 0) → length rest ≡ 0
empty_is rest h = let yes : (length rest == 0) ≡ true = sym h in eqb→eq (length rest) 0 (rw yes tt)

-- where tokens are left over, the tokens read as no expression
pub left_over : (d e : Tree) (ts rest : List Token) → expr_at ts ≡ Some (d, rest) → false ≡ (length rest == 0) → Reads 6 e ts → ⊥
left_over d e ts rest h more r =
    let none : rest ≡ [] = (only_whole d e ts rest h r).1 in
    let bad = rw none at more in cc bad
