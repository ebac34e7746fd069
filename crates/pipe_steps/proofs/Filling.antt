-- Filling slots and lists, once for all forms.
use Rattle.std.proofs.Common.{◌≡◌, ◌≤◌, ◌<◌, ◌+◌, ◌-◌, ◌∷◌, ◌++◌, ◌∙◌, ◌⊎◌, sym, refl, ap, inl, inr, ℕ, ℤ, pos, zero, suc, List, [], length, Option, Some, None, Bool, true, false, arith, append_assoc, append-nil, length-append, eqb→eq}
use Rattle.pipe_expr.specs.declared.token.Token.{Token}
use Rattle.pipe_expr.specs.declared.token.Token.TheVariants as t
use Rattle.pipe_expr.specs.declared.token.Reserved.{Reserved}
use Rattle.pipe_expr.specs.declared.token.Reserved.TheVariants as r
use Rattle.pipe_expr.specs.declared.token.Verb.{Verb}
use Rattle.pipe_expr.specs.declared.token.Verb.TheVariants as v
use Rattle.pipe_text.specs.declared.lexeme.Symbol.TheVariants as m
use Rattle.pipe_expr.specs.Grammar.{Tree, Reads, IsInt, IsName}
use Rattle.pipe_expr.specs.Reading.{◌>>=◌, op_of, int_at, name_at, expr_at}
use Rattle.pipe_expr.proofs.Basics.{bind_some, some_inj}
use Rattle.pipe_expr.proofs.Sound.{int-sound, name-sound}
use Rattle.pipe_expr.proofs.Complete.{Stops, no_op, int_again, name_again}
use Rattle.pipe_expr.proofs.Turns.{expr-sound, expr-again}
use Rattle.pipe_steps.specs.declared.joint.Joint.{Joint}
use Rattle.pipe_steps.specs.declared.joint.Joint.TheVariants as j
use Rattle.par_rows.specs.declared.schema.ColumnKind.{ColumnKind}
use Rattle.par_rows.specs.declared.schema.ColumnKind.TheVariants as sorts
use Rattle.pipe_steps.specs.declared.source.Kind.{Kind}
use Rattle.pipe_steps.specs.declared.source.Kind.TheVariants as kinds
use Rattle.par_rows.specs.declared.schema.Column.{Column}
use Rattle.pipe_steps.specs.declared.step.Running.{Running}
use Rattle.pipe_steps.specs.declared.step.Running.TheVariants as runnings
use Rattle.pipe_steps.specs.Said.{Text, Field, How, Counted, Summed, Multiplied, Least, Greatest, Chained, Total, Said}
use Rattle.pipe_steps.specs.Forms.{Part, AName, AnInt, AnExpr, AText, AStride, AKind, ASort, ARunning, Columns, Fields, Keys, Totals, Value, Slot, Fixed, A, Takes, Form, column_form, field_form, key_form, valued_form, total_form, source_form, expr_form, last_form, count_form, line_form, joint_token, IsStride, IsSimple, Fills, HasForm, AreMany, IsTotal, IsPart, Says, kind_word, running_word, sort_word}
use Rattle.pipe_steps.specs.Reading.{ReaderOf, is_joint, past, joint_at, stride_behind, stride_at, text_at, kind_at, running_at, sort_at, simple_at, fill, form_at, with_first, behind_comma, many, column_at, field_at, key_at, total_at, part_at, whole, said}

abbrev pub Is : Type 1
Is = (p : Part) → Value p → List Token → Type 0

-- a thing of some tokens at the front, and the rest
abbrev pub Front : {V : Type 0} → (V → List Token → Type 0) → V → List Token → List Token → Type 0
Front is x ts rest = (used : List Token) × is x used × (ts ≡ used ++ rest)

pub pair_inj : {V : Type 0} (x y : V) (r s : List Token) → ◌≡◌ {A = Option (V × List Token)} (Some (x, r)) (Some (y, s)) → (x ≡ y) × (r ≡ s)
pair_inj x y r s h = let p = some_inj _ _ h in (ap (λ z. z.0) p, ap (λ z. z.1) p)

-- ---- joints

joint_is : (k : Joint) (token : Token) → is_joint k token ≡ true → token ≡ joint_token k
joint_is j.As (t.Kept r.As) h = refl
joint_is j.When (t.Kept r.When) h = refl
joint_is j.From (t.Kept r.From) h = refl
joint_is j.Until (t.Kept r.Until) h = refl
joint_is j.By (t.Kept r.By) h = refl
joint_is j.Split (t.Kept r.Split) h = refl
joint_is j.Range (t.Kept r.Range) h = refl
joint_is j.Comma (t.Sign m.Comma) h = refl
joint_is j.Colon (t.Sign m.Colon) h = refl
joint_is j.Equal (t.Sign m.Equal) h = refl
joint_is j.Arrow (t.Sign m.Arrow) h = refl
joint_is j.Two (t.Digits n) h = ap t.Digits (eqb→eq n 2 (rw h tt))
joint_is _ _ h = cc h

joint_good : (k : Joint) → is_joint k (joint_token k) ≡ true
joint_good j.As = refl
joint_good j.When = refl
joint_good j.From = refl
joint_good j.Until = refl
joint_good j.By = refl
joint_good j.Split = refl
joint_good j.Range = refl
joint_good j.Comma = refl
joint_good j.Colon = refl
joint_good j.Equal = refl
joint_good j.Arrow = refl
joint_good j.Two = refl

past_is : (b : Bool) (ts rest : List Token) → past b ts ≡ Some rest → (b ≡ true) × (ts ≡ rest)
past_is true ts rest h = (refl, some_inj _ _ h)
past_is false ts rest h = cc h

pub joint-sound : (k : Joint) (ts rest : List Token) → joint_at k ts ≡ Some rest → ts ≡ joint_token k ∷ rest
unfolding joint_at
joint-sound k [] rest h = cc h
joint-sound k (token ∷ ts) rest h = let p = past_is (is_joint k token) ts rest h in rw (joint_is k token p.0, p.1) refl

pub joint-again : (k : Joint) (rest : List Token) → joint_at k (joint_token k ∷ rest) ≡ Some rest
unfolding joint_at
joint-again k rest = rw (joint_good k) refl

-- ---- what is filled was there

unfoldable pub Sounds : ReaderOf → Is → Type 0
Sounds reader is = (p : Part) (ts rest : List Token) (x : Value p) → reader p ts ≡ Some (x, rest) → Front (is p) x ts rest

pub sounds : (reader : ReaderOf) (is : Is) → Sounds reader is → (p : Part) (ts rest : List Token) (x : Value p) → reader p ts ≡ Some (x, rest) → Front (is p) x ts rest
unfolding Sounds
sounds reader is s = s

pub fill-sound : {R : Type 0} (reader : ReaderOf) (is : Is) → Sounds reader is → (slots : List Slot) (made : Takes R slots) (ts rest : List Token) (x : R) → fill reader slots made ts ≡ Some (x, rest) → Front (Fills is slots made) x ts rest
fill-sound reader is s [] made ts rest x h = let p = pair_inj made x ts rest h in ([], (sym p.0, refl), p.1)
fill-sound reader is s (Fixed k ∷ slots) made ts rest x h =
    let b = bind_some (joint_at k ts) (fill reader slots made) (x, rest) h in
    let e = joint-sound k ts b.0 b.1 in
    let f = fill-sound reader is s slots made b.0 rest x b.2 in
    (joint_token k ∷ f.0, (f.0, f.1, refl), e ∙ ap (λ (y : List Token). joint_token k ∷ y) f.2)
fill-sound reader is s (A p ∷ slots) made ts rest x h =
    let b = bind_some (reader p ts) (λ (y : Value p × List Token). fill reader slots (made y.0) y.1) (x, rest) h in
    let g = sounds reader is s p ts b.0.1 b.0.0 b.1 in
    let f = fill-sound reader is s slots (made b.0.0) b.0.1 rest x b.2 in
    (g.0 ++ f.0, (b.0.0, g.0, f.0, g.1, f.1, refl), g.2 ∙ ap (λ (y : List Token). g.0 ++ y) f.2 ∙ sym (append_assoc g.0 f.0 rest))

pub form-sound : {R : Type 0} (reader : ReaderOf) (is : Is) → Sounds reader is → (form : Option (Form R)) (ts rest : List Token) (x : R) → form_at reader form ts ≡ Some (x, rest) → Front (HasForm is form) x ts rest
form-sound reader is s None ts rest x h = cc h
form-sound reader is s (Some form) ts rest x h = fill-sound reader is s form.0 form.1 ts rest x h

-- ---- lists with commas

pub many-sound : {V : Type 0} (one : List Token → Option (V × List Token)) (is : V → List Token → Type 0)
    → ((ts rest : List Token) (x : V) → one ts ≡ Some (x, rest) → Front is x ts rest)
    → (n : ℕ) (ts rest : List Token) (xs : List V) → many one n ts ≡ Some (xs, rest) → Front (AreMany is) xs ts rest
unfolding many
many-sound one is s zero ts rest xs h = cc h
many-sound one is s (suc n) ts rest xs h =
    let b = bind_some (one ts) (λ x. behind_comma x.0 x.1 (many one n) (joint_at j.Comma x.1)) (xs, rest) h in
    let f = s ts b.0.1 b.0.0 b.1 in
    go b.0.0 b.0.1 (joint_at j.Comma b.0.1) refl b.2 f.0 f.1 f.2 (many-sound one is s n)
  where
    go : (x : _) (after : List Token) (comma : Option (List Token)) → joint_at j.Comma after ≡ comma → behind_comma x after (many one n) comma ≡ Some (xs, rest)
        → (used : List Token) → is x used → ts ≡ used ++ after
        → ((ts rest : List Token) (xs : List _) → many one n ts ≡ Some (xs, rest) → Front (AreMany is) xs ts rest)
        → Front (AreMany is) xs ts rest
    go x after None e g used held w again = let p = pair_inj (x ∷ []) xs after rest g in rw (← p.0, ← p.1) (used, held, w)
    go x after (Some tail) e g used held w again =
        let b = bind_some (many one n tail) (with_first x) (xs, rest) g in
        more_of b.0.0 b.0.1 b.2 (again tail b.0.1 b.0.0 b.1)
      where
        more_of : (ys : List _) (last : List Token) → with_first x (ys, last) ≡ Some (xs, rest) → Front (AreMany is) ys tail last → Front (AreMany is) xs ts rest
        more_of [] last g f = absurd f.1
        more_of (y ∷ ys) last g f =
            let p = pair_inj (x ∷ y ∷ ys) xs last rest g in
            let c = joint-sound j.Comma after tail e in
            rw (← p.0, ← p.1) (used ++ t.Sign m.Comma ∷ f.0, (used, f.0, held, f.1, refl), w ∙ ap (λ (z : List Token). used ++ z) (c ∙ ap (λ (z : List Token). t.Sign m.Comma ∷ z) f.2) ∙ sym (append_assoc used (t.Sign m.Comma ∷ f.0) last))
