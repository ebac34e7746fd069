-- What fills a form is read again, once for all forms; and each reader.
use Rattle.std.proofs.Common.{◌≡◌, ◌≤◌, ◌<◌, ◌+◌, ◌-◌, ◌∷◌, ◌++◌, ◌∙◌, ◌⊎◌, sym, refl, ap, inl, inr, ℕ, ℤ, pos, zero, suc, List, [], length, Option, Some, None, Bool, true, false, arith, append_assoc, append-nil, length-append}
use Rattle.pipe_expr.specs.declared.token.Token.{Token}
use Rattle.pipe_expr.specs.declared.token.Token.TheVariants as t
use Rattle.pipe_expr.specs.declared.token.Reserved.{Reserved}
use Rattle.pipe_expr.specs.declared.token.Reserved.TheVariants as r
use Rattle.pipe_expr.specs.declared.token.Verb.{Verb}
use Rattle.pipe_expr.specs.declared.token.Verb.TheVariants as v
use Rattle.pipe_text.specs.declared.lexeme.Symbol.TheVariants as m
use Rattle.pipe_expr.specs.Grammar.{Tree, Reads, IsInt, IsName}
use Rattle.pipe_expr.specs.Reading.{◌>>=◌, op_of, int_at, name_at, expr_at}
use Rattle.pipe_expr.proofs.Basics.{bind_some, some_inj}
use Rattle.pipe_expr.proofs.Sound.{int-sound, name-sound}
use Rattle.pipe_expr.proofs.Complete.{Stops, no_op, int_again, name_again}
use Rattle.pipe_expr.proofs.Turns.{expr-sound, expr-again}
use Rattle.pipe_steps.specs.declared.joint.Joint.{Joint}
use Rattle.pipe_steps.specs.declared.joint.Joint.TheVariants as j
use Rattle.par_rows.specs.declared.schema.ColumnKind.{ColumnKind}
use Rattle.par_rows.specs.declared.schema.ColumnKind.TheVariants as sorts
use Rattle.pipe_steps.specs.declared.source.Kind.{Kind}
use Rattle.pipe_steps.specs.declared.source.Kind.TheVariants as kinds
use Rattle.par_rows.specs.declared.schema.Column.{Column}
use Rattle.pipe_steps.specs.declared.step.Running.{Running}
use Rattle.pipe_steps.specs.declared.step.Running.TheVariants as runnings
use Rattle.pipe_steps.specs.Said.{Text, Field, How, Counted, Summed, Multiplied, Least, Greatest, Chained, Total, Said}
use Rattle.pipe_steps.specs.Forms.{Part, AName, AnInt, AnExpr, AText, AStride, AKind, ASort, ARunning, Columns, Fields, Keys, Totals, Value, Slot, Fixed, A, Takes, Form, column_form, field_form, key_form, valued_form, total_form, source_form, expr_form, last_form, count_form, line_form, joint_token, IsStride, IsSimple, Fills, HasForm, AreMany, IsTotal, IsPart, Says, kind_word, running_word, sort_word}
use Rattle.pipe_steps.specs.Reading.{ReaderOf, is_joint, past, joint_at, stride_behind, stride_at, text_at, kind_at, running_at, sort_at, simple_at, fill, form_at, with_first, behind_comma, many, column_at, field_at, key_at, total_at, part_at, whole, said}
use Rattle.pipe_steps.proofs.Filling.{Is, Front, Sounds, pair_inj, joint-sound, joint-again, fill-sound, form-sound, many-sound}

-- no operator goes on; this joint doesn't come
abbrev pub Quiet : List Token → Type 0
Quiet [] = Unit {0}
Quiet (k ∷ rest) = op_of k ≡ None

abbrev pub Lacks : Joint → List Token → Type 0
Lacks k [] = Unit {0}
Lacks k (token ∷ rest) = is_joint k token ≡ false

-- what may come behind a part
abbrev pub Ends : Part → List Token → Type 0
Ends AnExpr rest = Quiet rest
Ends AStride rest = Lacks j.By rest
Ends Columns rest = Lacks j.Comma rest
Ends Fields rest = Quiet rest × Lacks j.Comma rest
Ends Keys rest = Lacks j.Comma rest
Ends Totals rest = Lacks j.Comma rest
Ends _ rest = Unit {0}

-- what comes behind each part of a form, and behind the form, ends the part
abbrev pub Safe : Is → List Slot → List Token → Type 0
Safe is [] rest = Unit {0}
Safe is (Fixed k ∷ slots) rest = Safe is slots rest
Safe is (A p ∷ []) rest = Ends p rest
Safe is (A p ∷ Fixed k ∷ slots) rest = ((tail : List Token) → Ends p (joint_token k ∷ tail)) × Safe is slots rest
Safe is (A p ∷ A q ∷ slots) rest = ((y : Value q) (used tail : List Token) → is q y used → Ends p (used ++ tail)) × Safe is (A q ∷ slots) rest

pub Agains : ReaderOf → Is → Type 0
Agains reader is = (p : Part) (x : Value p) (used rest : List Token) → is p x used → Ends p rest → reader p (used ++ rest) ≡ Some (x, rest)

agains : (reader : ReaderOf) (is : Is) → Agains reader is → (p : Part) (x : Value p) (used rest : List Token) → is p x used → Ends p rest → reader p (used ++ rest) ≡ Some (x, rest)
unfolding Agains
agains reader is s = s

safe_tail : {R : Type 0} (is : Is) (p : Part) (slots : List Slot) (made : Takes R slots) (x : R) (used rest : List Token) → Fills is slots made x used → Safe is (A p ∷ slots) rest → Ends p (used ++ rest) × Safe is slots rest
safe_tail is p [] made x used rest f s = rw f.1 (s, tt)
safe_tail is p (Fixed k ∷ slots) made x used rest f s = rw f.2 (s.0 (f.0 ++ rest), s.1)
safe_tail is p (A q ∷ slots) made x used rest f s = rw (f.5, append_assoc f.1 f.2 rest) (s.0 f.0 f.1 (f.2 ++ rest) f.3, s.1)

pub fill-again : {R : Type 0} (reader : ReaderOf) (is : Is) → Agains reader is → (slots : List Slot) (made : Takes R slots) (x : R) (used rest : List Token) → Fills is slots made x used → Safe is slots rest → fill reader slots made (used ++ rest) ≡ Some (x, rest)
fill-again reader is a [] made x used rest f s = rw (f.0, f.1) refl
fill-again reader is a (Fixed k ∷ slots) made x used rest f s = rw (f.2, joint-again k (f.0 ++ rest)) (fill-again reader is a slots made x f.0 rest f.1 s)
fill-again reader is a (A p ∷ slots) made x used rest f s =
    let q = safe_tail is p slots (made f.0) x f.2 rest f.4 s in
    rw (f.5, append_assoc f.1 f.2 rest, agains reader is a p f.0 f.1 (f.2 ++ rest) f.3 q.0) (fill-again reader is a slots (made f.0) x f.2 rest f.4 q.1)

comma_none : (rest : List Token) → Lacks j.Comma rest → joint_at j.Comma rest ≡ None
unfolding joint_at
comma_none [] h = refl
comma_none (k ∷ rest) h = rw h refl

by_none : (rest : List Token) → Lacks j.By rest → joint_at j.By rest ≡ None
unfolding joint_at
by_none [] h = refl
by_none (k ∷ rest) h = rw h refl

pub many-again : {V : Type 0} (one : List Token → Option (V × List Token)) (is : V → List Token → Type 0) (ends : List Token → Type 0)
    → ((x : V) (used rest : List Token) → is x used → ends rest → one (used ++ rest) ≡ Some (x, rest))
    → ((x : V) (used : List Token) → is x used → 0 < length used)
    → ((tail : List Token) → ends (t.Sign m.Comma ∷ tail))
    → (n : ℕ) (xs : List V) (used rest : List Token) → AreMany is xs used → length used ≤ n → ends rest → Lacks j.Comma rest → many one n (used ++ rest) ≡ Some (xs, rest)
unfolding many
many-again one is ends a some c n [] used rest f le e l = absurd f
many-again one is ends a some c zero (x ∷ []) used rest f le e l = absurd (omega (arith, some x used f, le))
many-again one is ends a some c (suc n) (x ∷ []) used rest f le e l = rw (a x used rest f e, comma_none rest l) refl
many-again one is ends a some c zero (x ∷ y ∷ xs) used rest f le e l = absurd (omega (arith, some x f.0 f.2, le, ap length f.4, length-append f.0 (t.Sign m.Comma ∷ f.1)))
many-again one is ends a some c (suc n) (x ∷ y ∷ xs) used rest f le e l =
    let count = length-append f.0 (t.Sign m.Comma ∷ f.1) in
    let next = many-again one is ends a some c n (y ∷ xs) f.1 rest f.3 (omega (arith, some x f.0 f.2, le, ap length f.4, count)) e l in
    rw (f.4, append_assoc f.0 (t.Sign m.Comma ∷ f.1) rest, a x f.0 (t.Sign m.Comma ∷ (f.1 ++ rest)) f.2 (c (f.1 ++ rest)), joint-again j.Comma (f.1 ++ rest), next) refl

-- ---- the parts that are no lists

quiet_stops : (rest : List Token) → Quiet rest → Stops 6 rest
quiet_stops [] h = tt
quiet_stops (k ∷ rest) h = λ q _. no_op q k h

stride-sound : (ts rest : List Token) (z : ℤ) → stride_at ts ≡ Some (z, rest) → Front IsStride z ts rest
unfolding stride_at
stride-sound ts rest z h = go (joint_at j.By ts) refl h
  where
    go : (o : Option (List Token)) → joint_at j.By ts ≡ o → stride_behind ts o ≡ Some (z, rest) → Front IsStride z ts rest
    go None e g = let p = pair_inj (pos 1) z ts rest g in ([], inl (sym p.0, refl), p.1)
    go (Some after) e g =
        let i = int-sound after rest z g in
        (t.Kept r.By ∷ i.0, inr (i.0, i.1, refl), joint-sound j.By ts after e ∙ ap (λ (y : List Token). t.Kept r.By ∷ y) i.2)

stride-again : (z : ℤ) (used rest : List Token) → IsStride z used → Lacks j.By rest → stride_at (used ++ rest) ≡ Some (z, rest)
unfolding stride_at
stride-again z used rest i l = elim i [
  | inl h ↦ rw (h.1, h.0, by_none rest l) refl
  | inr h ↦ rw (h.2, joint-again j.By (h.0 ++ rest)) (int_again z h.0 rest h.1)
]

kind-sound : (ts rest : List Token) (k : Kind) → kind_at ts ≡ Some (k, rest) → Front (IsSimple AKind) k ts rest
unfolding kind_at
kind-sound [] rest k h = cc h
kind-sound (t.Word v.Array n ∷ ts) rest k h = let p = pair_inj kinds.Array k ts rest h in rw (← p.0, ← p.1) (t.Word v.Array n ∷ [], (n, refl), refl)
kind-sound (t.Word v.Vector n ∷ ts) rest k h = let p = pair_inj kinds.Vector k ts rest h in rw (← p.0, ← p.1) (t.Word v.Vector n ∷ [], (n, refl), refl)
kind-sound (_ ∷ ts) rest k h = cc h

kind-again : (k : Kind) (used rest : List Token) → IsSimple AKind k used → kind_at (used ++ rest) ≡ Some (k, rest)
unfolding kind_at
kind-again kinds.Array used rest h = rw h.1 refl
kind-again kinds.Vector used rest h = rw h.1 refl

text-sound : (ts rest : List Token) (s : Text) → text_at ts ≡ Some (s, rest) → Front (IsSimple AText) s ts rest
unfolding text_at
text-sound [] rest s h = cc h
text-sound (t.Quote q ∷ ts) rest s h = let p = pair_inj q s ts rest h in rw (← p.0, ← p.1) (t.Quote q ∷ [], refl, refl)
text-sound (_ ∷ ts) rest s h = cc h

text-again : (s : Text) (used rest : List Token) → IsSimple AText s used → text_at (used ++ rest) ≡ Some (s, rest)
unfolding text_at
text-again s used rest h = rw h refl

running-sound : (ts rest : List Token) (k : Running) → running_at ts ≡ Some (k, rest) → Front (IsSimple ARunning) k ts rest
unfolding running_at
running-sound [] rest k h = cc h
running-sound (t.Word v.Sum n ∷ ts) rest k h = let p = pair_inj runnings.Sum k ts rest h in rw (← p.0, ← p.1) (t.Word v.Sum n ∷ [], (n, refl), refl)
running-sound (t.Word v.Product n ∷ ts) rest k h = let p = pair_inj runnings.Product k ts rest h in rw (← p.0, ← p.1) (t.Word v.Product n ∷ [], (n, refl), refl)
running-sound (_ ∷ ts) rest k h = cc h

running-again : (k : Running) (used rest : List Token) → IsSimple ARunning k used → running_at (used ++ rest) ≡ Some (k, rest)
unfolding running_at
running-again runnings.Sum used rest h = rw h.1 refl
running-again runnings.Product used rest h = rw h.1 refl

sort-sound : (ts rest : List Token) (s : ColumnKind) → sort_at ts ≡ Some (s, rest) → Front (IsSimple ASort) s ts rest
unfolding sort_at
sort-sound [] rest s h = cc h
sort-sound (t.Kept r.Int ∷ ts) rest s h = let p = pair_inj sorts.Int s ts rest h in rw (← p.0, ← p.1) (t.Kept r.Int ∷ [], refl, refl)
sort-sound (t.Kept r.Text ∷ ts) rest s h = let p = pair_inj sorts.Text s ts rest h in rw (← p.0, ← p.1) (t.Kept r.Text ∷ [], refl, refl)
sort-sound (_ ∷ ts) rest s h = cc h

sort-again : (s : ColumnKind) (used rest : List Token) → IsSimple ASort s used → sort_at (used ++ rest) ≡ Some (s, rest)
unfolding sort_at
sort-again sorts.Int used rest h = rw h refl
sort-again sorts.Text used rest h = rw h refl

simple-sound : Sounds simple_at IsSimple
unfolding Sounds
simple-sound AName ts rest x h = name-sound ts rest x h
simple-sound AnInt ts rest x h = int-sound ts rest x h
simple-sound AnExpr ts rest x h = expr-sound ts rest x h
simple-sound AText ts rest x h = text-sound ts rest x h
simple-sound AStride ts rest x h = stride-sound ts rest x h
simple-sound AKind ts rest x h = kind-sound ts rest x h
simple-sound ASort ts rest x h = sort-sound ts rest x h
simple-sound ARunning ts rest x h = running-sound ts rest x h
simple-sound Columns ts rest x h = cc h
simple-sound Fields ts rest x h = cc h
simple-sound Keys ts rest x h = cc h
simple-sound Totals ts rest x h = cc h

simple-again : Agains simple_at IsSimple
unfolding Agains
simple-again AName x used rest i e = name_again x used rest i
simple-again AnInt x used rest i e = int_again x used rest i
simple-again AnExpr x used rest i e = expr-again x used rest i (quiet_stops rest e)
simple-again AText x used rest i e = text-again x used rest i
simple-again AStride x used rest i e = stride-again x used rest i e
simple-again AKind x used rest i e = kind-again x used rest i
simple-again ASort x used rest i e = sort-again x used rest i
simple-again ARunning x used rest i e = running-again x used rest i
simple-again Columns x used rest i e = absurd i
simple-again Fields x used rest i e = absurd i
simple-again Keys x used rest i e = absurd i
simple-again Totals x used rest i e = absurd i

-- ---- lists

total-sound : (ts rest : List Token) (x : Total) → total_at ts ≡ Some (x, rest) → Front IsTotal x ts rest
unfolding total_at
total-sound [] rest x h = cc h
total-sound (t.Word w n ∷ ts) rest x h =
    let f = form-sound simple_at IsSimple simple-sound (total_form w) ts rest x h in
    (t.Word w n ∷ f.0, (w, n, f.0, f.1, refl), ap (λ (y : List Token). t.Word w n ∷ y) f.2)
total-sound (_ ∷ ts) rest x h = cc h

quote_quiet : (s : Text) (used tail : List Token) → used ≡ t.Quote s ∷ [] → Quiet (used ++ tail)
quote_quiet s used tail h = rw h refl

valued_safe : (how : Tree → How) (x : Total) (used rest : List Token) → HasForm IsSimple (Some (valued_form how)) x used → form_at simple_at (Some (valued_form how)) (used ++ rest) ≡ Some (x, rest)
valued_safe how x used rest f = fill-again simple_at IsSimple simple-again (valued_form how).0 (valued_form how).1 x used rest f ((λ _. refl), tt)

total_safe : (w : Verb) (x : Total) (used rest : List Token) → HasForm IsSimple (total_form w) x used → form_at simple_at (total_form w) (used ++ rest) ≡ Some (x, rest)
total_safe v.Count x used rest f = fill-again simple_at IsSimple simple-again (Fixed j.As ∷ A AName ∷ []) (λ n. (Counted, n)) x used rest f tt
total_safe v.Sum x used rest f = valued_safe Summed x used rest f
total_safe v.Product x used rest f = valued_safe Multiplied x used rest f
total_safe v.Min x used rest f = valued_safe Least x used rest f
total_safe v.Max x used rest f = valued_safe Greatest x used rest f
total_safe v.MkString x used rest f = fill-again simple_at IsSimple simple-again (A AnExpr ∷ A AText ∷ Fixed j.As ∷ A AName ∷ []) (λ e s n. (Chained e s, n)) x used rest f (quote_quiet, ((λ _. tt), tt))
total_safe _ x used rest f = absurd f

total-again : (x : Total) (used rest : List Token) → IsTotal x used → total_at (used ++ rest) ≡ Some (x, rest)
unfolding total_at
total-again x used rest i = rw i.4 (total_safe i.0 x i.2 rest i.3)

name_some : (w : Text) (ts : List Token) → IsName w ts → 0 < length ts
name_some w ts h = elim h [ inl q ↦ rw q (omega arith) | inr q ↦ rw q.1 (omega arith) ]

part-sound : Sounds part_at IsPart
unfolding Sounds column_at field_at key_at
part-sound AName ts rest x h = name-sound ts rest x h
part-sound AnInt ts rest x h = int-sound ts rest x h
part-sound AnExpr ts rest x h = expr-sound ts rest x h
part-sound AText ts rest x h = text-sound ts rest x h
part-sound AStride ts rest x h = stride-sound ts rest x h
part-sound AKind ts rest x h = kind-sound ts rest x h
part-sound ASort ts rest x h = sort-sound ts rest x h
part-sound ARunning ts rest x h = running-sound ts rest x h
part-sound Columns ts rest x h = many-sound column_at _ (λ us r y g. fill-sound simple_at IsSimple simple-sound column_form.0 column_form.1 us r y g) (length ts) ts rest x h
part-sound Fields ts rest x h = many-sound field_at _ (λ us r y g. fill-sound simple_at IsSimple simple-sound field_form.0 field_form.1 us r y g) (length ts) ts rest x h
part-sound Keys ts rest x h = many-sound key_at _ (λ us r y g. fill-sound simple_at IsSimple simple-sound key_form.0 key_form.1 us r y g) (length ts) ts rest x h
part-sound Totals ts rest x h = many-sound total_at IsTotal total-sound (length ts) ts rest x h

longer : (used rest : List Token) → length used ≤ length (used ++ rest)
longer used rest = omega (arith, length-append used rest)

part-again : Agains part_at IsPart
unfolding Agains column_at field_at key_at
part-again AName x used rest i e = name_again x used rest i
part-again AnInt x used rest i e = int_again x used rest i
part-again AnExpr x used rest i e = expr-again x used rest i (quiet_stops rest e)
part-again AText x used rest i e = text-again x used rest i
part-again AStride x used rest i e = stride-again x used rest i e
part-again AKind x used rest i e = kind-again x used rest i
part-again ASort x used rest i e = sort-again x used rest i
part-again ARunning x used rest i e = running-again x used rest i
part-again Columns x used rest i e =
    many-again column_at (Fills IsSimple column_form.0 column_form.1) (λ _. Unit {0})
    (λ y us r f _. fill-again simple_at IsSimple simple-again column_form.0 column_form.1 y us r f ((λ _. tt), tt))
    (λ y us f. let s = name_some f.0 f.1 f.3 in rw f.5 (omega (arith, s, length-append f.1 f.2)))
    (λ _. tt) (length (used ++ rest)) x used rest i (longer used rest) tt e
part-again Fields x used rest i e =
    many-again field_at (Fills IsSimple field_form.0 field_form.1) Quiet
    (λ y us r f q. fill-again simple_at IsSimple simple-again field_form.0 field_form.1 y us r f ((λ _. tt), q))
    (λ y us f. let s = name_some f.0 f.1 f.3 in rw f.5 (omega (arith, s, length-append f.1 f.2)))
    (λ _. refl) (length (used ++ rest)) x used rest i (longer used rest) e.0 e.1
part-again Keys x used rest i e =
    many-again key_at (Fills IsSimple key_form.0 key_form.1) (λ _. Unit {0})
    (λ y us r f _. fill-again simple_at IsSimple simple-again key_form.0 key_form.1 y us r f ((λ _. refl), tt))
    (λ y us f. rw f.5 (rw f.4.2 (omega (arith, length-append f.1 (t.Kept r.As ∷ f.4.0)))))
    (λ _. tt) (length (used ++ rest)) x used rest i (longer used rest) tt e
part-again Totals x used rest i e =
    many-again total_at IsTotal (λ _. Unit {0}) (λ y us r f _. total-again y us r f)
    (λ y us f. rw f.4 (omega arith)) (λ _. tt) (length (used ++ rest)) x used rest i (longer used rest) tt e

-- ---- lines

abbrev pub SafeForm : {R : Type 0} → Option (Form R) → List Token → Type 0
SafeForm None rest = Unit {0}
SafeForm (Some form) rest = Safe IsPart form.0 rest

form-again : (form : Option (Form Said)) (x : Said) (used rest : List Token) → HasForm IsPart form x used → SafeForm form rest → form_at part_at form (used ++ rest) ≡ Some (x, rest)
form-again None x used rest f s = absurd f
form-again (Some form) x used rest f s = fill-again part_at IsPart part-again form.0 form.1 x used rest f s

-- here each form has one line, the one place in the proofs where it has
line_safe : (w : Verb) → SafeForm (line_form w) []
line_safe v.Collect = (λ _. (refl, refl), tt)
line_safe v.FlatMap = ((λ _ _ _ _. tt), tt)
line_safe v.Scan = ((λ _ _ _ _. tt), ((λ _. refl), tt))
line_safe v.GroupBy = ((λ _. refl), tt)
line_safe v.Map = (tt, tt)
line_safe v.Slice = ((λ _. tt), tt)
line_safe v.Zip = ((λ _. tt), ((λ _. tt), ((λ _. tt), tt)))
line_safe v.MkString = (quote_quiet, tt)
line_safe v.SegmentLength = ((λ _. refl), tt)
line_safe v.ToMap = ((λ _. refl), tt)
line_safe v.Plain = tt
line_safe v.Pipeline = tt
line_safe v.Par = tt
line_safe v.Array = tt
line_safe v.Vector = tt
line_safe v.Filter = tt
line_safe v.FilterNot = tt
line_safe v.Take = tt
line_safe v.Drop = tt
line_safe v.TakeWhile = tt
line_safe v.DropWhile = tt
line_safe v.ZipWithIndex = tt
line_safe v.Reverse = tt
line_safe v.Distinct = tt
line_safe v.Print = tt
line_safe v.Size = tt
line_safe v.Count = tt
line_safe v.Sum = tt
line_safe v.Product = tt
line_safe v.Min = tt
line_safe v.Max = tt
line_safe v.Find = tt
line_safe v.Exists = tt
line_safe v.Forall = tt
line_safe v.IndexWhere = tt
line_safe v.LastIndexWhere = tt
line_safe v.Span = tt
line_safe v.Partition = tt
line_safe v.SplitAt = tt
line_safe v.ToSet = tt

source_safe : (w : Reserved) → SafeForm (source_form w) []
source_safe r.Csv = tt
source_safe r.Range = ((λ _. tt), ((λ _ _ _ _. tt), tt))
source_safe _ = tt

pub said-again : (x : Said) (ts : List Token) → Says x ts → said ts ≡ Some x
unfolding said
said-again x ts h = elim h [
  | inl q ↦ rw (q.4, (rw (append-nil q.2) at (form-again (line_form q.0) x q.2 [] q.3 (line_safe q.0)))) refl
  | inr q ↦ rw (q.3, (rw (append-nil q.1) at (form-again (source_form q.0) x q.1 [] q.2 (source_safe q.0)))) refl
]

whole_is : (x y : Said) (rest : List Token) → whole (x, rest) ≡ Some y → (x ≡ y) × (rest ≡ [])
whole_is x y [] h = (some_inj _ _ h, refl)
whole_is x y (k ∷ rest) h = cc h

form-whole : (form : Option (Form Said)) (x : Said) (ts : List Token) → (form_at part_at form ts >>= whole) ≡ Some x → HasForm IsPart form x ts
form-whole form x ts h =
    let b = bind_some (form_at part_at form ts) whole x h in
    let e = whole_is b.0.0 x b.0.1 b.2 in
    let f = form-sound part_at IsPart part-sound form ts b.0.1 b.0.0 b.1 in
    go b.0.0 b.0.1 f.0 f.1 f.2 e.0 e.1
  where
    go : (y : Said) (rest used : List Token) → HasForm IsPart form y used → ts ≡ used ++ rest → y ≡ x → rest ≡ [] → HasForm IsPart form x ts
    go y rest used f w e n = let all : ts ≡ used = w ∙ ap (λ (z : List Token). used ++ z) n ∙ append-nil used in rw (all, ← e) f

pub said-sound : (x : Said) (ts : List Token) → said ts ≡ Some x → Says x ts
unfolding said
said-sound x [] h = cc h
said-sound x (t.Word w n ∷ ts) h = inl (w, n, ts, form-whole (line_form w) x ts h, refl)
said-sound x (t.Kept r.From ∷ t.Kept w ∷ ts) h = inr (w, ts, form-whole (source_form w) x ts h, refl)
said-sound x (_ ∷ ts) h = cc h
