-- What a line says is said by the tokens that are printed.
use Rattle.std.proofs.Common.{◌≡◌, ◌≤◌, ◌<◌, ◌⊎◌, ◌+◌, ◌==◌, ◌∷◌, ◌++◌, ◌∙◌, sym, refl, ap, inl, inr, ℕ, ℤ, pos, List, [], length, map, Bool, true, false, arith, append_assoc, append-nil, length-append, Option, Some, None}
use Rattle.std.specs.Prelude.{codes, bytes_eq, if◌then◌else◌, ◌≢◌}
use Rattle.std.specs.List.{flat_map}
use Rattle.std.specs.Str.{chars}
use Rattle.std.proofs.lemmas.Bool.{cases_Bool}
use Rattle.std.proofs.lemmas.Grind.{flat_map-append}
use Rattle.pipe_text.specs.declared.lexeme.Symbol.TheVariants as m
use Rattle.pipe_text.specs.Token.{Lex, Word, Quoted, Digits, Text, Sign, is_word_text}
use Rattle.pipe_tokens.specs.Words.{reserved_of, later_reserved}
use Rattle.pipe_tokens.specs.Meaning.{meant, word_meant}
use Rattle.pipe_expr.specs.declared.token.Token.{Token}
use Rattle.pipe_expr.specs.declared.token.Token.TheVariants as t
use Rattle.pipe_expr.specs.declared.token.Reserved.{Reserved}
use Rattle.pipe_expr.specs.declared.token.Reserved.TheVariants as r
use Rattle.pipe_expr.specs.declared.token.Verb.{Verb}
use Rattle.pipe_expr.specs.declared.token.Verb.TheVariants as v
use Rattle.pipe_expr.specs.declared.expr.Op.{Op}
use Rattle.pipe_expr.specs.declared.expr.Op.TheVariants as o
use Rattle.pipe_expr.specs.Grammar.{Tree, Number, Texted, Named, Length, Valued, Inside, Negated, Joined, Reads, IsInt, IsName, left_level, level, sign}
use Rattle.par_rows.specs.declared.schema.Column.{Column}
use Rattle.par_rows.specs.declared.schema.ColumnKind.{ColumnKind}
use Rattle.par_rows.specs.declared.schema.ColumnKind.TheVariants as sorts
use Rattle.pipe_steps.specs.declared.joint.Joint.{Joint}
use Rattle.pipe_steps.specs.declared.joint.Joint.TheVariants as j
use Rattle.pipe_steps.specs.declared.source.Kind.{Kind}
use Rattle.pipe_steps.specs.declared.source.Kind.TheVariants as kinds
use Rattle.pipe_steps.specs.declared.step.Running.{Running}
use Rattle.pipe_steps.specs.declared.step.Running.TheVariants as runnings
use Rattle.pipe_steps.specs.Said.{Field, Total, Said}
use Rattle.pipe_steps.specs.Forms.{AName, AnInt, AnExpr, AText, AStride, AKind, ASort, ARunning, Value, Slot, A, Takes, Form, AreMany, Fills, HasForm, IsPart, IsSimple, IsStride, IsTotal, Says, column_form, field_form, joint_token, key_form, kind_word, line_form, running_word, sort_word, source_form, total_form}
use Rattle.pipe_steps.specs.Forms as forms
use Rattle.pipe_print.specs.Items.{Item, column_items, commas, field_items, key_items, operator, sort_text, total_items, tree_items}
use Rattle.pipe_print.specs.Items as items
use Rattle.pipe_print.specs.Lines.{Part, Fixed, Mark, Name, Int, Quote, Columns, Fields, Keys, Totals, Written, kind_text, line_of, part_items, parts_items, running_text}
use Rattle.pipe_print.specs.Lines as lines
use Rattle.pipe_print.proofs.Tokens.{AreGood, AreMade, Canonical, CanInt, IsMade, count_append, good_append, lexes, made_back, made_front, toks, toks_append}
use Rattle.pipe_print.proofs.Names.{name_can, name_means, text_can, text_means}
use Rattle.pipe_print.proofs.Numbers.{digits_mean, int_can, int_means, int_short}

more_room : {Is : List Token → Type 0} (n : ℕ) (is : List Item) (a b : ℕ) → Canonical Is n is a → a ≤ b → Canonical Is n is b
more_room n is a b c le = let few = c.few in record { reads = c.reads; good = c.good; few = omega (arith, few, le) }

and_nil : {Is : List Token → Type 0} (n : ℕ) (is : List Item) (a : ℕ) → Canonical Is n is a → Canonical Is n (is ++ []) a
and_nil n is a c = rw (append-nil is) c

-- ---- `toInt` is a word of version 2

not_this : (b : Bool) (k : Reserved) (rest : Option Reserved) → (k ≡ r.ToInt → ⊥) → (rest ≡ Some r.ToInt → ⊥) → (if b then Some k else rest) ≡ Some r.ToInt → ⊥
not_this true k rest n m h = n (cc h)
not_this false k rest n m h = m h

not_later : (n : ℕ) (w : List ℕ) → (n == 2) ≡ false → later_reserved n w ≡ Some r.ToInt → ⊥
not_later n w e h = go (bytes_eq w (codes "toInt")) (rw e at h)
  where
    go : (b : Bool) → (if b then None else None) ≡ Some r.ToInt → ⊥
    go true h = cc h
    go false h = cc h

not_reserved : (n : ℕ) (w : List ℕ) → (n == 2) ≡ false → reserved_of n w ≡ Some r.ToInt → ⊥
not_reserved n w e =
    not_this _ r.And _ (λ x. cc x) (not_this _ r.Or _ (λ x. cc x) (not_this _ r.Not _ (λ x. cc x) (not_this _ r.Len _ (λ x. cc x)
    (not_this _ r.As _ (λ x. cc x) (not_this _ r.When _ (λ x. cc x) (not_this _ r.From _ (λ x. cc x) (not_this _ r.Until _ (λ x. cc x)
    (not_this _ r.By _ (λ x. cc x) (not_this _ r.Split _ (λ x. cc x) (not_this _ r.Range _ (λ x. cc x) (not_this _ r.Csv _ (λ x. cc x)
    (not_this _ r.Int _ (λ x. cc x) (not_this _ r.Text _ (λ x. cc x) (not_later n w e))))))))))))))

kept_is : (w : List ℕ) (o : Option Reserved) (k : Reserved) → word_meant w o ≡ t.Kept k → o ≡ Some k
kept_is w None k h = cc h
kept_is w (Some x) k h = ap Some (cc h)

later_word : (n : ℕ) → IsMade n (t.Kept r.ToInt) → (n == 2) ≡ true
later_word n (Word w, l, u, e) = elim (cases_Bool (n == 2)) [
  | inl b ↦ b
  | inr b ↦ absurd (not_reserved n w b (kept_is w (reserved_of n w) r.ToInt e))
]
later_word n (Quoted w, l, u, e) = cc e
later_word n (Digits w, l, u, e) = cc e
later_word n (Text w, l, u, e) = cc e
later_word n (Sign k, l, u, e) = cc e

-- ---- expressions

op_ok : (n : ℕ) (op : Op) → (toks n (operator op ∷ []) ≡ sign op ∷ []) × AreGood n (operator op ∷ []) × (length (lexes n (operator op ∷ [])) ≤ 1)
op_ok n o.Times = (refl, (tt, tt), omega arith)
op_ok n o.Divide = (refl, (tt, tt), omega arith)
op_ok n o.Remainder = (refl, (tt, tt), omega arith)
op_ok n o.Plus = (refl, (tt, tt), omega arith)
op_ok n o.Minus = (refl, (tt, tt), omega arith)
op_ok n o.Join = (refl, (tt, tt), omega arith)
op_ok n o.Equal = (refl, (tt, tt), omega arith)
op_ok n o.Differ = (refl, (tt, tt), omega arith)
op_ok n o.Less = (refl, (tt, tt), omega arith)
op_ok n o.AtMost = (refl, (tt, tt), omega arith)
op_ok n o.More = (refl, (tt, tt), omega arith)
op_ok n o.AtLeast = (refl, (tt, tt), omega arith)
op_ok n o.And = (refl, (refl, tt), omega arith)
op_ok n o.Or = (refl, (refl, tt), omega arith)

name_part : (n : ℕ) (w : List ℕ) (ts : List Token) → IsName w ts → AreMade n ts → Canonical (IsName w) n (items.Name w ∷ []) (length ts)
name_part n w ts h made =
    let c = name_can n w ts h made in
    record { reads = name_means n w c; good = (c, tt); few = some h }
  where
    some : IsName w ts → 1 ≤ length ts
    some (inl e) = rw e (omega arith)
    some (inr (k, e)) = rw e (omega arith)

int_part : (n : ℕ) (z : ℤ) (ts : List Token) → IsInt z ts → Canonical (IsInt z) n (items.Int z ∷ []) (length ts)
int_part n z ts h = let c = int_can n z ts h in record { reads = int_means n z c.0; good = (c.0, tt); few = c.1 }

text_part : (n : ℕ) (s : List ℕ) (ts : List Token) → ts ≡ t.Quote s ∷ [] → AreMade n ts → Canonical (λ us. us ≡ t.Quote s ∷ []) n (items.Quote s ∷ []) (length ts)
text_part n s ts e made =
    let c = text_can n s (rw e at made).0 in
    record { reads = ap (λ (x : Token). x ∷ []) (text_means n s c); good = (c, tt); few = rw e (omega arith) }

-- tokens in parentheses
closed_ok : (n : ℕ) (is : List Item) → toks n (is ++ items.Mark m.Close ∷ []) ≡ toks n is ++ t.Sign m.Close ∷ []
closed_ok n is = toks_append n is (items.Mark m.Close ∷ [])

closed_good : (n : ℕ) (is : List Item) → AreGood n is → AreGood n (is ++ items.Mark m.Close ∷ [])
closed_good n is g = good_append n is (items.Mark m.Close ∷ []) g (tt, tt)

closed_few : (n : ℕ) (is : List Item) (inner : List Token) → length (lexes n is) ≤ length inner → length (lexes n (is ++ items.Mark m.Close ∷ [])) ≤ length (inner ++ t.Sign m.Close ∷ [])
closed_few n is inner le = omega (arith, le, count_append n is (items.Mark m.Close ∷ []), length-append inner (t.Sign m.Close ∷ []))

pub tree : (n : ℕ) (e : Tree) (l : ℕ) (ts : List Token) → Reads l e ts → AreMade n ts → Canonical (Reads l e) n (tree_items e) (length ts)
tree n (Number z) l ts h made = let c = int_part n z ts h in record { reads = c.reads; good = c.good; few = c.few }
tree n (Texted s) l ts h made = let c = text_part n s ts h made in record { reads = c.reads; good = c.good; few = c.few }
tree n (Named w) l ts h made = let c = name_part n w ts h made in record { reads = c.reads; good = c.good; few = c.few }
tree n (Length e) l ts h made =
    let inside = made_front n h.0 (t.Sign m.Close ∷ []) (rw h.2 at made).1.1 in
    let c = tree n e 6 h.0 h.1 inside in
    let few = closed_few n (tree_items e) h.0 c.few in
    record {
      reads = (toks n (tree_items e), c.reads, ap (λ (x : List Token). t.Kept r.Len ∷ t.Sign m.Open ∷ x) (closed_ok n (tree_items e)));
      good = (refl, (tt, closed_good n (tree_items e) c.good));
      few = omega (arith, few, ap length h.2);
    }
tree n (Valued e) l ts h made =
    let all = rw h.2 at made in
    let inside = made_front n h.0 (t.Sign m.Close ∷ []) all.1.1 in
    let c = tree n e 6 h.0 h.1 inside in
    let few = closed_few n (tree_items e) h.0 c.few in
    let two = later_word n all.0 in
    record {
      reads = (toks n (tree_items e), c.reads, rw two (ap (λ (x : List Token). t.Kept r.ToInt ∷ t.Sign m.Open ∷ x) (closed_ok n (tree_items e))));
      good = (refl, (tt, closed_good n (tree_items e) c.good));
      few = omega (arith, few, ap length h.2);
    }
tree n (Inside e) l ts h made =
    let inside = made_front n h.0 (t.Sign m.Close ∷ []) (rw h.2 at made).1 in
    let c = tree n e 6 h.0 h.1 inside in
    let few = closed_few n (tree_items e) h.0 c.few in
    record {
      reads = (toks n (tree_items e), c.reads, ap (λ (x : List Token). t.Sign m.Open ∷ x) (closed_ok n (tree_items e)));
      good = (tt, closed_good n (tree_items e) c.good);
      few = omega (arith, few, ap length h.2);
    }
tree n (Negated e) l ts h made =
    let c = tree n e 4 h.1 h.2 (rw h.3 at made).1 in
    let few = c.few in
    record {
      reads = (h.0, toks n (tree_items e), c.reads, refl);
      good = (refl, c.good);
      few = omega (arith, few, ap length h.3);
    }
tree n (Joined op a b) l ts h made =
    let all = rw h.5 at made in
    let x = tree n a (left_level op) h.1 h.3 (made_front n h.1 (sign op ∷ h.2) all) in
    let y = tree n b _ h.2 h.4 (made_back n h.1 (sign op ∷ h.2) all).1 in
    let p = op_ok n op in
    let joined : toks n (operator op ∷ tree_items b) ≡ sign op ∷ toks n (tree_items b) = toks_append n (operator op ∷ []) (tree_items b) ∙ ap (λ (z : List Token). z ++ toks n (tree_items b)) p.0 in
    let few_a = x.few in
    let few_b = y.few in
    record {
      reads = (h.0, toks n (tree_items a), toks n (tree_items b), x.reads, y.reads, toks_append n (tree_items a) (operator op ∷ tree_items b) ∙ ap (λ (z : List Token). toks n (tree_items a) ++ z) joined);
      good = good_append n (tree_items a) (operator op ∷ tree_items b) x.good (p.1.0, y.good);
      few = omega (arith, few_a, few_b, p.2, count_append n (tree_items a) (operator op ∷ tree_items b), count_append n (operator op ∷ []) (tree_items b), ap length h.5, length-append h.1 (sign op ∷ h.2));
    }

-- ---- slots

abbrev pub Is : Type 1
Is = (p : forms.Part) → Value p → List Token → Type 0

abbrev joint_part : Joint → Part
joint_part j.As = Fixed (codes "as")
joint_part j.When = Fixed (codes "when")
joint_part j.From = Fixed (codes "from")
joint_part j.Until = Fixed (codes "until")
joint_part j.By = Fixed (codes "by")
joint_part j.Split = Fixed (codes "split")
joint_part j.Range = Fixed (codes "range")
joint_part j.Comma = Mark m.Comma
joint_part j.Colon = Mark m.Colon
joint_part j.Equal = Mark m.Equal
joint_part j.Arrow = Mark m.Arrow
joint_part j.Two = Int (pos 2)

joint_ok : (n : ℕ) (k : Joint) → Canonical (λ us. us ≡ joint_token k ∷ []) n (part_items (joint_part k)) 1
joint_ok n j.As = record { reads = refl; good = (refl, tt); few = omega arith }
joint_ok n j.When = record { reads = refl; good = (refl, tt); few = omega arith }
joint_ok n j.From = record { reads = refl; good = (refl, tt); few = omega arith }
joint_ok n j.Until = record { reads = refl; good = (refl, tt); few = omega arith }
joint_ok n j.By = record { reads = refl; good = (refl, tt); few = omega arith }
joint_ok n j.Split = record { reads = refl; good = (refl, tt); few = omega arith }
joint_ok n j.Range = record { reads = refl; good = (refl, tt); few = omega arith }
joint_ok n j.Comma = record { reads = refl; good = (tt, tt); few = omega arith }
joint_ok n j.Colon = record { reads = refl; good = (tt, tt); few = omega arith }
joint_ok n j.Equal = record { reads = refl; good = (tt, tt); few = omega arith }
joint_ok n j.Arrow = record { reads = refl; good = (tt, tt); few = omega arith }
joint_ok n j.Two = record { reads = ap (λ (x : Token). x ∷ []) (digits_mean n 2 (omega arith)); good = (omega arith, tt); few = omega arith }

abbrev value_parts : (p : forms.Part) → Value p → List Part
value_parts AName w = Name w ∷ []
value_parts AnInt z = Int z ∷ []
value_parts AnExpr e = lines.Value e ∷ []
value_parts AText s = Quote s ∷ []
value_parts AStride z = Fixed (codes "by") ∷ Int z ∷ []
value_parts AKind k = Fixed (kind_text k) ∷ []
value_parts ASort s = Fixed (sort_text s) ∷ []
value_parts ARunning k = Fixed (running_text k) ∷ []
value_parts forms.Columns cs = Columns cs ∷ []
value_parts forms.Fields fs = Fields fs ∷ []
value_parts forms.Keys fs = Keys fs ∷ []
value_parts forms.Totals ts = Totals ts ∷ []

-- a step of 1 that was left out is written
abbrev part_slack : forms.Part → ℕ
part_slack AStride = 3
part_slack _ = 0

abbrev slack : List Slot → ℕ
slack [] = 0
slack (forms.Fixed k ∷ slots) = slack slots
slack (A p ∷ slots) = part_slack p + slack slots

abbrev slot_parts : {R : Type 0} (is : Is) (slots : List Slot) (made : Takes R slots) (y : R) (ts : List Token) → Fills is slots made y ts → List Part
slot_parts is [] made y ts f = []
slot_parts is (forms.Fixed k ∷ slots) made y ts f = joint_part k ∷ slot_parts is slots made y f.0 f.1
slot_parts is (A p ∷ slots) made y ts f = value_parts p f.0 ++ slot_parts is slots (made f.0) y f.2 f.4

pub Each : ℕ → Is → Type 0
Each n is = (p : forms.Part) (x : Value p) (ts : List Token) → is p x ts → AreMade n ts → Canonical (is p x) n (parts_items (value_parts p x)) (length ts + part_slack p)

each : (n : ℕ) (is : Is) → Each n is → (p : forms.Part) (x : Value p) (ts : List Token) → is p x ts → AreMade n ts → Canonical (is p x) n (parts_items (value_parts p x)) (length ts + part_slack p)
unfolding Each
each n is e = e

fills : {R : Type 0} (n : ℕ) (is : Is) → Each n is → (slots : List Slot) (made : Takes R slots) (y : R) (ts : List Token) (f : Fills is slots made y ts) → AreMade n ts → Canonical (Fills is slots made y) n (parts_items (slot_parts is slots made y ts f)) (length ts + slack slots)
fills n is e [] made y ts f m = record { reads = (f.0, refl); good = tt; few = omega arith }
fills n is e (forms.Fixed k ∷ slots) made y ts f m =
    let c = fills n is e slots made y f.0 f.1 (rw f.2 at m).1 in
    let p = joint_ok n k in
    let ps = parts_items (slot_parts is slots made y f.0 f.1) in
    let few_p = p.few in
    let few_c = c.few in
    record {
      reads = (toks n ps, c.reads, toks_append n (part_items (joint_part k)) ps ∙ ap (λ (x : List Token). x ++ toks n ps) p.reads);
      good = good_append n (part_items (joint_part k)) ps p.good c.good;
      few = omega (arith, few_p, few_c, count_append n (part_items (joint_part k)) ps, ap length f.2);
    }
fills n is e (A p ∷ slots) made y ts f m =
    let all = rw f.5 at m in
    let x = each n is e p f.0 f.1 f.3 (made_front n f.1 f.2 all) in
    let c = fills n is e slots (made f.0) y f.2 f.4 (made_back n f.1 f.2 all) in
    let rest = slot_parts is slots (made f.0) y f.2 f.4 in
    let few_x = x.few in
    let few_c = c.few in
    rw (flat_map-append part_items (value_parts p f.0) rest) (record {
      reads = (f.0, toks n (parts_items (value_parts p f.0)), toks n (parts_items rest), x.reads, c.reads, toks_append n (parts_items (value_parts p f.0)) (parts_items rest));
      good = good_append n (parts_items (value_parts p f.0)) (parts_items rest) x.good c.good;
      few = omega (arith, few_x, few_c, count_append n (parts_items (value_parts p f.0)) (parts_items rest), ap length f.5, length-append f.1 f.2);
    })

-- ---- parts that are no lists

stride_part : (n : ℕ) (z : ℤ) (ts : List Token) → IsStride z ts → Canonical (IsStride z) n (items.Fixed (codes "by") ∷ items.Int z ∷ []) (length ts + 3)
stride_part n z ts h =
    let can : CanInt z = elim h [ inl g ↦ rw g.0 (omega arith) | inr g ↦ (int_can n z g.0 g.1).0 ] in
    let short = int_short n z in
    record {
      reads = inr (toks n (items.Int z ∷ []), int_means n z can, refl);
      good = (refl, (can, tt));
      few = omega (arith, short, count_append n (items.Fixed (codes "by") ∷ []) (items.Int z ∷ []));
    }

kind_part : (n : ℕ) (k : Kind) (ts : List Token) → (w : List ℕ) × (ts ≡ t.Word (kind_word k) w ∷ []) → Canonical (λ us. (w : List ℕ) × (us ≡ t.Word (kind_word k) w ∷ [])) n (items.Fixed (kind_text k) ∷ []) (length ts)
kind_part n kinds.Array ts h = record { reads = (chars (codes "array"), refl); good = (refl, tt); few = rw h.1 (omega arith) }
kind_part n kinds.Vector ts h = record { reads = (chars (codes "vector"), refl); good = (refl, tt); few = rw h.1 (omega arith) }

sort_part : (n : ℕ) (s : ColumnKind) (ts : List Token) → ts ≡ t.Kept (sort_word s) ∷ [] → Canonical (λ us. us ≡ t.Kept (sort_word s) ∷ []) n (items.Fixed (sort_text s) ∷ []) (length ts)
sort_part n sorts.Int ts h = record { reads = refl; good = (refl, tt); few = rw h (omega arith) }
sort_part n sorts.Text ts h = record { reads = refl; good = (refl, tt); few = rw h (omega arith) }

running_part : (n : ℕ) (k : Running) (ts : List Token) → (w : List ℕ) × (ts ≡ t.Word (running_word k) w ∷ []) → Canonical (λ us. (w : List ℕ) × (us ≡ t.Word (running_word k) w ∷ [])) n (items.Fixed (running_text k) ∷ []) (length ts)
running_part n runnings.Sum ts h = record { reads = (chars (codes "sum"), refl); good = (refl, tt); few = rw h.1 (omega arith) }
running_part n runnings.Product ts h = record { reads = (chars (codes "product"), refl); good = (refl, tt); few = rw h.1 (omega arith) }

simple_each : (n : ℕ) → Each n IsSimple
unfolding Each
simple_each n AName w ts h made = more_room n (items.Name w ∷ []) (length ts) (length ts + 0) (name_part n w ts h made) (omega arith)
simple_each n AnInt z ts h made = more_room n (items.Int z ∷ []) (length ts) (length ts + 0) (int_part n z ts h) (omega arith)
simple_each n AnExpr e ts h made = more_room n (tree_items e ++ []) (length ts) (length ts + 0) (and_nil n (tree_items e) (length ts) (tree n e 6 ts h made)) (omega arith)
simple_each n AText s ts h made = more_room n (items.Quote s ∷ []) (length ts) (length ts + 0) (text_part n s ts h made) (omega arith)
simple_each n AStride z ts h made = stride_part n z ts h
simple_each n AKind k ts h made = more_room n (items.Fixed (kind_text k) ∷ []) (length ts) (length ts + 0) (kind_part n k ts h) (omega arith)
simple_each n ASort s ts h made = more_room n (items.Fixed (sort_text s) ∷ []) (length ts) (length ts + 0) (sort_part n s ts h) (omega arith)
simple_each n ARunning k ts h made = more_room n (items.Fixed (running_text k) ∷ []) (length ts) (length ts + 0) (running_part n k ts h) (omega arith)
simple_each n forms.Columns y ts h made = absurd h
simple_each n forms.Fields y ts h made = absurd h
simple_each n forms.Keys y ts h made = absurd h
simple_each n forms.Totals y ts h made = absurd h

-- ---- lists

many : {V : Type 0} (n : ℕ) (is : V → List Token → Type 0) (f : V → List Item) → ((x : V) (ts : List Token) → is x ts → AreMade n ts → Canonical (is x) n (f x) (length ts))
    → (xs : List V) (ts : List Token) → AreMany is xs ts → AreMade n ts → Canonical (AreMany is xs) n (commas f xs) (length ts)
many n is f one [] ts h made = absurd h
many n is f one (x ∷ []) ts h made = let c = one x ts h made in and_nil n (f x) (length ts) (record { reads = c.reads; good = c.good; few = c.few })
many n is f one (x ∷ y ∷ xs) ts h made =
    let all = rw h.4 at made in
    let a = one x h.0 h.2 (made_front n h.0 (t.Sign m.Comma ∷ h.1) all) in
    let b = many n is f one (y ∷ xs) h.1 h.3 (made_back n h.0 (t.Sign m.Comma ∷ h.1) all).1 in
    let few_a = a.few in
    let few_b = b.few in
    record {
      reads = (toks n (f x), toks n (commas f (y ∷ xs)), a.reads, b.reads, toks_append n (f x) (items.Mark m.Comma ∷ commas f (y ∷ xs)));
      good = good_append n (f x) (items.Mark m.Comma ∷ commas f (y ∷ xs)) a.good (tt, b.good);
      few = omega (arith, few_a, few_b, count_append n (f x) (items.Mark m.Comma ∷ commas f (y ∷ xs)), ap length h.4, length-append h.0 (t.Sign m.Comma ∷ h.1));
    }

column_each : (n : ℕ) (x : Column) (ts : List Token) → Fills IsSimple column_form.0 column_form.1 x ts → AreMade n ts → Canonical (Fills IsSimple column_form.0 column_form.1 x) n (column_items x) (length ts)
column_each n x ts h made =
    let c = fills n IsSimple (simple_each n) column_form.0 column_form.1 x ts h made in
    rw (ap column_items h.4.1.4.0) (more_room n _ (length ts + 0) (length ts) c (omega arith))

field_each : (n : ℕ) (x : Field) (ts : List Token) → Fills IsSimple field_form.0 field_form.1 x ts → AreMade n ts → Canonical (Fills IsSimple field_form.0 field_form.1 x) n (field_items x) (length ts)
field_each n x ts h made =
    let c = fills n IsSimple (simple_each n) field_form.0 field_form.1 x ts h made in
    let same = ap field_items h.4.1.4.0 ∙ ap (λ (y : List Item). items.Name h.0 ∷ items.Mark m.Equal ∷ y) (sym (append-nil (tree_items h.4.1.0))) in
    rw same (more_room n _ (length ts + 0) (length ts) c (omega arith))

key_each : (n : ℕ) (x : Field) (ts : List Token) → Fills IsSimple key_form.0 key_form.1 x ts → AreMade n ts → Canonical (Fills IsSimple key_form.0 key_form.1 x) n (key_items x) (length ts)
key_each n x ts h made =
    let c = fills n IsSimple (simple_each n) key_form.0 key_form.1 x ts h made in
    rw (ap key_items h.4.1.4.0) (more_room n _ (length ts + 0) (length ts) c (omega arith))

abbrev form_parts : {R : Type 0} (is : Is) (form : Option (Form R)) (y : R) (ts : List Token) → HasForm is form y ts → List Part
form_parts is None y ts h = []
form_parts is (Some form) y ts h = slot_parts is form.0 form.1 y ts h

abbrev form_slack : {R : Type 0} → Option (Form R) → ℕ
form_slack None = 0
form_slack (Some form) = slack form.0

form_ok : {R : Type 0} (n : ℕ) (is : Is) → Each n is → (form : Option (Form R)) (y : R) (ts : List Token) (h : HasForm is form y ts) → AreMade n ts → Canonical (HasForm is form y) n (parts_items (form_parts is form y ts h)) (length ts + form_slack form)
form_ok n is e None y ts h made = absurd h
form_ok n is e (Some form) y ts h made = fills n is e form.0 form.1 y ts h made

-- an aggregate behind its word
total_of : (n : ℕ) (w : Verb) (first : List ℕ) (x : Total) (is : List Item) (k : ℕ) → Canonical (HasForm IsSimple (total_form w) x) n is k → meant n (Word first) ≡ t.Word w (chars first) → is_word_text first ≡ true → Canonical (IsTotal x) n (items.Fixed first ∷ is) (k + 1)
total_of n w first x is k c means form =
    let few = c.few in
    record {
      reads = (w, chars first, toks n is, c.reads, ap (λ (z : Token). z ∷ toks n is) means);
      good = (form, c.good);
      few = omega (arith, few);
    }

total_verb : (n : ℕ) (w : Verb) (x : Total) (rest : List Token) → HasForm IsSimple (total_form w) x rest → AreMade n rest → Canonical (IsTotal x) n (total_items x) (length rest + 1)
total_verb n v.Count x rest h made =
    let c = form_ok n IsSimple (simple_each n) (total_form v.Count) x rest h made in
    rw (ap total_items h.1.4.0) (total_of n v.Count (codes "count") x _ (length rest) (more_room n _ _ (length rest) c (omega arith)) refl refl)
total_verb n v.Sum x rest h made =
    let c = form_ok n IsSimple (simple_each n) (total_form v.Sum) x rest h made in
    rw (ap total_items h.4.1.4.0) (total_of n v.Sum (codes "sum") x _ (length rest) (more_room n _ _ (length rest) c (omega arith)) refl refl)
total_verb n v.Product x rest h made =
    let c = form_ok n IsSimple (simple_each n) (total_form v.Product) x rest h made in
    rw (ap total_items h.4.1.4.0) (total_of n v.Product (codes "product") x _ (length rest) (more_room n _ _ (length rest) c (omega arith)) refl refl)
total_verb n v.Min x rest h made =
    let c = form_ok n IsSimple (simple_each n) (total_form v.Min) x rest h made in
    rw (ap total_items h.4.1.4.0) (total_of n v.Min (codes "min") x _ (length rest) (more_room n _ _ (length rest) c (omega arith)) refl refl)
total_verb n v.Max x rest h made =
    let c = form_ok n IsSimple (simple_each n) (total_form v.Max) x rest h made in
    rw (ap total_items h.4.1.4.0) (total_of n v.Max (codes "max") x _ (length rest) (more_room n _ _ (length rest) c (omega arith)) refl refl)
total_verb n v.MkString x rest h made =
    let c = form_ok n IsSimple (simple_each n) (total_form v.MkString) x rest h made in
    let same = ap total_items h.4.4.1.4.0 ∙ ap (λ (y : List Item). items.Fixed (codes "mkString") ∷ y) (append_assoc (tree_items h.0) (items.Quote h.4.0 ∷ []) (items.Fixed (codes "as") ∷ items.Name h.4.4.1.0 ∷ [])) in
    rw same (total_of n v.MkString (codes "mkString") x _ (length rest) (more_room n _ _ (length rest) c (omega arith)) refl refl)
total_verb n _ x rest h made = absurd h

total_each : (n : ℕ) (x : Total) (ts : List Token) → IsTotal x ts → AreMade n ts → Canonical (IsTotal x) n (total_items x) (length ts)
total_each n x ts h made =
    let c = total_verb n h.0 x h.2 h.3 (rw h.4 at made).1 in
    more_room n (total_items x) (length h.2 + 1) (length ts) c (omega (arith, ap length h.4))

part_each : (n : ℕ) → Each n IsPart
unfolding Each
part_each n AName x ts h made = each n IsSimple (simple_each n) AName x ts h made
part_each n AnInt x ts h made = each n IsSimple (simple_each n) AnInt x ts h made
part_each n AnExpr x ts h made = each n IsSimple (simple_each n) AnExpr x ts h made
part_each n AText x ts h made = each n IsSimple (simple_each n) AText x ts h made
part_each n AStride x ts h made = each n IsSimple (simple_each n) AStride x ts h made
part_each n AKind x ts h made = each n IsSimple (simple_each n) AKind x ts h made
part_each n ASort x ts h made = each n IsSimple (simple_each n) ASort x ts h made
part_each n ARunning x ts h made = each n IsSimple (simple_each n) ARunning x ts h made
part_each n forms.Columns xs ts h made = more_room n (commas column_items xs ++ []) (length ts) (length ts + 0) (and_nil n _ (length ts) (many n (Fills IsSimple column_form.0 column_form.1) column_items (column_each n) xs ts h made)) (omega arith)
part_each n forms.Fields xs ts h made = more_room n (commas field_items xs ++ []) (length ts) (length ts + 0) (and_nil n _ (length ts) (many n (Fills IsSimple field_form.0 field_form.1) field_items (field_each n) xs ts h made)) (omega arith)
part_each n forms.Keys xs ts h made = more_room n (commas key_items xs ++ []) (length ts) (length ts + 0) (and_nil n _ (length ts) (many n (Fills IsSimple key_form.0 key_form.1) key_items (key_each n) xs ts h made)) (omega arith)
part_each n forms.Totals xs ts h made = more_room n (commas total_items xs ++ []) (length ts) (length ts + 0) (and_nil n _ (length ts) (many n IsTotal total_items (total_each n) xs ts h made)) (omega arith)

-- ---- lines

abbrev verb_text : Verb → List ℕ
verb_text v.Pipeline = codes "pipeline"
verb_text v.Par = codes "par"
verb_text v.Map = codes "map"
verb_text v.Collect = codes "collect"
verb_text v.FlatMap = codes "flatMap"
verb_text v.ZipWithIndex = codes "zipWithIndex"
verb_text v.Scan = codes "scan"
verb_text v.GroupBy = codes "groupBy"
verb_text v.Take = codes "take"
verb_text v.Drop = codes "drop"
verb_text v.Slice = codes "slice"
verb_text v.Zip = codes "zip"
verb_text v.Reverse = codes "reverse"
verb_text v.Distinct = codes "distinct"
verb_text v.SplitAt = codes "splitAt"
verb_text v.Print = codes "print"
verb_text v.Size = codes "size"
verb_text v.MkString = codes "mkString"
verb_text v.SegmentLength = codes "segmentLength"
verb_text v.ToMap = codes "toMap"
verb_text v.Filter = codes "filter"
verb_text v.FilterNot = codes "filterNot"
verb_text v.TakeWhile = codes "takeWhile"
verb_text v.DropWhile = codes "dropWhile"
verb_text v.Count = codes "count"
verb_text v.Sum = codes "sum"
verb_text v.Product = codes "product"
verb_text v.Min = codes "min"
verb_text v.Max = codes "max"
verb_text v.Find = codes "find"
verb_text v.Exists = codes "exists"
verb_text v.Forall = codes "forall"
verb_text v.IndexWhere = codes "indexWhere"
verb_text v.LastIndexWhere = codes "lastIndexWhere"
verb_text v.Span = codes "span"
verb_text v.Partition = codes "partition"
verb_text v.ToSet = codes "toSet"
verb_text v.Array = codes "array"
verb_text v.Vector = codes "vector"
verb_text v.Plain = []

verb_line : (w : Verb) (y : Said) (rest : List Token) (h : HasForm IsPart (line_form w) y rest) → line_of y ≡ (verb_text w, form_parts IsPart (line_form w) y rest h)
verb_line v.Pipeline y rest h = ap line_of h.1.0
verb_line v.Par y rest h = ap line_of h.4.0
verb_line v.Map y rest h = ap line_of h.4.0
verb_line v.Collect y rest h = ap line_of h.4.1.4.0
verb_line v.FlatMap y rest h = ap line_of h.1.4.4.0
verb_line v.ZipWithIndex y rest h = ap line_of h.1.4.0
verb_line v.Scan y rest h = ap line_of h.4.4.1.4.0
verb_line v.GroupBy y rest h = ap line_of h.4.1.4.0
verb_line v.Take y rest h = ap line_of h.4.0
verb_line v.Drop y rest h = ap line_of h.4.0
verb_line v.Slice y rest h = ap line_of h.4.1.4.0
verb_line v.Zip y rest h = ap line_of h.1.4.1.4.1.4.1.4.0
verb_line v.Reverse y rest h = ap line_of h.0
verb_line v.Distinct y rest h = ap line_of h.0
verb_line v.SplitAt y rest h = ap line_of h.4.0
verb_line v.Print y rest h = ap line_of h.0
verb_line v.Size y rest h = ap line_of h.0
verb_line v.MkString y rest h = ap line_of h.4.4.0
verb_line v.SegmentLength y rest h = ap line_of h.4.1.4.0
verb_line v.ToMap y rest h = ap line_of h.4.1.4.0
verb_line v.Filter y rest h = ap line_of h.4.0
verb_line v.FilterNot y rest h = ap line_of h.4.0
verb_line v.TakeWhile y rest h = ap line_of h.4.0
verb_line v.DropWhile y rest h = ap line_of h.4.0
verb_line v.Count y rest h = ap line_of h.4.0
verb_line v.Sum y rest h = ap line_of h.4.0
verb_line v.Product y rest h = ap line_of h.4.0
verb_line v.Min y rest h = ap line_of h.4.0
verb_line v.Max y rest h = ap line_of h.4.0
verb_line v.Find y rest h = ap line_of h.4.0
verb_line v.Exists y rest h = ap line_of h.4.0
verb_line v.Forall y rest h = ap line_of h.4.0
verb_line v.IndexWhere y rest h = ap line_of h.4.0
verb_line v.LastIndexWhere y rest h = ap line_of h.4.0
verb_line v.Span y rest h = ap line_of h.4.0
verb_line v.Partition y rest h = ap line_of h.4.0
verb_line v.ToSet y rest h = ap line_of h.4.0
verb_line v.Plain y rest h = absurd h
verb_line v.Array y rest h = absurd h
verb_line v.Vector y rest h = absurd h

verb_means : (n : ℕ) (w : Verb) (y : Said) (rest : List Token) → HasForm IsPart (line_form w) y rest → (meant n (Word (verb_text w)) ≡ t.Word w (chars (verb_text w))) × (is_word_text (verb_text w) ≡ true)
verb_means n v.Pipeline y rest h = (refl, refl)
verb_means n v.Par y rest h = (refl, refl)
verb_means n v.Map y rest h = (refl, refl)
verb_means n v.Collect y rest h = (refl, refl)
verb_means n v.FlatMap y rest h = (refl, refl)
verb_means n v.ZipWithIndex y rest h = (refl, refl)
verb_means n v.Scan y rest h = (refl, refl)
verb_means n v.GroupBy y rest h = (refl, refl)
verb_means n v.Take y rest h = (refl, refl)
verb_means n v.Drop y rest h = (refl, refl)
verb_means n v.Slice y rest h = (refl, refl)
verb_means n v.Zip y rest h = (refl, refl)
verb_means n v.Reverse y rest h = (refl, refl)
verb_means n v.Distinct y rest h = (refl, refl)
verb_means n v.SplitAt y rest h = (refl, refl)
verb_means n v.Print y rest h = (refl, refl)
verb_means n v.Size y rest h = (refl, refl)
verb_means n v.MkString y rest h = (refl, refl)
verb_means n v.SegmentLength y rest h = (refl, refl)
verb_means n v.ToMap y rest h = (refl, refl)
verb_means n v.Filter y rest h = (refl, refl)
verb_means n v.FilterNot y rest h = (refl, refl)
verb_means n v.TakeWhile y rest h = (refl, refl)
verb_means n v.DropWhile y rest h = (refl, refl)
verb_means n v.Count y rest h = (refl, refl)
verb_means n v.Sum y rest h = (refl, refl)
verb_means n v.Product y rest h = (refl, refl)
verb_means n v.Min y rest h = (refl, refl)
verb_means n v.Max y rest h = (refl, refl)
verb_means n v.Find y rest h = (refl, refl)
verb_means n v.Exists y rest h = (refl, refl)
verb_means n v.Forall y rest h = (refl, refl)
verb_means n v.IndexWhere y rest h = (refl, refl)
verb_means n v.LastIndexWhere y rest h = (refl, refl)
verb_means n v.Span y rest h = (refl, refl)
verb_means n v.Partition y rest h = (refl, refl)
verb_means n v.ToSet y rest h = (refl, refl)
verb_means n v.Plain y rest h = absurd h
verb_means n v.Array y rest h = absurd h
verb_means n v.Vector y rest h = absurd h

verb_slack : (w : Verb) → form_slack (line_form w) ≡ 0
verb_slack v.Pipeline = refl
verb_slack v.Par = refl
verb_slack v.Map = refl
verb_slack v.Collect = refl
verb_slack v.FlatMap = refl
verb_slack v.ZipWithIndex = refl
verb_slack v.Scan = refl
verb_slack v.GroupBy = refl
verb_slack v.Take = refl
verb_slack v.Drop = refl
verb_slack v.Slice = refl
verb_slack v.Zip = refl
verb_slack v.Reverse = refl
verb_slack v.Distinct = refl
verb_slack v.SplitAt = refl
verb_slack v.Print = refl
verb_slack v.Size = refl
verb_slack v.MkString = refl
verb_slack v.SegmentLength = refl
verb_slack v.ToMap = refl
verb_slack v.Filter = refl
verb_slack v.FilterNot = refl
verb_slack v.TakeWhile = refl
verb_slack v.DropWhile = refl
verb_slack v.Count = refl
verb_slack v.Sum = refl
verb_slack v.Product = refl
verb_slack v.Min = refl
verb_slack v.Max = refl
verb_slack v.Find = refl
verb_slack v.Exists = refl
verb_slack v.Forall = refl
verb_slack v.IndexWhere = refl
verb_slack v.LastIndexWhere = refl
verb_slack v.Span = refl
verb_slack v.Partition = refl
verb_slack v.ToSet = refl
verb_slack v.Plain = refl
verb_slack v.Array = refl
verb_slack v.Vector = refl

-- the items of a line
abbrev pub line_items : Said → List Item
line_items y = items.Fixed (line_of y).0 ∷ parts_items (line_of y).1

items_of : Written → List Item
items_of l = items.Fixed l.0 ∷ parts_items l.1

verb_said : (n : ℕ) (w : Verb) (y : Said) (rest : List Token) → HasForm IsPart (line_form w) y rest → AreMade n rest → length rest + 1 ≤ 512 → Canonical (Says y) n (line_items y) 512
verb_said n w y rest h made le =
    let c = form_ok n IsPart (part_each n) (line_form w) y rest h made in
    let means = verb_means n w y rest h in
    let ps = parts_items (form_parts IsPart (line_form w) y rest h) in
    let few = c.few in
    let same : line_items y ≡ items.Fixed (verb_text w) ∷ ps = ap (λ (l : Written). items.Fixed l.0 ∷ parts_items l.1) (verb_line w y rest h) in
    rw same (record {
      reads = inl (w, chars (verb_text w), toks n ps, c.reads, ap (λ (z : Token). z ∷ toks n ps) means.0);
      good = (means.1, c.good);
      few = omega (arith, few, le, verb_slack w);
    })

range_few : (n : ℕ) (a b c : ℤ) → length (lexes n (items.Int a ∷ items.Fixed (codes "until") ∷ items.Int b ∷ items.Fixed (codes "by") ∷ items.Int c ∷ [])) ≤ 8
range_few n a b c =
    let x = int_short n a in
    let y = int_short n b in
    let z = int_short n c in
    omega (arith, x, y, z, count_append n (items.Int a ∷ []) (items.Fixed (codes "until") ∷ items.Int b ∷ items.Fixed (codes "by") ∷ items.Int c ∷ []), count_append n (items.Int b ∷ []) (items.Fixed (codes "by") ∷ items.Int c ∷ []))

source_said : (n : ℕ) (w : Reserved) (y : Said) (rest : List Token) → HasForm IsPart (source_form w) y rest → AreMade n rest → length rest + 2 ≤ 512 → Canonical (Says y) n (line_items y) 512
source_said n r.Csv y rest h made le =
    let c = form_ok n IsPart (part_each n) (source_form r.Csv) y rest h made in
    let ps = parts_items (form_parts IsPart (source_form r.Csv) y rest h) in
    let few = c.few in
    let same : line_items y ≡ items.Fixed (codes "from") ∷ items.Fixed (codes "csv") ∷ ps = ap line_items h.4.0 in
    rw same (record {
      reads = inr (r.Csv, toks n ps, c.reads, refl);
      good = (refl, (refl, c.good));
      few = omega (arith, few, le);
    })
source_said n r.Range y rest h made le =
    let c = form_ok n IsPart (part_each n) (source_form r.Range) y rest h made in
    let ps = parts_items (form_parts IsPart (source_form r.Range) y rest h) in
    let short = range_few n h.0 h.4.1.0 h.4.1.4.0 in
    let same : line_items y ≡ items.Fixed (codes "from") ∷ items.Fixed (codes "range") ∷ ps = ap line_items h.4.1.4.4.0 in
    rw same (record {
      reads = inr (r.Range, toks n ps, c.reads, refl);
      good = (refl, (refl, c.good));
      few = omega (arith, short);
    })
source_said n _ y rest h made le = absurd h

-- what a line says, its printed tokens say
pub said : (n : ℕ) (y : Said) (ts : List Token) → Says y ts → AreMade n ts → length ts ≤ 512 → Canonical (Says y) n (line_items y) 512
said n y ts h made le = elim h [
  | inl g ↦ verb_said n g.0 y g.2 g.3 (rw g.4 at made).1 (omega (arith, le, ap length g.4))
  | inr g ↦ source_said n g.0 y g.1 g.2 (rw g.3 at made).1.1 (omega (arith, le, ap length g.3))
]
