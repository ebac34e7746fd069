-- The items of a printed line, and how each is written.
use Rattle.std.specs.Prelude.{◌==◌, ◌&&◌, ℕ, ℤ, Bool, List, [], ◌∷◌, ◌++◌, is_none, codes, encode_utf8_all, if◌then◌else◌}
use Rattle.std.specs.List.{flat_map}
use Rattle.std.specs.Fmt.{signed_decimal}
use Rattle.pipe_text.specs.declared.lexeme.Symbol.{Symbol}
use Rattle.pipe_text.specs.declared.lexeme.Symbol.TheVariants as m
use Rattle.pipe_text.specs.Token.{is_word_text, symbol_text}
use Rattle.pipe_tokens.specs.Words.{reserved_of}
use Rattle.pipe_expr.specs.declared.expr.Op.{Op}
use Rattle.pipe_expr.specs.declared.expr.Op.TheVariants as o
use Rattle.pipe_expr.specs.Grammar.{Tree, Number, Texted, Named, Length, Valued, Inside, Negated, Joined}
use Rattle.par_rows.specs.declared.schema.Column.{Column}
use Rattle.par_rows.specs.declared.schema.ColumnKind.{ColumnKind}
use Rattle.par_rows.specs.declared.schema.ColumnKind.TheVariants as sorts
use Rattle.pipe_steps.specs.Said.{Text, Field, How, Counted, Summed, Multiplied, Least, Greatest, Chained, Total}

-- an item: a word of the language, a symbol, a name, an int with its sign, or a text
pub data Item : Type 0 where
  Fixed : List ℕ → Item
  Mark : Symbol → Item
  Name : Text → Item
  Int : ℤ → Item
  Quote : Text → Item

-- a name may be written plain where it has the form of a word and isn't reserved
abbrev pub is_plain : ℕ → List ℕ → Bool
is_plain version w = is_word_text w && is_none (reserved_of version w)

-- else it is quoted
abbrev pub name_text : ℕ → List ℕ → List ℕ
name_text version w = if is_plain version w then w else 96 ∷ (w ++ 96 ∷ [])

-- `"`, `\`, a line feed and a tab are written as escapes
abbrev pub escape : ℕ → List ℕ
escape c = if c == 34 then 92 ∷ 34 ∷ [] else if c == 92 then 92 ∷ 92 ∷ [] else if c == 10 then 92 ∷ 110 ∷ [] else if c == 9 then 92 ∷ 116 ∷ [] else c ∷ []

abbrev pub escaped : List ℕ → List ℕ
escaped cs = flat_map escape cs

-- the bytes of an item
abbrev pub item_text : ℕ → Item → List ℕ
item_text version (Fixed w) = w
item_text version (Mark k) = symbol_text k
item_text version (Name w) = name_text version (encode_utf8_all w)
item_text version (Int z) = signed_decimal z
item_text version (Quote s) = 34 ∷ (escaped (encode_utf8_all s) ++ 34 ∷ [])

-- items, each behind one space
abbrev pub spaced : ℕ → List Item → List ℕ
spaced version [] = []
spaced version (i ∷ is) = 32 ∷ (item_text version i ++ spaced version is)

-- ---- the parts of a line as items

abbrev pub operator : Op → Item
operator o.Times = Mark m.Times
operator o.Divide = Mark m.Divide
operator o.Remainder = Mark m.Remainder
operator o.Plus = Mark m.Plus
operator o.Minus = Mark m.Minus
operator o.Join = Mark m.Join
operator o.Equal = Mark m.Equal
operator o.Differ = Mark m.Differ
operator o.Less = Mark m.Less
operator o.AtMost = Mark m.AtMost
operator o.More = Mark m.More
operator o.AtLeast = Mark m.AtLeast
operator o.And = Fixed (codes "and")
operator o.Or = Fixed (codes "or")

abbrev pub tree_items : Tree → List Item
tree_items (Number z) = Int z ∷ []
tree_items (Texted s) = Quote s ∷ []
tree_items (Named w) = Name w ∷ []
tree_items (Length e) = Fixed (codes "len") ∷ Mark m.Open ∷ (tree_items e ++ Mark m.Close ∷ [])
tree_items (Valued e) = Fixed (codes "toInt") ∷ Mark m.Open ∷ (tree_items e ++ Mark m.Close ∷ [])
tree_items (Inside e) = Mark m.Open ∷ (tree_items e ++ Mark m.Close ∷ [])
tree_items (Negated e) = Fixed (codes "not") ∷ tree_items e
tree_items (Joined op a b) = tree_items a ++ operator op ∷ tree_items b

abbrev pub sort_text : ColumnKind → List ℕ
sort_text sorts.Int = codes "int"
sort_text sorts.Text = codes "text"

-- `name : int`
abbrev pub column_items : Column → List Item
column_items c = Name c.name ∷ Mark m.Colon ∷ Fixed (sort_text c.kind) ∷ []

-- `name = E`
abbrev pub field_items : Field → List Item
field_items f = Name f.0 ∷ Mark m.Equal ∷ tree_items f.1

-- `E as name`
abbrev pub key_items : Field → List Item
key_items f = tree_items f.1 ++ Fixed (codes "as") ∷ Name f.0 ∷ []

abbrev pub how_items : How → List Item
how_items Counted = Fixed (codes "count") ∷ []
how_items (Summed e) = Fixed (codes "sum") ∷ tree_items e
how_items (Multiplied e) = Fixed (codes "product") ∷ tree_items e
how_items (Least e) = Fixed (codes "min") ∷ tree_items e
how_items (Greatest e) = Fixed (codes "max") ∷ tree_items e
how_items (Chained e s) = Fixed (codes "mkString") ∷ (tree_items e ++ Quote s ∷ [])

-- an aggregate with its name
abbrev pub total_items : Total → List Item
total_items t = how_items t.0 ++ Fixed (codes "as") ∷ Name t.1 ∷ []

-- entries with commas between
abbrev pub commas : {V : Type 0} → (V → List Item) → List V → List Item
commas f [] = []
commas f (x ∷ xs) = f x ++ flat_map (λ y. Mark m.Comma ∷ f y) xs
