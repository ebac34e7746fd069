-- What the rows hold after the uses that some parts stand for.
use Rattle.std.proofs.Common.{◌≡◌, ◌∙◌, ◌++◌, ◌≤◌, Bool, true, false, cond, List, [], ◌∷◌, map, length, ◌||◌, Option, Some, None, codes, is_some, unwrap_or, option_map, bytes_eq, refl, sym, ap, subst, append-nil, append_assoc, length-append, arith}
use Rattle.std.proofs.lemmas.Slice.Eq.{bytes_eq-Decides}
use Rattle.std.specs.List.{find}
use Rattle.clap.specs.Walk.{Row, all_of, has_row, more_values, reading_by, used, with_values, without}
use Rattle.clap.specs.declared.builder.value_parser.Reading.{Reading}
use Rattle.clap.specs.declared.parser.matches.ValueSource.{ValueSource}
use Rattle.clap.specs.declared.parser.matches.ValueSource.TheVariants.{CommandLine}
use Rattle.pipe_words.specs.Parts.{Audit, Level, Part, Positional, Role, Text, Workers, is_role, texts_of}
use Rattle.pipe_words.proofs.Rules.{id_of, repeats, rule_by, values_for}
use Rattle.pipe_words.proofs.Settling.{applied}

bytes_same : (id : Text) → bytes_eq id id ≡ true
bytes_same id = (bytes_eq-Decides id id).1 refl

pub all_with_same : (id : Text) (how : Reading) (s : ValueSource) (vs : List Text) (rows : List Row)
    → all_of id (with_values id how s vs rows) ≡ Some (unwrap_or (all_of id rows) [] ++ vs)
all_with_same id how s vs [] = rw (bytes_same id) refl
all_with_same id how s vs (r ∷ rs) = go (all_with_same id how s vs rs) (bytes_eq r.id id) refl
  where
    go : all_of id (with_values id how s vs rs) ≡ Some (unwrap_or (all_of id rs) [] ++ vs) → (b : Bool) → bytes_eq r.id id ≡ b
        → all_of id (cond b (more_values s vs r ++ rs) (r ∷ with_values id how s vs rs)) ≡ Some (unwrap_or (all_of id (r ∷ rs)) [] ++ vs)
    go rest true e = rw e refl
    go rest false e = rw e rest

pub all_with_other : (id other : Text) (how : Reading) (s : ValueSource) (vs : List Text) (rows : List Row) → bytes_eq id other ≡ false
    → all_of other (with_values id how s vs rows) ≡ all_of other rows
all_with_other id other how s vs [] differ = rw differ refl
all_with_other id other how s vs (r ∷ rs) differ = go (all_with_other id other how s vs rs differ) (bytes_eq r.id id) refl
  where
    skip : all_of other (with_values id how s vs rs) ≡ all_of other rs → (b : Bool) → option_map (λ (x : Row). x.values) (cond b (Some r) (find (λ x. bytes_eq x.id other) (with_values id how s vs rs)))
        ≡ option_map (λ (x : Row). x.values) (cond b (Some r) (find (λ x. bytes_eq x.id other) rs))
    skip rest true = refl
    skip rest false = rest

    go : all_of other (with_values id how s vs rs) ≡ all_of other rs → (b : Bool) → bytes_eq r.id id ≡ b → all_of other (cond b (more_values s vs r ++ rs) (r ∷ with_values id how s vs rs)) ≡ all_of other (r ∷ rs)
    go rest true e =
        let is : r.id ≡ id = (bytes_eq-Decides r.id id).0 e in
        let differs : bytes_eq r.id other ≡ false = ap (λ t. bytes_eq t other) is ∙ differ in
        rw differs refl
    go rest false e = skip rest (bytes_eq r.id other)

pub has_all : (id : Text) (rows : List Row) → has_row id rows ≡ is_some (all_of id rows)
has_all id [] = refl
has_all id (r ∷ rs) = go (has_all id rs) (bytes_eq r.id id)
  where
    go : has_row id rs ≡ is_some (all_of id rs) → (b : Bool) → (b || has_row id rs) ≡ is_some (option_map (λ (x : Row). x.values) (cond b (Some r) (find (λ x. bytes_eq x.id id) rs)))
    go rest true = refl
    go rest false = rest

without_none : (id : Text) (rows : List Row) → has_row id rows ≡ false → without id rows ≡ rows
without_none id [] h = refl
without_none id (r ∷ rs) h = go (without_none id rs) (bytes_eq r.id id) h
  where
    go : (has_row id rs ≡ false → without id rs ≡ rs) → (b : Bool) → (b || has_row id rs) ≡ false → cond b ([] ++ rs) (r ∷ without id rs) ≡ r ∷ rs
    go rest true h = cc h
    go rest false h = ap (λ l. r ∷ l) (rest h)

-- the text that a use leaves
abbrev pub text_for : Role → Text → Text
text_for Audit text = codes "true"
text_for role text = text

pub used_is : (role : Role) (v : Text) (rows : List Row) → repeats role rows ≡ false
    → used (rule_by role) (values_for role v) rows ≡ with_values (id_of role) (reading_by (rule_by role)) CommandLine (text_for role v ∷ []) rows
unfolding rule_by
used_is Positional v rows h = refl
used_is Workers v rows h = rw (without_none (codes "workers") rows h) refl
used_is Level v rows h = rw (without_none (codes "level") rows h) refl
used_is Audit v rows h = rw (without_none (codes "audit") rows h) refl

-- ---- the rows hold the texts of the parts

abbrev pub as_option : List Text → Option (List Text)
as_option [] = None
as_option (x ∷ xs) = Some (x ∷ xs)

abbrev pub HoldsOf : Role → List Row → List Part → Type 0
HoldsOf role rows ps = all_of (id_of role) rows ≡ as_option (map (text_for role) (texts_of role ps))

abbrev pub Holds : List Row → List Part → Type 0
Holds rows ps = (role : Role) → HoldsOf role rows ps

one_more : (f : Text → Text) (xs : List Text) (v : Text) → Some (unwrap_or (as_option (map f xs)) [] ++ f v ∷ []) ≡ as_option (map f (xs ++ v ∷ []))
one_more f [] v = refl
one_more f (x ∷ xs) v = ap (λ l. Some (f x ∷ l)) (go xs)
  where
    go : (ys : List Text) → map f ys ++ f v ∷ [] ≡ map f (ys ++ v ∷ [])
    go [] = refl
    go (y ∷ ys) = ap (λ l. f y ∷ l) (go ys)

pub texts_append : (role : Role) (ps qs : List Part) → texts_of role (ps ++ qs) ≡ texts_of role ps ++ texts_of role qs
texts_append role [] qs = refl
texts_append role (p ∷ ps) qs = go (texts_append role ps qs) (is_role role p.0)
  where
    go : texts_of role (ps ++ qs) ≡ texts_of role ps ++ texts_of role qs → (b : Bool) → cond b (p.1 ∷ texts_of role (ps ++ qs)) (texts_of role (ps ++ qs)) ≡ cond b (p.1 ∷ texts_of role ps) (texts_of role ps) ++ texts_of role qs
    go rest true = ap (λ l. p.1 ∷ l) rest
    go rest false = rest

pub is_itself : (role : Role) → is_role role role ≡ true
is_itself Positional = refl
is_itself Workers = refl
is_itself Level = refl
is_itself Audit = refl

same_holds : (role : Role) (v : Text) (rows : List Row) (ps : List Part) → Holds rows ps → repeats role rows ≡ false
    → HoldsOf role (used (rule_by role) (values_for role v) rows) (ps ++ (role, v) ∷ [])
same_holds role v rows ps h once =
    rw (used_is role v rows once, all_with_same, h role, texts_append, is_itself role) (one_more (text_for role) (texts_of role ps) v)

other_holds : (role other : Role) (v : Text) (rows : List Row) (ps : List Part) → Holds rows ps → repeats role rows ≡ false
    → bytes_eq (id_of role) (id_of other) ≡ false → is_role other role ≡ false
    → HoldsOf other (used (rule_by role) (values_for role v) rows) (ps ++ (role, v) ∷ [])
other_holds role other v rows ps h once differ apart =
    rw (used_is role v rows once, all_with_other (id_of role) (id_of other) _ _ _ rows differ, texts_append, apart, append-nil) (h other)

holds_at : (role other : Role) (v : Text) (rows : List Row) (ps : List Part) → Holds rows ps → repeats role rows ≡ false
    → HoldsOf other (used (rule_by role) (values_for role v) rows) (ps ++ (role, v) ∷ [])
holds_at Positional Positional v rows ps h once = same_holds Positional v rows ps h once
holds_at Workers Workers v rows ps h once = same_holds Workers v rows ps h once
holds_at Level Level v rows ps h once = same_holds Level v rows ps h once
holds_at Audit Audit v rows ps h once = same_holds Audit v rows ps h once
holds_at Positional Workers v rows ps h once = other_holds Positional Workers v rows ps h once refl refl
holds_at Positional Level v rows ps h once = other_holds Positional Level v rows ps h once refl refl
holds_at Positional Audit v rows ps h once = other_holds Positional Audit v rows ps h once refl refl
holds_at Workers Positional v rows ps h once = other_holds Workers Positional v rows ps h once refl refl
holds_at Workers Level v rows ps h once = other_holds Workers Level v rows ps h once refl refl
holds_at Workers Audit v rows ps h once = other_holds Workers Audit v rows ps h once refl refl
holds_at Level Positional v rows ps h once = other_holds Level Positional v rows ps h once refl refl
holds_at Level Workers v rows ps h once = other_holds Level Workers v rows ps h once refl refl
holds_at Level Audit v rows ps h once = other_holds Level Audit v rows ps h once refl refl
holds_at Audit Positional v rows ps h once = other_holds Audit Positional v rows ps h once refl refl
holds_at Audit Workers v rows ps h once = other_holds Audit Workers v rows ps h once refl refl
holds_at Audit Level v rows ps h once = other_holds Audit Level v rows ps h once refl refl

-- ---- what is given again

abbrev pub IsOption : Role → Type 0
IsOption Positional = ⊥
IsOption _ = Unit {0}

abbrev pub IsRepeated : List Part → Type 0
IsRepeated ps = (role : Role) × IsOption role × (2 ≤ length (texts_of role ps))

abbrev pub IsSingle : List Part → Type 0
IsSingle ps = (role : Role) → IsOption role → length (texts_of role ps) ≤ 1

abbrev pub Reads : Option (List Row) → List Part → Type 0
Reads None ps = IsRepeated ps
Reads (Some rows) ps = Holds rows ps × IsSingle ps

some_text : (f : Text → Text) (xs : List Text) → is_some (as_option (map f xs)) ≡ true → 1 ≤ length xs
some_text f [] h = cc h
some_text f (x ∷ xs) h = omega arith

no_text : (f : Text → Text) (xs : List Text) → is_some (as_option (map f xs)) ≡ false → length xs ≡ 0
no_text f [] h = refl
no_text f (x ∷ xs) h = cc h

repeats_is : (role : Role) → IsOption role → (rows : List Row) (ps : List Part) → Holds rows ps → repeats role rows ≡ is_some (as_option (map (text_for role) (texts_of role ps)))
repeats_is Positional o rows ps h = absurd o
repeats_is Workers o rows ps h = has_all (codes "workers") rows ∙ ap is_some (h Workers)
repeats_is Level o rows ps h = has_all (codes "level") rows ∙ ap is_some (h Level)
repeats_is Audit o rows ps h = has_all (codes "audit") rows ∙ ap is_some (h Audit)

is_option : (role : Role) (rows : List Row) → repeats role rows ≡ true → IsOption role
is_option Positional rows h = cc h
is_option Workers rows h = tt
is_option Level rows h = tt
is_option Audit rows h = tt

again : (role : Role) (v : Text) (ps done : List Part) (rows : List Row) → Holds rows done → repeats role rows ≡ true → IsRepeated (done ++ (role, v) ∷ ps)
again role v ps done rows h twice =
    let o = is_option role rows twice in
    let some = some_text (text_for role) (texts_of role done) (sym (repeats_is role o rows done h) ∙ twice) in
    (role, o, rw (texts_append, is_itself role) (omega (arith, length-append (texts_of role done) (v ∷ texts_of role ps))))

same_role : (other role : Role) → is_role other role ≡ true → other ≡ role
same_role Positional Positional e = refl
same_role Positional Workers e = cc e
same_role Positional Level e = cc e
same_role Positional Audit e = cc e
same_role Workers Positional e = cc e
same_role Workers Workers e = refl
same_role Workers Level e = cc e
same_role Workers Audit e = cc e
same_role Level Positional e = cc e
same_role Level Workers e = cc e
same_role Level Level e = refl
same_role Level Audit e = cc e
same_role Audit Positional e = cc e
same_role Audit Workers e = cc e
same_role Audit Level e = cc e
same_role Audit Audit e = refl

single_more : (role : Role) (v : Text) (done : List Part) (rows : List Row) → Holds rows done → repeats role rows ≡ false → IsSingle done → IsSingle (done ++ (role, v) ∷ [])
single_more role v done rows h once single other o = rw texts_append (go (is_role other role) refl)
  where
    go : (b : Bool) → is_role other role ≡ b → length (texts_of other done ++ cond b (v ∷ []) []) ≤ 1
    go true e =
        let is : other ≡ role = same_role other role e in
        let none : length (texts_of other done) ≡ 0 = no_text (text_for other) (texts_of other done)
        (sym (repeats_is other o rows done h) ∙ (ap (λ r. repeats r rows) is ∙ once)) in
        omega (arith, length-append (texts_of other done) (v ∷ []))
    go false e = rw append-nil (single other o)

pub reads : (ps done : List Part) (rows : List Row) → Holds rows done → IsSingle done → Reads (applied ps rows) (done ++ ps)
reads [] done rows h single = rw append-nil (h, single)
reads (p ∷ ps) done rows h single =
    let next = used (rule_by p.0) (values_for p.0 p.1) rows in
    go (λ e. subst (Reads (applied ps next)) (append_assoc done (p ∷ []) ps)
    (reads ps (done ++ p ∷ []) next (λ other. holds_at p.0 other p.1 rows done h e) (single_more p.0 p.1 done rows h e single)))
    (repeats p.0 rows) refl
  where
    go : (repeats p.0 rows ≡ false → Reads (applied ps (used (rule_by p.0) (values_for p.0 p.1) rows)) (done ++ p ∷ ps)) → (b : Bool) → repeats p.0 rows ≡ b → Reads (cond b None (applied ps (used (rule_by p.0) (values_for p.0 p.1) rows))) (done ++ p ∷ ps)
    go rest true e = again p.0 p.1 ps done rows h e
    go rest false e = rest e
