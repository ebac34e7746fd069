-- Any two rulings of the same words and files agree: both are texts, or both are the same refusal.
use Rattle.std.proofs.Common.{◌≡◌, ◌∙◌, sym, refl, ap, subst, ℕ, ◌+◌, ◌<◌, ◌≤◌, ℤ, Bool, Option, Some, None, Result, Ok, Err, arith, inl, inr, List, [], ◌∷◌, ◌++◌, length, map}
use Rattle.par_task.specs.Manners.{Manner}
use Rattle.par_pool.specs.Plans.{planned}
use Rattle.par_edge.specs.Count.{Rose}
use Rattle.par_edge.specs.Files.{File, IfTold}
use Rattle.par_edge.specs.Shelves.{ShelfState}
use Rattle.par_edge.specs.Sinks.{SinkState}
use Rattle.par_laws.specs.declared.tried.FaultAt.{FaultAt}
use Rattle.par_rows.specs.declared.schema.Column.{Column}
use Rattle.par_rows.specs.declared.row.Row.{Row}
use Rattle.par_splitter.specs.Range.{IsRange, IsRangeCount, stepped}
use Rattle.pipe_steps.specs.Said.{Origin, Middle, End, Said}
use Rattle.pipe_steps.specs.Said as x
use Rattle.pipe_checks.specs.Columns.{step_columns}
use Rattle.pipe_program.specs.Plans.{Plan}
use Rattle.pipe_program.specs.Reading.{AreNumbered, IsUnique}
use Rattle.pipe_answers.specs.declared.audits.StageAudit.{StageAudit}
use Rattle.pipe_words.specs.Commands.{Asked as Command, Run, Check}
use Rattle.pipe_run.specs.Rulings.{Then}
use Rattle.pipe_run.specs.Rulings.Then.{stops, goes}
use Rattle.pipe_run.specs.Outcomes.{status_of}
use Rattle.pipe_run.specs.Sources.{IsBuilt, IsBytes, IsDataRows, IsFirstLine, IsGiven, IsPlan, IsRangeRows, IsRows, first_at}
use Rattle.pipe_run.specs.Runs.{IsEnd, IsRun, Told, told_before}
use Rattle.pipe_run.specs.Answers.{IsAnswered, IsChecked, IsRuling, IsToldText}
use Rattle.pipe_run.specs.Endings.{Ends, EndsBy, IsExact, status_of_ruling}
use Rattle.pipe_run.specs.declared.built.Sought.{Sought}
use Rattle.pipe_run.specs.declared.outcome.Counted.{Counted}
use Rattle.pipe_run.specs.declared.outcome.Outcome.{Outcome}
use Rattle.pipe_run.specs.declared.outcome.Outcome.TheVariants.{Done, Usage, BadPipeline, BadData, ReadFault, WriteFault, Limit, Memory, Fault}

-- two answers by one rule are the same
abbrev pub IsFunctional : {A : Type 0} → (Result A Outcome → Type 0) → Type 0
IsFunctional {A} rule = (x y : Result A Outcome) → rule x → rule y → x ≡ y

-- both are values, or both are the same refusal
abbrev pub Agree : {A : Type 0} → Result A Outcome → Result A Outcome → Type 0
Agree (Ok x) (Ok y) = Unit {0}
Agree (Err o) (Err p) = o ≡ p
Agree _ _ = ⊥

abbrev pub IsAgreed : {A : Type 0} → (Result A Outcome → Type 0) → Type 0
IsAgreed {A} rule = (x y : Result A Outcome) → rule x → rule y → Agree x y

same_agree : {A : Type 0} (x y : Result A Outcome) → x ≡ y → Agree x y
same_agree (Ok a) (Ok b) e = tt
same_agree (Err o) (Err p) e = cc e
same_agree (Ok a) (Err p) e = cc e
same_agree (Err o) (Ok b) e = cc e

functional_agreed : {A : Type 0} (rule : Result A Outcome → Type 0) → IsFunctional rule → IsAgreed rule
functional_agreed rule f x y h k = same_agree x y (f x y h k)

-- ---- in sequence

then_one : {A B : Type 0} (first : Result A Outcome → Type 0) (second : A → Result B Outcome → Type 0) → IsFunctional first → ((a : A) → IsFunctional (second a)) → IsFunctional (Then first second)
then_one first second f g r s (stops o h e) (stops p k d) = let q : Err o ≡ Err p = f (Err o) (Err p) h k in e ∙ cc q ∙ sym d
then_one first second f g r s (stops o h e) (goes a k d) = let q : Err o ≡ Ok a = f (Err o) (Ok a) h k in cc q
then_one first second f g r s (goes a k d) (stops o h e) = let q : Err o ≡ Ok a = f (Err o) (Ok a) h k in cc q
then_one first second f g r s (goes a h d) (goes b k e) = let q : Ok a ≡ Ok b = f (Ok a) (Ok b) h k in let same : a ≡ b = cc q in g b r s (rw same at d) e

then_agreed : {A B : Type 0} (first : Result A Outcome → Type 0) (second : A → Result B Outcome → Type 0) → IsFunctional first → ((a : A) → IsAgreed (second a)) → IsAgreed (Then first second)
then_agreed first second f g r s (stops o h e) (stops p k d) = let q : Err o ≡ Err p = f (Err o) (Err p) h k in same_agree r s (e ∙ cc q ∙ sym d)
then_agreed first second f g r s (stops o h e) (goes a k d) = let q : Err o ≡ Ok a = f (Err o) (Ok a) h k in cc q
then_agreed first second f g r s (goes a k d) (stops o h e) = let q : Err o ≡ Ok a = f (Err o) (Ok a) h k in cc q
then_agreed first second f g r s (goes a h d) (goes b k e) = let q : Ok a ≡ Ok b = f (Ok a) (Ok b) h k in let same : a ≡ b = cc q in g b r s (rw same at d) e

-- a second question that is always answered
then_answered : {A B : Type 0} (first : Result A Outcome → Type 0) (answer : A → B) → IsAgreed first → IsAgreed (Then first (λ a r. r ≡ Ok (answer a)))
then_answered first answer f r s (stops o h e) (stops p k d) = let q : o ≡ p = f (Err o) (Err p) h k in same_agree r s (e ∙ ap (λ z. Err z) q ∙ sym d)
then_answered first answer f r s (stops o h e) (goes a k d) = absurd (f (Err o) (Ok a) h k)
then_answered first answer f r s (goes a k d) (stops o h e) = absurd (f (Ok a) (Err o) k h)
then_answered first answer f r s (goes a h d) (goes b k e) = rw (d, e) tt

-- ---- files and plans

bytes_one : (what : Counted) (most : ℕ) (name : List ℕ) (files : List File) → IsFunctional (IsBytes what most name files)
bytes_one what most name files (Ok x) (Ok y) h k = cc (h.0, k.0)
bytes_one what most name files (Err o) (Err p) h k = cc (h.1, k.1)
bytes_one what most name files (Ok x) (Err p) h k = let e : k.0.bytes ≡ x = cc (h.0, k.0.held) in let l : most < length x = rw e at k.0.longer in let m = h.1 in absurd (omega (arith, l, m))
bytes_one what most name files (Err o) (Ok y) h k = let e : h.0.bytes ≡ y = cc (k.0, h.0.held) in let l : most < length y = rw e at h.0.longer in let m = k.1 in absurd (omega (arith, l, m))

-- the laws of texts
pub record TextLaws : Type 0 where
  pub unique : (text : List ℕ) → IsUnique text
  pub one_numbering : (text : List ℕ) (zs ws : List (ℕ × Said)) → AreNumbered text zs → AreNumbered text ws → zs ≡ ws

module _ (laws : TextLaws) where
  plan_one : (text : List ℕ) → IsFunctional (IsPlan text)
  plan_one text (Ok p) (Ok q) h k = ap (λ z. Ok z) ((laws.unique text).reading p q h k)
  plan_one text (Err o) (Err p) h k = let e = (laws.unique text).refusal h.0 h.1 k.0 k.1 h.2 k.2 in ap (λ z. Err z) (h.3 ∙ ap (λ n. BadPipeline n h.1) e.0 ∙ ap (λ n. BadPipeline k.0 n) e.1 ∙ sym k.3)
  plan_one text (Ok p) (Err o) h k = absurd ((laws.unique text).apart p k.0 k.1 h k.2)
  plan_one text (Err o) (Ok q) h k = absurd ((laws.unique text).apart q h.0 h.1 k h.2)

  line_one : (such : Said → Bool) (text : List ℕ) (l m : Option ℕ) → IsFirstLine such text l → IsFirstLine such text m → l ≡ m
  line_one such text l m h k = h.2 ∙ ap (first_at such) (laws.one_numbering text h.0 k.0 h.1 k.1) ∙ sym k.2

  refused_one : (such : Said → Bool) (text : List ℕ) (kind : ℕ) (n m : ℕ) (o p : Outcome) → IsFirstLine such text (Some n) → IsFirstLine such text (Some m) → o ≡ BadPipeline n kind → p ≡ BadPipeline m kind → o ≡ p
  refused_one such text kind n m o p h k d e = let q = line_one such text (Some n) (Some m) h k in let same : n ≡ m = cc q in d ∙ ap (λ z. BadPipeline z kind) same ∙ sym e

  given_one : (text : List ℕ) (origin : Origin) (name : Option (List ℕ)) → IsFunctional (IsGiven text origin name)
  given_one text (x.Range a b c) name r s h k = h ∙ sym k
  given_one text (x.Csv columns) (Some name) r s h k = h ∙ sym k
  given_one text (x.Csv columns) None (Ok u) s h k = absurd h
  given_one text (x.Csv columns) None (Err o) (Ok u) h k = absurd k
  given_one text (x.Csv columns) None (Err o) (Err p) h k = ap (λ z. Err z) (refused_one _ text 14 h.0 k.0 o p h.1 k.1 h.2 k.2)

  built_one : (text : List ℕ) → IsFunctional (IsBuilt text)
  built_one text (Ok u) (Ok w) h k = refl
  built_one text (Ok u) (Err o) h k = let q = line_one _ text None (Some k.0) h k.1 in cc q
  built_one text (Err o) (Ok u) h k = let q = line_one _ text (Some h.0) None h.1 k in cc q
  built_one text (Err o) (Err p) h k = ap (λ z. Err z) (refused_one _ text 0 h.0 k.0 o p h.1 k.1 h.2 k.2)

-- ---- rows

not_less : (a b c : ℤ) (n m : ℕ) → IsRangeCount a b c n → IsRangeCount a b c m → n < m → ⊥
not_less a b c n m h k lt = h.ended (k.inside n lt)

pub count_one : (a b c : ℤ) (n m : ℕ) → IsRangeCount a b c n → IsRangeCount a b c m → n ≡ m
count_one a b c n m h k =
    let below : n < m → ⊥ = not_less a b c n m h k in
    let above : m < n → ⊥ = not_less a b c m n k h in
    omega (arith, below, above)

range_one : (a b c : ℤ) (xs ys : List ℤ) → IsRange a b c xs → IsRange a b c ys → xs ≡ ys
range_one a b c xs ys h k = h.numbers ∙ ap (stepped a c) (count_one a b c (length xs) (length ys) h.count k.count) ∙ sym k.numbers

range_rows_one : (a b c : ℤ) → IsFunctional (IsRangeRows a b c)
range_rows_one a b c (Ok xs) (Ok ys) h k = ap (λ l. Ok l) (h.3 ∙ ap (map _) (range_one a b c h.0 k.0 h.1 k.1) ∙ sym k.3)
range_rows_one a b c (Err o) (Err p) h k = let e = count_one a b c h.0 k.0 h.1 k.1 in ap (λ z. Err z) (h.3 ∙ ap (λ n. Limit _ n 4194304) e ∙ sym k.3)
range_rows_one a b c (Ok xs) (Err p) h k =
    let same : length h.0 ≡ k.0 = count_one a b c (length h.0) k.0 h.1.count k.1 in
    let few = h.2 in
    let many = k.2 in
    absurd (omega (arith, same, few, many))
range_rows_one a b c (Err o) (Ok ys) h k =
    let same : length k.0 ≡ h.0 = count_one a b c (length k.0) h.0 k.1.count h.1 in
    let few = k.2 in
    let many = h.2 in
    absurd (omega (arith, same, few, many))

rows_one : (origin : Origin) (name : Option (List ℕ)) (files : List File) → IsFunctional (IsRows origin name files)
rows_one (x.Range a b c) name files r s h k = range_rows_one a b c r s h k
rows_one (x.Csv columns) (Some name) files r s h k = then_one _ _ (bytes_one _ _ name files) (λ bytes r s h k. h ∙ sym k) r s h k
rows_one (x.Csv columns) None files r s h k = absurd h

-- ---- steps

end_agreed : (manner : Manner) (k : ℕ) (cs : List Column) (last : End) (rows : List Row) → IsAgreed (IsEnd manner k cs last rows)
end_agreed manner k cs last rows (Ok t) (Ok u) h g = tt
end_agreed manner k cs last rows (Ok t) (Err o) h g = let e : None ≡ Some g.0 = sym h.0 ∙ g.1 in cc e
end_agreed manner k cs last rows (Err o) (Ok u) h g = let e : None ≡ Some h.0 = sym g.0 ∙ h.1 in cc e
end_agreed manner k cs last rows (Err o) (Err p) h g = let e : Some h.0 ≡ Some g.0 = sym h.1 ∙ g.1 in let same : h.0 ≡ g.0 = cc e in h.2 ∙ ap (λ (f : FaultAt). Fault k f.at f.kind) same ∙ sym g.2

before_agree : (a b : List StageAudit) (r s : Result Told Outcome) → Agree r s → Agree (told_before a r) (told_before b s)
before_agree a b (Ok t) (Ok u) h = tt
before_agree a b (Err o) (Err p) h = h
before_agree a b (Ok t) (Err p) h = absurd h
before_agree a b (Err o) (Ok u) h = absurd h

run_agreed : (manner : Manner) (k : ℕ) (cs : List Column) (ms : List Middle) (last : End) (rows : List Row) → IsAgreed (IsRun manner k cs ms last rows)
unfolding IsRun
run_agreed manner k cs [] last rows r s h g = end_agreed manner k cs last rows r s h g
run_agreed manner k cs (m ∷ ms) last rows r s h g =
    then_agreed _ _ (λ x y p q. p ∙ sym q)
    (λ next x y p q. rw (p.4, q.4) (before_agree p.0 q.0 p.2 q.2 (run_agreed manner (k + 1) (step_columns cs m) ms last next p.2 q.2 p.3 q.3)))
    r s h g

-- ---- all of it

told_agreed : (manner : Manner) (audit : Bool) (plan : Plan) (rows : List Row) → IsAgreed (IsToldText manner audit plan rows)
told_agreed manner audit plan rows = then_answered _ _ (run_agreed manner 2 _ plan.middles plan.last rows)

-- any two rulings of the same words and files agree
pub agreed : TextLaws → (asked : Option Command) (files : List File) → IsAgreed (IsRuling asked files)
agreed laws None files r s h g = same_agree r s (h ∙ sym g)
agreed laws (Some (Check pipe)) files r s h g =
    then_agreed _ _ (bytes_one _ _ pipe files) (λ text.
    then_agreed _ _ (plan_one laws text) (λ plan r s h g. same_agree r s (h ∙ sym g))) r s h g
agreed laws (Some (Run pipe name workers level audit)) files r s h g =
    then_agreed _ _ (bytes_one _ _ pipe files) (λ text.
    then_agreed _ _ (plan_one laws text) (λ plan.
    then_agreed _ _ (given_one laws text plan.origin name) (λ _.
    then_agreed _ _ (built_one laws text) (λ _.
    then_agreed _ _ (rows_one plan.origin name files) (λ rows.
    told_agreed (planned workers level) audit plan rows))))) r s h g

status_agrees : (r s : Result (List ℕ) Outcome) → Agree r s → status_of_ruling r ≡ status_of_ruling s
status_agrees (Ok x) (Ok y) h = refl
status_agrees (Err o) (Err p) h = ap status_of h
status_agrees (Ok x) (Err p) h = absurd h
status_agrees (Err o) (Ok y) h = absurd h

module _ (rule : List File → Result (List ℕ) Outcome → Type 0) (one : (files : List File) → IsAgreed (rule files)) (files : List File) (faults given : ℕ) (b : ShelfState) (out out' : SinkState) where
  abbrev a : ShelfState
  a = record { files = Some files; faults = faults; given = given }

  refused : (o : Outcome) (r : Result (List ℕ) Outcome) → rule files (Err o) → rule files r → IsExact (Rose faults b.faults) (Rose out.faults out'.faults) r (status_of o)
  refused o r h k = inl (status_agrees (Err o) r (one files (Err o) r h k))

  exact_by : (o : Outcome) (r : Result (List ℕ) Outcome) → EndsBy rule a b out out' o → rule files r → IsExact (Rose faults b.faults) (Rose out.faults out'.faults) r (status_of o)
  exact_by Done r h k = inl (status_agrees (Ok h.text) r (one files (Ok h.text) r h.ruled k))
  exact_by Usage r h k = refused Usage r h.ruled k
  exact_by (BadPipeline line kind) r h k = refused (BadPipeline line kind) r h.ruled k
  exact_by (BadData at kind) r h k = refused (BadData at kind) r h.ruled k
  exact_by ReadFault r h k = inr (inr (inl (refl, h.cause)))
  exact_by WriteFault r h k = inr (inr (inr (refl, h.0)))
  exact_by (Limit what count most) r h k = refused (Limit what count most) r h.ruled k
  exact_by Memory r h k = inr (inl refl)
  exact_by (Fault stage row kind) r h k = refused (Fault stage row kind) r h.ruled k

pub exact : (rule : List File → Result (List ℕ) Outcome → Type 0) → ((files : List File) → IsAgreed (rule files)) → (t : Option (List File)) (faults given : ℕ) (b : ShelfState) (out out' : SinkState) (o : Outcome) → Ends rule (record { files = t; faults = faults; given = given }) b out out' o → IfTold t (λ files. (r : Result (List ℕ) Outcome) → rule files r → IsExact (Rose faults b.faults) (Rose out.faults out'.faults) r (status_of o))
exact rule one None faults given b out out' o h = tt
exact rule one (Some files) faults given b out out' o h = λ r k. exact_by rule one files faults given b out out' o r h.ended k
