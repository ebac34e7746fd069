-- How rulings and answers compose.
use Rattle.std.proofs.Common.{◌≡◌, ◌≢◌, ◌∙◌, refl, ap, ◌≤◌, ℕ, Option, Some, None, Result, Ok, Err, IfErr, List, arith}
use Rattle.par_edge.specs.Files.{File, IfTold}
use Rattle.par_edge.specs.Shelves.{ShelfState, IsLaterShelf}
use Rattle.pipe_run.specs.Rulings.{Then, UnlessFree, IfRuled, IsInner, CountsNoBytes, Decides, Shows, ShowsLimit, Answers}
use Rattle.pipe_run.specs.Rulings.Then.{stops, goes}
use Rattle.pipe_run.specs.declared.outcome.Counted.{Counted}
use Rattle.pipe_run.specs.declared.outcome.Counted.TheVariants.{PipelineBytes, DataBytes, Records, RangeItems, FlatMapItems, ScanItems}
use Rattle.pipe_run.specs.declared.outcome.Outcome.{Outcome}
use Rattle.pipe_run.specs.declared.outcome.Outcome.TheVariants.{Done, Usage, BadPipeline, BadData, ReadFault, WriteFault, Limit, Memory, Fault}

pub under : (P Q : Type 0) (o : Outcome) → (P → Q) → UnlessFree o P → UnlessFree o Q
under P Q Done f h = f h
under P Q Usage f h = f h
under P Q (BadPipeline line kind) f h = f h
under P Q (BadData at kind) f h = f h
under P Q ReadFault f h = tt
under P Q WriteFault f h = tt
under P Q (Limit what count most) f h = f h
under P Q Memory f h = tt
under P Q (Fault stage row kind) f h = f h

pub under_any : {A : Type 0} (P Q : Type 0) (r : Result A Outcome) → (P → Q) → IfRuled r P → IfRuled r Q
under_any P Q (Ok a) f h = f h
under_any P Q (Err o) f h = under P Q o f h

pub told : (t : Option (List File)) (P Q : List File → Type 0) → ((files : List File) → P files → Q files) → IfTold t P → IfTold t Q
told None P Q f h = tt
told (Some files) P Q f h = f files h

pub told_both : (t : Option (List File)) (P Q R : List File → Type 0) → ((files : List File) → P files → Q files → R files) → IfTold t P → IfTold t Q → IfTold t R
told_both None P Q R f p q = tt
told_both (Some files) P Q R f p q = f files p q

pub told_const : (t : Option (List File)) (P : Type 0) → P → IfTold t (λ _. P)
told_const None P h = tt
told_const (Some files) P h = h

-- the first question was refused
pub stopped : {A B : Type 0} (first : List File → Result A Outcome → Type 0) (second : List File → A → Result B Outcome → Type 0) (a b : ShelfState) (o : Outcome) → Answers first a b (Err o) → Answers (λ files. Then (first files) (second files)) a b (Err o)
stopped first second a b o h = record {
  later = h.later;
  cause = h.cause;
  ruled = under _ _ o (told a.files _ _ (λ files r. stops o r refl)) h.ruled;
}

limit_since : (a b c : ShelfState) (what : Counted) (most : ℕ) → IsLaterShelf a b → ShowsLimit b c what most → ShowsLimit a c what most
limit_since a b c PipelineBytes most h s = let le : a.given ≤ b.given = h.given in omega (arith, le, s)
limit_since a b c DataBytes most h s = let le : a.given ≤ b.given = h.given in omega (arith, le, s)
limit_since a b c Records most h s = tt
limit_since a b c RangeItems most h s = tt
limit_since a b c FlatMapItems most h s = tt
limit_since a b c ScanItems most h s = tt

shows_since : (a b c : ShelfState) (o : Outcome) → IsLaterShelf a b → Shows b c o → Shows a c o
shows_since a b c Done h s = s
shows_since a b c Usage h s = s
shows_since a b c (BadPipeline line kind) h s = s
shows_since a b c (BadData at kind) h s = s
shows_since a b c ReadFault h s = let le : a.faults ≤ b.faults = h.faults in omega (arith, le, s)
shows_since a b c WriteFault h s = s
shows_since a b c (Limit what count most) h s = limit_since a b c what most h s
shows_since a b c Memory h s = s
shows_since a b c (Fault stage row kind) h s = s

cause_since : {A : Type 0} (a b c : ShelfState) (r : Result A Outcome) → IsLaterShelf a b → IfErr r (Shows b c) → IfErr r (Shows a c)
cause_since a b c (Ok x) h s = tt
cause_since a b c (Err o) h s = shows_since a b c o h s

later_both : (a b c : ShelfState) → IsLaterShelf a b → IsLaterShelf b c → IsLaterShelf a c
later_both a b c h k = record {
  files = k.files ∙ h.files;
  faults = (let x = h.faults in let y = k.faults in omega (arith, x, y));
  given = (let x = h.given in let y = k.given in omega (arith, x, y));
}

-- the first question was answered, and its value went to the second
pub continued : {A B : Type 0} (first : List File → Result A Outcome → Type 0) (second : List File → A → Result B Outcome → Type 0) (a b c : ShelfState) (x : A) (r : Result B Outcome) → Answers first a b (Ok x) → Answers (λ files. second files x) b c r → Answers (λ files. Then (first files) (second files)) a c r
continued first second a b c x r h k = record {
  later = later_both a b c h.later k.later;
  cause = cause_since a b c r h.later k.cause;
  ruled = under_any _ _ r (λ q. told_both a.files _ _ _ (λ files p q. goes x p q) h.ruled (rw h.later.files at q)) k.ruled;
}

no_bytes : (a : ShelfState) (what : Counted) (most : ℕ) → CountsNoBytes what → ShowsLimit a a what most
no_bytes a PipelineBytes most h = absurd h
no_bytes a DataBytes most h = absurd h
no_bytes a Records most h = tt
no_bytes a RangeItems most h = tt
no_bytes a FlatMapItems most h = tt
no_bytes a ScanItems most h = tt

inner_shows : {A : Type 0} (a : ShelfState) (r : Result A Outcome) → IfErr r IsInner → IfErr r (Shows a a)
inner_shows a (Ok x) h = tt
inner_shows a (Err Done) h = h
inner_shows a (Err Usage) h = h
inner_shows a (Err (BadPipeline line kind)) h = h
inner_shows a (Err (BadData at kind)) h = h
inner_shows a (Err ReadFault) h = absurd h
inner_shows a (Err WriteFault) h = h
inner_shows a (Err (Limit what count most)) h = no_bytes a what most h
inner_shows a (Err Memory) h = h
inner_shows a (Err (Fault stage row kind)) h = h

-- a call that sees no shelf, as an answer over one
pub lifted : {A : Type 0} (rule : Result A Outcome → Type 0) (a : ShelfState) (r : Result A Outcome) → Decides rule r → Answers (λ files. rule) a a r
lifted rule a r h = record {
  later = record { files = refl; faults = omega arith; given = omega arith };
  cause = inner_shows a r h.inner;
  ruled = under_any _ _ r (λ p. told_const a.files _ p) h.ruled;
}

-- the outcome of a refused answer is not that of unlawful words
pub refused_lawful : {A : Type 0} (rule : List File → Result A Outcome → Type 0) (a b : ShelfState) (o : Outcome) → Answers rule a b (Err o) → o ≢ Usage
refused_lawful rule a b Done h e = cc e
refused_lawful rule a b Usage h e = h.cause
refused_lawful rule a b (BadPipeline line kind) h e = cc e
refused_lawful rule a b (BadData at kind) h e = cc e
refused_lawful rule a b ReadFault h e = cc e
refused_lawful rule a b WriteFault h e = cc e
refused_lawful rule a b (Limit what count most) h e = cc e
refused_lawful rule a b Memory h e = cc e
refused_lawful rule a b (Fault stage row kind) h e = cc e

-- a call that gives the one answer of its rule
pub answered : {A : Type 0} (a x : A) → x ≡ a → Decides (λ r. r ≡ Ok a) (Ok x)
answered a x e = record { ruled = ap (λ z. Ok z) e; inner = tt }
