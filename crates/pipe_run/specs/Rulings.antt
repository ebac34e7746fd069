-- A ruling is what a question may be answered: a value, or the outcome that refuses it.
use Rattle.std.specs.Prelude.{◌≡◌, ◌+◌, ℕ, List, Result, Ok, Err, IfErr}
use Rattle.par_edge.specs.Count.{Rose, RoseBy}
use Rattle.par_edge.specs.Files.{File, IfTold}
use Rattle.par_edge.specs.Shelves.{ShelfState, IsLaterShelf}
use Rattle.pipe_run.specs.declared.outcome.Counted.{Counted}
use Rattle.pipe_run.specs.declared.outcome.Counted.TheVariants.{PipelineBytes, DataBytes}
use Rattle.pipe_run.specs.declared.outcome.Outcome.{Outcome}
use Rattle.pipe_run.specs.declared.outcome.Outcome.TheVariants.{BadPipeline, BadData, ReadFault, WriteFault, Limit, Memory, Fault}

-- the first question is refused, or its value goes to the second
pub data Then {A B : Type 0} (first : Result A Outcome → Type 0) (second : A → Result B Outcome → Type 0) (r : Result B Outcome) : Type 0 where
  stops : (o : Outcome) → first (Err o) → r ≡ Err o → Then first second r
  goes : (a : A) → first (Ok a) → second a r → Then first second r

-- a fact of each outcome but those that rest on no ruling: faults and want of memory
abbrev pub UnlessFree : Outcome → Type 0 → Type 0
UnlessFree ReadFault P = Unit {0}
UnlessFree WriteFault P = Unit {0}
UnlessFree Memory P = Unit {0}
UnlessFree _ P = P

-- the same of a result: a fact of each value, and of each outcome that rests on a ruling
abbrev pub IfRuled : {A : Type 0} → Result A Outcome → Type 0 → Type 0
IfRuled (Ok a) P = P
IfRuled (Err o) P = UnlessFree o P

-- a limit counts no bytes of a file
abbrev pub CountsNoBytes : Counted → Type 0
CountsNoBytes PipelineBytes = ⊥
CountsNoBytes DataBytes = ⊥
CountsNoBytes _ = Unit {0}

-- an outcome of a call that sees no words, no shelf and no sink
abbrev pub IsInner : Outcome → Type 0
IsInner (BadPipeline line kind) = Unit {0}
IsInner (BadData at kind) = Unit {0}
IsInner (Limit what count most) = CountsNoBytes what
IsInner Memory = Unit {0}
IsInner (Fault stage row kind) = Unit {0}
IsInner _ = ⊥

-- a call that sees no words, no shelf and no sink answers by the ruling, or wants memory
pub record Decides {A : Type 0} (rule : Result A Outcome → Type 0) (r : Result A Outcome) : Type 0 where
  pub ruled : IfRuled r (rule r)
  pub inner : IfErr r IsInner

-- so many bytes came where a limit on bytes was passed
abbrev pub ShowsLimit : ShelfState → ShelfState → Counted → ℕ → Type 0
ShowsLimit before after PipelineBytes most = RoseBy (most + 1) before.given after.given
ShowsLimit before after DataBytes most = RoseBy (most + 1) before.given after.given
ShowsLimit before after what most = Unit {0}

-- what a shelf shows of an outcome of a call that sees no words and no sink
abbrev pub Shows : ShelfState → ShelfState → Outcome → Type 0
Shows before after ReadFault = Rose before.faults after.faults
Shows before after (Limit what count most) = ShowsLimit before after what most
Shows before after o = IsInner o

-- a call over a shelf answers by the ruling where the files are told, or for a cause that the shelf shows, or wants memory
pub record Answers {A : Type 0} (rule : List File → Result A Outcome → Type 0) (before after : ShelfState) (r : Result A Outcome) : Type 0 where
  pub later : IsLaterShelf before after
  pub cause : IfErr r (Shows before after)
  pub ruled : IfRuled r (IfTold before.files (λ files. rule files r))

-- a result with its value seen otherwise
abbrev pub ok_map : {A B E : Type 0} → (A → B) → Result A E → Result B E
ok_map f (Ok a) = Ok (f a)
ok_map f (Err e) = Err e
