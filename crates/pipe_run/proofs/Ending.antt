-- How a run ends by what was answered and written.
use Rattle.std.specs.Prelude.{IfSome}
use Rattle.std.proofs.Common.{◌≡◌, ◌≢◌, refl, ap, ℕ, ◌⊎◌, inl, inr, Option, Some, None, Result, Ok, Err, arith, List}
use Rattle.par_edge.specs.Files.{File}
use Rattle.par_edge.specs.Shelves.{ShelfState}
use Rattle.par_edge.specs.Sinks.{SinkState, Appends, AppendsPart}
use Rattle.pipe_words.specs.Commands.{Asked as Command, Run, Check, IsWithinLimits}
use Rattle.pipe_run.specs.Rulings.{Answers}
use Rattle.pipe_run.specs.Outcomes.{status_of}
use Rattle.pipe_run.specs.Answers.{IsRunnable, IsRuling}
use Rattle.pipe_run.specs.Endings.{Ends, EndsBy, IsWrittenAs}
use Rattle.pipe_run.proofs.Deciding.{refused_lawful, told, told_const}
use Rattle.pipe_run.specs.declared.outcome.Outcome.{Outcome}
use Rattle.pipe_run.specs.declared.outcome.Outcome.TheVariants.{Done, Usage, BadPipeline, BadData, ReadFault, WriteFault, Limit, Memory, Fault}

module _ (rule : List File → Result (List ℕ) Outcome → Type 0) (a b : ShelfState) (out : SinkState) where
  by_refusal : (o : Outcome) → Answers rule a b (Err o) → EndsBy rule a b out out o
  by_refusal Done h = absurd h.cause
  by_refusal Usage h = absurd h.cause
  by_refusal (BadPipeline line kind) h = record { unwritten = refl; cause = h.cause; ruled = h.ruled }
  by_refusal (BadData at kind) h = record { unwritten = refl; cause = h.cause; ruled = h.ruled }
  by_refusal ReadFault h = record { unwritten = refl; cause = h.cause; ruled = tt }
  by_refusal WriteFault h = absurd h.cause
  by_refusal (Limit what count most) h = record { unwritten = refl; cause = h.cause; ruled = h.ruled }
  by_refusal Memory h = record { unwritten = refl; cause = h.cause; ruled = tt }
  by_refusal (Fault stage row kind) h = record { unwritten = refl; cause = h.cause; ruled = h.ruled }

  done : (text : List ℕ) (out' : SinkState) → Answers rule a b (Ok text) → Appends out out' text → Ends rule a b out out' Done
  done text out' h w = record { later = h.later; ended = told a.files _ _ (λ files r. record { text = text; ruled = r; written = w }) h.ruled }

  write_failed : (text : List ℕ) (out' : SinkState) → Answers rule a b (Ok text) → AppendsPart out out' text → Ends rule a b out out' WriteFault
  write_failed text out' h w = record { later = h.later; ended = (w.rose, told a.files _ _ (λ files r. record { text = text; ruled = r; written = w }) h.ruled) }

  -- a text that was answered was written, or refused
  pub ended : (out' : SinkState) (o : Outcome) (r : Result (List ℕ) Outcome) → Answers rule a b r → IsWrittenAs out out' o r → Ends rule a b out out' o
  ended out' o (Ok text) h w = elim w [
    | inl x ↦ rw x.0 (done text out' h x.1)
    | inr x ↦ rw x.0 (write_failed text out' h x.1)
  ]
  ended out' o (Err refused) h w = rw (w.0, w.1) (record { later = h.later; ended = by_refusal refused h })

  pub ended_lawful : (out' : SinkState) (o : Outcome) (r : Result (List ℕ) Outcome) → Answers rule a b r → IsWrittenAs out out' o r → o ≢ Usage
  ended_lawful out' o (Ok text) h w e = elim w [
    | inl x ↦ (let bad : Done ≡ Usage = rw x.0 at e in cc bad)
    | inr x ↦ (let bad : WriteFault ≡ Usage = rw x.0 at e in cc bad)
  ]
  ended_lawful out' o (Err refused) h w e = refused_lawful rule a b refused h (rw w.0 at e)

pub ends_usage : (asked : Option Command) (a : ShelfState) (out : SinkState) → asked ≡ None → Ends (IsRuling asked) a a out out Usage
ends_usage (Some asked) a out e = cc e
ends_usage None a out e = record {
  later = record { files = refl; faults = omega arith; given = omega arith };
  ended = record { unwritten = refl; cause = tt; ruled = told_const a.files _ refl };
}

pub ends_memory : (rule : List File → Result (List ℕ) Outcome → Type 0) (a : ShelfState) (out : SinkState) → Ends rule a a out out Memory
ends_memory rule a out = record {
  later = record { files = refl; faults = omega arith; given = omega arith };
  ended = record { unwritten = refl; cause = tt; ruled = tt };
}

pub usage_status : (o : Outcome) → status_of o ≡ 2 → o ≡ Usage
usage_status Done e = cc e
usage_status Usage e = refl
usage_status (BadPipeline line kind) e = cc e
usage_status (BadData at kind) e = cc e
usage_status ReadFault e = cc e
usage_status WriteFault e = cc e
usage_status (Limit what count most) e = cc e
usage_status Memory e = cc e
usage_status (Fault stage row kind) e = cc e

pub refused_status : (o : Outcome) → (o ≡ Usage) ⊎ (o ≡ Memory) → (status_of o ≡ 2) ⊎ (status_of o ≡ 8)
refused_status o (inl e) = inl (ap status_of e)
refused_status o (inr e) = inr (ap status_of e)

-- the numbers of a lawful command
pub runnable : (command : Command) (asked : Option Command) → Some command ≡ asked → IfSome asked IsWithinLimits → IsRunnable command
runnable (Run pipe table workers level audit) asked e h = let l = rw (← e) at h in l
runnable (Check pipe) asked e h = tt
