-- What the loop of a whole write keeps.
use Rattle.std.proofs.Common.{◌≡◌, ◌∙◌, sym, ap, ℕ, ◌≤◌, List, [], ◌++◌, length, take, drop, Option, Some, None, refl, arith, append_assoc, append-nil}
use Rattle.std.proofs.lemmas.Grind.{common_steps}
use Rattle.par_edge.specs.Count.{Rose}
use Rattle.par_edge.specs.Sinks.{SinkState, Appends, AppendsPart, Takes, FailsToWrite, appended}

-- the first bytes were appended, and these are left
pub record HasWritten (before now : SinkState) (bytes rest : List ℕ) : Type 0 where
  pub done : List ℕ
  pub whole : done ++ rest ≡ bytes
  pub appends : Appends before now done

pub appended-twice : (first second : List ℕ) (written : Option (List ℕ)) → appended second (appended first written) ≡ appended (first ++ second) written
appended-twice first second None = refl
appended-twice first second (Some earlier) = ap (λ w. Some w) (append_assoc earlier first second)

pub appended-nil : (written : Option (List ℕ)) → appended [] written ≡ written
appended-nil None = refl
appended-nil (Some earlier) = ap (λ w. Some w) (append-nil earlier)

pub begun : (state : SinkState) (bytes : List ℕ) → HasWritten state state bytes bytes
begun state bytes = record { done = []; whole = refl; appends = record { written = sym (appended-nil state.written); faults = omega arith } }

-- one write more
pub goes_on : (before now after : SinkState) (bytes rest left : List ℕ) (count : ℕ) → HasWritten before now bytes rest → Takes now after rest count → left ≡ drop count rest → HasWritten before after bytes left
goes_on before now after bytes rest left count w t is =
    rw is record {
      done = w.done ++ take count rest;
      whole = let parts : take count rest ++ drop count rest ≡ rest = grind (arith, common_steps) in append_assoc w.done (take count rest) (drop count rest) ∙ rw parts w.whole;
      appends = record {
        written = t.appends.written ∙ ap (λ s. appended (take count rest) s) w.appends.written ∙ appended-twice w.done (take count rest) before.written;
        faults = let first : before.faults ≤ now.faults = w.appends.faults in let second : now.faults ≤ after.faults = t.appends.faults in omega (arith, first, second);
      };
    }

-- nothing is left
pub ends : (before now : SinkState) (bytes rest : List ℕ) → HasWritten before now bytes rest → rest ≡ [] → Appends before now bytes
ends before now bytes rest w none = let all : w.done ≡ bytes = sym (append-nil w.done) ∙ rw none at w.whole in rw (sym all) w.appends

-- a write failed
pub breaks_off : (before now after : SinkState) (bytes rest : List ℕ) → HasWritten before now bytes rest → FailsToWrite now after → AppendsPart before after bytes
breaks_off before now after bytes rest w f =
    record {
      count = length w.done;
      written = let first : take (length w.done) bytes ≡ w.done = rw (sym w.whole) (grind (arith, common_steps)) in f.written ∙ w.appends.written ∙ ap (λ b. appended b before.written) (sym first);
      rose = let kept : before.faults ≤ now.faults = w.appends.faults in let rose : Rose now.faults after.faults = f.rose in omega (arith, kept, rose);
    }
