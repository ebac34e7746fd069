-- One read takes the first of the records that are left.
use Rattle.std.proofs.Common.{◌≡◌, ◌+◌, ◌∙◌, sym, refl, ℕ, Bool, true, List, [], length, Option, Some, None}
use Rattle.std.specs.Borrow.{Bor}
use Rattle.csv.specs.Machine.{Read, next_record}
use Rattle.csv.specs.Reading.{NextIs, ReadRecord, ReadsNext, Ready, default_config, pending_of, records_from}
use Rattle.csv.specs.declared.parser.Config.{Config}
use Rattle.csv.specs.declared.parser.State.{State}
use Rattle.csv.specs.declared.reader.Reader.{Reader}
use Rattle.pipe_data.specs.Left.{IsNext, IsPlain, left, source}
use Rattle.pipe_data.proofs.Counts.{left_none, left_next}

abbrev from : Config → State → List ℕ → List (List (List ℕ))
from cfg s xs = records_from cfg (length xs + 1) s xs

told : (cfg : Config) (s s2 : State) (xs ys : List ℕ) (found : Bool) (fields : List (List ℕ)) (o : Option Read) → next_record cfg s [] [] xs ≡ o → NextIs o found fields s2 ys → IsNext found fields (from cfg s xs) (from cfg s2 ys)
told cfg s s2 xs ys found fields None e h = rw h (left_none cfg s xs (length xs + 1) e)
told cfg s s2 xs ys found fields (Some q) e h = rw (h.0, h.1, h.2, h.3) (left_next cfg s xs q e)

-- the bytes after a read, and the records left
pub read : (cfg : Config) (s s2 : State) (xs : List ℕ) (after : Option (List ℕ)) (found : Bool) (fields : List (List ℕ)) → ReadsNext cfg s (Some xs) after found fields s2 → (ys : List ℕ) × (after ≡ Some ys) × IsNext found fields (from cfg s xs) (from cfg s2 ys)
read cfg s s2 xs None found fields h = absurd h
read cfg s s2 xs (Some ys) found fields h = (ys, refl, told cfg s s2 xs ys found fields (next_record cfg s [] [] xs) refl h)

pending_source : (t : Reader (Bor (List ℕ))) → t.bom_checked ≡ true → pending_of (Some t.rdr.now) t ≡ source t
pending_source t h = rw h refl

pub after_read : (s t : Reader (Bor (List ℕ))) (found : Bool) (fields : List (List ℕ)) → IsPlain s → ReadRecord (λ b. Some b.now) s t found fields → Ready t → IsPlain t × IsNext found fields (left s) (left t)
after_read s t found fields p r ready =
    let next = read default_config s.state t.state p.bytes (pending_of (Some t.rdr.now) t) found fields (rw (p.format, p.goes) at r.0) in
    let goes : source t ≡ Some next.0 = sym (pending_source t r.1) ∙ next.1 in
    (record { plain = r.3 ∙ p.plain; ready = ready; format = r.2 ∙ p.format; bytes = next.0; goes = goes }, rw (p.goes, goes) next.2)
