-- From line to line.
use Rattle.std.proofs.Common.{◌≡◌, ◌+◌, ◌∷◌, ◌++◌, ◌∙◌, ◌⊎◌, sym, refl, ap, inl, inr, ℕ, suc, List, [], length, map, append_assoc, append-nil, ◌<◌, arith, Option, Some, None, Result, Ok, Err, IfOk}
use Rattle.std.specs.Prelude.{option_map}
use Rattle.std.specs.Str.Lines.{lines}
use Rattle.pipe_text.specs.declared.line.LineFault.{LineFault}
use Rattle.pipe_text.specs.declared.line.LineFault.TheVariants as faults
use Rattle.pipe_text.specs.declared.lexeme.Lexeme.{Lexeme}
use Rattle.pipe_text.specs.Token.{Lex, views}
use Rattle.pipe_text.specs.Line.{ReadsAs}
use Rattle.pipe_text.specs.Line as line_specs
use Rattle.pipe_tokens.specs.Meaning.{all_meant}
use Rattle.pipe_steps.specs.declared.line.Line.{Line}
use Rattle.pipe_steps.specs.Said.{Said, view}
use Rattle.pipe_checks.specs.declared.standing.Place.{Place}
use Rattle.pipe_checks.specs.declared.fault.LineStop.{LineStop}
use Rattle.pipe_checks.specs.declared.fault.LineStop.TheVariants as lines_stop
use Rattle.pipe_checks.specs.Places.{Spot, Accepts, IsRefused, next, start}
use Rattle.pipe_program.specs.declared.refusal.ParseStop.{ParseStop}
use Rattle.pipe_program.specs.declared.refusal.ParseStop.TheVariants as stops
use Rattle.pipe_program.specs.declared.pipeline.Pipeline.{Pipeline}
use Rattle.pipe_program.specs.Plans.{plan}
use Rattle.pipe_program.specs.Parts.{Parts, no_parts, whole, with_line}
use Rattle.pipe_program.specs.Reading.{Says, ReadsFrom, RefusedFrom, RefusesLine, AreSaid, Reads, IsRefusedText, Stops, StopsLine, Takes, early_as, late_as}
use Rattle.pipe_program.proofs.Order.{Ordered, admitted, ended_whole, not_ended, nothing_yet, one_more}

-- ---- one line

pub early_stops : (p : Spot) (line : List ℕ) (n : ℕ) (e : LineFault) → line_specs.IsRefused line e → StopsLine p line n (early_as n e)
early_stops p line n faults.Utf8 h = (refl, inl (faults.Utf8, (λ q. cc q), h, refl))
early_stops p line n faults.Token h = (refl, inl (faults.Token, (λ q. cc q), h, refl))
early_stops p line n faults.Long h = (refl, inl (faults.Long, (λ q. cc q), h, refl))
early_stops p line n faults.Memory h = tt

pub late_stops : (p : Spot) (line : List ℕ) (n : ℕ) (us : List Lex) (e : LineStop) → ReadsAs line us → (us ≡ [] → ⊥) → IsRefused p e (all_meant p.version us) → StopsLine p line n (late_as n e)
late_stops p line n [] e r full h = absurd (full refl)
late_stops p line n (u ∷ us) (lines_stop.Fault k) r full h = (refl, inr (u, us, k, r, h, refl))
late_stops p line n (u ∷ us) lines_stop.Memory r full h = tt

pub says : (p : Spot) (line : List ℕ) (us : List Lex) (y : Said) → ReadsAs line us → (us ≡ [] → ⊥) → Accepts p y (all_meant p.version us) → Says p line y
says p line [] y r full h = absurd (full refl)
says p line (u ∷ us) y r full h = (u, us, r, h)

-- ---- what is left from here on, and how it bears on the whole

-- these lines were before; what reads and what is refused from here on, reads and is refused from the start; and the parts of a plan so far are those of the lines before
abbrev pub Bears : List ℕ → Spot → ℕ → List ℕ → Parts → Type 0
Bears text p n rest d = (before : List Said)
    × (n + length (lines rest) ≡ suc (length (lines text)))
    × ((ys : List Said) → ReadsFrom p (lines rest) ys → AreSaid text (before ++ ys))
    × ((at kind : ℕ) → RefusedFrom p n (lines rest) at kind → IsRefusedText text at kind)
    × Ordered p d before

pub bears_all : (text : List ℕ) (p : Spot) (d : Parts) → p ≡ start → d ≡ no_parts → Bears text p 1 text d
bears_all text p d e g = ([], omega arith, (λ ys r. rw e at r), (λ at kind r. rw e at r), rw (e, g) nothing_yet)

pub stops_here : (text rest line behind : List ℕ) (p : Spot) (n : ℕ) (d : Parts) (e : ParseStop) → lines rest ≡ line ∷ lines behind → Bears text p n rest d → StopsLine p line n e → Stops text e
stops_here text rest line behind p n d (stops.Refused r) w b h = b.3 r.line r.kind (rw w (inl (h.0, h.1)))
stops_here text rest line behind p n d stops.Memory w b h = tt

bears_silent : (text rest line behind : List ℕ) (p : Spot) (n : ℕ) (d : Parts) → lines rest ≡ line ∷ lines behind → Bears text p n rest d → ReadsAs line [] → Bears text p (suc n) behind d
bears_silent text rest line behind p n d w b h = (
  b.0,
  omega (arith, ap length w, b.1),
  (λ ys r. b.2 ys (rw w (inl (h, r)))),
  (λ at kind r. b.3 at kind (rw w (inr (inl (h, r))))),
  b.4,
)

bears_said : (text rest line behind : List ℕ) (p : Spot) (n : ℕ) (d : Parts) (y : Said) → lines rest ≡ line ∷ lines behind → Bears text p n rest d → Says p line y → Bears text (next p y) (suc n) behind (with_line d y)
bears_said text rest line behind p n d y w b h = (
  b.0 ++ y ∷ [],
  omega (arith, ap length w, b.1),
  (λ ys r. rw (append_assoc b.0 (y ∷ []) ys) (b.2 (y ∷ ys) (rw w (inr (y, ys, h, r, refl))))),
  (λ at kind r. b.3 at kind (rw w (inr (inr (y, h, r))))),
  one_more p d b.0 y b.4 (admitted p line y h),
)

pub bears_more : (text rest line behind : List ℕ) (p q : Spot) (n : ℕ) (d e : Parts) → lines rest ≡ line ∷ lines behind → Bears text p n rest d → Takes p line d q e → Bears text q (suc n) behind e
bears_more text rest line behind p q n d e w b t = elim t [
  | inl h ↦ rw (h.1, h.2) (bears_silent text rest line behind p n d w b h.0)
  | inr h ↦ rw (h.2, h.3) (bears_said text rest line behind p n d h.0 w b h.1)
]

pub ends_read : (text rest : List ℕ) (p : Spot) (n : ℕ) (d : Parts) (w : Pipeline) → lines rest ≡ [] → Bears text p n rest d → option_map plan (Some w) ≡ whole d → Reads text (plan w)
ends_read text rest p n d w none b h =
    let e = ended_whole p d b.0 (plan w) b.4 (sym h) in
    (b.0, rw (append-nil b.0) at (b.2 [] (rw none (e.0, refl))), e.1)

pub ends_refused : (text rest : List ℕ) (p : Spot) (n : ℕ) (d : Parts) → lines rest ≡ [] → Bears text p n rest d → option_map plan None ≡ whole d → IsRefusedText text n 13
ends_refused text rest p n d none b h = b.3 n 13 (rw none (not_ended p d b.0 b.4 (sym h), refl, refl))

pub full_views : (ls : List Lexeme) → 0 < length ls → views ls ≡ [] → ⊥
full_views [] lt e = absurd (omega (arith, lt))
full_views (l ∷ ls) lt e = cc e
