-- Lines with their numbers.
use Rattle.std.proofs.Common.{◌≡◌, ◌<◌, ◌+◌, ◌∷◌, ◌++◌, ◌∙◌, ◌⊎◌, sym, refl, ap, subst, inl, inr, ℕ, suc, List, [], length, map, append_assoc, append-nil, arith}
use Rattle.std.specs.Str.Lines.{lines}
use Rattle.std.proofs.lemmas.List.{map-append}
use Rattle.pipe_text.specs.Line.{ReadsAs}
use Rattle.pipe_text.specs.declared.line.LineFault.{LineFault}
use Rattle.pipe_text.specs.declared.line.LineFault.TheVariants as faults
use Rattle.pipe_steps.specs.Said.{Said}
use Rattle.pipe_checks.specs.declared.fault.Fault.{Fault}
use Rattle.pipe_checks.specs.declared.fault.Fault.TheVariants as f
use Rattle.pipe_checks.specs.Places.{Spot, next, rank, start}
use Rattle.pipe_program.specs.declared.numbered.Numbered.{Numbered}
use Rattle.pipe_program.specs.declared.refusal.ParseStop.{ParseStop}
use Rattle.pipe_program.specs.declared.refusal.ParseStop.TheVariants as stops
use Rattle.pipe_program.specs.Reading.{AreNumbered, IsOfLine, IsRefusedText, Notes, NumberedFrom, ReadsFrom, RefusedFrom, RefusesLine, Says, Stops, StopsLine, early, numbered}
use Rattle.pipe_program.proofs.Settled.{Laws, same_saying, silent_says}

-- ---- what is left from here on, and how it bears on the whole

pub record IsBehind (text : List ℕ) (p : Spot) (n : ℕ) (rest : List ℕ) (before : List (ℕ × Said)) : Type 0 where
  pub count : n + length (lines rest) ≡ suc (length (lines text))
  pub said : (zs : List (ℕ × Said)) → NumberedFrom p n (lines rest) zs → AreNumbered text (before ++ zs)
  pub refused : (at kind : ℕ) → RefusedFrom p n (lines rest) at kind → IsRefusedText text at kind

pub behind_none : (text : List ℕ) (p : Spot) → p ≡ start → IsBehind text p 1 text []
behind_none text p e = record { count = omega arith; said = λ zs h. rw e at h; refused = λ at kind h. rw e at h }

pub behind_stop : (text rest line behind : List ℕ) (p : Spot) (n : ℕ) (zs : List (ℕ × Said)) (e : ParseStop) → lines rest ≡ line ∷ lines behind → IsBehind text p n rest zs → StopsLine p line n e → Stops text e
behind_stop text rest line behind p n zs (stops.Refused r) w b h = b.refused r.line r.kind (rw w (inl (h.0, h.1)))
behind_stop text rest line behind p n zs stops.Memory w b h = tt

-- ---- the refusals of lines have kinds below 13

early_below : (e : LineFault) → early e < 13
early_below faults.Utf8 = omega arith
early_below faults.Token = omega arith
early_below faults.Long = omega arith
early_below faults.Memory = omega arith

rank_below : (k : Fault) → rank k < 13
rank_below f.Step = omega arith
rank_below f.Shape = omega arith
rank_below f.Number = omega arith
rank_below f.Depth = omega arith
rank_below f.Name = omega arith
rank_below f.Type = omega arith
rank_below f.Zero = omega arith
rank_below f.Columns = omega arith
rank_below f.Steps = omega arith

kind_below : (p : Spot) (line : List ℕ) (kind : ℕ) → RefusesLine p line kind → kind < 13
kind_below p line kind h = elim h [
  | inl g ↦ let below = early_below g.0 in omega (arith, g.3, below)
  | inr g ↦ let below = rank_below g.2 in omega (arith, g.5, below)
]

pub of_line : (p : Spot) (line : List ℕ) (n : ℕ) (e : ParseStop) → StopsLine p line n e → IsOfLine e
of_line p line n (stops.Refused r) h = λ q. let below = kind_below p line r.kind h.1 in omega (arith, q, below)
of_line p line n stops.Memory h = tt

pub behind_silent : (text rest line behind : List ℕ) (p : Spot) (n : ℕ) (zs : List (ℕ × Said)) → lines rest ≡ line ∷ lines behind → IsBehind text p n rest zs → ReadsAs line [] → IsBehind text p (suc n) behind zs
behind_silent text rest line behind p n zs w b h = record {
  count = omega (arith, ap length w, b.count);
  said = λ more r. b.said more (rw w (inl (h, r)));
  refused = λ at kind r. b.refused at kind (rw w (inr (inl (h, r))));
}

pub behind_said : (text rest line behind : List ℕ) (p : Spot) (n : ℕ) (zs : List (ℕ × Said)) (y : Said) → lines rest ≡ line ∷ lines behind → IsBehind text p n rest zs → Says p line y → IsBehind text (next p y) (suc n) behind (zs ++ (n, y) ∷ [])
behind_said text rest line behind p n zs y w b h = record {
  count = omega (arith, ap length w, b.count);
  said = λ more r. rw (append_assoc zs ((n, y) ∷ []) more) (b.said ((n, y) ∷ more) (rw w (inr (y, more, h, r, refl))));
  refused = λ at kind r. b.refused at kind (rw w (inr (inr (y, h, r))));
}

pub behind_more : (text rest line behind : List ℕ) (p q : Spot) (n : ℕ) (zs ws : List (ℕ × Said)) → lines rest ≡ line ∷ lines behind → IsBehind text p n rest zs → Notes p line n zs q ws → IsBehind text q (suc n) behind ws
behind_more text rest line behind p q n zs ws w b t = elim t [
  | inl h ↦ rw (h.1, h.2) (behind_silent text rest line behind p n zs w b h.0)
  | inr h ↦ rw (h.2, h.3) (behind_said text rest line behind p n zs h.0 w b h.1)
]

pub behind_all : (text rest : List ℕ) (p : Spot) (n : ℕ) (zs : List (ℕ × Said)) → lines rest ≡ [] → IsBehind text p n rest zs → AreNumbered text zs
behind_all text rest p n zs none b = rw (append-nil zs) at (b.said [] (rw none refl))

-- ---- they say what the text says

same_lines : Laws → (ls : List (List ℕ)) (p : Spot) (n : ℕ) (ys : List Said) (zs : List (ℕ × Said)) → ReadsFrom p ls ys → NumberedFrom p n ls zs → map (λ z. z.1) zs ≡ ys
same_lines laws [] p n ys zs a b = ap (λ (x : List (ℕ × Said)). map (λ z. z.1) x) b ∙ sym a.1
same_lines laws (line ∷ ls) p n ys zs a b = elim a [
  | inl h ↦ elim b [
    | inl g ↦ same_lines laws ls p (suc n) ys zs h.1 g.1
    | inr g ↦ absurd (silent_says laws p line g.0 h.0 g.2)
  ]
  | inr h ↦ elim b [
    | inl g ↦ absurd (silent_says laws p line h.0 g.0 h.2)
    | inr g ↦
        let same = same_saying laws p line g.0 h.0 g.2 h.2 in
        let more : NumberedFrom (next p h.0) (suc n) ls g.1 = subst (λ (y : Said). NumberedFrom (next p y) (suc n) ls g.1) same g.3 in
        ap (λ (x : List (ℕ × Said)). map (λ z. z.1) x) g.4 ∙ ap (λ (x : Said). x ∷ map (λ z. z.1) g.1) same ∙ ap (λ (x : List Said). h.0 ∷ x) (same_lines laws ls (next p h.0) (suc n) h.1 g.1 h.3 more) ∙ sym h.4
  ]
]

pub numbered_same : Laws → (text : List ℕ) (ys : List Said) (zs : List (ℕ × Said)) → ReadsFrom start (lines text) ys → AreNumbered text zs → map (λ z. z.1) zs ≡ ys
numbered_same laws text ys zs a b = same_lines laws (lines text) start 1 ys zs a b

-- ---- a text has one numbering

one_list : Laws → (ls : List (List ℕ)) (p : Spot) (n : ℕ) (zs ws : List (ℕ × Said)) → NumberedFrom p n ls zs → NumberedFrom p n ls ws → zs ≡ ws
one_list laws [] p n zs ws a b = a ∙ sym b
one_list laws (line ∷ ls) p n zs ws a b = elim a [
  | inl h ↦ elim b [
    | inl g ↦ one_list laws ls p (suc n) zs ws h.1 g.1
    | inr g ↦ absurd (silent_says laws p line g.0 h.0 g.2)
  ]
  | inr h ↦ elim b [
    | inl g ↦ absurd (silent_says laws p line h.0 g.0 h.2)
    | inr g ↦
        let same = same_saying laws p line g.0 h.0 g.2 h.2 in
        let more : NumberedFrom (next p h.0) (suc n) ls g.1 = subst (λ (y : Said). NumberedFrom (next p y) (suc n) ls g.1) same g.3 in
        h.4 ∙ ap (λ (x : List (ℕ × Said)). (n, h.0) ∷ x) (one_list laws ls (next p h.0) (suc n) h.1 g.1 h.3 more) ∙ ap (λ (x : Said). (n, x) ∷ g.1) (sym same) ∙ sym g.4
  ]
]

pub one_numbering : Laws → (text : List ℕ) (zs ws : List (ℕ × Said)) → AreNumbered text zs → AreNumbered text ws → zs ≡ ws
one_numbering laws text zs ws a b = one_list laws (lines text) start 1 zs ws a b
