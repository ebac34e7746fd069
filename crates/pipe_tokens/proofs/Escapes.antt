-- Reading escapes from character to character.
use Rattle.std.proofs.Common.{◌≡◌, ◌==◌, ◌∷◌, ◌++◌, ◌∙◌, sym, refl, ap, ℕ, List, [], length, Bool, true, false, chars, encode_utf8, encode_utf8_all, append-nil, append_assoc, IsUtf8}
use Rattle.std.proofs.lemmas.Str.{encodes-chars, encodes-append, cons_from_encodes, chars_from_encodes, chars-nil, IsUtf8-nil}
use Rattle.std.proofs.lemmas.List.{nil_from_length}
use Rattle.std.proofs.lemmas.Bool.{cases_Bool}
use Rattle.pipe_tokens.specs.Meaning.{escape_of, unescaped}

-- so much is done, and the rest is to come
abbrev pub Reading : List ℕ → List ℕ → Bool → List ℕ → Type 0
Reading out rest escaped all = (to_come : List ℕ) × (done : List ℕ) × (encode_utf8_all to_come ≡ rest) × (out ≡ encode_utf8_all done) × (done ++ unescaped escaped to_come ≡ all)

pub reading_begins : (text out : List ℕ) → IsUtf8 text → out ≡ [] → Reading out text false (unescaped false (chars text))
reading_begins text out u e = (chars text, [], encodes-chars text u, e, refl)

one : (c : ℕ) → encode_utf8_all (c ∷ []) ≡ encode_utf8 c
one c = append-nil (encode_utf8 c)

pub reading_escape : (out rest next all new : List ℕ) (c d : ℕ) → Reading out rest true all → rest ≡ encode_utf8 c ++ next → d ≡ escape_of c → new ≡ out ++ encode_utf8 d → Reading new next false all
reading_escape out rest next all new c d r e is w =
    let m = cons_from_encodes r.0 next c (r.2 ∙ e) in (
      m.0,
      r.1 ++ d ∷ [],
      m.2,
      w ∙ ap (λ (x : List ℕ). x ++ encode_utf8 d) r.3 ∙ sym (encodes-append r.1 (d ∷ []) ∙ ap (λ (x : List ℕ). encode_utf8_all r.1 ++ x) (one d)),
      append_assoc r.1 (d ∷ []) (unescaped false m.0) ∙ ap (λ (x : ℕ). r.1 ++ x ∷ unescaped false m.0) is ∙ (rw m.1 at r.4),
    )

slashed : (done es all : List ℕ) (c : ℕ) → c ≡ 92 → done ++ unescaped false (c ∷ es) ≡ all → done ++ unescaped true es ≡ all
slashed done es all c is h = rw is at h

pub reading_slash : (out rest next all : List ℕ) (c : ℕ) → Reading out rest false all → rest ≡ encode_utf8 c ++ next → c ≡ 92 → Reading out next true all
reading_slash out rest next all c r e is =
    let m = cons_from_encodes r.0 next c (r.2 ∙ e) in (m.0, r.1, m.2, r.3, slashed r.1 m.0 all c is (rw m.1 at r.4))

pub reading_plain : (out rest next all new : List ℕ) (c : ℕ) → Reading out rest false all → rest ≡ encode_utf8 c ++ next → (c == 92) ≡ false → new ≡ out ++ encode_utf8 c → Reading new next false all
reading_plain out rest next all new c r e is w =
    let m = cons_from_encodes r.0 next c (r.2 ∙ e) in (
      m.0,
      r.1 ++ c ∷ [],
      m.2,
      w ∙ ap (λ (x : List ℕ). x ++ encode_utf8 c) r.3 ∙ sym (encodes-append r.1 (c ∷ []) ∙ ap (λ (x : List ℕ). encode_utf8_all r.1 ++ x) (one c)),
      append_assoc r.1 (c ∷ []) (unescaped false m.0) ∙ (rw (m.1, is) at r.4),
    )

pub reading_ends : (out rest all : List ℕ) (escaped : Bool) → Reading out rest escaped all → length rest ≡ 0 → IsUtf8 out → chars out ≡ all
reading_ends out rest all escaped r z u =
    let none : rest ≡ [] = nil_from_length rest z in
    let left : r.0 ≡ [] = chars_from_encodes r.0 [] IsUtf8-nil (r.2 ∙ none) ∙ chars-nil in
    sym (chars_from_encodes r.1 out u (sym r.3)) ∙ sym (append-nil r.1) ∙ (rw left at r.4)
