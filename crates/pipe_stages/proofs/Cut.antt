-- How a text is cut at a separator's first occurrence.
use Rattle.std.proofs.Common.{◌≡◌, ℕ, suc, ◌+◌, ◌-◌, ◌<◌, ◌≢◌, true, false, Bool, cond, inl, inr, ◌&&◌, List, [], ◌∷◌, ◌++◌, length, drop, refl, ap, sym, ◌∙◌, subst, arith, length-append, append-nil}
use Rattle.std.specs.Prelude.{encode_utf8_all, take, None}
use Rattle.std.specs.Char.{encode_utf8}
use Rattle.std.specs.Str.{IsUtf8, chars}
use Rattle.std.specs.Str.Pattern.{FindsText, LacksTextAt, SplitsAroundMatch}
use Rattle.std.proofs.lemmas.Bool.{eq-eqb, false≢true}
use Rattle.std.proofs.lemmas.Bool.Decides.{eqb_tells}
use Rattle.std.proofs.lemmas.Str.{chars-append, encodes-append, encodes-chars, length-le-encodes}
use Rattle.std.proofs.lemmas.List.{take-append-drop}
use Rattle.pipe_stages.specs.Pieces.{begins, onto_first, pieces, pieces_after}

-- ---- characters

begins_itself : (sep rest : List ℕ) → begins sep (sep ++ rest) ≡ true
begins_itself [] rest = refl
begins_itself (c ∷ sep) rest = rw (eq-eqb c c refl) (begins_itself sep rest)

-- what follows the separator
begins_parts : (sep text : List ℕ) → begins sep text ≡ true → (rest : List ℕ) × (text ≡ sep ++ rest)
begins_parts [] text h = (text, refl)
begins_parts (c ∷ sep) [] h = absurd (false≢true h)
begins_parts (c ∷ sep) (d ∷ text) h =
    elim (eqb_tells c d) [
      | inl e ↦
          let r = begins_parts sep text (subst (λ t. (t && begins sep text) ≡ true) e.0 h) in
          (r.0, ap (λ x. x ∷ text) (sym e.1) ∙ ap (λ l. c ∷ l) r.1)
      | inr e ↦ absurd (false≢true (subst (λ t. (t && begins sep text) ≡ true) e.0 h))
    ]

skipped : (sep front rest : List ℕ) → pieces_after sep (length front) (front ++ rest) ≡ pieces sep rest
skipped sep [] rest = refl
skipped sep (c ∷ front) rest = skipped sep front rest

-- the separator begins at no character of the front
abbrev pub Free : List ℕ → List ℕ → List ℕ → Type 0
Free sep [] after = Unit {0}
Free sep (c ∷ front) after = (begins sep (c ∷ front ++ after) ≡ false) × Free sep front after

at_separator : (c : ℕ) (sep rest : List ℕ) → pieces (c ∷ sep) (c ∷ sep ++ rest) ≡ [] ∷ pieces (c ∷ sep) rest
at_separator c sep rest =
    let e : length (c ∷ sep) - 1 ≡ length sep = omega arith in
    let t : begins (c ∷ sep) (c ∷ sep ++ rest) ≡ true = begins_itself (c ∷ sep) rest in
    ap (λ b. cond b ([] ∷ pieces_after (c ∷ sep) (length (c ∷ sep) - 1) (sep ++ rest)) (onto_first c (pieces_after (c ∷ sep) 0 (sep ++ rest)))) t
    ∙ ap (λ l. [] ∷ l) (ap (λ n. pieces_after (c ∷ sep) n (sep ++ rest)) e ∙ skipped (c ∷ sep) sep rest)

-- the first piece, and those after the separator
pub cut_there : (sep front rest : List ℕ) → sep ≢ [] → Free sep front (sep ++ rest) → pieces sep (front ++ (sep ++ rest)) ≡ front ∷ pieces sep rest
cut_there [] [] rest some free = absurd (some refl)
cut_there (d ∷ sep) [] rest some free = at_separator d sep rest
cut_there sep (c ∷ front) rest some free = rw free.0 (ap (onto_first c) (cut_there sep front rest some free.1))

-- a text without the separator is its own piece
pub uncut : (sep text : List ℕ) → Free sep text [] → pieces sep text ≡ text ∷ []
uncut sep [] free = refl
uncut sep (c ∷ text) free =
    let none : begins sep (c ∷ text) ≡ false = subst (λ t. begins sep (c ∷ t) ≡ false) (append-nil text) free.0 in
    rw none (ap (onto_first c) (uncut sep text free.1))

-- ---- bytes

no_more : (sep text : List ℕ) (t : Bool) → begins sep text ≡ t → LacksTextAt (encode_utf8_all sep) (encode_utf8_all text) 0 → t ≡ false
no_more sep text false e h = refl
no_more sep text true e h =
    let r = begins_parts sep text e in
    absurd (h (encode_utf8_all r.0) (ap encode_utf8_all r.1 ∙ encodes-append sep r.0))

drop_past : (front rest : List ℕ) (i : ℕ) → drop (length front + i) (front ++ rest) ≡ drop i rest
drop_past [] rest i = let e : 0 + i ≡ i = omega arith in rw e refl
drop_past (b ∷ front) rest i = let e : suc (length front) + i ≡ suc (length front + i) = omega arith in rw e (drop_past front rest i)

-- where the separator's bytes don't begin, its characters don't
free_of :
    (sep front after : List ℕ) → ((i : ℕ) → i < length (encode_utf8_all front) → LacksTextAt (encode_utf8_all sep) (encode_utf8_all (front ++ after)) i) → Free sep front after
free_of sep [] after h = tt
free_of sep (c ∷ front) after h = (
  no_more sep (c ∷ front ++ after) (begins sep (c ∷ front ++ after)) refl (h 0 (omega (arith, length-le-encodes (c ∷ front)))),
  free_of sep front after
      (λ i l rest e. h (length (encode_utf8 c) + i) (omega (arith, l, length-append (encode_utf8 c) (encode_utf8_all front))) rest (drop_past (encode_utf8 c) (encode_utf8_all (front ++ after)) i ∙ e)),
)

some_characters : (bytes : List ℕ) → IsUtf8 bytes → bytes ≢ [] → chars bytes ≢ []
some_characters bytes text some none = some (sym (encodes-chars bytes text) ∙ ap encode_utf8_all none)

module _ (separator text : List ℕ) (cutter : IsUtf8 separator) (whole : IsUtf8 text) where
  -- the characters before the first occurrence are the first piece
  pub first_piece :
      (piece rest : List ℕ) → IsUtf8 piece → separator ≢ [] → SplitsAroundMatch (FindsText separator) text piece rest →
      pieces (chars separator) (chars text) ≡ chars piece ∷ pieces (chars separator) (chars rest)
  first_piece piece rest before some h =
      let parts : text ≡ piece ++ (separator ++ rest) = sym (take-append-drop h.0 text) ∙ (ap (λ l. take h.0 text ++ l) h.2.1.split ∙ (λ k. sym h.3 k ++ (separator ++ sym h.4 k))) in
      let spelled : chars text ≡ chars piece ++ (chars separator ++ chars rest) = ap chars parts ∙ (chars-append piece (separator ++ rest) before ∙ ap (λ l. chars piece ++ l) (chars-append separator rest cutter)) in
      let lacks : (i : ℕ) → i < length (encode_utf8_all (chars piece)) → LacksTextAt (encode_utf8_all (chars separator)) (encode_utf8_all (chars piece ++ (chars separator ++ chars rest))) i =
      λ i l. subst (λ s. LacksTextAt s (encode_utf8_all (chars piece ++ (chars separator ++ chars rest))) i) (sym (encodes-chars separator cutter))
      (subst (λ s. LacksTextAt separator s i) (sym (encodes-chars text whole) ∙ ap encode_utf8_all spelled) (h.2.0 i (omega (arith, l, ap length (encodes-chars piece before), h.6)))) in
      ap (pieces (chars separator)) spelled
      ∙ cut_there (chars separator) (chars piece) (chars rest) (some_characters separator cutter some) (free_of (chars separator) (chars piece) (chars separator ++ chars rest) lacks)

  -- a text without an occurrence is its own piece
  pub last_piece : FindsText separator text None → pieces (chars separator) (chars text) ≡ chars text ∷ []
  last_piece h =
      let lacks : (i : ℕ) → i < length (encode_utf8_all (chars text)) → LacksTextAt (encode_utf8_all (chars separator)) (encode_utf8_all (chars text ++ [])) i =
      λ i l. subst (λ s. LacksTextAt s (encode_utf8_all (chars text ++ [])) i) (sym (encodes-chars separator cutter))
      (subst (λ s. LacksTextAt separator s i) (sym (encodes-chars text whole) ∙ ap encode_utf8_all (sym (append-nil (chars text)))) (h i (omega (arith, l, ap length (encodes-chars text whole))))) in
      uncut (chars separator) (chars text) (free_of (chars separator) (chars text) [] lacks)
