-- How a word looks to clap.
use Rattle.std.proofs.Common.{◌≡◌, ◌&&◌, ◌==◌, ◌++◌, ℕ, Bool, true, false, cond, [], ◌∷◌, Option, Some, None, option_and_then, bytes_eq, chars, encode_utf8_all, IsUtf8, slice_get, refl, subst, ◌∙◌, eqb-true}
use Rattle.std.specs.Char.{encode_utf8}
use Rattle.std.proofs.lemmas.Str.{IsUtf8-past_char, encodes-chars}
use Rattle.clap.specs.Lexer.{long_of, long_of_rest, short_of, short_of_rest, strip_byte}
use Rattle.pipe_words.specs.Parts.{Text, Look, Plain, End, Long, Short, after_dash, after_two_dashes, look_of}

-- what clap tests of the word: that it is `--`, its long form and its short form
abbrev pub Looks : Bool → Option (Text × Option Text) → Option Text → Look → Type 0
Looks both long short Plain = (both ≡ false) × (long ≡ None) × (short ≡ None)
Looks both long short End = both ≡ true
Looks both long short (Long name value) = (both ≡ false) × (long ≡ Some (name, value))
Looks both long short Short = (both ≡ false) × (long ≡ None) × (x : ℕ) × (xs : Text) × (short ≡ Some (x ∷ xs))

-- after a first character that is a hyphen or not, and then a second
two : (b : Bool) (c : ℕ) (cs : Text)
    → Looks (b && bytes_eq cs []) (option_and_then long_of_rest (cond b (Some cs) None)) (cond b None (Some (c ∷ cs))) (cond b (after_two_dashes cs) Short)
two true c [] = refl
two true c (x ∷ xs) = (refl, refl)
two false c cs = (refl, refl, c, cs, refl)

one : (b : Bool) (cs : Text)
    → Looks (b && bytes_eq cs (45 ∷ [])) (option_and_then long_of_rest (option_and_then (strip_byte 45) (cond b (Some cs) None)))
    (option_and_then short_of_rest (cond b (Some cs) None)) (cond b (after_dash cs) Plain)
one false cs = (refl, refl, refl)
one true [] = (refl, refl, refl)
one true (c ∷ cs) = two (c == 45) c cs

pub looks : (word : Text) → Looks (bytes_eq word (45 ∷ 45 ∷ [])) (long_of word) (short_of word) (look_of word)
looks [] = (refl, refl, refl)
looks (c ∷ cs) = one (c == 45) cs

has_first : (flags : Text) (x : ℕ) (xs : Text) → flags ≡ x ∷ xs → IsUtf8 flags → (c : ℕ) × (slice_get (chars flags) 0 ≡ Some c)
has_first flags x xs is utf8 = go (chars flags) (encodes-chars flags utf8)
  where
    go : (cs : Text) → encode_utf8_all cs ≡ flags → (c : ℕ) × (slice_get cs 0 ≡ Some c)
    go [] e = absurd (cc (e ∙ is))
    go (c ∷ cs) e = (c, refl)

hyphen_first : (c : ℕ) (cs : Text) → c ≡ 45 → c ∷ cs ≡ encode_utf8 c ++ cs
unfolding encode_utf8
hyphen_first c cs e = rw e refl

-- the characters of the short form
pub first_flag : (word : Text) (x : ℕ) (xs : Text) → short_of word ≡ Some (x ∷ xs) → IsUtf8 word → (c : ℕ) × (slice_get (chars (x ∷ xs)) 0 ≡ Some c)
first_flag [] x xs h utf8 = absurd (cc h)
first_flag (c ∷ cs) x xs h utf8 = go (c == 45) refl h
  where
    rest : (ds : Text) → cs ≡ ds → option_and_then short_of_rest (Some ds) ≡ Some (x ∷ xs) → ds ≡ x ∷ xs
    rest [] e h = absurd (cc h)
    rest (d ∷ ds) e h = second (d == 45) h
      where
        second : (b : Bool) → cond b None (Some (d ∷ ds)) ≡ Some (x ∷ xs) → d ∷ ds ≡ x ∷ xs
        second true h = absurd (cc h)
        second false h = cc h

    go : (b : Bool) → (c == 45) ≡ b → option_and_then short_of_rest (cond b (Some cs) None) ≡ Some (x ∷ xs) → (y : ℕ) × (slice_get (chars (x ∷ xs)) 0 ≡ Some y)
    go true e h =
        let is : cs ≡ x ∷ xs = rest cs refl h in
        let hyphen : c ≡ 45 = eqb-true c 45 e in
        has_first (x ∷ xs) x xs refl (subst IsUtf8 is (IsUtf8-past_char (c ∷ cs) cs c utf8 (hyphen_first c cs hyphen)))
    go false e h = absurd (cc h)
