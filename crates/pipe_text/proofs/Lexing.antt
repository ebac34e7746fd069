-- Tokens from left to right are the tokens of the line.
use Rattle.std.proofs.Common.{◌⊎◌, ◌≡◌, ◌≤◌, ◌<◌, ◌+◌, ◌-◌, ◌∷◌, ◌++◌, ◌∙◌, sym, refl, ap, inl, inr, ℕ, zero, suc, List, [], length, take, drop, Option, Some, None, slice_get, arith, append_assoc, append-nil, true, false, get_or, drop-cons, length-append, length-drop}
use Rattle.std.specs.List.{list_all, prefix_len}
use Rattle.std.specs.Prelude.{nat_lt}
use Rattle.std.proofs.lemmas.Bool.{cases_Bool, ltb-true}
use Rattle.std.proofs.Math.ListN.{drop_of_length-le}
use Rattle.std.proofs.lemmas.List.{length-take-le, take-append-le}
use Rattle.pipe_text.specs.declared.lexeme.Symbol.{Symbol}
use Rattle.pipe_text.specs.Token.{Lex, Word, Quoted, Digits, IsLex, IsLongest, Lexes, is_blank, is_digit, is_letter, is_name, is_word, spelled}
use Rattle.pipe_text.specs.Reading.{after, behind, body_at, first, first_symbol, front_of, is_next, joined, kept_more, lex, named, quoted_at, run, signed, symbols, texted, with_first}
use Rattle.pipe_text.proofs.Bytes.{and_true, cons_inj, drop_run, no_eq, some_inj, take_run, take_run_more}
use Rattle.pipe_text.proofs.Munch.{first_good, first_none, head_no_blank, lex_same, spelled_cons}

drop_front : (w rest : List ℕ) → drop (length w) (w ++ rest) ≡ rest
drop_front [] rest = refl
drop_front (c ∷ w) rest = drop_front w rest

pub skips : (n : ℕ) (xs : List ℕ) → lex n xs ≡ lex 0 (drop n xs)
unfolding lex
skips zero xs = refl
skips (suc n) [] = refl
skips (suc n) (c ∷ xs) = skips n xs

after_is : (o : Option Lex) (f : Lex → Option (List Lex)) (ts : List Lex) → after o f ≡ Some ts → (t : Lex) × (o ≡ Some t) × (f t ≡ Some ts)
after_is None f ts h = cc h
after_is (Some t) f ts h = (t, refl, h)

with_first_is : (t : Lex) (o : Option (List Lex)) (ts : List Lex) → with_first t o ≡ Some ts → (us : List Lex) × (o ≡ Some us) × (t ∷ us ≡ ts)
with_first_is t None ts h = cc h
with_first_is t (Some us) ts h = (us, refl, some_inj _ _ h)

more_blank : (c : ℕ) (r : List ℕ) (ts : List Lex) → is_blank c ≡ true → Lexes r ts → Lexes (c ∷ r) ts
more_blank c r [] b h = rw (b, h) refl
more_blank c r (t ∷ ts) b h =
    let (gap, rest, blank, splits, good, longest, more) = h in
    (c ∷ gap, rest, rw (b, blank) refl, ap (λ (x : List ℕ). c ∷ x) splits, good, longest, more)

-- what is behind a token
past : (t : Lex) (c : ℕ) (r rest : List ℕ) → IsLex t → c ∷ r ≡ spelled t ++ rest → drop (length (spelled t) - 1) r ≡ rest
past t c r rest l e =
    let (d, w, is) = spelled_cons t l in
    let s = cons_inj c d r (w ++ rest) (e ∙ ap (λ (x : List ℕ). x ++ rest) is) in
    let n : length (spelled t) - 1 ≡ length w = rw is (omega arith) in
    rw (n, s.1) (drop_front w rest)

pub sound : (xs : List ℕ) (n : ℕ) (ts : List Lex) → lex n xs ≡ Some ts → Lexes (drop n xs) ts
unfolding lex
sound [] zero ts h = let s : [] ≡ ts = some_inj _ _ h in rw (← s) refl
sound [] (suc n) ts h = let s : [] ≡ ts = some_inj _ _ h in rw (← s) refl
sound (c ∷ r) (suc n) ts h = sound r n ts h
sound (c ∷ r) zero ts h = elim (cases_Bool (is_blank c)) [
  | inl b ↦ more_blank c r ts b (sound r zero ts (rw b at h))
  | inr b ↦
      let (t, found, goes) = after_is (first c r) (λ t. with_first t (lex (length (spelled t) - 1) r)) ts (rw b at h) in
      let (us, rest_is, whole) = with_first_is t (lex (length (spelled t) - 1) r) ts goes in
      let f = first_good c r t found in
      let ih = sound r (length (spelled t) - 1) us rest_is in
      rw (← whole) ([], f.rest, refl, f.splits, f.good, f.longest, rw (past t c r f.rest f.good f.splits) at ih)
]

all_blank : (line : List ℕ) → list_all is_blank line ≡ true → lex 0 line ≡ Some []
unfolding lex
all_blank [] h = refl
all_blank (c ∷ r) h = let b = and_true (is_blank c) (list_all is_blank r) h in rw b.0 (all_blank r b.1)

gap_skip : (gap r : List ℕ) → list_all is_blank gap ≡ true → lex 0 (gap ++ r) ≡ lex 0 r
unfolding lex
gap_skip [] r h = refl
gap_skip (c ∷ gap) r h = let b = and_true (is_blank c) (list_all is_blank gap) h in rw b.0 (gap_skip gap r b.1)

cancel : (a b x y : List ℕ) → a ++ x ≡ b ++ y → length a ≡ length b → a ≡ b
cancel [] [] x y e n = refl
cancel [] (c ∷ b) x y e n = let bad : 0 ≡ suc (length b) = n in absurd (omega (arith, bad))
cancel (c ∷ a) [] x y e n = let bad : suc (length a) ≡ 0 = n in absurd (omega (arith, bad))
cancel (c ∷ a) (d ∷ b) x y e n =
    let h = cons_inj c d (a ++ x) (b ++ y) e in
    let m : suc (length a) ≡ suc (length b) = n in
    let t = cancel a b x y h.1 (omega (arith, m)) in
    rw (h.0, t) refl

-- the token that is longest is the one that is found
the_first : (t : Lex) (c : ℕ) (r rest : List ℕ) → IsLex t → IsLongest t rest → c ∷ r ≡ spelled t ++ rest → first c r ≡ Some t
the_first t c r rest l most e = go (first c r) refl
  where
    go : (o : Option Lex) → first c r ≡ o → o ≡ Some t
    go None h = absurd (first_none c r h t rest l e)
    go (Some u) h =
        let f = first_good c r u h in
        let same = sym e ∙ f.splits in
        let a = most u f.rest f.good same in
        let b = f.longest t rest l (sym same) in
        ap Some (lex_same u t f.good l (sym (cancel (spelled t) (spelled u) rest f.rest same (omega (arith, a, b)))))

token_step : (t : Lex) (rest : List ℕ) → IsLex t → IsLongest t rest → lex 0 (spelled t ++ rest) ≡ with_first t (lex 0 rest)
unfolding lex
token_step t rest l most =
    let (c, w, is) = spelled_cons t l in
    let e : c ∷ (w ++ rest) ≡ spelled t ++ rest = ap (λ (x : List ℕ). x ++ rest) (sym is) in
    let found = the_first t c (w ++ rest) rest l most e in
    let nb = head_no_blank t c (w ++ rest) rest l e in
    let back = skips (length (spelled t) - 1) (w ++ rest) ∙ ap (lex 0) (past t c (w ++ rest) rest l e) in
    rw (← e, nb, found, back) refl

pub complete : (ts : List Lex) (line : List ℕ) → Lexes line ts → lex 0 line ≡ Some ts
complete [] line h = all_blank line h
complete (t ∷ ts) line h =
    let (gap, rest, blank, splits, good, longest, more) = h in
    rw (splits, gap_skip gap (spelled t ++ rest) blank, token_step t rest good longest, complete ts rest more) refl

-- ---- the code's steps

pub front_word : (line : List ℕ) (c : ℕ) (rest : List ℕ) → line ≡ c ∷ rest → is_letter c ≡ true → Some (Word (take (prefix_len is_word rest + 1) line)) ≡ front_of line
unfolding first
front_word line c rest e l = rw (e, l, take_run_more is_word c rest) refl

pub front_digits : (line : List ℕ) (c : ℕ) (rest : List ℕ) → line ≡ c ∷ rest → is_letter c ≡ false → is_digit c ≡ true → Some (Digits (take (prefix_len is_digit rest + 1) line)) ≡ front_of line
unfolding first
front_digits line c rest e l d = rw (e, l, d, take_run_more is_digit c rest) refl

pub front_quoted : (line : List ℕ) (c : ℕ) (rest : List ℕ) → line ≡ c ∷ rest → c ≡ 96 → quoted_at rest ≡ front_of line
unfolding first
front_quoted line c rest e l = rw (e, l) refl

pub front_text : (line : List ℕ) (c : ℕ) (rest : List ℕ) → line ≡ c ∷ rest → c ≡ 34 → texted (body_at false rest) ≡ front_of line
unfolding first
front_text line c rest e l = rw (e, l) refl

-- the quoted name behind a backquote
pub quoted_empty : (rest : List ℕ) → prefix_len is_name rest ≡ 0 → None ≡ quoted_at rest
quoted_empty rest n = by (run is_name rest) (sym (take_run is_name rest) ∙ ap (λ k. take k rest) n) (cases_Bool (is_next (slice_get (behind is_name rest) 0) 96))
  where
    by : (q : List ℕ) → run is_name rest ≡ [] → (is_next (slice_get (behind is_name rest) 0) 96 ≡ true) ⊎ (is_next (slice_get (behind is_name rest) 0) 96 ≡ false) → None ≡ quoted_at rest
    by q e (inl b) = rw (b, e) refl
    by q e (inr b) = rw b refl

pub quoted_open : (rest : List ℕ) (n : ℕ) → n ≡ prefix_len is_name rest → is_next (slice_get (drop n rest) 0) 96 ≡ false → None ≡ quoted_at rest
quoted_open rest n e h = let b : is_next (slice_get (behind is_name rest) 0) 96 ≡ false = rw (e, drop_run is_name rest) at h in rw b refl

named_some : (q : List ℕ) → (length q ≡ 0 → ⊥) → Some (Quoted q) ≡ named q
named_some [] h = absurd (h refl)
named_some (c ∷ q) h = refl

pub quoted_found : (rest : List ℕ) (n : ℕ) → n ≡ prefix_len is_name rest → (n ≡ 0 → ⊥) → n ≤ length rest → is_next (slice_get (drop n rest) 0) 96 ≡ true → Some (Quoted (take n rest)) ≡ quoted_at rest
quoted_found rest n e some le h =
    let b : is_next (slice_get (behind is_name rest) 0) 96 ≡ true = rw (e, drop_run is_name rest) at h in
    let size : length (take n rest) ≡ n = length-take-le n rest le in
    let is : take n rest ≡ run is_name rest = rw e (take_run is_name rest) in
    rw (b, ← is) (named_some (take n rest) (λ z. some (sym size ∙ z)))

pub front_sign : (line : List ℕ) (c : ℕ) (rest : List ℕ) (o : Option Symbol) → line ≡ c ∷ rest → is_letter c ≡ false → is_digit c ≡ false → (c ≡ 96 → ⊥) → (c ≡ 34 → ⊥) → o ≡ first_symbol symbols c (slice_get rest 0) → signed o ≡ front_of line
unfolding first
front_sign line c rest o e l d q t m = rw (e, l, d, no_eq c 96 q, no_eq c 34 t, m) refl

joined_first : (before : List Lex) (t : Lex) (o : Option (List Lex)) → joined before (with_first t o) ≡ joined (before ++ t ∷ []) o
joined_first before t None = refl
joined_first before t (Some ts) = ap Some (sym (append_assoc before (t ∷ []) ts))

step_token : (c : ℕ) (r : List ℕ) (t : Lex) → is_blank c ≡ false → first c r ≡ Some t → lex 0 (c ∷ r) ≡ with_first t (lex 0 (drop (length (spelled t)) (c ∷ r)))
unfolding lex
step_token c r t nb found =
    let f = first_good c r t found in
    let (d, w, is) = spelled_cons t f.good in
    let n : length (spelled t) ≡ suc (length (spelled t) - 1) = rw is (omega arith) in
    let s : drop (length (spelled t)) (c ∷ r) ≡ drop (length (spelled t) - 1) r = ap (λ k. drop k (c ∷ r)) n in
    rw (nb, found) (ap (with_first t) (skips (length (spelled t) - 1) r ∙ ap (lex 0) (sym s)))

step_blank : (c : ℕ) (r : List ℕ) → is_blank c ≡ true → lex 0 (c ∷ r) ≡ lex 0 r
unfolding lex
step_blank c r b = rw b refl

step_none : (c : ℕ) (r : List ℕ) → is_blank c ≡ false → first c r ≡ None → lex 0 (c ∷ r) ≡ None
unfolding lex
step_none c r b n = rw (b, n) refl

lex_nil : lex 0 [] ≡ Some []
unfolding lex
lex_nil = refl

joined_none : (before : List Lex) (o x : Option (List Lex)) → joined before o ≡ x → o ≡ None → x ≡ None
joined_none before None x h e = sym h
joined_none before (Some ts) x h e = cc e

drop_more : (n k : ℕ) (xs : List ℕ) → drop n (drop k xs) ≡ drop (k + n) xs
drop_more n zero xs = let z : 0 + n ≡ n = omega arith in rw z refl
drop_more zero (suc k) [] = let z : suc k + 0 ≡ suc k = omega arith in rw z refl
drop_more (suc n) (suc k) [] = let z : suc k + suc n ≡ suc (k + suc n) = omega arith in rw z refl
drop_more n (suc k) (c ∷ xs) = let z : suc k + n ≡ suc (k + n) = omega arith in rw z (drop_more n k xs)

at_cons : (line : List ℕ) (at : ℕ) → at < length line → drop at line ≡ get_or line at 0 ∷ drop (at + 1) line
at_cons line at lt = let z : at + 1 ≡ suc at = omega arith in rw z (drop-cons line at 0 lt)

-- what holds of the place, the tokens before it, their number and those of them that are kept
pub record Reached (line : List ℕ) (at count : ℕ) (kept : List Lex) : Type 0 where
  pub within : at ≤ length line
  pub fewer : count ≤ at
  pub before : List Lex
  pub whole : joined before (lex 0 (drop at line)) ≡ lex 0 line
  pub counted : count ≡ length before
  pub first_few : kept ≡ take 512 before

pub begin : (line : List ℕ) → Reached line 0 0 []
begin line = record { within = omega arith; fewer = omega arith; before = []; whole = joined_nil (lex 0 line); counted = refl; first_few = refl }
  where
    joined_nil : (o : Option (List Lex)) → joined [] o ≡ o
    joined_nil None = refl
    joined_nil (Some ts) = refl

pub go_blank : (line : List ℕ) (at count : ℕ) (kept : List Lex) → at < length line → is_blank (get_or line at 0) ≡ true → Reached line at count kept → Reached line (at + 1) count kept
go_blank line at count kept lt b r = record {
  within = omega (arith, lt);
  fewer = omega (arith, r.fewer);
  before = r.before;
  whole = ap (joined r.before) (sym (ap (lex 0) (at_cons line at lt) ∙ step_blank _ _ b)) ∙ r.whole;
  counted = r.counted;
  first_few = r.first_few;
}

take_all : (n : ℕ) (ts : List Lex) → length ts ≤ n → take n ts ≡ ts
take_all zero [] h = refl
take_all (suc n) [] h = refl
take_all zero (t ∷ ts) h = absurd (omega (arith, h))
take_all (suc n) (t ∷ ts) h = ap (λ (x : List Lex). t ∷ x) (take_all n ts (omega (arith, h)))

few_more : (before kept : List Lex) (t : Lex) (count : ℕ) → count ≡ length before → kept ≡ take 512 before → kept_more count kept t ≡ take 512 (before ++ t ∷ [])
few_more before kept t count n k = elim (cases_Bool (nat_lt count 512)) [
  | inl b ↦
      let lt : count < 512 = ltb-true count 512 b in
      let short : length before ≤ 512 = omega (arith, lt, n) in
      let longer : length (before ++ t ∷ []) ≤ 512 = omega (arith, lt, n, length-append before (t ∷ [])) in
      rw (b, k, take_all 512 before short, take_all 512 (before ++ t ∷ []) longer) refl
  | inr b ↦
      let le : 512 ≤ length before = grind (arith, b, n) in
      rw (b, k, take-append-le 512 before (t ∷ []) le) refl
]

pub go_token : (line : List ℕ) (at n count : ℕ) (kept : List Lex) (t : Lex) → at < length line → is_blank (get_or line at 0) ≡ false → Some t ≡ front_of (drop at line) → n ≡ length (spelled t) → Reached line at count kept
    → (0 < n) × Reached line (at + n) (count + 1) (kept_more count kept t)
go_token line at n count kept t lt b front size r =
    let c = get_or line at 0 in
    let rest = drop (at + 1) line in
    let cons = at_cons line at lt in
    let found : first c rest ≡ Some t = sym (ap front_of cons) ∙ sym front in
    let f = first_good c rest t found in
    let (d, w, is) = spelled_cons t f.good in
    let long : length (spelled t) ≡ suc (length w) = ap (λ (x : List ℕ). length x) is in
    let left : length (drop at line) ≡ length (spelled t) + length f.rest = ap (λ (x : List ℕ). length x) (cons ∙ f.splits) ∙ length-append (spelled t) f.rest in
    let have : length (drop at line) ≡ length line - at = length-drop at line in
    let next : lex 0 (drop at line) ≡ with_first t (lex 0 (drop (at + n) line)) =
    ap (lex 0) cons ∙ step_token c rest t b found ∙ ap (λ (x : List ℕ). with_first t (lex 0 x)) (rw (← cons, ← size) (drop_more n at line)) in (
      omega (arith, size, long),
      record {
        within = omega (arith, size, left, have, lt);
        fewer = omega (arith, r.fewer, size, long);
        before = r.before ++ t ∷ [];
        whole = sym (joined_first r.before t (lex 0 (drop (at + n) line))) ∙ ap (joined r.before) (sym next) ∙ r.whole;
        counted = omega (arith, r.counted, length-append r.before (t ∷ []));
        first_few = few_more r.before kept t count r.counted r.first_few;
      },
    )

pub go_none : (line : List ℕ) (at count : ℕ) (kept : List Lex) → at < length line → is_blank (get_or line at 0) ≡ false → None ≡ front_of (drop at line) → Reached line at count kept → lex 0 line ≡ None
go_none line at count kept lt b front r =
    let cons = at_cons line at lt in
    joined_none r.before (lex 0 (drop at line)) (lex 0 line) r.whole (ap (lex 0) cons ∙ step_none _ _ b (sym (ap front_of cons) ∙ sym front))

go_end : (line : List ℕ) (at : ℕ) (before : List Lex) → length line ≤ at → joined before (lex 0 (drop at line)) ≡ lex 0 line → lex 0 line ≡ Some before
go_end line at before le r =
    sym r ∙ ap (λ (x : List ℕ). joined before (lex 0 x)) (drop_of_length-le line le) ∙ ap (joined before) lex_nil ∙ ap Some (append-nil before)

pub ends_few : (line : List ℕ) (at count : ℕ) (kept : List Lex) → length line ≤ at → count ≤ 512 → Reached line at count kept → Lexes line kept × (length kept ≤ 512)
ends_few line at count kept le few r =
    let short : length r.before ≤ 512 = omega (arith, few, r.counted) in
    let same : kept ≡ r.before = r.first_few ∙ take_all 512 r.before short in
    rw same (sound line 0 r.before (go_end line at r.before le r.whole), short)

pub ends_long : (line : List ℕ) (at count : ℕ) (kept : List Lex) → length line ≤ at → 512 < count → Reached line at count kept → (ts : List Lex) × Lexes line ts × (512 < length ts)
ends_long line at count kept le many r = (r.before, sound line 0 r.before (go_end line at r.before le r.whole), omega (arith, many, r.counted))

pub no_tokens : (line : List ℕ) → lex 0 line ≡ None → (ts : List Lex) → Lexes line ts → ⊥
no_tokens line h ts l = let both : None ≡ Some ts = sym h ∙ complete ts line l in cc both

pub lexes_one : (line : List ℕ) (ts us : List Lex) → Lexes line ts → Lexes line us → ts ≡ us
lexes_one line ts us a b = some_inj ts us (sym (complete ts line a) ∙ complete us line b)

pub lexes_some : (line : List ℕ) → ((ts : List Lex) × Lexes line ts) ⊎ ((ts : List Lex) → Lexes line ts → ⊥)
lexes_some line = by (lex 0 line) refl
  where
    by : (o : Option (List Lex)) → lex 0 line ≡ o → ((ts : List Lex) × Lexes line ts) ⊎ ((ts : List Lex) → Lexes line ts → ⊥)
    by None h = inr (no_tokens line h)
    by (Some ts) h = inl (ts, sound line 0 ts h)

pub part : (line : List ℕ) (at : ℕ) → take (length line - at) (drop at line) ≡ drop at line
part line at = let e : length line - at ≡ length (drop at line) = sym (length-drop at line) in rw e (all (drop at line))
  where
    all : (xs : List ℕ) → take (length xs) xs ≡ xs
    all [] = refl
    all (x ∷ xs) = ap (λ (t : List ℕ). x ∷ t) (all xs)
