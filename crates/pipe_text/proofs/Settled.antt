-- A line has tokens or a fault, and just one of them.
use Rattle.std.proofs.Common.{◌≡◌, ◌≤◌, ◌<◌, ◌⊎◌, ◌∙◌, sym, refl, inl, inr, ℕ, List, [], length, Bool, true, false, arith}
use Rattle.std.specs.Prelude.{◌≢◌, MatchBool, nat_le}
use Rattle.std.specs.Str.{is_utf8}
use Rattle.std.proofs.lemmas.Bool.{cases_Bool}
use Rattle.std.proofs.lemmas.Str.{IsUtf8-from_is_utf8, is_utf8-from_IsUtf8}
use Rattle.pipe_text.specs.declared.line.LineFault.{LineFault}
use Rattle.pipe_text.specs.declared.line.LineFault.TheVariants as faults
use Rattle.pipe_text.specs.Token.{Lex, Lexes}
use Rattle.pipe_text.specs.Line.{IsRefused, IsSettled, IsUnique, ReadsAs, Tokens, is_quiet}
use Rattle.pipe_text.proofs.Lexing.{lexes_one, lexes_some}

one_list : (q : Bool) (line : List ℕ) (ts us : List Lex) → MatchBool q (ts ≡ []) (Lexes line ts) → MatchBool q (us ≡ []) (Lexes line us) → ts ≡ us
one_list true line ts us a b = a ∙ sym b
one_list false line ts us a b = lexes_one line ts us a b

tokens_one : (line : List ℕ) (ts us : List Lex) → Tokens line ts → Tokens line us → ts ≡ us
tokens_one line ts us a b = one_list (is_quiet line) line ts us a b

some_list : (q : Bool) (line : List ℕ) → ((ts : List Lex) × MatchBool q (ts ≡ []) (Lexes line ts)) ⊎ ((ts : List Lex) → ¬ MatchBool q (ts ≡ []) (Lexes line ts))
some_list true line = inl ([], refl)
some_list false line = lexes_some line

le_or : (n : ℕ) → (n ≤ 512) ⊎ (512 < n)
le_or n = elim (cases_Bool (nat_le n 512)) [ inl b ↦ inl (grind (arith, b)) | inr b ↦ inr (grind (arith, b)) ]

pub settled : (line : List ℕ) → IsSettled line
settled line = elim (cases_Bool (is_utf8 line)) [
  | inl b ↦
      let u = IsUtf8-from_is_utf8 line b in
      elim (some_list (is_quiet line) line) [
        | inl found ↦ elim (le_or (length found.0)) [
          | inl few ↦ inl (found.0, record { utf8 = u; tokens = found.1; few = few })
          | inr many ↦ inr (faults.Long, (λ e. cc e), (u, found.0, found.1, many))
        ]
        | inr none ↦ inr (faults.Token, (λ e. cc e), (u, none))
      ]
  | inr b ↦ inr (faults.Utf8, (λ e. cc e), (λ u. let both = sym b ∙ is_utf8-from_IsUtf8 line u in cc both))
]

apart : (line : List ℕ) (ts : List Lex) (e : LineFault) → e ≢ faults.Memory → ReadsAs line ts → ¬ IsRefused line e
apart line ts faults.Utf8 n r f = f r.utf8
apart line ts faults.Token n r f = f.1 ts r.tokens
apart line ts faults.Long n r f =
    let few = r.few in
    let many = f.3 in
    let same = tokens_one line ts f.1 r.tokens f.2 in
    absurd (omega (arith, few, rw (← same) at many))
apart line ts faults.Memory n r f = n refl

one_fault : (line : List ℕ) (e f : LineFault) → e ≢ faults.Memory → f ≢ faults.Memory → IsRefused line e → IsRefused line f → e ≡ f
one_fault line faults.Utf8 faults.Utf8 a b x y = refl
one_fault line faults.Utf8 faults.Token a b x y = absurd (x y.0)
one_fault line faults.Utf8 faults.Long a b x y = absurd (x y.0)
one_fault line faults.Token faults.Utf8 a b x y = absurd (y x.0)
one_fault line faults.Token faults.Token a b x y = refl
one_fault line faults.Token faults.Long a b x y = absurd (x.1 y.1 y.2)
one_fault line faults.Long faults.Utf8 a b x y = absurd (y x.0)
one_fault line faults.Long faults.Token a b x y = absurd (y.1 x.1 x.2)
one_fault line faults.Long faults.Long a b x y = refl
one_fault line faults.Memory f a b x y = absurd (a refl)
one_fault line e faults.Memory a b x y = absurd (b refl)

pub unique : (line : List ℕ) → IsUnique line
unique line = record {
  reading = λ ts us a b. tokens_one line ts us a.tokens b.tokens;
  fault = one_fault line;
  apart = apart line;
}
