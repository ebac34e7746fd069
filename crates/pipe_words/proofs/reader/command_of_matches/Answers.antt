use Rattle.std.proofs.Common.{◌≡◌, ◌∙◌, ap, refl, Bool, true, false, codes, map, unwrap_or, List, [], Bor, Option, ℕ}
use Rattle.clap.specs.Matches.{found_of}
use Rattle.clap.proofs.WalkLemmas.{first_value-rows, one_text-rows, raw_values-rows}
use Rattle.std.specs.Prelude.{Some}
use Rattle.pipe_words.specs.Commands.{asked}
use Rattle.pipe_words.specs.Rows.{flag_text}
use Rattle.pipe_words.proofs.Getters.{texts_or_none}
use Rattle.pipe_words.proofs.reader.command_of_matches.Goals as goal

pub returns : goal.returns
returns c = λ b h.
    let found = found_of c.args.matches.now in
    let words = ap (λ (s : Bor (List (Bor (List ℕ)))). map (λ t. t.now) s.now) c.unwrap_or.ensures
    ∙ (texts_or_none c.get_strs.result _ refl ∙ ap (λ (o : Option (List (List ℕ))). unwrap_or o []) (c.get_strs.ensures ∙ raw_values-rows found (codes "word"))) in
    let workers = c.get_str.ensures ∙ first_value-rows found (codes "workers") in
    let level = c.get_str-2.ensures ∙ first_value-rows found (codes "level") in
    let read = one_text-rows found (codes "audit") in
    let flag : c.get_flag.result ≡ b = flag_is b c.get_flag.result (read ∙ h) c.get_flag.ensures.value c.get_flag.ensures.other in
    c.command.ensures ∙ (λ i. asked (words i) (workers i) (level i) (flag i))
  where
    flag_is : (b r : Bool) → {o : Option (List ℕ)} → o ≡ Some (flag_text b) → (o ≡ Some (codes "true") → r ≡ true) → (o ≡ Some (codes "false") → r ≡ false) → r ≡ b
    flag_is true r h on off = on h
    flag_is false r h on off = off h
