use Rattle.std.proofs.Common.{rules, ◌≡◌, ◌-◌, ◌≤◌, List, [], ◌∷◌, ◌++◌, length, take, drop, min, ap, sym, ◌∙◌, arith}
use Rattle.std.specs.Str.{chars}
use Rattle.std.proofs.lemmas.List.{take-append-drop, length-take}
use Rattle.par_rows.specs.declared.value.Value.{Value}
use Rattle.par_rows.specs.declared.value.Value.TheVariants.{Text}
use Rattle.pipe_eval.specs.Answers.{row_of}
use Rattle.pipe_stages.proofs.Flat.{joined}
use Rattle.pipe_stages.proofs.splitting.with_text.Goals as goal

pub returns : goal.returns
returns c =
    let xs : List Value = c.args.row.now.values in
    let before : List Value = c.split_at.result.0.now in
    let rest : List Value = c.split_at.result.1.now in
    let mid = c.min.result in
    let source : c.as_slice-source.result.now ≡ xs = c.as_slice-source.ensures in
    let front : before ≡ take mid c.as_slice-source.result.now = c.split_at.ensures.front in
    let back : rest ≡ drop mid c.as_slice-source.result.now = c.split_at.ensures.back in
    let parts : xs ≡ before ++ rest = sym source ∙ (sym (take-append-drop mid c.as_slice-source.result.now) ∙ (λ k. sym front k ++ sym back k)) in
    let count : length before ≡ min c.args.at (length xs) = omega (arith, c.min.ensures, ap length front, length-take mid c.as_slice-source.result.now, ap length source) in
    let some : 1 ≤ length rest = c.in-len1-up.len_at_least in
    let none : c.in_ok-values.values ≡ [] = c.in_ok-values.ensures in
    let copied : c.copy_values.new.values ≡ c.in_ok-values.values ++ before = c.in_ok-copy_values.ensures in
    let pushed : c.push.new.self ≡ c.copy_values.new.values ++ Text (chars c.args.text.now) ∷ [] = search rules in
    let all : c.copy_values-2.new.values ≡ c.push.new.self ++ take (length rest - 1) (drop 1 rest) = c.in_ok-copy_values-2.ensures in
    ap row_of (joined xs before rest _ _ _ _ c.args.at (Text (chars c.args.text.now)) parts count some none copied pushed all)
