use Rattle.std.proofs.Common.{◌≡◌, ◌++◌, ◌∙◌, List, ℕ, ap, append_assoc, map}
use Rattle.std.proofs.lemmas.Result.{IfOk-weaker}
use Rattle.pipe_answers.specs.Texts.{header_text, rows_text}
use Rattle.pipe_answers.proofs.rows.with_table.Goals as goal

pub returns : goal.returns
returns c =
    let rows = rows_text (map (λ r. r.now) c.args.rows.now) in
    let begun : c.in_ok-text.text.items ≡ c.args.text.items ++ header_text c.args.columns.now = c.in_ok-text.ensures in
    IfOk-weaker c.with_rows.result _ _ (λ more e. e ∙ ap (λ (t : List ℕ). t ++ rows) begun ∙ append_assoc c.args.text.items (header_text c.args.columns.now) rows) c.with_rows.ensures
