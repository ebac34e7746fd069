use Rattle.std.proofs.Common.{◌≡◌, codes, rules}
use Rattle.std.specs.Str.{chars}
use Rattle.std.proofs.lemmas.Str.{chars-IsAscii}
use Rattle.pipe_checks.proofs.columns.range_name.Goals as goal

pub returns : goal.returns
returns c =
    let name : chars (codes "x") ≡ codes "x" = chars-IsAscii (codes "x") (search rules) in
    rw name at c.from_text.ensures
