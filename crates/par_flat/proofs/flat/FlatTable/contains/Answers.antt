use Rattle.std.proofs.Common.{◌∙◌, ap, sym}
use Rattle.std.specs.Prelude.{is_some}
use Rattle.std.specs.List.{list_any}
use Rattle.par_flat.proofs.Members.{member, copied_some}
use Rattle.par_flat.proofs.flat.FlatTable.contains.Goals as goal

pub returns : goal.returns
returns g c =
    c.is_some.ensures
    ∙ (sym (copied_some (λ x. x.now) c.get.result)
    ∙ (ap is_some c.get.ensures
    ∙ (member (g.K.PartialEq.eq c.args.key.now) c.self.inside.keys
    ∙ ap (list_any (g.K.PartialEq.eq c.args.key.now)) c.self.view_is)))
