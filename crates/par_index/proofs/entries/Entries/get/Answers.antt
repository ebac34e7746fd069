use Rattle.std.proofs.Common.{sym, ap, ◌∙◌, ◌≡◌, true}
use Rattle.std.specs.Prelude.{slice_get}
use Rattle.std.specs.Map.{lookup}
use Rattle.par_index.specs.Entries.{is_key_at}
use Rattle.par_index.proofs.Keeping.{value_at}
use Rattle.par_index.proofs.entries.Entries.get.Goals as goal

pub returns : goal.returns
returns g c =
    let found : is_key_at (g.K.PartialEq.eq c.args.key.now) (slice_get c.self.inside.entries.items c.in_ok-at.at) ≡ true = ap (λ es. is_key_at (g.K.PartialEq.eq c.args.key.now) (slice_get es c.in_ok-at.at)) (sym c.as_slice.ensures.value) ∙ c.in_ok-at.ensures.found in
    sym (value_at g.K.PartialEq.eq g.met.K.Eq.laws c.args.key.now c.self.inside.entries.items c.in_ok-at.at c.index.result.now c.self.invariant.distinct found c.index.ensures) ∙ ap (lookup (g.K.PartialEq.eq c.args.key.now)) c.self.view_is
