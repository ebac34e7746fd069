use Rattle.std.proofs.Common.{◌≡◌, ◌∙◌, ap, ℕ, true, false, subst}
use Rattle.std.specs.Prelude.{slice_get, IfNone}
use Rattle.par_laws.specs.Hash.{mixed}
use Rattle.par_index.specs.Entries.{is_key_at}
use Rattle.par_index.proofs.Keeping.{absent_place}
use Rattle.par_index.proofs.entries.place_of.Goals as goal

pub returns-clause-absent : goal.returns-clause-absent
returns-clause-absent g c =
    let hash : c.mix.result ≡ mixed (g.K.HashKey.hash (g.K.Shown.shown c.args.key.now)) = c.mix.ensures ∙ ap mixed c.hash32.ensures in
    absent_place g.K.PartialEq.eq g.met.K.Eq.laws (λ k. g.K.HashKey.hash (g.K.Shown.shown k)) (λ x y t. ap g.K.HashKey.hash (g.met.K.HashKey.told x y t)) c.args.entries.now (g.I.Index.has c.args.index.now) (g.I.Index.count c.args.index.now) c.args.key.now c.find.result c.requires
    (subst (λ h. IfNone c.find.result ((at : ℕ) → g.I.Index.has c.args.index.now h at ≡ true → is_key_at (g.K.PartialEq.eq c.args.key.now) (slice_get c.args.entries.now at) ≡ false)) hash c.find.ensures.absent)
