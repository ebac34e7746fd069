use Rattle.std.proofs.Common.{sym, ap, ◌∙◌, ◌≡◌, ◌<◌, length, ℕ, Bool, ◌||◌, ◌&&◌, subst, ◌∷◌, [], ◌++◌}
use Rattle.std.specs.Prelude.{Some, None, ◌==◌}
use Rattle.std.specs.Map.{lookup, keys_of}
use Rattle.std.specs.List.{IsDistinct}
use Rattle.par_laws.specs.Hash.{mixed}
use Rattle.par_index.specs.Entries.{IsKept}
use Rattle.par_index.proofs.Keeping.{kept-push}
use Rattle.par_index.proofs.entries.Entries.push.Goals as goal

pub invariant_of-self-2 : goal.invariant_of-self-2
invariant_of-self-2 g c =
    let none : lookup (g.K.PartialEq.eq c.args.key) c.self.inside.entries.items ≡ None = ap (lookup (g.K.PartialEq.eq c.args.key)) c.self.view_is ∙ c.requires.absent in
    let room : length c.self.inside.entries.items < 4194304 = rw c.self.view_is c.requires.room in
    let hash : c.mix.result ≡ mixed (g.K.HashKey.hash (g.K.Shown.shown c.args.key)) = c.mix.ensures ∙ ap mixed c.hash32.ensures in
    rw (c.push_reserved.ensures.items, c.reserve.ensures.items)
    (kept-push g.K.PartialEq.eq g.met.K.Eq.laws (λ k. g.K.HashKey.hash (g.K.Shown.shown k)) c.args.key c.args.value c.self.inside.entries.items (g.I.Index.has c.self.inside.index) (g.I.Index.has c.push.new.self) (g.I.Index.count c.self.inside.index) (g.I.Index.count c.push.new.self) c.self.invariant none room c.in-Ok-push.ensures.ok.counted (λ q a. c.in-Ok-push.ensures.ok.kept q a ∙ ap (λ h. g.I.Index.has c.self.inside.index q a || ((h == q) && (g.I.Index.count c.self.inside.index == a))) hash))

pub returns-clause-distinct : goal.returns-clause-distinct
returns-clause-distinct g c = (invariant_of-self-2 g c).distinct
