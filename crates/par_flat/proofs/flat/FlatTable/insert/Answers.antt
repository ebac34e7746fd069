use Rattle.std.proofs.Common.{◌≡◌, ◌∙◌, ◌<◌, ◌⊎◌, ap, sym, subst, true, length}
use Rattle.std.specs.Prelude.{is_some, not}
use Rattle.std.specs.List.{list_any}
use Rattle.std.specs.Map.{keys_of}
use Rattle.par_flat.specs.Keys.{insert_key}
use Rattle.par_flat.proofs.Members.{member, room_or_there, keys_of-insert_entry, flip_not}
use Rattle.par_flat.proofs.flat.FlatTable.insert.Goals as goal
use Rattle.par_flat.proofs.flat.FlatTable.insert.Goals.{in-Ok, in-Err}

pub insert-requires : goal.insert-requires
insert-requires g c =
    room_or_there (g.K.PartialEq.eq c.args.key) c.self.inside.keys 4194304
    (subst (λ ks. (length ks < 4194304) ⊎ (list_any (g.K.PartialEq.eq c.args.key) ks ≡ true)) (sym c.self.view_is) c.requires)

pub returns-clause-new : goal.returns-clause-new
returns-clause-new g c =
    elim c.match-insert.branch [
      | in-Ok w ↦ rw w.result-is (flip_not _ _ w.is_none.ensures ∙ ap not (ap is_some w.in-Ok.ensures.old ∙ (member (g.K.PartialEq.eq c.args.key) c.self.inside.keys ∙ ap (list_any (g.K.PartialEq.eq c.args.key)) c.self.view_is)))
      | in-Err w ↦ rw w.result-is tt
    ]

pub returns-clause-keys : goal.returns-clause-keys
returns-clause-keys g c =
    elim c.match-insert.branch [
      | in-Ok w ↦ rw w.result-is (ap keys_of w.in-Ok.ensures.ok ∙ (keys_of-insert_entry g.K.PartialEq.eq c.self.inside.keys c.args.key tt ∙ ap (λ ks. insert_key g.K.PartialEq.eq ks c.args.key) c.self.view_is))
      | in-Err w ↦ rw w.result-is tt
    ]
