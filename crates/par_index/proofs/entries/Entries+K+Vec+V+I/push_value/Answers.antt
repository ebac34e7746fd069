use Rattle.std.proofs.Common.{sym, ap, ◌∙◌, ◌≡◌, ◌++◌, ◌∷◌, [], true, set}
use Rattle.std.specs.Prelude.{slice_get, Some, None}
use Rattle.std.specs.Map.{lookup}
use Rattle.par_index.specs.Entries.{groups_of, is_key_at, insert_entry, push_to_group}
use Rattle.par_index.proofs.Keeping.{value_at, insert_entry-set, kept-set, groups_of-pushed, groups_of-same}
use Rattle.par_index.proofs.entries.Entries+K+Vec+V+I.push_value.Goals as goal
use Rattle.par_index.proofs.entries.Entries+K+Vec+V+I.push_value.Goals.{in-Ok, in-Err}

pub invariant_of-self : goal.invariant_of-self
invariant_of-self g c =
    let found : is_key_at (g.K.PartialEq.eq c.args.key) (slice_get c.self.inside.entries.items c.in-Some.at) ≡ true = ap (λ es. is_key_at (g.K.PartialEq.eq c.args.key) (slice_get es c.in-Some.at)) (sym c.as_slice.ensures.value) ∙ c.in-Some.ensures.found in
    kept-set g.K.PartialEq.eq g.met.K.Eq.laws (λ k. g.K.HashKey.hash (g.K.Shown.shown k)) c.args.key c.push.new.self c.self.inside.entries.items (g.I.Index.has c.self.inside.index) (g.I.Index.count c.self.inside.index) c.in-Some.at c.index_mut-entry.result.now c.self.invariant found c.index_mut-entry.ensures.value

pub returns-in-Some-clause-ok : goal.returns-in-Some-clause-ok
returns-in-Some-clause-ok g c =
    let found : is_key_at (g.K.PartialEq.eq c.args.key) (slice_get c.self.inside.entries.items c.in-Some.at) ≡ true = ap (λ es. is_key_at (g.K.PartialEq.eq c.args.key) (slice_get es c.in-Some.at)) (sym c.as_slice.ensures.value) ∙ c.in-Some.ensures.found in
    let was : lookup (g.K.PartialEq.eq c.args.key) c.self.inside.entries.items ≡ Some c.index_mut-entry.result.now.1 = value_at g.K.PartialEq.eq g.met.K.Eq.laws c.args.key c.self.inside.entries.items c.in-Some.at c.index_mut-entry.result.now c.self.invariant.distinct found c.index_mut-entry.ensures.value in
    let put : set c.self.inside.entries.items c.in-Some.at (c.index_mut-entry.result.now.0, c.push.new.self) ≡ insert_entry g.K.PartialEq.eq c.self.inside.entries.items c.args.key c.push.new.self = insert_entry-set g.K.PartialEq.eq g.met.K.Eq.laws c.args.key c.push.new.self c.self.inside.entries.items c.in-Some.at c.index_mut-entry.result.now c.self.invariant.distinct found c.index_mut-entry.ensures.value in
    elim c.match-push.branch [
      | in-Ok w ↦ rw w.result-is (ap groups_of put ∙ (groups_of-pushed g.K.PartialEq.eq c.self.inside.entries.items c.args.key c.args.value c.push.new.self (Some c.index_mut-entry.result.now.1) was w.in-Ok.ensures.items ∙ ap (λ es. push_to_group g.K.PartialEq.eq (groups_of es) c.args.key c.args.value) c.self.view_is))
      | in-Err w ↦ rw w.result-is tt
    ]

pub returns-in-Some-clause-distinct : goal.returns-in-Some-clause-distinct
returns-in-Some-clause-distinct g c = (invariant_of-self g c).distinct

pub returns-in-Some-clause-err : goal.returns-in-Some-clause-err
returns-in-Some-clause-err g c =
    elim c.match-push.branch [
      | in-Ok w ↦ rw w.result-is tt
      | in-Err w ↦ rw w.result-is (groups_of-same c.self.inside.entries.items c.in-Some.at c.index_mut-entry.result.now c.push.new.self c.index_mut-entry.ensures.value w.in-Err.ensures.items ∙ ap groups_of c.self.view_is)
    ]

pub returns-in-Ok-push-clause-ok : goal.returns-in-Ok-push-clause-ok
returns-in-Ok-push-clause-ok g c =
    let none : lookup (g.K.PartialEq.eq c.args.key) c.args.self.now ≡ None = ap (lookup (g.K.PartialEq.eq c.args.key)) (sym c.self.view_is ∙ sym c.as_slice.ensures.value) ∙ c.in_default.ensures.absent in
    let after : c.push-2.new.self ≡ insert_entry g.K.PartialEq.eq c.args.self.now c.args.key c.push_reserved.new.self = rw none c.in-Ok-push.ensures.ok in
    ap groups_of after ∙ groups_of-pushed g.K.PartialEq.eq c.args.self.now c.args.key c.args.value c.push_reserved.new.self None none (c.push_reserved.ensures.items ∙ ap (λ vs. vs ++ c.args.value ∷ []) c.in-Ok-with_capacity.ensures.items)
