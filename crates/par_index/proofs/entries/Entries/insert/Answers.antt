use Rattle.std.proofs.Common.{sym, ap, ◌∙◌, ◌≡◌, ◌<◌, true, length, set}
use Rattle.std.specs.Prelude.{slice_get, Some, None}
use Rattle.std.specs.Map.{lookup}
use Rattle.par_index.specs.Entries.{is_key_at, insert_entry}
use Rattle.par_index.proofs.Keeping.{value_at, insert_entry-set, kept-set, room_left, lookup-insert_entry}
use Rattle.par_index.proofs.entries.Entries.insert.Goals as goal

pub invariant_of-self : goal.invariant_of-self
invariant_of-self g c =
    let found : is_key_at (g.K.PartialEq.eq c.args.key) (slice_get c.self.inside.entries.items c.in-Some.at) ≡ true = ap (λ es. is_key_at (g.K.PartialEq.eq c.args.key) (slice_get es c.in-Some.at)) (sym c.as_slice.ensures.value) ∙ c.in-Some.ensures.found in
    kept-set g.K.PartialEq.eq g.met.K.Eq.laws (λ k. g.K.HashKey.hash (g.K.Shown.shown k)) c.args.key c.replace-old.new.dest c.self.inside.entries.items (g.I.Index.has c.self.inside.index) (g.I.Index.count c.self.inside.index) c.in-Some.at c.index_mut-entry.result.now c.self.invariant found c.index_mut-entry.ensures.value

pub returns-in-Some-clause-old : goal.returns-in-Some-clause-old
returns-in-Some-clause-old g c =
    let found : is_key_at (g.K.PartialEq.eq c.args.key) (slice_get c.self.inside.entries.items c.in-Some.at) ≡ true = ap (λ es. is_key_at (g.K.PartialEq.eq c.args.key) (slice_get es c.in-Some.at)) (sym c.as_slice.ensures.value) ∙ c.in-Some.ensures.found in
    ap Some c.replace-old.ensures.value ∙ (sym (value_at g.K.PartialEq.eq g.met.K.Eq.laws c.args.key c.self.inside.entries.items c.in-Some.at c.index_mut-entry.result.now c.self.invariant.distinct found c.index_mut-entry.ensures.value) ∙ ap (lookup (g.K.PartialEq.eq c.args.key)) c.self.view_is)

pub returns-in-Some-clause-ok : goal.returns-in-Some-clause-ok
returns-in-Some-clause-ok g c =
    let found : is_key_at (g.K.PartialEq.eq c.args.key) (slice_get c.self.inside.entries.items c.in-Some.at) ≡ true = ap (λ es. is_key_at (g.K.PartialEq.eq c.args.key) (slice_get es c.in-Some.at)) (sym c.as_slice.ensures.value) ∙ c.in-Some.ensures.found in
    insert_entry-set g.K.PartialEq.eq g.met.K.Eq.laws c.args.key c.replace-old.new.dest c.self.inside.entries.items c.in-Some.at c.index_mut-entry.result.now c.self.invariant.distinct found c.index_mut-entry.ensures.value ∙ (ap (insert_entry g.K.PartialEq.eq c.self.inside.entries.items c.args.key) c.replace-old.ensures.after ∙ ap (λ es. insert_entry g.K.PartialEq.eq es c.args.key c.args.value) c.self.view_is)

pub returns-in-Some-clause-updates : goal.returns-in-Some-clause-updates
returns-in-Some-clause-updates g c = λ q.
    ap (lookup (g.K.PartialEq.eq q)) (returns-in-Some-clause-ok g c) ∙ lookup-insert_entry g.K.PartialEq.eq g.met.K.Eq.laws c.args.self.now c.args.key c.args.value q

pub returns-in-Some-clause-distinct : goal.returns-in-Some-clause-distinct
returns-in-Some-clause-distinct g c = (invariant_of-self g c).distinct

pub returns-clause-updates : goal.returns-clause-updates
returns-clause-updates g c = λ q.
    let none : lookup (g.K.PartialEq.eq c.args.key) c.args.self.now ≡ None = ap (lookup (g.K.PartialEq.eq c.args.key)) (sym c.self.view_is ∙ sym c.as_slice.ensures.value) ∙ c.in_default.ensures.absent in
    let after : c.push.new.self ≡ insert_entry g.K.PartialEq.eq c.args.self.now c.args.key c.args.value = rw none c.in_ok-push.ensures.ok in
    ap (lookup (g.K.PartialEq.eq q)) after ∙ lookup-insert_entry g.K.PartialEq.eq g.met.K.Eq.laws c.args.self.now c.args.key c.args.value q
