use Rattle.std.proofs.Common.{◌≡◌, ◌∙◌, ◌+◌, ◌≤◌, ap, sym, ◌++◌, ◌∷◌, [], append_assoc, length, length-append, arith, inl}
use Rattle.std.specs.Map.{keys_of}
use Rattle.par_index.proofs.Keeping.{on_err_any, take_front}
use Rattle.par_flat.specs.Keys.{insert_key, insert_keys}
use Rattle.par_flat.proofs.Members.{insert_keys-push, keys_of-insert_entry, length-insert_keys, length-keys_of}
use Rattle.par_flat.proofs.keys.insert_all.Goals as goal

pub insert-requires : goal.insert-requires
insert-requires g c =
    let whole : c.loop-key.yielded ++ c.in-Some.key ∷ c.next.new.self.rest.items ≡ c.args.keys.items = ap (λ xs. c.loop-key.yielded ++ xs) (sym c.in-Some.ensures.steps.0) ∙ c.loop-key.invariant.whole in
    let small : length (keys_of c.loop-key.set) ≤ length (keys_of c.args.set.now) + length c.loop-key.yielded = rw c.loop-key.invariant.inserted (length-insert_keys g.K.PartialEq.eq (keys_of c.args.set.now) c.loop-key.yielded) in
    inl (omega (arith, c.requires, small, length-keys_of c.loop-key.set, length-keys_of c.args.set.now, length-append c.loop-key.yielded (c.in-Some.key ∷ c.next.new.self.rest.items), ap length whole))

pub loop-key-preserved : goal.loop-key-preserved
loop-key-preserved g c = record {
  inserted = ap keys_of c.in_ok-insert.ensures.ok ∙ (keys_of-insert_entry g.K.PartialEq.eq c.loop-key.set c.in-Some.key tt ∙ (ap (λ ks. insert_key g.K.PartialEq.eq ks c.in-Some.key) c.loop-key.invariant.inserted ∙ sym (insert_keys-push g.K.PartialEq.eq (keys_of c.args.set.now) c.loop-key.yielded c.in-Some.key)));
  whole = append_assoc c.loop-key.yielded (c.in-Some.key ∷ []) c.next.new.self.rest.items ∙ (ap (λ xs. c.loop-key.yielded ++ xs) (sym c.in-Some.ensures.steps.0) ∙ c.loop-key.invariant.whole);
}

pub returns-in_err-insert-clause-err : goal.returns-in_err-insert-clause-err
returns-in_err-insert-clause-err g c =
    on_err_any c.from_residual.result
    (length c.loop-key.yielded, ap keys_of c.in_err-insert.ensures.err ∙ (c.loop-key.invariant.inserted ∙ ap (λ xs. insert_keys g.K.PartialEq.eq (keys_of c.args.set.now) xs) (sym (take_front c.loop-key.yielded c.loop-key.key-iterator.rest.items c.args.keys.items c.loop-key.invariant.whole))))
