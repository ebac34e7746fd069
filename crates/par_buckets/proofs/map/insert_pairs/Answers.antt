use Rattle.std.proofs.Common.{◌∙◌, ap, sym, ◌++◌, ◌∷◌, [], append_assoc, length, length-append, arith}
use Rattle.par_index.specs.Entries.{insert_entry}
use Rattle.par_buckets.proofs.Values.{insert_entries-push, length-insert_entry}
use Rattle.par_buckets.proofs.map.insert_pairs.Goals as goal

pub loop-key-preserved-in_ok-insert : goal.loop-key-preserved-in_ok-insert
loop-key-preserved-in_ok-insert g c = record {
  inserted = c.in_ok-insert.ensures.entries ∙ (ap (λ es. insert_entry g.K.PartialEq.eq es c.in-Some.key c.in-Some.value) c.loop-key.invariant.inserted ∙ sym (insert_entries-push g.K.PartialEq.eq c.args.trie.now c.loop-key.yielded (c.in-Some.key, c.in-Some.value)));
  whole = append_assoc c.loop-key.yielded ((c.in-Some.key, c.in-Some.value) ∷ []) c.next.new.self.rest.items ∙ (ap (λ xs. c.loop-key.yielded ++ xs) (sym c.in-Some.ensures.steps.0) ∙ c.loop-key.invariant.whole);
  distinct = λ d. c.in_ok-insert.ensures.distinct;
  small = omega (arith, ap length c.in_ok-insert.ensures.entries, length-insert_entry g.K.PartialEq.eq c.loop-key.trie c.in-Some.key c.in-Some.value, c.loop-key.invariant.small, length-append c.loop-key.yielded ((c.in-Some.key, c.in-Some.value) ∷ []));
}

pub loop-key-preserved : goal.loop-key-preserved
loop-key-preserved g c = record {
  inserted = c.in_ok-insert.ensures.entries ∙ (ap (λ es. insert_entry g.K.PartialEq.eq es c.in-Some.key c.in-Some.value) c.loop-key.invariant.inserted ∙ sym (insert_entries-push g.K.PartialEq.eq c.args.trie.now c.loop-key.yielded (c.in-Some.key, c.in-Some.value)));
  whole = append_assoc c.loop-key.yielded ((c.in-Some.key, c.in-Some.value) ∷ []) c.next.new.self.rest.items ∙ (ap (λ xs. c.loop-key.yielded ++ xs) (sym c.in-Some.ensures.steps.0) ∙ c.loop-key.invariant.whole);
  distinct = λ d. c.in_ok-insert.ensures.distinct;
  small = omega (arith, ap length c.in_ok-insert.ensures.entries, length-insert_entry g.K.PartialEq.eq c.loop-key.trie c.in-Some.key c.in-Some.value, c.loop-key.invariant.small, length-append c.loop-key.yielded ((c.in-Some.key, c.in-Some.value) ∷ []));
}
