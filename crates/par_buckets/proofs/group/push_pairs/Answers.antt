use Rattle.std.proofs.Common.{◌∙◌, ap, sym, ◌++◌, ◌∷◌, [], append_assoc, length, length-append, arith}
use Rattle.std.specs.Map.{lookup}
use Rattle.std.specs.Option.{unwrap_or}
use Rattle.par_index.specs.Entries.{groups_of, push_to_group}
use Rattle.par_buckets.proofs.Values.{push_to_groups-push, length-insert_entry, length-groups_of}
use Rattle.par_buckets.proofs.group.push_pairs.Goals as goal

pub loop-key-preserved : goal.loop-key-preserved
loop-key-preserved g c =
    let gs = groups_of c.loop-key.trie in
    record {
      pushed = c.in_ok-push_value.ensures.groups ∙ (ap (λ hs. push_to_group g.K.PartialEq.eq hs c.in-Some.key c.in-Some.value) c.loop-key.invariant.pushed ∙ sym (push_to_groups-push g.K.PartialEq.eq (groups_of c.args.trie.now) c.loop-key.yielded (c.in-Some.key, c.in-Some.value)));
      whole = append_assoc c.loop-key.yielded ((c.in-Some.key, c.in-Some.value) ∷ []) c.next.new.self.rest.items ∙ (ap (λ xs. c.loop-key.yielded ++ xs) (sym c.in-Some.ensures.steps.0) ∙ c.loop-key.invariant.whole);
      distinct = λ d. c.push_value.ensures.distinct;
      small = omega (arith, ap length c.in_ok-push_value.ensures.groups, length-groups_of c.push_value.new.self, length-groups_of c.loop-key.trie, length-insert_entry g.K.PartialEq.eq gs c.in-Some.key (unwrap_or (lookup (g.K.PartialEq.eq c.in-Some.key) gs) [] ++ c.in-Some.value ∷ []), c.loop-key.invariant.small, length-append c.loop-key.yielded ((c.in-Some.key, c.in-Some.value) ∷ []));
    }
