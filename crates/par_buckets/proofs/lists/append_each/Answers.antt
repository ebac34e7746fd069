use Rattle.std.proofs.Common.{rules, ◌≡◌, ◌∙◌, ◌<◌, [], ◌∷◌, ◌++◌, ap, sym, refl, length, get_or, set, arith, length-append, append_assoc}
use Rattle.par_buckets.specs.Held.{joined_each}
use Rattle.par_buckets.specs.Laws.{length-joined_each}
use Rattle.par_buckets.proofs.Held.{joined_each-none, joined_each-push, at-next, at_default, at-middle}
use Rattle.par_buckets.proofs.lists.append_each.Goals as goal

pub loop-other-init : goal.loop-other-init
loop-other-init g c = record {
  at = refl;
  joined = sym (joined_each-none c.args.lists.now.items);
  whole = search rules;
}

pub index_mut-requires : goal.index_mut-requires
index_mut-requires g c =
    let whole : c.loop-other.yielded ++ c.in-Some.other ∷ c.next.new.self.rest.items ≡ c.args.others.items = ap (λ xs. c.loop-other.yielded ++ xs) (sym c.in-Some.ensures.steps.0) ∙ c.loop-other.invariant.whole in
    let room : length c.loop-other.yielded < length c.args.lists.now.items = omega (arith, ap length whole, length-append c.loop-other.yielded (c.in-Some.other ∷ c.next.new.self.rest.items), c.requires.same) in
    omega (arith, c.loop-other.lists.ok.0, ap length c.loop-other.invariant.joined, length-joined_each c.args.lists.now.items c.loop-other.yielded, c.loop-other.invariant.at, room)

pub append-requires : goal.append-requires
append-requires g c =
    let whole : c.loop-other.yielded ++ c.in-Some.other ∷ c.next.new.self.rest.items ≡ c.args.others.items = ap (λ xs. c.loop-other.yielded ++ xs) (sym c.in-Some.ensures.steps.0) ∙ c.loop-other.invariant.whole in
    let room : length c.loop-other.yielded < length c.args.lists.now.items = omega (arith, ap length whole, length-append c.loop-other.yielded (c.in-Some.other ∷ c.next.new.self.rest.items), c.requires.same) in
    let within : c.loop-other.i < length c.loop-other.lists.items = omega (arith, ap length c.loop-other.invariant.joined, length-joined_each c.args.lists.now.items c.loop-other.yielded, c.loop-other.invariant.at, room) in
    let here : c.index_mut.result.now ≡ get_or (joined_each c.args.lists.now.items c.loop-other.yielded) (length c.loop-other.yielded) [] = c.index_mut.ensures.value ∙ (at_default c.loop-other.lists.items c.loop-other.i c.index_mut.result.now [] within ∙ (ap (λ ls. get_or ls c.loop-other.i []) c.loop-other.invariant.joined ∙ ap (λ n. get_or (joined_each c.args.lists.now.items c.loop-other.yielded) n []) c.loop-other.invariant.at)) in
    let other : get_or c.args.others.items (length c.loop-other.yielded) [] ≡ c.in-Some.other = ap (λ xs. get_or xs (length c.loop-other.yielded) []) (sym whole) ∙ at-middle c.loop-other.yielded c.next.new.self.rest.items c.in-Some.other in
    omega (arith, c.requires.room (length c.loop-other.yielded), ap length here, ap length (at-next c.args.lists.now.items c.loop-other.yielded room), ap length other)

pub loop-other-preserved : goal.loop-other-preserved
loop-other-preserved g c =
    let whole : c.loop-other.yielded ++ c.in-Some.other ∷ c.next.new.self.rest.items ≡ c.args.others.items = ap (λ xs. c.loop-other.yielded ++ xs) (sym c.in-Some.ensures.steps.0) ∙ c.loop-other.invariant.whole in
    let room : length c.loop-other.yielded < length c.args.lists.now.items = omega (arith, ap length whole, length-append c.loop-other.yielded (c.in-Some.other ∷ c.next.new.self.rest.items), c.requires.same) in
    let within : c.loop-other.i < length c.loop-other.lists.items = omega (arith, ap length c.loop-other.invariant.joined, length-joined_each c.args.lists.now.items c.loop-other.yielded, c.loop-other.invariant.at, room) in
    let here : c.index_mut.result.now ≡ get_or (joined_each c.args.lists.now.items c.loop-other.yielded) (length c.loop-other.yielded) [] = c.index_mut.ensures.value ∙ (at_default c.loop-other.lists.items c.loop-other.i c.index_mut.result.now [] within ∙ (ap (λ ls. get_or ls c.loop-other.i []) c.loop-other.invariant.joined ∙ ap (λ n. get_or (joined_each c.args.lists.now.items c.loop-other.yielded) n []) c.loop-other.invariant.at)) in
    let joined = joined_each c.args.lists.now.items c.loop-other.yielded in
    let more = get_or joined (length c.loop-other.yielded) [] ++ c.in-Some.other in
    record {
      at = omega (arith, c.loop-other.invariant.at, length-append c.loop-other.yielded (c.in-Some.other ∷ []));
      joined = ap (λ xs. set c.loop-other.lists.items c.loop-other.i xs) (c.append.ensures ∙ ap (λ xs. xs ++ c.in-Some.other) here) ∙ (ap (λ ls. set ls c.loop-other.i more) c.loop-other.invariant.joined ∙ (ap (λ n. set joined n more) c.loop-other.invariant.at ∙ joined_each-push c.args.lists.now.items c.loop-other.yielded c.in-Some.other room));
      whole = append_assoc c.loop-other.yielded (c.in-Some.other ∷ []) c.next.new.self.rest.items ∙ whole;
    }
