use Rattle.std.proofs.Common.{rules, arith, ap, length, ◌+◌, ◌*◌, ◌/◌, ◌<◌, ◌-◌, ◌%◌, get_or, set, suc, sym, ◌∙◌, ◌≡◌, ◌++◌, ℕ, length-append, slice_get, Some, refl}
use Rattle.std.proofs.lemmas.Option.{slice_get-get_or}
use Rattle.std.proofs.lemmas.List.{get_or-set_same, length-set}
use Rattle.std.proofs.lemmas.Result.{on_ok_weaker}
use Rattle.par_index.specs.declared.index.Leaf.{Leaf}
use Rattle.par_index.specs.Places.{places_of}
use Rattle.par_trie.specs.declared.leaves.Few.{Few}
use Rattle.par_trie.specs.Places.{places_among, places_of_few}
use Rattle.par_trie.specs.Slots as below
use Rattle.par_trie.specs.Rows.{places_in}
use Rattle.par_trie.proofs.Digits.{is_index-set, taken-le}
use Rattle.par_trie.proofs.Rows.{places_in-row, places_in-few, places_in-open, set_same, at_err}
use Rattle.par_trie.proofs.twofold.TwofoldNode.push.Goals as goal

pub returns-then-number-gt0-clause-ok : goal.returns-then-number-gt0-clause-ok
returns-then-number-gt0-clause-ok g c =
    let node = c.args.self.now in
    let number = get_or node.index (c.args.leaf.rest % 32) 0 in
    let at : number ≡ suc (number - 1) = omega (arith, c.if-number-gt0.true) in
    on_ok_weaker c.push_in_row.result (λ grown q. places_in-row g.N.Node.places node.index node.few.items node.slots.items c.push_in_row.new.slots.items c.args.leaf _ (length node.slots.items / 32) (number - 1) q node.twofold.indexed at grown (λ j p ne. c.push_in_row.ensures.others j p ne) refl refl) c.push_in_row.ensures.ok

pub returns-then-push-clause-ok : goal.returns-then-push-clause-ok
returns-then-push-clause-ok g c =
    let node = c.args.self.now in
    let digit = c.args.leaf.rest % 32 in
    let within : digit < length node.few.items = omega (arith, node.twofold.upper) in
    let was : slice_get node.few.items digit ≡ Some c.index_mut.result.now = slice_get-get_or _ _ c.index_mut.result.now within ∙ ap Some (sym c.index_mut.ensures.value) in
    let none : get_or node.index digit 0 ≡ 0 = omega (arith, c.if-number-gt0.false) in
    λ q. places_in-few g.N.Node.places node.index node.few.items node.slots.items c.index_mut.result.now c.push.new.self c.args.leaf _ q within none was (c.push.ensures.room c.if-push.true) refl refl

pub returns-in_err-append-clause-err : goal.returns-in_err-append-clause-err
returns-in_err-append-clause-err g c =
    let node = c.args.self.now in
    let digit = c.args.leaf.rest % 32 in
    let within : digit < length node.few.items = omega (arith, node.twofold.upper) in
    let was : slice_get node.few.items digit ≡ Some c.index_mut.result.now = slice_get-get_or _ _ c.index_mut.result.now within ∙ ap Some (sym c.index_mut.ensures.value) in
    let few : set node.few.items digit c.push.new.self ≡ node.few.items = set_same node.few.items c.push.new.self digit (was ∙ ap Some (sym (c.push.ensures.same c.if-push.false))) in
    at_err c.from_residual-in_err-append.result (λ q. ap (λ fs. places_in g.N.Node.places node.index fs c.append.new.self.items q) few ∙ ap (λ ss. places_in g.N.Node.places node.index node.few.items ss q) c.in_err-append.ensures.items)

pub overflow_cast-self : goal.overflow_cast-self
overflow_cast-self g c =
    let node = c.args.self.now in
    let len : length c.append.new.self.items ≡ length node.slots.items + 32 = ap length c.in_ok-append.ensures.items ∙ (length-append _ _ ∙ ap (λ n. length node.slots.items + n) c.in_ok-row.ensures.count) in
    omega (arith, taken-le node.index, node.twofold.indexed.count)

pub invariant_of-self-2 : goal.invariant_of-self-2
invariant_of-self-2 g c =
    let node = c.args.self.now in
    let len : length c.append.new.self.items ≡ length node.slots.items + 32 = ap length c.in_ok-append.ensures.items ∙ (length-append _ _ ∙ ap (λ n. length node.slots.items + n) c.in_ok-row.ensures.count) in
    let rows : length c.append.new.self.items / 32 ≡ length node.slots.items / 32 + 1 = omega arith in
    let number : c.len.result / 32 ≡ length node.slots.items / 32 + 1 = omega arith in
    let none : get_or node.index (c.args.leaf.rest % 32) 0 ≡ 0 = omega (arith, c.if-number-gt0.false) in
    record {
      twofold = record {
        indexed = rw (number, rows) (is_index-set node.index (c.args.leaf.rest % 32) (length node.slots.items / 32) node.twofold.indexed (search rules) none);
        whole = omega (arith, node.twofold.whole);
        upper = length-set node.few.items (c.args.leaf.rest % 32) c.push.new.self ∙ node.twofold.upper;
      };
    }

pub returns-clause-ok : goal.returns-clause-ok
returns-clause-ok g c =
    let node = c.args.self.now in
    let digit = c.args.leaf.rest % 32 in
    let inner : Leaf = record { rest = c.args.leaf.rest / 32; at = c.args.leaf.at } in
    let within : digit < length node.few.items = omega (arith, node.twofold.upper) in
    let was : slice_get node.few.items digit ≡ Some c.index_mut.result.now = slice_get-get_or _ _ c.index_mut.result.now within ∙ ap Some (sym c.index_mut.ensures.value) in
    let same : c.push.new.self ≡ c.index_mut.result.now = c.push.ensures.same c.if-push.false in
    let few : set node.few.items digit c.push.new.self ≡ node.few.items = set_same node.few.items c.push.new.self digit (was ∙ ap Some (sym same)) in
    let read : c.index.result.now ≡ c.index_mut.result.now = c.index.ensures ∙ (get_or-set_same node.few.items digit c.push.new.self c.index.result.now within ∙ same) in
    let grown : (p : ℕ) → below.places_in g.N.Node.places c.in_ok-row.row.items p ≡ places_of_few c.index_mut.result.now p ++ places_of inner p = λ p.
    c.in_ok-row.ensures.places p ∙ ap (λ ps. ps ++ places_of inner p) (ap (λ (f : Few). places_among f.leaves p) read ∙ sym (c.push.ensures.full c.if-push.false p)) in
    let len : length c.append.new.self.items ≡ length node.slots.items + 32 = ap length c.in_ok-append.ensures.items ∙ (length-append _ _ ∙ ap (λ n. length node.slots.items + n) c.in_ok-row.ensures.count) in
    let number : c.len.result / 32 ≡ suc (length node.slots.items / 32) = omega arith in
    let none : get_or node.index digit 0 ≡ 0 = omega (arith, c.if-number-gt0.false) in
    let index = set node.index digit (c.len.result / 32) in
    λ q. ap (λ fs. places_in g.N.Node.places index fs c.append.new.self.items q) few
    ∙ (ap (λ ss. places_in g.N.Node.places index node.few.items ss q) c.in_ok-append.ensures.items
    ∙ places_in-open g.N.Node.places node.index node.few.items node.slots.items c.in_ok-row.row.items c.index_mut.result.now c.args.leaf inner (length node.slots.items / 32) (c.len.result / 32) q node.twofold.indexed node.twofold.whole number (search rules) none was grown refl refl)
