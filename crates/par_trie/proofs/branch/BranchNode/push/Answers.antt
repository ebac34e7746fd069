use Rattle.std.proofs.Common.{rules, arith, ap, length, ◌+◌, ◌<◌, ◌-◌, ◌%◌, get_or, suc, sym, ◌∙◌, ◌≡◌, length-append, slice_get, Some, refl}
use Rattle.std.proofs.lemmas.Option.{slice_get-get_or}
use Rattle.std.proofs.lemmas.Result.{on_ok_weaker, on_err_weaker}
use Rattle.par_trie.proofs.Digits.{is_index-set, taken-le}
use Rattle.par_trie.proofs.Kids.{places_in-append, places_in-set, places_in-same}
use Rattle.par_trie.proofs.branch.BranchNode.push.Goals as goal

pub overflow_cast-self : goal.overflow_cast-self
overflow_cast-self g c =
    let len : length c.push.new.self.items ≡ length c.args.self.now.kids.items + 1 = ap length c.in_ok-push.ensures.items ∙ length-append _ _ in
    omega (arith, taken-le c.args.self.now.index, c.args.self.now.indexed.count)

pub invariant_of-self-then-number-eq0 : goal.invariant_of-self-then-number-eq0
invariant_of-self-then-number-eq0 g c =
    let len : length c.push.new.self.items ≡ length c.args.self.now.kids.items + 1 = ap length c.in_ok-push.ensures.items ∙ length-append _ _ in
    let is : c.len.result ≡ length c.args.self.now.kids.items + 1 = omega arith in
    record { indexed = rw (is, len) (is_index-set c.args.self.now.index (c.args.leaf.rest % 32) (length c.args.self.now.kids.items) c.args.self.now.indexed (search rules) c.if-number-eq0.true) }

pub returns-then-number-eq0-clause-ok : goal.returns-then-number-eq0-clause-ok
returns-then-number-eq0-clause-ok g c = λ q.
    let len : length c.push.new.self.items ≡ length c.args.self.now.kids.items + 1 = ap length c.in_ok-push.ensures.items ∙ length-append _ _ in
    let is : c.len.result ≡ length c.args.self.now.kids.items + 1 = omega arith in
    rw (is, c.in_ok-push.ensures.items) (places_in-append g.N.Node.places c.args.self.now.index c.args.self.now.kids.items c.args.leaf _ q c.args.self.now.indexed (search rules) c.if-number-eq0.true refl refl)

pub returns-clause-ok : goal.returns-clause-ok
returns-clause-ok g c =
    let place = get_or c.args.self.now.index (c.args.leaf.rest % 32) 0 in
    let within : place - 1 < length c.args.self.now.kids.items = omega (arith, c.args.self.now.indexed.within (c.args.leaf.rest % 32), c.if-number-eq0.false) in
    let was : slice_get c.args.self.now.kids.items (place - 1) ≡ Some c.index_mut.result.now = slice_get-get_or _ _ c.index_mut.result.now within ∙ ap Some (sym c.index_mut.ensures.value) in
    let at : place ≡ suc (place - 1) = omega (arith, c.if-number-eq0.false) in
    on_ok_weaker c.push_in.result (λ grown q. places_in-set g.N.Node.places c.args.self.now.index c.args.self.now.kids.items c.index_mut.result.now c.push_in.new.kid c.args.leaf _ (place - 1) q c.args.self.now.indexed at was grown refl refl) c.push_in.ensures.ok

pub returns-clause-err : goal.returns-clause-err
returns-clause-err g c =
    let place = get_or c.args.self.now.index (c.args.leaf.rest % 32) 0 in
    let within : place - 1 < length c.args.self.now.kids.items = omega (arith, c.args.self.now.indexed.within (c.args.leaf.rest % 32), c.if-number-eq0.false) in
    let was : slice_get c.args.self.now.kids.items (place - 1) ≡ Some c.index_mut.result.now = slice_get-get_or _ _ c.index_mut.result.now within ∙ ap Some (sym c.index_mut.ensures.value) in
    on_err_weaker c.push_in.result (λ same q. places_in-same g.N.Node.places c.args.self.now.index c.args.self.now.kids.items c.index_mut.result.now c.push_in.new.kid (place - 1) q c.args.self.now.indexed was within same) c.push_in.ensures.err
