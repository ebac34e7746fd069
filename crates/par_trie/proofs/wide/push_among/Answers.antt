use Rattle.std.proofs.Common.{rules, arith, ap, sym, ◌∙◌, ◌≡◌, ◌<◌, ◌%◌, length, slice_get, Some, refl}
use Rattle.std.proofs.lemmas.Option.{slice_get-get_or}
use Rattle.std.proofs.lemmas.Result.{on_ok_weaker, on_err_weaker}
use Rattle.par_trie.proofs.Slots.{places_in-set, places_in-same}
use Rattle.par_trie.proofs.wide.push_among.Goals as goal

pub returns-clause-ok : goal.returns-clause-ok
returns-clause-ok g c =
    let slots = c.args.slots.now.items in
    let within : c.args.leaf.rest % 32 < length slots = omega (arith, c.requires) in
    let was : slice_get slots (c.args.leaf.rest % 32) ≡ Some c.index_mut.result.now = slice_get-get_or _ _ c.index_mut.result.now within ∙ ap Some (sym c.index_mut.ensures.value) in
    on_ok_weaker c.push_at.result (λ grown q. places_in-set g.N.Node.places slots c.index_mut.result.now c.push_at.new.slot c.args.leaf _ q within was grown refl refl) c.push_at.ensures.ok

pub returns-clause-err : goal.returns-clause-err
returns-clause-err g c =
    let slots = c.args.slots.now.items in
    let within : c.args.leaf.rest % 32 < length slots = omega (arith, c.requires) in
    let was : slice_get slots (c.args.leaf.rest % 32) ≡ Some c.index_mut.result.now = slice_get-get_or _ _ c.index_mut.result.now within ∙ ap Some (sym c.index_mut.ensures.value) in
    on_err_weaker c.push_at.result (λ same q. places_in-same g.N.Node.places slots c.index_mut.result.now c.push_at.new.slot (c.args.leaf.rest % 32) q within was same) c.push_at.ensures.err
