use Rattle.std.proofs.Common.{rules, arith, ap, sym, ◌∙◌, ◌≡◌, ◌<◌, ◌%◌, ◌+◌, ◌*◌, length, slice_get, Some, refl}
use Rattle.std.proofs.lemmas.Option.{slice_get-get_or}
use Rattle.std.proofs.lemmas.Result.{on_ok_weaker, on_err_weaker}
use Rattle.par_trie.proofs.Rows.{places_in_row-set, places_in_row-same, places_in_row-other}
use Rattle.par_trie.proofs.row.push_in_row.Goals as goal

pub returns-clause-ok : goal.returns-clause-ok
returns-clause-ok g c =
    let slots = c.args.slots.now.items in
    let within : c.args.row * 32 + c.args.leaf.rest % 32 < length slots = omega (arith, c.requires) in
    let was : slice_get slots (c.args.row * 32 + c.args.leaf.rest % 32) ≡ Some c.index_mut.result.now = slice_get-get_or _ _ c.index_mut.result.now within ∙ ap Some (sym c.index_mut.ensures.value) in
    on_ok_weaker c.push_at.result (λ grown q. places_in_row-set g.N.Node.places slots c.index_mut.result.now c.push_at.new.slot c.args.leaf _ c.args.row q within was grown refl refl) c.push_at.ensures.ok

pub returns-clause-others : goal.returns-clause-others
returns-clause-others g c = λ i q ne. places_in_row-other g.N.Node.places c.args.slots.now.items c.push_at.new.slot (c.args.leaf.rest % 32) i c.args.row q (omega arith) ne

pub returns-clause-err : goal.returns-clause-err
returns-clause-err g c =
    let slots = c.args.slots.now.items in
    let within : c.args.row * 32 + c.args.leaf.rest % 32 < length slots = omega (arith, c.requires) in
    let was : slice_get slots (c.args.row * 32 + c.args.leaf.rest % 32) ≡ Some c.index_mut.result.now = slice_get-get_or _ _ c.index_mut.result.now within ∙ ap Some (sym c.index_mut.ensures.value) in
    on_err_weaker c.push_at.result (λ same q. places_in_row-same g.N.Node.places slots c.index_mut.result.now c.push_at.new.slot (c.args.leaf.rest % 32) c.args.row q within was same) c.push_at.ensures.err
