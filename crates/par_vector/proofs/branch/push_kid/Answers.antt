use Rattle.std.proofs.Common.{rules, sym, ap, subst, ◌∙◌, ◌≡◌, ◌-◌, ◌++◌, ◌∷◌, [], length, length-append, set, arith}
use Rattle.std.specs.Prelude.{OnOk}
use Rattle.par_vector.specs.Kids.{HasOneMore}
use Rattle.par_vector.proofs.Packed.{reads}
use Rattle.par_vector.proofs.Pushes.{kid_more}
use Rattle.par_vector.proofs.branch.push_kid.Goals as goal

pub returns-else-is_err-clause-ok : goal.returns-else-is_err-clause-ok
returns-else-is_err-clause-ok g c =
    let old = c.args.kids.now.items in
    let grown : c.push.new.self.items ≡ old ++ c.empty.result ∷ [] = c.in-Ok.ensures.items in
    let last : c.len-last.result - 1 ≡ length old = omega (arith, c.len-last.ensures, ap length grown, length-append old (c.empty.result ∷ [])) in
    let is : c.index_mut.result.now ≡ c.empty.result = reads c.push.new.self.items old c.empty.result [] (c.len-last.result - 1) c.index_mut.result.now grown (sym last) c.index_mut.ensures.value in
    rw (last, grown) (kid_more g.N.Node.items c.push-pushed.result old c.empty.result c.push-pushed.new.self c.args.item c.empty.ensures (rw is at c.push-pushed.ensures.items))
