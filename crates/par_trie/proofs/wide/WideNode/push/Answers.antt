use Rattle.par_index.specs.Places.{places_of}
use Rattle.std.proofs.Common.{ap, ◌++◌, ◌∙◌}
use Rattle.std.proofs.lemmas.Result.{on_ok_weaker, on_err_weaker}
use Rattle.par_trie.proofs.wide.WideNode.push.Goals as goal

pub returns-clause-ok : goal.returns-clause-ok
returns-clause-ok g c = on_ok_weaker c.push_among.result (λ grown q. grown q ∙ ap (λ ps. ps ++ places_of c.args.leaf q) (c.widen.ensures.same q)) c.push_among.ensures.ok

pub returns-clause-err : goal.returns-clause-err
returns-clause-err g c = on_err_weaker c.push_among.result (λ same q. same q ∙ c.widen.ensures.same q) c.push_among.ensures.err
