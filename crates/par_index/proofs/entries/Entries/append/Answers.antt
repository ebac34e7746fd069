use Rattle.std.proofs.Common.{◌≡◌, ◌∙◌, ap, sym, ◌++◌, ◌∷◌, [], append-nil, take, length}
use Rattle.std.specs.Prelude.{None}
use Rattle.std.specs.Map.{lookup, keys_of}
use Rattle.par_index.proofs.Keeping.{next_absent, on_err_any, take_front}
use Rattle.par_index.proofs.entries.Entries.append.Goals as goal

pub returns-in_err-reserve-clause-err : goal.returns-in_err-reserve-clause-err
returns-in_err-reserve-clause-err g c = on_err_any c.from_residual.result (0, c.reserve.ensures.items ∙ (c.self.view_is ∙ sym (append-nil c.args.self.now)))

pub push-requires-clause-absent : goal.push-requires-clause-absent
push-requires-clause-absent g c =
    let whole : c.loop-key.yielded ++ (c.in-Some.key, c.in-Some.value) ∷ c.next.new.self.rest.items ≡ c.args.other = ap (λ xs. c.loop-key.yielded ++ xs) (sym c.in-Some.ensures.steps.0) ∙ c.loop-key.invariant.whole in
    ap (lookup (g.K.PartialEq.eq c.in-Some.key)) c.loop-key.invariant.added
    ∙ next_absent g.K.PartialEq.eq g.met.K.Eq.laws c.args.self.now c.args.other c.loop-key.yielded c.next.new.self.rest.items c.in-Some.key c.in-Some.value whole c.requires.apart (rw (sym c.other.view_is) c.other.invariant.distinct)

pub returns-in_err-push-clause-err : goal.returns-in_err-push-clause-err
returns-in_err-push-clause-err g c =
    on_err_any c.from_residual-in_err-push.result
    (length c.loop-key.yielded, c.in_err-push.ensures.err ∙ (c.loop-key.invariant.added ∙ ap (λ xs. c.args.self.now ++ xs) (sym (take_front c.loop-key.yielded c.loop-key.key-iterator.rest.items c.args.other c.loop-key.invariant.whole))))
