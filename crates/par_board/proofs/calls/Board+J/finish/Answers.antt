use Rattle.std.proofs.Common.{rules, ◌≡◌, ℕ, Some, [], ◌∷◌, refl, ◌∙◌, subst, true, false}
use Rattle.par_board.specs.Words.{lo_of, hi_of}
use Rattle.par_board.specs.Seen.{holds_at, held_over}
use Rattle.par_board.specs.Calls.{IsFinished}
use Rattle.par_board.specs.Rule.{located}
use Rattle.par_board.proofs.Held.{lifts, finishes}
use Rattle.par_board.proofs.Says.{finish_live, finish_held, finish_has, finish_done}
use Rattle.par_board.proofs.calls.Board+J.finish.Goals as goal

pub load-word-requires : goal.load-word-requires
load-word-requires g c = let held = c.requires.held in (search rules, search rules, lifts _ _ _ _ c.seat.inside.seat.me c.args.k held.0 held.1 c.seat.invariant.0 (search rules) (search rules) (search (rules, held)))

pub compare_exchange-requires : goal.compare_exchange-requires
compare_exchange-requires g c = let held = c.requires.held in let a : ℕ = c.load-word.result in let lift = c.load-word.ensures.2.0 in let over = c.load-word.ensures.2.1 in
    let holds : holds_at c.seat.inside.seat.me.0 c.args.k ≡ held_over held.0 held.1 false = search (rules, held) in
    let job_is : Some c.self.inside.job.now ≡ c.seat.inside.seat.me.0.of = search rules in
    let put = c.put_in.ensures.put ∙ (λ i. (c.load-word.new.seat.me.0, (c.args.k, Some ((c.of_part.ensures ∙ (λ j. (job_is j, c.span_in-lo.ensures.0 j, c.span_in-lo.ensures.1 j, true))) i)) ∷ [])) in (
      search rules,
      search rules,
      finishes _ _ _ _ c.put_in.new.seat.me c.args.k (lo_of a) (hi_of a) a []
          (finish_live c.args.k a held.0 held.1 c.seat.inside.seat.me c.load-word.new.seat.me c.put_in.new.seat.me (search rules) holds over lift put c.seat.invariant.0) (search rules) (search rules)
          (finish_held c.args.k a held.0 held.1 c.seat.inside.seat.me c.load-word.new.seat.me c.put_in.new.seat.me (search rules) holds over lift put)
          (finish_has c.args.k a held.0 held.1 c.seat.inside.seat.me c.load-word.new.seat.me c.put_in.new.seat.me (search rules) holds over lift put)
          (over held.0 held.1 _ holds).0 refl refl,
    )

pub returns-clause-finished : goal.returns-clause-finished
returns-clause-finished g c = let held = c.requires.held in let a : ℕ = c.load-word.result in let lift = c.load-word.ensures.2.0 in let over = c.load-word.ensures.2.1 in
    let holds : holds_at c.seat.inside.seat.me.0 c.args.k ≡ held_over held.0 held.1 false = search (rules, held) in
    let job_is : Some c.self.inside.job.now ≡ c.seat.inside.seat.me.0.of = search rules in
    let put = c.put_in.ensures.put ∙ (λ i. (c.load-word.new.seat.me.0, (c.args.k, Some ((c.of_part.ensures ∙ (λ j. (job_is j, c.span_in-lo.ensures.0 j, c.span_in-lo.ensures.1 j, true))) i)) ∷ [])) in
    subst (λ x. IsFinished c.args.k x (located c.compare_exchange.new.seat.table_id c.compare_exchange.new.seat.me.0)) c.seat.view_is
    (finish_done c.args.k a held.0 held.1 c.seat.inside.seat.me c.load-word.new.seat.me c.put_in.new.seat.me (search rules) holds over lift put c.seat.inside.seat.table_id c.compare_exchange.new.seat.table_id (search rules) _ _ c.compare_exchange.ensures.2.0 c.compare_exchange.ensures.2.1)
