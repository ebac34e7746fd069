use Rattle.std.proofs.Common.{rules, ◌≡◌, ℕ, ◌+◌, arith, Some, [], ◌∷◌, sym, ap, ◌∙◌, subst, true}
use Rattle.par_board.specs.Words.{lo_of, hi_of}
use Rattle.par_board.specs.Seen.{owns_at, owned_open, settled, step_load}
use Rattle.par_board.specs.Calls.{IsCollected}
use Rattle.par_board.specs.Rule.{located}
use Rattle.par_board.proofs.Parting.{loads}
use Rattle.par_board.proofs.Opened.{takes_back, closes}
use Rattle.par_board.proofs.Says.{next_word, collect_live, collect_open, collect_done}
use Rattle.par_board.proofs.calls.Board+J.collect.Goals as goal

pub load-word-requires : goal.load-word-requires
load-word-requires g c = (search rules, search rules, loads _ _ _ _ _ c.args.k c.seat.invariant.0 (search rules))

pub compare_exchange-requires : goal.compare_exchange-requires
compare_exchange-requires g c = let look = c.load-word.ensures.2.0 in let open_ = c.requires.«open» in let opened : owns_at c.seat.inside.seat.me.0 c.args.k ≡ owned_open open_.0 open_.1 settled = search (rules, open_) in (
  search rules,
  search rules,
  takes_back _ _ _ _ c.load-word.new.seat.me c.args.k open_.0 open_.1 c.load-word.result (ap (λ m. m.0.live) look ∙ c.seat.invariant.0) (search rules) (search rules)
      (ap (λ m. owns_at m.0 c.args.k) look ∙ opened) (step_load, c.seat.inside.seat.me.0.notes, ap (λ m. m.0.notes) look) c.if-word-ne4.false,
)

pub take_out-load-requires-clause-load : goal.take_out-load-requires-clause-load
take_out-load-requires-clause-load g c = let look = c.load-word.ensures.2.0 in let take = c.compare_exchange.ensures.2.0 in let r : ℕ = c.compare_exchange.result in
    let empty = ap (λ m. m.1) look ∙ c.seat.invariant.1 in
    ((c.load-word.new.seat.me.0.of, lo_of r, hi_of r, true), ap (λ m. m.1) take ∙ (λ i. (c.args.k, Some (c.load-word.new.seat.me.0.of, lo_of r, hi_of r, true)) ∷ empty i))

pub compare_exchange-requires-2 : goal.compare_exchange-requires-2
compare_exchange-requires-2 g c = let look = c.load-word.ensures.2.0 in let take = c.compare_exchange.ensures.2.0 in let out = c.take_out-load.ensures.out.0 in let r : ℕ = c.compare_exchange.result in let w : ℕ = c.load-word.result in
    let same : r ≡ w = c.compare_exchange.ensures.2.1 in let up = next_word w 4 c.if-word-ne4.false (omega arith) in (
      search rules,
      search rules,
      closes _ _ _ _ c.take_out-load.new.seat.me c.args.k (lo_of r) (hi_of r) (w + 1) []
          (collect_live c.args.k w r c.seat.inside.seat.me c.load-word.new.seat.me c.compare_exchange.new.seat.me c.take_out-load.new.seat.me _ (search rules) look take out c.seat.invariant.0) (search rules) (search rules)
          (collect_open c.args.k w r c.seat.inside.seat.me c.load-word.new.seat.me c.compare_exchange.new.seat.me c.take_out-load.new.seat.me _ (search rules) look take out)
          (ap (λ m. m.1) out) up.0 (up.1 ∙ ap lo_of (sym same)) (up.2 ∙ ap hi_of (sym same)),
    )

pub returns-clause-collect : goal.returns-clause-collect
returns-clause-collect g c = let look = c.load-word.ensures.2.0 in let take = c.compare_exchange.ensures.2.0 in let out = c.take_out-load.ensures.out.0 in let r : ℕ = c.compare_exchange.result in let w : ℕ = c.load-word.result in
    let job_is : c.self.inside.job.now ≡ c.args.self.now.job = search rules in (
      subst (λ x. IsCollected c.args.k x (located c.compare_exchange-2.new.seat.table_id c.compare_exchange-2.new.seat.me.0)) c.seat.view_is
          (collect_done c.args.k w r c.seat.inside.seat.me c.load-word.new.seat.me c.compare_exchange.new.seat.me c.take_out-load.new.seat.me _ (search rules) look take out c.seat.inside.seat.table_id c.compare_exchange-2.new.seat.table_id (search rules) c.compare_exchange.ensures.2.1 c.if-word-ne4.false _ _ c.compare_exchange-2.ensures.2.0),
      (λ lo hi e. let e' : owns_at c.seat.inside.seat.me.0 c.args.k ≡ owned_open lo hi settled = ap (λ v. owns_at v c.args.k) c.seat.view_is ∙ e in let is = c.load-word.ensures.2.2 lo hi e' in
          let lo_is : c.span_in-lo.result.0 ≡ lo = (c.span_in-lo.ensures.0 ∙ is.2) in let hi_is : c.span_in-lo.result.1 ≡ hi = (c.span_in-lo.ensures.1 ∙ is.3) in
          subst (λ x. g.J.Job.good x lo hi (g.J.Part.Shown.shown c.into_part.result)) job_is
          (subst (λ x. g.J.Job.good c.self.inside.job.now x hi (g.J.Part.Shown.shown c.into_part.result)) lo_is
          (subst (λ x. g.J.Job.good c.self.inside.job.now c.span_in-lo.result.0 x (g.J.Part.Shown.shown c.into_part.result)) hi_is c.into_part.ensures))),
    )
