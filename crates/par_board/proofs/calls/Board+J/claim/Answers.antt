use Rattle.std.proofs.Common.{rules, ◌≡◌, ℕ, [], sym, ap, ◌∙◌, subst}
use Rattle.par_board.specs.Words.{lo_of, hi_of}
use Rattle.par_board.specs.Loads.{IsPiece}
use Rattle.par_board.specs.Rule.{located}
use Rattle.par_board.specs.Calls.{IsClaimed}
use Rattle.par_board.proofs.Parting.{loads}
use Rattle.par_board.proofs.Claims.{claims}
use Rattle.par_board.proofs.Held.{lays}
use Rattle.par_board.proofs.Says.{claim_live, claim_held, claim_done}
use Rattle.par_board.proofs.calls.Board+J.claim.Goals as goal

pub load-word-requires : goal.load-word-requires
load-word-requires g c = (search rules, search rules, loads _ _ _ _ _ c.args.k c.seat.invariant.0 (search rules))

pub compare_exchange-found-requires : goal.compare_exchange-found-requires
compare_exchange-found-requires g c = let look = c.load-word.ensures.2.0 in
    (search rules, search rules, claims _ _ _ _ c.load-word.new.seat.me c.args.k c.load-word.result (ap (λ m. m.0.live) look ∙ c.seat.invariant.0) (search rules) (search rules) (search rules))

pub load-requires : goal.load-requires
load-requires g c = let look = c.load-word.ensures.2.0 in let did = c.compare_exchange-found.ensures.2.0 c.if-found-word.false in let out = c.take_out-load.ensures.out.0 in (
  search rules,
  search rules,
  lays _ _ _ _ c.take_out-load.new.seat.me c.args.k _ _ []
      (claim_live c.args.k c.load-word.result c.compare_exchange-found.result c.seat.inside.seat.me c.load-word.new.seat.me c.compare_exchange-found.new.seat.me c.take_out-load.new.seat.me _ (search rules) look did out c.seat.invariant.0) (search rules) (search rules) (claim_held c.args.k c.load-word.result c.compare_exchange-found.result c.seat.inside.seat.me c.load-word.new.seat.me c.compare_exchange-found.new.seat.me c.take_out-load.new.seat.me _ (search rules) look did out) (ap (λ m. m.1) out),
)

pub returns-clause-claim : goal.returns-clause-claim
returns-clause-claim g c = let look = c.load-word.ensures.2.0 in let did = c.compare_exchange-found.ensures.2.0 c.if-found-word.false in let out = c.take_out-load.ensures.out.0 in let laid = c.load.ensures.2 in
    let a : ℕ = c.load-word.result in let r : ℕ = c.compare_exchange-found.result in let hit : r ≡ a = c.if-found-word.false in
    let job_is : c.self.inside.job.now ≡ c.args.self.now.job = search rules in let lo_is : c.span_in-lo.result.0 ≡ lo_of r = (c.span_in-lo.ensures.0 ∙ ap lo_of (sym hit)) in let hi_is : c.span_in-lo.result.1 ≡ hi_of r = (c.span_in-lo.ensures.1 ∙ ap hi_of (sym hit)) in (
      lo_of r,
      hi_of r,
      subst (λ x. IsClaimed c.args.k (lo_of r) (hi_of r) x (located c.load.new.seat.table_id c.load.new.seat.me.0)) c.seat.view_is
          (claim_done c.args.k a r c.seat.inside.seat.me c.load-word.new.seat.me c.compare_exchange-found.new.seat.me c.take_out-load.new.seat.me _ (search rules) look did out c.seat.inside.seat.table_id c.load.new.seat.table_id (search rules) (sym hit) (search rules) _ _ laid.0 laid.1),
      subst (λ x. IsPiece g.J.Split.Splitter.items g.J.Split.Splitter.lo (g.J.Job.source x) (lo_of r) (hi_of r) c.into_split.result) job_is
          (subst (λ x. IsPiece g.J.Split.Splitter.items g.J.Split.Splitter.lo (g.J.Job.source c.self.inside.job.now) x (hi_of r) c.into_split.result) lo_is
          (subst (λ x. IsPiece g.J.Split.Splitter.items g.J.Split.Splitter.lo (g.J.Job.source c.self.inside.job.now) c.span_in-lo.result.0 x c.into_split.result) hi_is c.into_split.ensures)),
    )
