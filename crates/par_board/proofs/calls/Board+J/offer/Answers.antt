use Rattle.std.proofs.Common.{rules, ◌≡◌, ℕ, ◌+◌, ◌<◌, ◌≤◌, length, arith, Some, [], ◌∷◌, sym, ap, ◌∙◌, subst, false}
use Rattle.par_board.specs.Words.{pack, state_of, lo_of, hi_of}
use Rattle.par_board.specs.Calls.{IsOffered, OwnsTree}
use Rattle.par_board.specs.Rule.{located}
use Rattle.par_board.proofs.Tables.{state_pack, lo_pack, hi_pack}
use Rattle.par_board.proofs.Fills.{fills}
use Rattle.par_board.proofs.Opened.{offers}
use Rattle.par_board.proofs.Says.{offer_live, offer_open, offer_has, offer_done}
use Rattle.par_board.proofs.calls.Board+J.offer.Goals as goal

pub compare_exchange-requires : goal.compare_exchange-requires
compare_exchange-requires g c = let lo : ℕ = c.span-lo.result.0 in let hi : ℕ = c.span-lo.result.1 in let new : ℕ = c.pack-word.result in let is : new ≡ pack lo hi 1 = c.pack-word.ensures in
    let same : c.self.inside.table.shared.key.value ≡ c.args.self.now.job = ap (λ b. b.job) c.self.view_is in
    let count : length (g.J.Job.source c.args.self.now.job) ≡ c.self.inside.n = ap (λ x. length (g.J.Job.source x)) (sym same ∙ c.self.invariant.4) ∙ c.self.invariant.3 in
    let within : hi ≤ length (g.J.Job.source c.args.self.now.job) = subst (λ (x : ℕ). x ≤ length (g.J.Job.source c.args.self.now.job)) (sym c.span-lo.ensures.hi) c.requires.part.within in
    let small : hi < 1073741824 = (let few = c.self.invariant.2 in omega (arith, within, count, few)) in let lo_is = ap lo_of is ∙ lo_pack lo hi 1 (omega arith) small in let hi_is = ap hi_of is ∙ hi_pack lo hi 1 (omega arith) small in
    let order : lo ≤ hi = (let at = c.span-lo.ensures.lo in let end = c.span-lo.ensures.hi in omega (arith, at, end)) in
    let tree : OwnsTree c.args.k c.seat.inside.seat.me.0 = subst (OwnsTree c.args.k) (sym c.seat.view_is) c.requires.tree in (
      search rules,
      search rules,
      fills _ _ _ _ c.seat.inside.seat.me c.args.k lo hi new c.seat.invariant.0 (search rules) (search rules) tree.0 tree.1 order (subst (λ x. hi ≤ length (g.J.Job.source x)) (sym same) within) is lo_is hi_is,
    )

pub compare_exchange-requires-2 : goal.compare_exchange-requires-2
compare_exchange-requires-2 g c = let lo : ℕ = c.span-lo.result.0 in let hi : ℕ = c.span-lo.result.1 in let new : ℕ = c.pack-word.result in let is : new ≡ pack lo hi 1 = c.pack-word.ensures in
    let same : c.self.inside.table.shared.key.value ≡ c.args.self.now.job = ap (λ b. b.job) c.self.view_is in
    let count : length (g.J.Job.source c.args.self.now.job) ≡ c.self.inside.n = ap (λ x. length (g.J.Job.source x)) (sym same ∙ c.self.invariant.4) ∙ c.self.invariant.3 in
    let within : hi ≤ length (g.J.Job.source c.args.self.now.job) = subst (λ (x : ℕ). x ≤ length (g.J.Job.source c.args.self.now.job)) (sym c.span-lo.ensures.hi) c.requires.part.within in
    let small : hi < 1073741824 = (let few = c.self.invariant.2 in omega (arith, within, count, few)) in let lo_is = ap lo_of is ∙ lo_pack lo hi 1 (omega arith) small in let hi_is = ap hi_of is ∙ hi_pack lo hi 1 (omega arith) small in
    let job_is : Some c.self.inside.job.now ≡ c.seat.inside.seat.me.0.of = search rules in
    let put = c.put_in.ensures.put ∙ (λ i. (c.compare_exchange.new.seat.me.0, (c.args.k, Some ((c.of_split.ensures ∙ (λ j. (job_is j, lo, hi, false))) i)) ∷ [])) in let fill = c.compare_exchange.ensures.2.0 in (
      search rules,
      search rules,
      offers _ _ _ _ c.put_in.new.seat.me c.args.k lo hi new []
          (offer_live c.args.k c.compare_exchange.result new lo hi c.seat.inside.seat.me c.compare_exchange.new.seat.me c.put_in.new.seat.me (search rules) (search rules) lo_is hi_is fill put c.seat.invariant.0) (search rules) (search rules)
          (offer_open c.args.k c.compare_exchange.result new lo hi c.seat.inside.seat.me c.compare_exchange.new.seat.me c.put_in.new.seat.me (search rules) (search rules) lo_is hi_is fill put)
          (offer_has c.args.k c.compare_exchange.result new lo hi c.seat.inside.seat.me c.compare_exchange.new.seat.me c.put_in.new.seat.me (search rules) (search rules) lo_is hi_is fill put)
          (ap state_of is ∙ state_pack lo hi 1 (omega arith)) lo_is hi_is,
    )

pub returns-clause-offered : goal.returns-clause-offered
returns-clause-offered g c = let lo : ℕ = c.span-lo.result.0 in let hi : ℕ = c.span-lo.result.1 in let new : ℕ = c.pack-word.result in let is : new ≡ pack lo hi 1 = c.pack-word.ensures in
    let same : c.self.inside.table.shared.key.value ≡ c.args.self.now.job = ap (λ b. b.job) c.self.view_is in
    let count : length (g.J.Job.source c.args.self.now.job) ≡ c.self.inside.n = ap (λ x. length (g.J.Job.source x)) (sym same ∙ c.self.invariant.4) ∙ c.self.invariant.3 in
    let within : hi ≤ length (g.J.Job.source c.args.self.now.job) = subst (λ (x : ℕ). x ≤ length (g.J.Job.source c.args.self.now.job)) (sym c.span-lo.ensures.hi) c.requires.part.within in
    let small : hi < 1073741824 = (let few = c.self.invariant.2 in omega (arith, within, count, few)) in let lo_is = ap lo_of is ∙ lo_pack lo hi 1 (omega arith) small in let hi_is = ap hi_of is ∙ hi_pack lo hi 1 (omega arith) small in
    let job_is : Some c.self.inside.job.now ≡ c.seat.inside.seat.me.0.of = search rules in
    let put = c.put_in.ensures.put ∙ (λ i. (c.compare_exchange.new.seat.me.0, (c.args.k, Some ((c.of_split.ensures ∙ (λ j. (job_is j, lo, hi, false))) i)) ∷ [])) in let fill = c.compare_exchange.ensures.2.0 in
    let new_seat = located c.compare_exchange-2.new.seat.table_id c.compare_exchange-2.new.seat.me.0 in
    subst (λ x. IsOffered c.args.k x (g.J.Split.Splitter.lo c.args.part + length (g.J.Split.Splitter.items c.args.part)) c.args.seat.now new_seat) c.span-lo.ensures.lo
    (subst (λ x. IsOffered c.args.k lo x c.args.seat.now new_seat) c.span-lo.ensures.hi
    (subst (λ x. IsOffered c.args.k lo hi x new_seat) c.seat.view_is
    (offer_done c.args.k c.compare_exchange.result new lo hi c.seat.inside.seat.me c.compare_exchange.new.seat.me c.put_in.new.seat.me (search rules) (search rules) lo_is hi_is fill put c.seat.inside.seat.table_id c.compare_exchange-2.new.seat.table_id (search rules) c.compare_exchange.ensures.2.1 _ _ c.compare_exchange-2.ensures.2.0 c.compare_exchange-2.ensures.2.1)))
