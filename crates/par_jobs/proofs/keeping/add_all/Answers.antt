use Rattle.std.proofs.Common.{[], ◌∷◌, ◌++◌, length-append, refl, sym, ◌∙◌, subst, arith}
use Rattle.std.proofs.lemmas.List.{append-nil, append_assoc}
use Rattle.par_jobs.proofs.Spanning.{few_taken}
use Rattle.par_jobs.proofs.keeping.add_all.Goals as goal

pub loop-item-init : goal.loop-item-init
loop-item-init g c = (
  [],
  record {
    all = refl;
    built = λ xs b. subst (λ v. g.B.Builder.built c.args.builder.now v (g.B.Built.Shown.shown c.args.value)) (sym (append-nil xs)) b;
  },
)

pub add-requires : goal.add-requires
add-requires g c =
    let i = c.loop-item.invariant in
    let all = rw c.in-Some.ensures.first at i.1.all in
    (c.requires.0 ++ i.0, omega (arith, c.requires.1, length-append c.requires.0 i.0, few_taken i.0 _ _ _ all), i.1.built c.requires.0 c.requires.2)

pub loop-item-preserved : goal.loop-item-preserved
loop-item-preserved g c =
    let i = c.loop-item.invariant in
    let all = rw c.in-Some.ensures.first at i.1.all in
    let x = g.S.Item.Shown.shown c.in-Some.item in (
      i.0 ++ x ∷ [],
      record {
        all = append_assoc i.0 (x ∷ []) _ ∙ all;
        built = λ xs b. subst (λ v. g.B.Builder.built c.args.builder.now v (g.B.Built.Shown.shown c.in_ok-built.built)) (append_assoc xs i.0 (x ∷ [])) (c.in_ok-built.ensures (xs ++ i.0) (i.1.built xs b));
      },
    )

pub returns : goal.returns
returns g c =
    let i = c.loop-item.invariant in
    let all = rw c.in_default.ensures.none at i.1.all in
    λ xs b. subst (λ v. g.B.Builder.built c.args.builder.now (xs ++ v) (g.B.Built.Shown.shown c.loop-item.built)) (sym (append-nil i.0) ∙ all) (i.1.built xs b)
