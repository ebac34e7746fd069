-- The rule after one seat has moved the flags, or left them.
use Rattle.std.proofs.Common.{◌≡◌, ℕ, ◌<◌, ⊎_elim, Bool, true, List, length, set, refl, sym, subst, arith}
use mathlib.Core.Option.{Option, some}
use lib.ListN.{get_elem?}
use Rattle.atomic_table.specs.Table.{State}
use Rattle.par_views.proofs.Views.{here, each_set, some_set}
use Rattle.par_signal.specs.declared.abort.Abort.TheVariants.{Memory}
use Rattle.par_signal.specs.Values.{memory_word}
use Rattle.par_signal.specs.Seen.{Sight}
use Rattle.par_signal.specs.Rule.{Known, Standing, words_of, IsNamed, Agrees, Called, Kept}
use Rattle.par_signal.proofs.Values.{follows_after}
use Rattle.par_signal.proofs.Goes.{Goes, Finds}

abbrev pub St : Type 0
St = State (Unit {0}) Known

-- the view, with w seen
abbrev pub seeing : Known → Sight (List Bool) → Known
seeing v w = record v { seen = w }

-- another live view agrees still
pub others_agree : (marks : List Bool) (f g : Standing) (v w u : Sight (List Bool)) → Goes marks f v g w → Agrees marks f u → ¬ (u.alone ≡ true) → Agrees marks g u
others_agree marks f g v w u goes a apart = record {
  marks_are = a.marks_are;
  low_falls = let x = a.low_falls in let y = goes.falls in omega arith;
  high_rises = let x = a.high_rises in let y = goes.rises in omega arith;
  abort_follows = follows_after u.abort f.abort g.abort a.abort_follows goes.follows;
  named = a.named;
  alone = λ al. absurd (apart al);
}

module _ (marks : List Bool) (s : St) (r : Kept marks s) (id : ℕ) (v : Known) (at : get_elem? s.views id ≡ some v) (live : v.live ≡ true) where
  -- the rule after a step of the live seat id
  unfoldable pub moves : (g : Standing) (w : Sight (List Bool)) (words : List ℕ) (homes : List (Option (Unit {0}))) → words ≡ words_of g → Goes marks r.flags v.seen g w → Kept marks record { words = words; homes = homes; views = set s.views id (seeing v w) }
  moves g w words homes is goes = record {
    flags = g;
    words_are = is;
    few = r.few;
    named = goes.named;
    agrees = each_set (λ _ u. u.live ≡ true → Agrees marks g u.seen) s.views id (seeing v w) (λ _. goes.agrees)
        (λ j u apart e lives. others_agree marks r.flags g v.seen w u.seen goes (r.agrees j u e lives) (λ al. apart (sym (r.alone j id u v e at lives live al))));
    called = λ memory. ⊎_elim (λ (was : r.flags.abort ≡ Memory). some_set Called s.views id v (seeing v w) at (λ called. (live, goes.calls called.1)) (r.called was))
        (λ (now : w.called ≡ true). (id, seeing v w, here s.views id v (seeing v w) at, (live, now))) (goes.called memory);
    alone = λ j k x u ej ek lx lu ax. each_set (λ j x. x.live ≡ true → x.seen.alone ≡ true → k ≡ j) s.views id (seeing v w)
        (λ _ aw. each_set (λ k u. u.live ≡ true → k ≡ id) s.views id (seeing v w) (λ _. refl) (λ k u _ e lu. r.alone id k v u at e live lu (goes.alone aw)) k u ek lu)
        (λ j x apart e lx ax. absurd (apart (sym (r.alone j id x v e at lx live ax)))) j x ej lx ax;
  }

  -- the marks are the seat's own
  pub ours : v.seen.of ≡ marks
  ours = (r.agrees id v at live).marks_are

  pub finds : Finds v.seen r.flags
  finds = record {
    few = subst (λ (m : List Bool). length m < memory_word) (sym ours) r.few;
    named = subst (λ (m : List Bool). IsNamed m r.flags.low r.flags.high r.flags.abort) (sym ours) r.named;
    agrees = subst (λ (m : List Bool). Agrees m r.flags v.seen) (sym ours) (r.agrees id v at live);
  }

  -- the same where the step is told over the seat's own marks
  unfoldable pub moves_ours : (g : Standing) (w : Sight (List Bool)) (words : List ℕ) (homes : List (Option (Unit {0}))) → words ≡ words_of g → Goes v.seen.of r.flags v.seen g w → Kept marks record { words = words; homes = homes; views = set s.views id (seeing v w) }
  moves_ours g w words homes is goes = moves g w words homes is (subst (λ (m : List Bool). Goes m r.flags v.seen g w) ours goes)
