-- The rule holds as the flags are opened, and as seats are split and joined.
use Rattle.std.proofs.Common.{◌≡◌, ◌≢◌, ℕ, zero, suc, ◌<◌, inl, Bool, true, false, true≢false, List, [], ◌∷◌, ◌++◌, length, set, refl, sym, ap, ◌∙◌, subst, arith}
use mathlib.Core.Logic.{dite}
use mathlib.Core.Option.{some, some-injective, some-ne-none}
use native.Mathlib.Decide.{ℕ_discrete}
use lib.ListN.{get_elem?}
use Rattle.atomic_table.specs.Table.{Splits, Joins, opening}
use Rattle.atomic_table.proofs.Lists.{set_else}
use Rattle.par_views.proofs.Views.{here, same_view, each_set, each_snoc, some_snoc}
use Rattle.par_signal.specs.declared.abort.Abort.TheVariants.{No, Memory}
use Rattle.par_signal.specs.Values.{memory_word}
use Rattle.par_signal.specs.Calls.{opened, left_of, right_of, joined}
use Rattle.par_signal.specs.Rule.{Known, begun, spent, IsNamed, Agrees, Called, WasCalled, Kept}
use Rattle.par_signal.specs.Plays.{cut_left, cut_right, glued}
use Rattle.par_signal.proofs.Values.{is_memory}
use Rattle.par_signal.proofs.Goes.{goes_left, goes_joined, right_agrees, or_right}
use Rattle.par_signal.proofs.Moves.{St, ours, finds, moves, moves_ours}

not_true : false ≡ true → ⊥
not_true e = true≢false (sym e)

-- the table as it is made
pub begins : (marks : List Bool) (words : List ℕ) → length marks < memory_word → words ≡ length marks ∷ 0 ∷ 0 ∷ [] → Kept marks (opening {S = Unit {0}} words [] (begun marks))
begins marks words few is = record {
  flags = record { low = length marks; high = 0; abort = No };
  words_are = is;
  few = few;
  named = named;
  agrees = λ j v e _. subst (λ (u : Known). Agrees marks record { low = length marks; high = 0; abort = No } u.seen) (one j v e).1 agrees;
  called = λ e. absurd (no_memory e);
  alone = λ j k v u ej ek _ _ _. (one k u ek).0 ∙ sym (one j v ej).0;
}
  where
    one : (j : ℕ) (v : Known) → get_elem? (begun marks ∷ []) j ≡ some v → (j ≡ 0) × (begun marks ≡ v)
    one zero v e = (refl, some-injective _ _ e)
    one (suc j) v e = absurd (some-ne-none v (sym e))

    named : IsNamed marks (length marks) 0 No
    named = record { low_is = inl refl; high_is = inl refl; abort_is = tt }

    agrees : Agrees marks record { low = length marks; high = 0; abort = No } (opened marks marks)
    agrees = record { marks_are = refl; low_falls = omega arith; high_rises = omega arith; abort_follows = tt; named = named; alone = λ _. (refl, refl, refl) }

    no_memory : No ≡ Memory → ⊥
    no_memory e = not_true (ap is_memory e)

-- a new view, where no live view is alone
comes : (marks : List Bool) (s : St) (r : Kept marks s) (w : Known) → Agrees marks r.flags w.seen → ¬ (w.seen.alone ≡ true) → ((j : ℕ) (u : Known) → get_elem? s.views j ≡ some u → u.live ≡ true → ¬ (u.seen.alone ≡ true))
    → Kept marks record { words = s.words; homes = s.homes; views = s.views ++ w ∷ [] }
comes marks s r w agrees apart none_alone = record {
  flags = r.flags;
  words_are = r.words_are;
  few = r.few;
  named = r.named;
  agrees = each_snoc (λ u. u.live ≡ true → Agrees marks r.flags u.seen) s.views w (λ _. agrees) r.agrees;
  called = λ e. some_snoc Called s.views w (r.called e);
  alone = λ j k x u ej ek lx lu ax. absurd (each_snoc (λ x. x.live ≡ true → ¬ (x.seen.alone ≡ true)) s.views w (λ _. apart) none_alone j x ej lx ax);
}

pub splits : (marks : List Bool) (id : ℕ) (v : Known) → v.live ≡ true → Splits (Kept marks) id v (cut_left v) (cut_right v)
unfolding moves_ours moves
splits marks id v live s r at = comes marks (record { words = s.words; homes = s.homes; views = set s.views id (cut_left v) }) after (cut_right v)
    (subst (λ (m : List Bool). Agrees m r.flags (right_of v.seen)) (ours marks s r id v at live) (right_agrees v.seen r.flags (finds marks s r id v at live))) not_true
    (each_set (λ _ u. u.live ≡ true → ¬ (u.seen.alone ≡ true)) s.views id (cut_left v) (λ _. not_true) (λ j u apart e lives al. apart (sym (r.alone j id u v e at lives live al))))
  where
    after : Kept marks record { words = s.words; homes = s.homes; views = set s.views id (cut_left v) }
    after = moves_ours marks s r id v at live r.flags (left_of v.seen) s.words s.homes r.words_are (goes_left v.seen r.flags (finds marks s r id v at live))

-- a view is spent, where another live one notes what it notes
leaves : (marks : List Bool) (s : St) (r : Kept marks s) (other id : ℕ) (w b : Known) → get_elem? s.views other ≡ some w → ¬ (other ≡ id) → get_elem? s.views id ≡ some b → b.live ≡ true → (w.seen.called ≡ true → b.seen.called ≡ true)
    → Kept marks record { words = s.words; homes = s.homes; views = set s.views other spent }
leaves marks s r other id w b at apart there live calls = record {
  flags = r.flags;
  words_are = r.words_are;
  few = r.few;
  named = r.named;
  agrees = each_set (λ _ u. u.live ≡ true → Agrees marks r.flags u.seen) s.views other spent (λ l. absurd (not_true l)) (λ j u _ e. r.agrees j u e);
  called = λ e. still (r.called e);
  alone = λ j k x u ej ek lx lu ax. each_set (λ j x. x.live ≡ true → x.seen.alone ≡ true → k ≡ j) s.views other spent (λ l _. absurd (not_true l))
      (λ j x _ ex lx ax. each_set (λ k u. u.live ≡ true → k ≡ j) s.views other spent (λ l. absurd (not_true l)) (λ k u _ eu lu. r.alone j k x u ex eu lx lu ax) k u ek lu) j x ej lx ax;
}
  where
    still : WasCalled s.views → WasCalled (set s.views other spent)
    still (j, u, e, was) = dite (ℕ_discrete j other)
        (λ (same : j ≡ other). (id, b, set_else s.views other id spent (λ e. apart (sym e)) ∙ there, (live, calls (ap (λ (z : Known). z.seen.called) (same_view s.views other j w u at e same) ∙ was.1))))
        (λ (ne : j ≢ other). (j, u, set_else s.views other j spent ne ∙ e, was))

pub joins : (marks : List Bool) (id : ℕ) (v : Known) (other : ℕ) (w : Known) → v.live ≡ true → w.live ≡ true → Joins (Kept marks) id v other w (glued v w) spent
joins marks id v other w live alive s r at apart there = leaves marks (record { words = s.words; homes = s.homes; views = set s.views id (glued v w) }) after other id w (glued v w) there apart (here s.views id v (glued v w) at) live (or_right v.seen.called w.seen.called)
  where
    found : get_elem? s.views other ≡ some w
    found = sym (set_else s.views id other (glued v w) apart) ∙ there

    theirs : Agrees v.seen.of r.flags w.seen
    theirs = subst (λ (m : List Bool). Agrees m r.flags w.seen) (sym (ours marks s r id v at live)) (r.agrees other w found alive)

    after : Kept marks record { words = s.words; homes = s.homes; views = set s.views id (glued v w) }
    after = moves_ours marks s r id v at live r.flags (joined v.seen w.seen) s.words s.homes r.words_are (goes_joined v.seen r.flags (finds marks s r id v at live) w.seen theirs)
