-- Each step on a flag keeps the rule.
use Rattle.std.proofs.Common.{◌≡◌, ℕ, ◌+◌, ◌==◌, min, max, inl, inr, Bool, true, List, get_or, set, refl, sym, ap, ◌∙◌, subst, arith}
use mathlib.Core.Option.{none}
use prog.Atomic.{either}
use Rattle.atomic_table.specs.Table.{Step, step, Allows}
use Rattle.par_laws.specs.Marks.{IsMarked}
use Rattle.par_views.proofs.Stepping.{plain}
use Rattle.par_signal.specs.declared.abort.Abort.{Abort}
use Rattle.par_signal.specs.declared.abort.Abort.TheVariants.{Memory}
use Rattle.par_signal.specs.Values.{IsHigh, set_by, memory_word, word_of}
use Rattle.par_signal.specs.Seen.{Sight}
use Rattle.par_signal.specs.Calls.{ReadsAbort, sees_low, sees_high, sees_abort, lowers, raises, aborts, aborts_memory}
use Rattle.par_signal.specs.Rule.{Standing, words_of, Kept}
use Rattle.par_signal.specs.Plays.{Seated, SeesNow, OnAbort, loaded_low, loaded_high, loaded_abort, lowered, raised, aborted, memory_aborted}
use Rattle.par_signal.proofs.Values.{low_min, high_max, set_by_is, follows_same, follows_set_by, follows_memory, set_by_memory, read_back, exchanged_word, greatest_word}
use Rattle.par_signal.proofs.Goes.{Goes, Finds, reads_low, reads_high, reads_abort, sets_low, sets_high, sets_abort}
use Rattle.par_signal.proofs.Moves.{seeing, finds, moves_ours}

module _ (marks : List Bool) (slots id : ℕ) (me : Seated) (live : me.0.live ≡ true) where
  -- a step on the word i, which becomes f of what it was, where the flags stood and stand, and what the seat has seen then
  record Leads (i : ℕ) (f : ℕ → ℕ) (then : ℕ → Seated → Type 0) (from : Standing) : Type 0 where
    to : Standing
    seen : Sight (List Bool)
    becomes : set (words_of from) i (f (get_or (words_of from) i 0)) ≡ words_of to
    goes : Goes me.0.seen.of from me.0.seen to seen
    tells : then (get_or (words_of from) i 0) (seeing me.0 seen, me.1)

  steps : (i : ℕ) (f : ℕ → ℕ) (then : ℕ → Seated → Type 0) → ((from : Standing) → Finds me.0.seen from → Leads i f then from) → Allows (Kept marks) slots id me i f then
  steps i f then leads = plain (Kept marks) slots id me i f then (λ s r at. let l = leads r.flags (finds marks s r id me.0 at live) in (
    get_or (words_of r.flags) i 0,
    ap (λ (l : List ℕ). get_or l i 0) r.words_are,
    seeing me.0 l.seen,
    moves_ours marks s r id me.0 at live l.to l.seen _ s.homes (ap (λ (l : List ℕ). set l i (f (get_or (words_of r.flags) i 0))) r.words_are ∙ l.becomes) l.goes,
    l.tells,
  ))

  pub low_loads : Allows (Kept marks) slots id me 0 (λ n. n) (loaded_low (step slots 0 0 0 none) me)
  low_loads = steps 0 (λ n. n) (loaded_low (step slots 0 0 0 none) me) (λ f found. record {
    to = f;
    seen = sees_low me.0.seen f.low;
    becomes = refl;
    goes = sets_low me.0.seen f found f.low _ _ (omega arith) found.named.low_is;
    tells = (refl, reads_low me.0.seen f found, refl);
  })

  pub low_lowers : (i : ℕ) → IsMarked me.0.seen.of i → Allows (Kept marks) slots id me 0 (λ n. min n i) (lowered (step slots 0 i 0 none) me)
  low_lowers i marked = steps 0 (λ n. min n i) (lowered (step slots 0 i 0 none) me) (λ f found. record {
    to = record f { low = min f.low i };
    seen = lowers me.0.seen i f.low;
    becomes = refl;
    goes = sets_low me.0.seen f found (min f.low i) _ _ (omega arith) (low_min me.0.seen.of f.low i found.named.low_is (inr marked));
    tells = (refl, reads_low me.0.seen f found, refl);
  })

  pub high_loads : Allows (Kept marks) slots id me 1 (λ n. n) (loaded_high (step slots 1 0 0 none) me)
  high_loads = steps 1 (λ n. n) (loaded_high (step slots 1 0 0 none) me) (λ f found. record {
    to = f;
    seen = sees_high me.0.seen f.high;
    becomes = refl;
    goes = sets_high me.0.seen f found f.high _ _ (omega arith) found.named.high_is;
    tells = (refl, reads_high me.0.seen f found, refl);
  })

  pub high_raises : (h : ℕ) → IsHigh me.0.seen.of h → Allows (Kept marks) slots id me 1 (λ n. max n h) (raised (step slots 1 h 0 none) me)
  high_raises h is = steps 1 (λ n. max n h) (raised (step slots 1 h 0 none) me) (λ f found. record {
    to = record f { high = max f.high h };
    seen = raises me.0.seen h f.high;
    becomes = refl;
    goes = sets_high me.0.seen f found (max f.high h) _ _ (omega arith) (high_max me.0.seen.of f.high h found.named.high_is is);
    tells = (refl, reads_high me.0.seen f found, refl);
  })

  -- what is told of the abort flag itself is told of its word
  told : (w : Abort → Sight (List Bool)) (st : Step (Unit {0})) (f : Standing) → Finds me.0.seen f → st.word ≡ 2 → OnAbort w st me (word_of f.abort) (seeing me.0 (w f.abort), me.1)
  told w st f found here = subst (λ (a : Abort). (st.word ≡ 2) × ReadsAbort me.0.seen.of me.0.seen a × SeesNow me (w a) (seeing me.0 (w f.abort), me.1))
      (sym (read_back me.0.seen.of f.abort found.named.abort_is found.few)) (here, reads_abort me.0.seen f found, refl)

  pub abort_loads : Allows (Kept marks) slots id me 2 (λ n. n) (loaded_abort (step slots 2 0 0 none) me)
  abort_loads = steps 2 (λ n. n) (loaded_abort (step slots 2 0 0 none) me) (λ f found. record {
    to = f;
    seen = sees_abort me.0.seen f.abort;
    becomes = refl;
    goes = sets_abort me.0.seen f found f.abort _ _ _ (follows_same f.abort) found.named.abort_is (λ e. e) (λ e. inl e);
    tells = told (sees_abort me.0.seen) (step slots 2 0 0 none) f found refl;
  })

  pub abort_sets : (i : ℕ) → IsMarked me.0.seen.of i → Allows (Kept marks) slots id me 2 (λ n. either (n == 0) (1 + i) n) (aborted (step slots 2 0 (1 + i) none) me)
  abort_sets i marked = steps 2 (λ n. either (n == 0) (1 + i) n) (aborted (step slots 2 0 (1 + i) none) me) (λ f found. record {
    to = record f { abort = set_by f.abort i };
    seen = aborts me.0.seen i f.abort;
    becomes = ap (λ (x : ℕ). set (words_of f) 2 x) (exchanged_word f.abort i);
    goes = sets_abort me.0.seen f found (set_by f.abort i) _ _ _ (follows_set_by f.abort i) (set_by_is me.0.seen.of f.abort i found.named.abort_is marked) (λ e. e) (λ e. inl (set_by_memory f.abort i e));
    tells = subst (λ (k : ℕ). OnAbort (aborts me.0.seen k) (step slots 2 0 (1 + i) none) me (word_of f.abort) (seeing me.0 (aborts me.0.seen i f.abort), me.1)) (omega arith) (told (aborts me.0.seen i) (step slots 2 0 (1 + i) none) f found refl);
  })

  pub memory_sets : Allows (Kept marks) slots id me 2 (λ n. max n memory_word) (memory_aborted (step slots 2 memory_word 0 none) me)
  memory_sets = steps 2 (λ n. max n memory_word) (memory_aborted (step slots 2 memory_word 0 none) me) (λ f found. record {
    to = record f { abort = Memory };
    seen = aborts_memory me.0.seen f.abort;
    becomes = ap (λ (x : ℕ). set (words_of f) 2 x) (greatest_word me.0.seen.of f.abort found.named.abort_is found.few);
    goes = sets_abort me.0.seen f found Memory _ _ _ (follows_memory f.abort) tt (λ _. refl) (λ _. inr refl);
    tells = told (aborts_memory me.0.seen) (step slots 2 memory_word 0 none) f found refl;
  })
