-- Named values.
use Rattle.std.proofs.Common.{◌≡◌, ◌&&◌, ◌<◌, refl, ℕ, zero, suc, Bool, true, false, List, [], ◌∷◌, map, length, get_or, arith}
use Rattle.pipe_expr.specs.Grammar.{Tree, view}
use Rattle.pipe_steps.specs.Said.{named_view}
use Rattle.pipe_steps.specs.declared.step.Named.{Named}
use Rattle.pipe_checks.specs.Uses.{fields_pass}
use Rattle.pipe_checks.specs.declared.uses.Want.{Want}
use Rattle.pipe_checks.specs.declared.uses.Want.TheVariants as w

both : (a b : Bool) → (a && b) ≡ true → (a ≡ true) × (b ≡ true)
both true b h = (refl, h)
both false b h = cc h

-- each of some named values passes
pub each_passes : (ask : Want → Tree → Bool) (fields : List Named) (i : ℕ) (d : Named) → fields_pass ask (map named_view fields) ≡ true → i < length fields → ask w.Shown (view (get_or fields i d).of) ≡ true
each_passes ask [] i d h l = absurd (omega arith)
each_passes ask (f ∷ fs) zero d h l = (both (ask w.Shown (view f.of)) (fields_pass ask (map named_view fs)) h).0
each_passes ask (f ∷ fs) (suc i) d h l = each_passes ask fs i d (both (ask w.Shown (view f.of)) (fields_pass ask (map named_view fs)) h).1 (omega arith)
