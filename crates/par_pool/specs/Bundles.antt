-- What the run of a node gives: nothing, or a part that is good over the node's span and comes from its leaves.
use Rattle.std.specs.Prelude.{◌≡◌, ℕ, List, ◌++◌, Bool, Option, Some, None, refl}
use Rattle.std.proofs.Common.{sym, ◌∙◌}
use Rattle.par_task.specs.Marking.{Kind}
use Rattle.par_task.specs.Audits.{IsLeafed, Comes, both}
use Rattle.par_task.specs.declared.audit.Leaf.{Leaf}
use Rattle.par_pool.specs.declared.bundle.Bundle.{Bundle}
use Rattle.par_pool.specs.declared.bundle.Bundle.TheVariants.{Wanting, Whole}

-- a bundle is seen as its part and its leaves, or as nothing
abbrev pub bundle_shown : {P V : Type 0} → (P → V) → Bundle P → Option (V × List Leaf)
bundle_shown shown Wanting = None
bundle_shown shown (Whole part leaves) = Some (shown part, leaves.items)

-- the merge with nothing is nothing, and of two parts their merge, with the leaves of both in order
abbrev pub BundlesMerge : {V : Type 0} → (V → V → V → Type 0) → Option (V × List Leaf) → Option (V × List Leaf) → Option (V × List Leaf) → Type 0
BundlesMerge merges None b None = Unit {0}
BundlesMerge merges None b (Some c) = ⊥
BundlesMerge merges (Some a) None None = Unit {0}
BundlesMerge merges (Some a) None (Some c) = ⊥
BundlesMerge merges (Some a) (Some b) None = ⊥
BundlesMerge merges (Some a) (Some b) (Some c) = merges a.0 b.0 c.0 × (c.1 ≡ a.1 ++ b.1)

module _ {V : Type 0} (kind : Kind) (marks : List Bool) (good : ℕ → ℕ → V → Type 0) (merges : V → V → V → Type 0) where
  -- the part is good over lo..hi and comes from the leaves
  pub record IsWhole (lo hi : ℕ) (part : V) (leaves : List Leaf) : Type 0 where
    pub good_is : good lo hi part
    pub comes : Comes (IsLeafed kind marks good) merges leaves part

  -- the same of what a bundle is seen as; nothing is good over every span
  abbrev pub IsShownBundle : ℕ → ℕ → Option (V × List Leaf) → Type 0
  IsShownBundle lo hi None = Unit {0}
  IsShownBundle lo hi (Some x) = IsWhole lo hi x.0 x.1

  -- the same of a bundle
  abbrev pub IsBundle : {P : Type 0} → (P → V) → ℕ → ℕ → Bundle P → Type 0
  IsBundle shown lo hi b = IsShownBundle lo hi (bundle_shown shown b)

  -- bundles of adjacent spans merge to one of both
  pub bundles_join :
      (lo mid hi : ℕ) → ((a b c : V) → good lo mid a → good mid hi b → merges a b c → good lo hi c) →
      (a b c : Option (V × List Leaf)) → IsShownBundle lo mid a → IsShownBundle mid hi b → BundlesMerge merges a b c → IsShownBundle lo hi c
  bundles_join lo mid hi joins a b None p q m = tt
  bundles_join lo mid hi joins None b (Some c) p q m = absurd m
  bundles_join lo mid hi joins (Some a) None (Some c) p q m = absurd m
  bundles_join lo mid hi joins (Some a) (Some b) (Some c) p q m = record { good_is = joins a.0 b.0 c.0 p.good_is q.good_is m.0; comes = both p.comes q.comes m.0 m.1 }

-- and to at most one
pub bundles_one :
    {V : Type 0} (merges : V → V → V → Type 0) → ((a b c d : V) → merges a b c → merges a b d → c ≡ d) →
    (a b c d : Option (V × List Leaf)) → BundlesMerge merges a b c → BundlesMerge merges a b d → c ≡ d
bundles_one merges one None b None None p q = refl
bundles_one merges one None b None (Some d) p q = absurd q
bundles_one merges one None b (Some c) d p q = absurd p
bundles_one merges one (Some a) None None None p q = refl
bundles_one merges one (Some a) None None (Some d) p q = absurd q
bundles_one merges one (Some a) None (Some c) d p q = absurd p
bundles_one merges one (Some a) (Some b) None d p q = absurd p
bundles_one merges one (Some a) (Some b) (Some c) None p q = absurd q
bundles_one merges one (Some a) (Some b) (Some c) (Some d) p q = let e = one a.0 b.0 c.0 d.0 p.0 q.0 in let f = p.1 ∙ sym q.1 in λ i. Some (e i, f i)
