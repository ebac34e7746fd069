-- Parts that keep both sides of the stop, and why their merge is good.
use Rattle.std.proofs.Common.{◌≡◌, ℕ, ◌≤◌, List, ◌++◌, Bool, true, false, refl, ap, sym, ◌∙◌, subst, arith}
use Rattle.std.proofs.lemmas.Bool.{false≢true}
use Rattle.par_task.specs.Parts.{between, IsSpanned}
use Rattle.par_jobs.specs.Merges.{between_join}
use Rattle.par_jobs.specs.declared.span.Spanned.{Spanned}

-- what is left of a part after the stop, joined with all of the next one
abbrev pub JoinsRest : {K : Type 0} → (K → K → K → Type 0) → K → Spanned K → K → Type 0
JoinsRest {K} joined a b c = (rest : K) × joined b.prefix b.suffix rest × joined a rest c

-- The merge of two parts that keep both sides of the stop. After one that is whole, the first sides are joined; and else
-- all that the second kept is joined to what the first kept from its end on.
pub record SpannedMerges {K : Type 0} (joined : K → K → K → Type 0) (a b c : Spanned K) : Type 0 where
  pub both : a.whole ≡ true → joined a.prefix b.prefix c.prefix × (c.suffix ≡ b.suffix) × (c.end ≡ b.end) × (c.whole ≡ b.whole)
  pub cut : a.whole ≡ false → (c.prefix ≡ a.prefix) × JoinsRest joined a.suffix b c.suffix × (c.end ≡ a.end) × (c.whole ≡ false)

abbrev pub spanned_with : {K : Type 0} → K → K → ℕ → Bool → Spanned K
spanned_with prefix suffix end whole = record { prefix = prefix; suffix = suffix; end = end; whole = whole }

module _ {X K : Type 0} (built : List X → K → Type 0) (joined : K → K → K → Type 0) (law : (xs ys : List X) (v w c : K) → built xs v → built ys w → joined v w c → built (xs ++ ys) c)
    (source : List X) (marks : List Bool) (lo mid hi : ℕ) where
  -- all that a part kept is built from all its items
  pub spanned_whole : (b : Spanned K) (rest : K) → mid ≤ hi → IsSpanned built source marks mid hi b.prefix b.suffix b.end b.whole → joined b.prefix b.suffix rest → built (between source mid hi) rest
  spanned_whole b rest k q j =
      subst (λ v. built v rest) (between_join source mid b.end hi q.from q.within)
      (law (between source mid b.end) (between source b.end hi) b.prefix b.suffix rest q.prefix_is q.suffix_is j)

  spanned_both :
      (prefix suffix : K) (end : ℕ) (whole : Bool) (b c : Spanned K) → lo ≤ mid → mid ≤ hi → IsSpanned built source marks lo mid prefix suffix end whole → IsSpanned built source marks mid hi b.prefix b.suffix b.end b.whole →
      SpannedMerges joined (spanned_with prefix suffix end whole) b c → IsSpanned built source marks lo hi c.prefix c.suffix c.end c.whole
  spanned_both prefix suffix end true b c h k p q m =
      let r = m.both refl in
      let e : end ≡ mid = p.no_suffix refl in
      let at : c.end ≡ b.end = r.2 in
      record {
        from = omega (arith, at, q.from, h);
        within = omega (arith, at, q.within);
        prefix_is =
            subst (λ i. built (between source lo i) c.prefix) (sym at)
            (subst (λ v. built v c.prefix) (between_join source lo mid b.end h q.from)
            (law (between source lo mid) (between source mid b.end) prefix b.prefix c.prefix (subst (λ i. built (between source lo i) prefix) e p.prefix_is) q.prefix_is r.0));
        suffix_is = subst (λ i. built (between source i hi) c.suffix) (sym at) (subst (λ v. built (between source b.end hi) v) (sym r.1) q.suffix_is);
        no_suffix = λ t. at ∙ q.no_suffix (sym r.3 ∙ t);
        ends = record {
          at = λ s. at ∙ q.ends.at (p.ends.whole_is s refl);
          whole_is = λ s t. q.ends.whole_is (p.ends.whole_is s refl) (sym r.3 ∙ t);
          cut = λ s t. q.ends.cut (p.ends.whole_is s refl) (sym r.3 ∙ t);
        };
      }
  spanned_both prefix suffix end false b c h k p q m =
      let r = m.cut refl in
      let at : c.end ≡ end = r.2 in
      let j = r.1 in
      record {
        from = omega (arith, at, p.from);
        within = omega (arith, at, p.within, k);
        prefix_is = subst (λ i. built (between source lo i) c.prefix) (sym at) (subst (λ v. built (between source lo end) v) (sym r.0) p.prefix_is);
        suffix_is =
            subst (λ i. built (between source i hi) c.suffix) (sym at)
            (subst (λ v. built v c.suffix) (between_join source end mid hi p.within k)
            (law (between source end mid) (between source mid hi) suffix j.0 c.suffix p.suffix_is (spanned_whole b j.0 k q j.1) j.2));
        no_suffix = λ t. absurd (false≢true (sym r.3 ∙ t));
        ends = record {
          at = λ s. omega (arith, at, p.ends.at s, p.ends.cut s refl, k);
          whole_is = λ s t. absurd (false≢true (sym r.3 ∙ t));
          cut = λ s t. omega (arith, p.ends.cut s refl, k);
        };
      }

  pub spanned_joins :
      (a b c : Spanned K) → lo ≤ mid → mid ≤ hi → IsSpanned built source marks lo mid a.prefix a.suffix a.end a.whole → IsSpanned built source marks mid hi b.prefix b.suffix b.end b.whole → SpannedMerges joined a b c →
      IsSpanned built source marks lo hi c.prefix c.suffix c.end c.whole
  spanned_joins a b c h k p q m = spanned_both a.prefix a.suffix a.end a.whole b c h k p q m

module _ {K : Type 0} (joined : K → K → K → Type 0) (law : (v w c d : K) → joined v w c → joined v w d → c ≡ d) where
  one_rest : (a : K) (b : Spanned K) (c d : K) → JoinsRest joined a b c → JoinsRest joined a b d → c ≡ d
  one_rest a b c d p q = law a q.0 c d (subst (λ v. joined a v c) (law b.prefix b.suffix p.0 q.0 p.1 q.1) p.2) q.2

  same_spanned : (c d : Spanned K) → c.prefix ≡ d.prefix → c.suffix ≡ d.suffix → c.end ≡ d.end → c.whole ≡ d.whole → c ≡ d
  same_spanned c d p q r s =
      ap (λ v. spanned_with v c.suffix c.end c.whole) p
      ∙ (ap (λ v. spanned_with d.prefix v c.end c.whole) q
      ∙ (ap (λ v. spanned_with d.prefix d.suffix v c.whole) r
      ∙ ap (λ v. spanned_with d.prefix d.suffix d.end v) s))

  one_spanned_by : (prefix suffix : K) (end : ℕ) (whole : Bool) (b c d : Spanned K) → SpannedMerges joined (spanned_with prefix suffix end whole) b c → SpannedMerges joined (spanned_with prefix suffix end whole) b d → c ≡ d
  one_spanned_by prefix suffix end true b c d p q =
      let x = p.both refl in
      let y = q.both refl in
      same_spanned c d (law prefix b.prefix c.prefix d.prefix x.0 y.0) (x.1 ∙ sym y.1) (x.2 ∙ sym y.2) (x.3 ∙ sym y.3)
  one_spanned_by prefix suffix end false b c d p q =
      let x = p.cut refl in
      let y = q.cut refl in
      same_spanned c d (x.0 ∙ sym y.0) (one_rest suffix b c.suffix d.suffix x.1 y.1) (x.2 ∙ sym y.2) (x.3 ∙ sym y.3)

  pub one_spanned : (a b c d : Spanned K) → SpannedMerges joined a b c → SpannedMerges joined a b d → c ≡ d
  one_spanned a b c d p q = one_spanned_by a.prefix a.suffix a.end a.whole b c d p q
