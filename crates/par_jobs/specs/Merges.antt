-- Parts that are enums, what each merge gives, and why the merge of adjacent good parts is good.
use Rattle.std.proofs.Common.{◌≡◌, ℕ, zero, suc, ◌+◌, ◌-◌, ◌≤◌, inl, inr, min, List, [], ◌∷◌, ◌++◌, map, take, drop, Bool, true, false, cond, Option, Some, None, refl, ap, sym, ◌∙◌, subst, arith, length-append}
use Rattle.std.specs.List.{filter}
use Rattle.std.proofs.lemmas.Bool.{cases_lt, false≢true}
use Rattle.std.proofs.lemmas.List.{take-append-drop, take-take, drop-take, drop-drop}
use Rattle.std.proofs.lemmas.List.Elements.{filter-append}
use Rattle.par_laws.specs.declared.test.Verdict.{Verdict}
use Rattle.par_laws.specs.Marks.{IsMarked, Clear, stop, last}
use Rattle.par_task.specs.Marking.{passes}
use Rattle.par_task.specs.Parts.{between, Sound, IsLeastFault, IsFront, IsNowhere, IsFaulty, IsLastIn, IsSifted, IsGathered}
use Rattle.par_laws.specs.declared.tried.FaultAt.{FaultAt}
use Rattle.par_jobs.specs.Steps.{fails}
use Rattle.par_jobs.specs.declared.front.Front.{Front}
use Rattle.par_jobs.specs.declared.search.Sought.{Sought}
use Rattle.par_jobs.specs.declared.search.Sought.TheVariants.{Found, Fell, Nowhere}
use Rattle.par_jobs.specs.declared.sift.Sifted.{Sifted}
use Rattle.par_jobs.specs.declared.sift.Sifted.TheVariants as sifted

-- what a search found is good over lo..hi: a marked index, anywhere; or the least fault, where none is marked; or nothing
abbrev pub IsSought : List Verdict → List Bool → ℕ → ℕ → Sought → Type 0
IsSought verdicts marks lo hi (Found i) = IsMarked marks i
IsSought verdicts marks lo hi (Fell f) = IsFaulty verdicts marks lo hi f.at f.kind
IsSought verdicts marks lo hi Nowhere = IsNowhere verdicts marks lo hi

-- found on either side, else the earlier fault
abbrev pub sought_merge : Sought → Sought → Sought
sought_merge (Found i) b = Found i
sought_merge (Fell f) (Found i) = Found i
sought_merge (Fell f) b = Fell f
sought_merge Nowhere b = b

-- where no item passes, the least fault is answered, or nothing
abbrev pub not_found_by : Option FaultAt → Sought
not_found_by None = Nowhere
not_found_by (Some f) = Fell f

-- a fault stands in the place of what was built
abbrev pub sifted_by : {A B : Type 0} → Option FaultAt → A → B → Sifted A B
sifted_by None a b = sifted.Got a b
sifted_by (Some f) a b = sifted.Fell f

-- an item that is kept or not
abbrev pub kept_if : {X : Type 0} → Bool → X → List X
kept_if b x = cond b (x ∷ []) []

abbrev pub sifted_shown : {A B C D : Type 0} → (A → C) → (B → D) → Sifted A B → Sifted C D
sifted_shown f g (sifted.Got a b) = sifted.Got (f a) (g b)
sifted_shown f g (sifted.Fell x) = sifted.Fell x

-- a sifted part is good over lo..hi: built of the items that pass and of those that fail; or the least fault
abbrev pub IsSiftedOf : {X A B : Type 0} → (X → Verdict) → (List X → A → Type 0) → (List X → B → Type 0) → List X → ℕ → ℕ → Sifted A B → Type 0
IsSiftedOf verdict passing failing source lo hi (sifted.Got a b) = IsSifted (λ x. passes (verdict x)) (λ x. fails (verdict x)) passing failing source (map verdict source) lo hi a b
IsSiftedOf verdict passing failing source lo hi (sifted.Fell f) = IsLeastFault (map verdict source) lo hi f.at f.kind

-- the merge of two sifted parts: both sides joined, or the earlier fault
abbrev pub SiftedMerges : {A B : Type 0} → (A → A → A → Type 0) → (B → B → B → Type 0) → Sifted A B → Sifted A B → Sifted A B → Type 0
SiftedMerges f g (sifted.Got a b) (sifted.Got c d) (sifted.Got x y) = f a c x × g b d y
SiftedMerges f g (sifted.Got a b) (sifted.Got c d) (sifted.Fell x) = ⊥
SiftedMerges f g (sifted.Got a b) (sifted.Fell x) z = z ≡ sifted.Fell x
SiftedMerges f g (sifted.Fell x) y z = z ≡ sifted.Fell x

-- the merge of two fronts: a front that is not whole ends the job, and else what they built is joined
pub record FrontMerges {K : Type 0} (joined : K → K → K → Type 0) (a b c : Front K) : Type 0 where
  pub cut : a.whole ≡ false → c ≡ a
  pub both : a.whole ≡ true → joined a.kept b.kept c.kept × (c.end ≡ b.end) × (c.whole ≡ b.whole)

-- the right one where it found something
abbrev pub last_merge : ℕ → ℕ → ℕ
last_merge a zero = a
last_merge a (suc b) = suc b

pub sound_join : (vs : List Verdict) (a b c : ℕ) → Sound vs a b → Sound vs b c → Sound vs a c
sound_join vs a b c p q k h l = elim (cases_lt k b) [ inl lt ↦ p k h lt | inr ge ↦ q k ge l ]

clear_join : (ms : List Bool) (a b c : ℕ) → Clear ms a b → Clear ms b c → Clear ms a c
clear_join ms a b c p q k h l = elim (cases_lt k b) [ inl lt ↦ p k h lt | inr ge ↦ q k ge l ]

fault_right : (vs : List Verdict) (lo mid hi at kind : ℕ) → lo ≤ mid → Sound vs lo mid → IsLeastFault vs mid hi at kind → IsLeastFault vs lo hi at kind
fault_right vs lo mid hi at kind h s f = record { from = omega (arith, f.from); before = f.before; fault = f.fault; sound = sound_join vs lo mid at s f.sound }

pub fault_left : (vs : List Verdict) (lo mid hi at kind : ℕ) → mid ≤ hi → IsLeastFault vs lo mid at kind → IsLeastFault vs lo hi at kind
fault_left vs lo mid hi at kind h f = record { from = f.from; before = omega (arith, f.before); fault = f.fault; sound = f.sound }

sought_both : (vs : List Verdict) (ms : List Bool) (lo mid hi : ℕ) (a b : Sought) → lo ≤ mid → mid ≤ hi → IsSought vs ms lo mid a → IsSought vs ms mid hi b → IsSought vs ms lo hi (sought_merge a b)
sought_both vs ms lo mid hi (Found i) b h k p q = p
sought_both vs ms lo mid hi (Fell f) (Found i) h k p q = q
sought_both vs ms lo mid hi (Fell f) (Fell g) h k p q = record { fault = fault_left vs lo mid hi f.at f.kind k p.fault; clear = clear_join ms lo mid hi p.clear q.clear }
sought_both vs ms lo mid hi (Fell f) Nowhere h k p q = record { fault = fault_left vs lo mid hi f.at f.kind k p.fault; clear = clear_join ms lo mid hi p.clear q.clear }
sought_both vs ms lo mid hi Nowhere (Found i) h k p q = q
sought_both vs ms lo mid hi Nowhere (Fell f) h k p q = record { fault = fault_right vs lo mid hi f.at f.kind h p.sound q.fault; clear = clear_join ms lo mid hi p.clear q.clear }
sought_both vs ms lo mid hi Nowhere Nowhere h k p q = record { sound = sound_join vs lo mid hi p.sound q.sound; clear = clear_join ms lo mid hi p.clear q.clear }

pub sought_joins : (vs : List Verdict) (ms : List Bool) (lo mid hi : ℕ) (a b c : Sought) → lo ≤ mid → mid ≤ hi → IsSought vs ms lo mid a → IsSought vs ms mid hi b → c ≡ sought_merge a b → IsSought vs ms lo hi c
sought_joins vs ms lo mid hi a b c h k p q m = subst (IsSought vs ms lo hi) (sym m) (sought_both vs ms lo mid hi a b h k p q)

pub between_join : {X : Type 0} (xs : List X) (lo mid hi : ℕ) → lo ≤ mid → mid ≤ hi → between xs lo mid ++ between xs mid hi ≡ between xs lo hi
between_join xs lo mid hi h k =
    let ys = drop lo xs in
    let a : ℕ = mid - lo in
    let b : ℕ = hi - mid in
    let m : lo + a ≡ mid = omega arith in
    let t : hi - lo ≡ a + b = omega arith in
    let d : drop mid xs ≡ drop a ys = ap (λ i. drop i xs) (sym m) ∙ sym (drop-drop a lo xs) in
    let e : take b (drop mid xs) ≡ drop a (take (a + b) ys) = ap (λ v. take b v) d ∙ sym (drop-take a b ys) in
    let f : take a ys ≡ take a (take (a + b) ys) = sym (take-take a (a + b) ys (omega arith)) in
    ap (λ v. v ++ take b (drop mid xs)) f ∙ (ap (λ v. take a (take (a + b) ys) ++ v) e ∙ (take-append-drop a (take (a + b) ys) ∙ ap (λ i. take i ys) (sym t)))

pub gather_joins :
    {X K : Type 0} (built : List X → K → Type 0) (joined : K → K → K → Type 0) (law : (xs ys : List X) (v w c : K) → built xs v → built ys w → joined v w c → built (xs ++ ys) c)
    (source : List X) (lo mid hi : ℕ) (a b c : K) → lo ≤ mid → mid ≤ hi → IsGathered built source lo mid a → IsGathered built source mid hi b → joined a b c → IsGathered built source lo hi c
gather_joins built joined law source lo mid hi a b c h k p q m =
    subst (λ v. built v c) (between_join source lo mid hi h k) (law (between source lo mid) (between source mid hi) a b c p q m)

sifted_one :
    {X K : Type 0} (built : List X → K → Type 0) (joined : K → K → K → Type 0) (law : (xs ys : List X) (v w c : K) → built xs v → built ys w → joined v w c → built (xs ++ ys) c)
    (keeps : X → Bool) (source : List X) (lo mid hi : ℕ) (a b c : K) → lo ≤ mid → mid ≤ hi → built (filter keeps (between source lo mid)) a → built (filter keeps (between source mid hi)) b → joined a b c →
    built (filter keeps (between source lo hi)) c
sifted_one built joined law keeps source lo mid hi a b c h k p q m =
    subst (λ v. built v c) (sym (filter-append keeps (between source lo mid) (between source mid hi)) ∙ ap (filter keeps) (between_join source lo mid hi h k))
    (law (filter keeps (between source lo mid)) (filter keeps (between source mid hi)) a b c p q m)

module _ {X A B : Type 0} (verdict : X → Verdict) (passing : List X → A → Type 0) (failing : List X → B → Type 0) (f : A → A → A → Type 0) (g : B → B → B → Type 0)
    (law : (xs ys : List X) (v w c : A) → passing xs v → passing ys w → f v w c → passing (xs ++ ys) c)
    (law' : (xs ys : List X) (v w c : B) → failing xs v → failing ys w → g v w c → failing (xs ++ ys) c) (source : List X) (lo mid hi : ℕ) where
  pub sifted_joins :
      (a b c : Sifted A B) → lo ≤ mid → mid ≤ hi → IsSiftedOf verdict passing failing source lo mid a → IsSiftedOf verdict passing failing source mid hi b → SiftedMerges f g a b c →
      IsSiftedOf verdict passing failing source lo hi c
  sifted_joins (sifted.Got a b) (sifted.Got c d) (sifted.Got x y) h k p q m = record {
    sound = sound_join (map verdict source) lo mid hi p.sound q.sound;
    passed = sifted_one passing f law (λ x. passes (verdict x)) source lo mid hi a c x h k p.passed q.passed m.0;
    failed = sifted_one failing g law' (λ x. fails (verdict x)) source lo mid hi b d y h k p.failed q.failed m.1;
  }
  sifted_joins (sifted.Got a b) (sifted.Got c d) (sifted.Fell x) h k p q m = absurd m
  sifted_joins (sifted.Got a b) (sifted.Fell x) z h k p q m = subst (IsSiftedOf verdict passing failing source lo hi) (sym m) (fault_right (map verdict source) lo mid hi x.at x.kind h p.sound q)
  sifted_joins (sifted.Fell x) b z h k p q m = subst (IsSiftedOf verdict passing failing source lo hi) (sym m) (fault_left (map verdict source) lo mid hi x.at x.kind k p)

pub one_sifted :
    {A B : Type 0} (f : A → A → A → Type 0) (g : B → B → B → Type 0) (law : (v w c d : A) → f v w c → f v w d → c ≡ d) (law' : (v w c d : B) → g v w c → g v w d → c ≡ d) (a b c d : Sifted A B) →
    SiftedMerges f g a b c → SiftedMerges f g a b d → c ≡ d
one_sifted f g law law' (sifted.Got a b) (sifted.Got c d) (sifted.Got x y) (sifted.Got z w) p q = ap (λ v. sifted.Got v y) (law a c x z p.0 q.0) ∙ ap (λ v. sifted.Got z v) (law' b d y w p.1 q.1)
one_sifted f g law law' (sifted.Got a b) (sifted.Got c d) (sifted.Fell x) z p q = absurd p
one_sifted f g law law' (sifted.Got a b) (sifted.Got c d) (sifted.Got x y) (sifted.Fell z) p q = absurd q
one_sifted f g law law' (sifted.Got a b) (sifted.Fell x) y z p q = p ∙ sym q
one_sifted f g law law' (sifted.Fell x) b y z p q = p ∙ sym q

module _ {X K : Type 0} (built : List X → K → Type 0) (joined : K → K → K → Type 0) (law : (xs ys : List X) (v w c : K) → built xs v → built ys w → joined v w c → built (xs ++ ys) c)
    (source : List X) (marks : List Bool) (lo mid hi : ℕ) where
  front_both :
      (kept : K) (end : ℕ) (whole : Bool) (b c : Front K) → lo ≤ mid → mid ≤ hi → IsFront built source marks lo mid kept end whole → IsFront built source marks mid hi b.kept b.end b.whole →
      FrontMerges joined (record { kept = kept; end = end; whole = whole }) b c → IsFront built source marks lo hi c.kept c.end c.whole
  front_both kept end true b c h k p q m =
      let r = m.both refl in
      record {
        taken = p.taken ++ q.taken;
        few = omega (arith, length-append p.taken q.taken, p.few, q.few);
        built_is = law p.taken q.taken kept b.kept c.kept p.built_is q.built_is r.0;
        front = λ s.
            let w : mid ≤ stop marks = p.ends.whole_is s refl in
            let e : min mid (stop marks) ≡ mid = omega arith in
            let f : p.taken ≡ between source lo mid = p.front s ∙ ap (λ v. between source lo v) e in
            ap (λ v. v ++ q.taken) f ∙ (ap (λ v. between source lo mid ++ v) (q.front w) ∙ between_join source lo mid (min hi (stop marks)) h (omega arith));
        ends = record {
          at = λ s. r.1 ∙ q.ends.at (p.ends.whole_is s refl);
          whole_is = λ s t. q.ends.whole_is (p.ends.whole_is s refl) (sym r.2 ∙ t);
          cut = λ s t. q.ends.cut (p.ends.whole_is s refl) (sym r.2 ∙ t);
        };
      }
  front_both kept end false b c h k p q m =
      let r : IsFront built source marks lo hi kept end false = record {
        taken = p.taken;
        few = omega (arith, p.few);
        built_is = p.built_is;
        front = λ s. let e : min mid (stop marks) ≡ min hi (stop marks) = omega (arith, p.ends.cut s refl) in p.front s ∙ ap (λ v. between source lo v) e;
        ends = record {
          at = λ s. omega (arith, p.ends.at s, p.ends.cut s refl);
          whole_is = λ s t. absurd (false≢true t);
          cut = λ s t. omega (arith, p.ends.cut s refl);
        };
      } in
      subst (λ (v : Front K). IsFront built source marks lo hi v.kept v.end v.whole) (sym (m.cut refl)) r

  pub front_joins :
      (a b c : Front K) → lo ≤ mid → mid ≤ hi → IsFront built source marks lo mid a.kept a.end a.whole → IsFront built source marks mid hi b.kept b.end b.whole → FrontMerges joined a b c →
      IsFront built source marks lo hi c.kept c.end c.whole
  front_joins a b c h k p q m = front_both a.kept a.end a.whole b c h k p q m

abbrev pub front_with : {K : Type 0} → K → ℕ → Bool → Front K
front_with kept end whole = record { kept = kept; end = end; whole = whole }

one_front_by : {K : Type 0} (joined : K → K → K → Type 0) (law : (v w c d : K) → joined v w c → joined v w d → c ≡ d) (kept : K) (end : ℕ) (whole : Bool) (b c d : Front K) →
    FrontMerges joined (record { kept = kept; end = end; whole = whole }) b c → FrontMerges joined (record { kept = kept; end = end; whole = whole }) b d → c ≡ d
one_front_by {K} joined law kept end true b c d p q =
    let x = p.both refl in
    let y = q.both refl in
    ap (λ v. front_with v c.end c.whole) (law kept b.kept c.kept d.kept x.0 y.0)
    ∙ (ap (λ v. front_with d.kept v c.whole) (x.1 ∙ sym y.1) ∙ ap (λ v. front_with d.kept d.end v) (x.2 ∙ sym y.2))
one_front_by joined law kept end false b c d p q = p.cut refl ∙ sym (q.cut refl)

pub one_front : {K : Type 0} (joined : K → K → K → Type 0) (law : (v w c d : K) → joined v w c → joined v w d → c ≡ d) (a b c d : Front K) → FrontMerges joined a b c → FrontMerges joined a b d → c ≡ d
one_front joined law a b c d p q = one_front_by joined law a.kept a.end a.whole b c d p q

last_both : (marks : List Bool) (lo mid hi a b : ℕ) → lo ≤ mid → mid ≤ hi → IsLastIn marks lo mid a → IsLastIn marks mid hi b → IsLastIn marks lo hi (last_merge a b)
last_both marks lo mid hi a zero h k p q = record {
  found = λ w s. elim (cases_lt mid (last marks)) [ inl lt ↦ let e = q.found w lt in absurd (omega (arith, e, lt)) | inr ge ↦ p.found ge s ];
  none = λ s. p.none s;
}
last_both marks lo mid hi a (suc b) h k p q = record {
  found = λ w s. elim (cases_lt mid (last marks)) [ inl lt ↦ q.found w lt | inr ge ↦ let e = q.none ge in absurd (omega (arith, e)) ];
  none = λ s. let e = q.none (omega (arith, s)) in absurd (omega (arith, e));
}

pub last_joins : (marks : List Bool) (lo mid hi a b c : ℕ) → lo ≤ mid → mid ≤ hi → IsLastIn marks lo mid a → IsLastIn marks mid hi b → c ≡ last_merge a b → IsLastIn marks lo hi c
last_joins marks lo mid hi a b c h k p q m = subst (IsLastIn marks lo hi) (sym m) (last_both marks lo mid hi a b h k p q)
