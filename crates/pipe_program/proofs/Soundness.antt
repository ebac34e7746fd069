-- Nothing of a plan that is read is wrong.
use Rattle.std.proofs.Common.{◌≡◌, ◌+◌, ◌≤◌, ◌<◌, length, ◌∷◌, ◌++◌, ◌∙◌, ◌⊎◌, sym, refl, ap, subst, inl, inr, ℕ, List, [], map, Bool, true, false, arith}
use Rattle.std.specs.Prelude.{◌&&◌, not, nat_le, if◌then◌else◌}
use Rattle.std.specs.Str.Lines.{lines}
use Rattle.std.proofs.lemmas.Bool.{leb-false}
use Rattle.par_rows.specs.declared.schema.Column.{Column}
use Rattle.pipe_steps.specs.Said.{Said, Middle, End, Second, Begins, Par, Goes, Ends}
use Rattle.pipe_checks.specs.declared.fault.Fault.TheVariants as f
use Rattle.pipe_checks.specs.Columns.{columns_after, source_columns, step_columns}
use Rattle.pipe_checks.specs.Kinds.{divides_well, fits, known}
use Rattle.pipe_checks.specs.Places.{Spot, is_step, misnamed, mistyped, moves, next, split_fits, split_known, start, stuck, too_many}
use Rattle.pipe_checks.specs.Uses.{every}
use Rattle.pipe_program.specs.Plans.{Plan, AreOf, Holds, Opens}
use Rattle.pipe_program.specs.Reading.{AreFaultless, IsFaultless, IsSound, ReadsFrom, Reads, Says}

-- the same of all lines, over the columns before them
abbrev All : List Column → List Said → Type 0
All cs [] = Unit {0}
All cs (y ∷ ys) = IsFaultless cs y × All (columns_after cs y) ys

first_true : (a b : Bool) → not (a && b) ≡ false → a ≡ true
first_true true b h = refl
first_true false b h = cc h

second_true : (a b : Bool) → not (a && b) ≡ false → b ≡ true
second_true true true h = refl
second_true true false h = cc h
second_true false b h = cc h

second_named : (a b : Bool) → not (a && b) ≡ false → not b ≡ false
second_named true b h = h
second_named false b h = cc h

faultless_by : (cs : List Column) (y : Said) → misnamed cs y ≡ false → mistyped cs y ≡ false → stuck y ≡ false → IsFaultless cs y
unfolding misnamed mistyped stuck
faultless_by cs y n t s = record {
  named = first_true (every (known cs) y) _ n;
  apart = second_true (split_known cs y) _ (second_named (every (known cs) y) _ n);
  typed = first_true (every (fits cs) y) (split_fits cs y) t;
  splits = second_true (every (fits cs) y) (split_fits cs y) t;
  moving = second_true (every divides_well y) (moves y) s;
}

not_so : (b : Bool) → (b ≡ true → ⊥) → b ≡ false
not_so true h = absurd (h refl)
not_so false h = refl

faultless : (p : Spot) (line : List ℕ) (y : Said) → Says p line y → IsFaultless p.columns y
faultless p line y s =
    let lacks = s.3.1 in
    let says = s.3.0 in
    faultless_by p.columns y
    (not_so (misnamed p.columns y) (λ t. lacks f.Name (omega arith) (y, says, t)))
    (not_so (mistyped p.columns y) (λ t. lacks f.Type (omega arith) (y, says, t)))
    (not_so (stuck y) (λ t. lacks f.Zero (omega arith) (y, says, t)))

all_faultless : (ls : List (List ℕ)) (p : Spot) (ys : List Said) → ReadsFrom p ls ys → All p.columns ys
all_faultless [] p ys h = rw h.1 tt
all_faultless (line ∷ ls) p ys h = elim h [
  | inl a ↦ all_faultless ls p ys a.1
  | inr a ↦ rw a.4 (faultless p line a.0 a.2, all_faultless ls (next p a.0) a.1 a.3)
]

-- ---- so many steps

abbrev steps_in : List Said → ℕ
steps_in [] = 0
steps_in (y ∷ ys) = (if is_step y then 1 else 0) + steps_in ys

room_if : (b : Bool) (steps : ℕ) → b && nat_le 64 steps ≡ false → steps ≤ 64 → (if b then steps + 1 else steps) ≤ 64
room_if true steps f h = let less : steps < 64 = leb-false 64 steps f in omega (arith, less)
room_if false steps f h = h

room_by : (steps : ℕ) (y : Said) → too_many steps y ≡ false → steps ≤ 64 → (if is_step y then steps + 1 else steps) ≤ 64
unfolding too_many
room_by steps y f h = room_if (is_step y) steps f h

room : (p : Spot) (line : List ℕ) (y : Said) → Says p line y → p.steps ≤ 64 → (next p y).steps ≤ 64
room p line y s le = room_by p.steps y (not_so (too_many p.steps y) (λ t. s.3.1 f.Steps (omega arith) (y, s.3.0, t))) le

count_if : (b : Bool) (n m : ℕ) → (if b then n + 1 else n) + m ≤ 64 → n + ((if b then 1 else 0) + m) ≤ 64
count_if true n m h = omega (arith, h)
count_if false n m h = omega (arith, h)

one_step : (p : Spot) (y : Said) (ys : List Said) → (next p y).steps + steps_in ys ≤ 64 → p.steps + steps_in (y ∷ ys) ≤ 64
one_step p y ys h = count_if (is_step y) p.steps (steps_in ys) h

few_steps : (ls : List (List ℕ)) (p : Spot) (ys : List Said) → ReadsFrom p ls ys → p.steps ≤ 64 → p.steps + steps_in ys ≤ 64
few_steps [] p ys h le = rw h.1 (let none : p.steps ≤ 64 = le in omega (arith, none))
few_steps (line ∷ ls) p ys h le = elim h [
  | inl a ↦ few_steps ls p ys a.1 le
  | inr a ↦ rw a.4 (one_step p a.0 a.1 (few_steps ls (next p a.0) a.1 a.3 (room p line a.0 a.2 le)))
]

count_tail : (ms : List Middle) (l : End) → steps_in (map Goes ms ++ Ends l ∷ []) ≡ length ms + 1
count_tail [] l = omega arith
count_tail (m ∷ ms) l = omega (arith, count_tail ms l)

count_body : (p : Plan) (par : List Said) → Holds p.kind par → steps_in (par ++ (map Goes p.middles ++ Ends p.last ∷ [])) ≡ length p.middles + 1
count_body p par (inl a) = rw a.1 (count_tail p.middles p.last)
count_body p par (inr a) = rw a (let tail : steps_in (map Goes p.middles ++ Ends p.last ∷ []) ≡ length p.middles + 1 = count_tail p.middles p.last in omega (arith, tail))

count_head : (p : Plan) (head par : List Said) → Opens p.version head → Holds p.kind par → steps_in (head ++ Begins p.origin ∷ (par ++ (map Goes p.middles ++ Ends p.last ∷ []))) ≡ length p.middles + 2
count_head p head par (inl a) b = rw a.1 (omega (arith, count_body p par b))
count_head p head par (inr a) b = rw a.1 (omega (arith, count_body p par b))

-- ---- the steps of a plan

of_steps : (cs : List Column) (ms : List Middle) (l : End) → All cs (map Goes ms ++ Ends l ∷ []) → AreFaultless cs ms l
of_steps cs [] l h = h.0
of_steps cs (m ∷ ms) l h = (h.0, of_steps (step_columns cs m) ms l h.1)

of_body : (p : Plan) (cs : List Column) (par : List Said) → Holds p.kind par → All cs (par ++ (map Goes p.middles ++ Ends p.last ∷ [])) → AreFaultless cs p.middles p.last
of_body p cs par (inl a) h = of_steps cs p.middles p.last (rw a.1 at h)
of_body p cs par (inr a) h = of_steps cs p.middles p.last (let g : All cs (Par p.kind ∷ (map Goes p.middles ++ Ends p.last ∷ [])) = rw a at h in g.1)

of_head : (p : Plan) (head par : List Said) → Opens p.version head → Holds p.kind par → All [] (head ++ Begins p.origin ∷ (par ++ (map Goes p.middles ++ Ends p.last ∷ []))) → IsFaultless [] (Begins p.origin) × AreFaultless (source_columns p.origin) p.middles p.last
of_head p head par (inl a) b h = let g : All [] (Begins p.origin ∷ (par ++ (map Goes p.middles ++ Ends p.last ∷ []))) = rw a.1 at h in (g.0, of_body p (source_columns p.origin) par b g.1)
of_head p head par (inr a) b h = let g : All [] (Second ∷ Begins p.origin ∷ (par ++ (map Goes p.middles ++ Ends p.last ∷ []))) = rw a.1 at h in (g.1.0, of_body p (source_columns p.origin) par b g.1.1)

pub sound : (text : List ℕ) (p : Plan) → Reads text p → IsSound p
sound text p h =
    let all = of_head p h.2.0 h.2.1 h.2.2 h.2.3 (let a = all_faultless (lines text) start h.0 h.1 in rw h.2.4 at a) in
    let few = few_steps (lines text) start h.0 h.1 (omega arith) in
    let count : steps_in h.0 ≡ length p.middles + 2 = rw h.2.4 (count_head p h.2.0 h.2.1 h.2.2 h.2.3) in
    record { source = all.0; steps = all.1; few = omega (arith, few, count) }
