-- What is in the grammar is read.
use Rattle.std.proofs.Common.{◌≡◌, ◌==◌, ◌≤◌, ◌<◌, ◌+◌, ◌-◌, ◌∷◌, ◌++◌, ◌∙◌, ◌⊎◌, sym, refl, ap, inl, inr, ℕ, ℤ, zero, suc, List, [], Some, None, true, arith, append_assoc, nat_lt, eqb→eq, eq-eqb}
use Rattle.std.proofs.lemmas.Bool.{cases_Bool}
use Rattle.pipe_expr.specs.declared.token.Token.{Token}
use Rattle.pipe_expr.specs.declared.token.Token.TheVariants as t
use Rattle.pipe_expr.specs.declared.token.Reserved.TheVariants as r
use Rattle.pipe_text.specs.declared.lexeme.Symbol.TheVariants as m
use Rattle.pipe_expr.specs.declared.expr.Op.{Op}
use Rattle.pipe_expr.specs.declared.expr.Op.TheVariants as o
use Rattle.pipe_expr.specs.Grammar.{Tree, Number, Texted, Named, Length, Valued, Inside, Negated, Joined, Reads, IsInt, IsName, level, left_level, sign}
use Rattle.pipe_expr.specs.Reading.{Found, ◌>>=◌, op_of, op_at, int_at, name_at, atom, more, negation, read}
use Rattle.pipe_expr.proofs.Steps.{differs}
use Rattle.pipe_expr.proofs.Sound.{looser}

-- these tokens don't go on with an operator that binds as tightly as l
abbrev pub Stops : ℕ → List Token → Type 0
Stops l [] = Unit {0}
Stops l (k ∷ rest) = (q : ℕ) → q ≤ l → op_at q k ≡ None

-- from some count of turns on the expression is read, and that is the rest
abbrev pub Done : ℕ → Tree → List Token → List Token → Type 0
Done l e used rest = (most : ℕ) × ((n : ℕ) → most ≤ n → read n l (used ++ rest) ≡ Some (e, rest))

-- the same of an expression that may be the left side of more
abbrev pub Opens : ℕ → Tree → List Token → List Token → Type 0
Opens l e used rest = (most : ℕ) × (spent : ℕ) × ((n m : ℕ) → most ≤ n → (read n l (used ++ rest) >>= λ x. more (read n l) (suc l) (spent + m) x.0 x.1) ≡ more (read n l) (suc l) m e rest)

stopped : (side : List Token → Found) (l m : ℕ) (e : Tree) (rest : List Token) → Stops l rest → more side l (suc m) e rest ≡ Some (e, rest)
unfolding more
stopped side l m e [] s = refl
stopped side l m e (k ∷ rest) s = rw (s l (omega arith)) refl

done-opens : (l : ℕ) (e : Tree) (used rest : List Token) → Done l e used rest → Opens l e used rest
done-opens l e used rest d = (d.0, 0, λ n m le. let z : 0 + m ≡ m = omega arith in rw (d.1 n le, z) refl)

opens-done : (l : ℕ) (e : Tree) (used rest : List Token) → (l ≡ 3 → ⊥) → Opens l e used rest → Stops (suc l) rest → Done (suc l) e used rest
unfolding read
opens-done l e used rest nt o s = (suc (o.0 + o.1 + 1), turn)
  where
    turn : (n : ℕ) → suc (o.0 + o.1 + 1) ≤ n → read n (suc l) (used ++ rest) ≡ Some (e, rest)
    turn zero le = absurd (omega (arith, le))
    turn (suc n) le =
        let eq : o.1 + suc (n - o.1 - 1) ≡ n = omega (arith, le) in
        rw (differs l 3 nt)
        (ap (λ f. read n l (used ++ rest) >>= λ x. more (read n l) (suc l) f x.0 x.1) (sym eq)
        ∙ o.2 n (suc (n - o.1 - 1)) (omega (arith, le)) ∙ stopped (read n l) (suc l) (n - o.1 - 1) e rest s)

fewer : (l m : ℕ) (rest : List Token) → l ≤ m → Stops m rest → Stops l rest
fewer l m [] le s = tt
fewer l m (k ∷ rest) le s = λ q h. s q (omega (arith, le, h))

-- no `not` stands in front
abbrev pub NoNot : List Token → Type 0
NoNot (t.Kept r.Not ∷ ts) = ⊥
NoNot (k ∷ ts) = Unit {0}
NoNot [] = ⊥

plain : (again below : List Token → Found) (ts rest : List Token) → NoNot ts → negation again below (ts ++ rest) ≡ below (ts ++ rest)
plain again below (t.Kept r.Not ∷ ts) rest h = absurd h
plain again below [] rest h = absurd h
plain again below (k ∷ ts) rest h = refl

front_plain : (ts rest : List Token) → NoNot ts → NoNot (ts ++ rest)
front_plain (t.Kept r.Not ∷ ts) rest h = absurd h
front_plain [] rest h = absurd h
front_plain (k ∷ ts) rest h = h

-- what binds tighter than `not` doesn't begin with it
no_not : (e : Tree) (l : ℕ) (ts : List Token) → l ≤ 3 → Reads l e ts → NoNot ts
no_not (Number z) l ts le r = let (n, which) = r in elim which [ inl h ↦ rw h.1 tt | inr h ↦ rw h.1 tt ]
no_not (Texted s) l ts le r = rw r tt
no_not (Named w) l ts le r = elim r [ inl h ↦ rw h tt | inr h ↦ rw h.1 tt ]
no_not (Length e) l ts le r = rw r.2 tt
no_not (Valued e) l ts le r = rw r.2 tt
no_not (Inside e) l ts le r = rw r.2 tt
no_not (Negated e) l ts le r = absurd (omega (arith, le, r.0))
no_not (Joined op a b) l ts le r =
    rw r.5 (front_plain r.1 (sign op ∷ r.2) (no_not a (left_level op) r.1 (low op (omega (arith, le, r.0))) r.3))
  where
    low : (op : Op) → level op ≤ 3 → left_level op ≤ 3
    low o.Times h = omega arith
    low o.Divide h = omega arith
    low o.Remainder h = omega arith
    low o.Plus h = omega arith
    low o.Minus h = omega arith
    low o.Join h = omega arith
    low o.Equal h = omega arith
    low o.Differ h = omega arith
    low o.Less h = omega arith
    low o.AtMost h = omega arith
    low o.More h = omega arith
    low o.AtLeast h = omega arith
    low o.And h = absurd (omega (arith, h))
    low o.Or h = absurd (omega (arith, h))

-- an expression of the level below is one of the next
done_up : (l : ℕ) (e : Tree) (used rest : List Token) → Reads l e used → Done l e used rest → Stops (suc l) rest → Done (suc l) e used rest
unfolding read
done_up l e used rest r d s = elim (cases_Bool (l == 3)) [
  | inl b ↦ let three : l ≡ 3 = eqb→eq l 3 (rw b tt) in rw three (up (rw three at d) (no_not e l used (omega (arith, three)) r))
  | inr b ↦ opens-done l e used rest (λ h. let bad = rw h at b in cc bad) (done-opens l e used rest d) s
]
  where
    up : Done 3 e used rest → NoNot used → Done 4 e used rest
    up d p = (suc d.0, turn)
      where
        turn : (n : ℕ) → suc d.0 ≤ n → read n 4 (used ++ rest) ≡ Some (e, rest)
        turn zero le = absurd (omega (arith, le))
        turn (suc n) le = plain (read n 4) (read n 3) used rest p ∙ d.1 n (omega (arith, le))

lifted : (k l : ℕ) (e : Tree) (used rest : List Token) → Reads l e used → Done l e used rest → Stops (k + l) rest → Done (k + l) e used rest
lifted zero l e used rest r d s = let z : 0 + l ≡ l = omega arith in rw z d
lifted (suc k) l e used rest r d s =
    let z : suc k + l ≡ suc (k + l) = omega arith in
    rw z (done_up (k + l) e used rest (looser e l (k + l) used (omega arith) r) (lifted k l e used rest r d (fewer (k + l) (suc k + l) rest (omega arith) s)) (rw z at s))

lift : (l m : ℕ) (e : Tree) (used rest : List Token) → l ≤ m → Reads l e used → Done l e used rest → Stops m rest → Done m e used rest
lift l m e used rest le r d s =
    let z : (m - l) + l ≡ m = omega (arith, le) in
    rw (← z) (lifted (m - l) l e used rest r d (rw (← z) at s))

-- a token that is no operator
pub no_op : (q : ℕ) (k : Token) → op_of k ≡ None → op_at q k ≡ None
unfolding op_at
no_op q k h = rw h refl

level_same : (op : Op) → (level op == level op) ≡ true
level_same op = eq-eqb (level op) (level op) refl

op_of_sign : (op : Op) → op_of (sign op) ≡ Some op
op_of_sign o.Times = refl
op_of_sign o.Divide = refl
op_of_sign o.Remainder = refl
op_of_sign o.Plus = refl
op_of_sign o.Minus = refl
op_of_sign o.Join = refl
op_of_sign o.Equal = refl
op_of_sign o.Differ = refl
op_of_sign o.Less = refl
op_of_sign o.AtMost = refl
op_of_sign o.More = refl
op_of_sign o.AtLeast = refl
op_of_sign o.And = refl
op_of_sign o.Or = refl

op_here : (op : Op) → op_at (level op) (sign op) ≡ Some op
unfolding op_at
op_here op = rw (op_of_sign op, level_same op) refl

-- an operator is none of the levels below its own
op_above : (op : Op) (q : ℕ) → q < level op → op_at q (sign op) ≡ None
unfolding op_at
op_above op q h = rw (op_of_sign op, differs (level op) q (λ e. omega (arith, e, h))) refl

level_is : (op : Op) → level op ≡ suc (level op - 1)
level_is o.Times = refl
level_is o.Divide = refl
level_is o.Remainder = refl
level_is o.Plus = refl
level_is o.Minus = refl
level_is o.Join = refl
level_is o.Equal = refl
level_is o.Differ = refl
level_is o.Less = refl
level_is o.AtMost = refl
level_is o.More = refl
level_is o.AtLeast = refl
level_is o.And = refl
level_is o.Or = refl

-- a chain's operator, or a comparison
left_kind : (op : Op) → (level op ≡ 3 × left_level op ≡ 2) ⊎ ((level op ≡ 3 → ⊥) × left_level op ≡ level op)
left_kind o.Times = inr (λ h. omega (arith, h), refl)
left_kind o.Divide = inr (λ h. omega (arith, h), refl)
left_kind o.Remainder = inr (λ h. omega (arith, h), refl)
left_kind o.Plus = inr (λ h. omega (arith, h), refl)
left_kind o.Minus = inr (λ h. omega (arith, h), refl)
left_kind o.Join = inr (λ h. omega (arith, h), refl)
left_kind o.Equal = inl (refl, refl)
left_kind o.Differ = inl (refl, refl)
left_kind o.Less = inl (refl, refl)
left_kind o.AtMost = inl (refl, refl)
left_kind o.More = inl (refl, refl)
left_kind o.AtLeast = inl (refl, refl)
left_kind o.And = inr (λ h. omega (arith, h), refl)
left_kind o.Or = inr (λ h. omega (arith, h), refl)

no_four : (op : Op) → level op ≡ 4 → ⊥
no_four o.Times h = omega (arith, h)
no_four o.Divide h = omega (arith, h)
no_four o.Remainder h = omega (arith, h)
no_four o.Plus h = omega (arith, h)
no_four o.Minus h = omega (arith, h)
no_four o.Join h = omega (arith, h)
no_four o.Equal h = omega (arith, h)
no_four o.Differ h = omega (arith, h)
no_four o.Less h = omega (arith, h)
no_four o.AtMost h = omega (arith, h)
no_four o.More h = omega (arith, h)
no_four o.AtLeast h = omega (arith, h)
no_four o.And h = omega (arith, h)
no_four o.Or h = omega (arith, h)

once : (e : Tree) (used rest : List Token) → ((inner : List Token → Found) → atom inner (used ++ rest) ≡ Some (e, rest)) → Done 0 e used rest
unfolding read
once e used rest h = (1, turn)
  where
    turn : (n : ℕ) → 1 ≤ n → read n 0 (used ++ rest) ≡ Some (e, rest)
    turn zero le = absurd (omega (arith, le))
    turn (suc n) le = h (read n 6)

inside : (e : Tree) (used rest : List Token) → Done 6 e used (t.Sign m.Close ∷ rest) → Done 0 (Inside e) (t.Sign m.Open ∷ (used ++ t.Sign m.Close ∷ [])) rest
unfolding read
inside e used rest d = (suc d.0, turn)
  where
    turn : (n : ℕ) → suc d.0 ≤ n → read n 0 (t.Sign m.Open ∷ (used ++ t.Sign m.Close ∷ []) ++ rest) ≡ Some (Inside e, rest)
    turn zero le = absurd (omega (arith, le))
    turn (suc n) le = rw (append_assoc used (t.Sign m.Close ∷ []) rest, d.1 n (omega (arith, le))) refl

inside_len : (e : Tree) (used rest : List Token) → Done 6 e used (t.Sign m.Close ∷ rest) → Done 0 (Length e) (t.Kept r.Len ∷ t.Sign m.Open ∷ (used ++ t.Sign m.Close ∷ [])) rest
unfolding read
inside_len e used rest d = (suc d.0, turn)
  where
    turn : (n : ℕ) → suc d.0 ≤ n → read n 0 (t.Kept r.Len ∷ t.Sign m.Open ∷ (used ++ t.Sign m.Close ∷ []) ++ rest) ≡ Some (Length e, rest)
    turn zero le = absurd (omega (arith, le))
    turn (suc n) le = rw (append_assoc used (t.Sign m.Close ∷ []) rest, d.1 n (omega (arith, le))) refl

inside_int : (e : Tree) (used rest : List Token) → Done 6 e used (t.Sign m.Close ∷ rest) → Done 0 (Valued e) (t.Kept r.ToInt ∷ t.Sign m.Open ∷ (used ++ t.Sign m.Close ∷ [])) rest
unfolding read
inside_int e used rest d = (suc d.0, turn)
  where
    turn : (n : ℕ) → suc d.0 ≤ n → read n 0 (t.Kept r.ToInt ∷ t.Sign m.Open ∷ (used ++ t.Sign m.Close ∷ []) ++ rest) ≡ Some (Valued e, rest)
    turn zero le = absurd (omega (arith, le))
    turn (suc n) le = rw (append_assoc used (t.Sign m.Close ∷ []) rest, d.1 n (omega (arith, le))) refl

negated : (e : Tree) (used rest : List Token) → Done 4 e used rest → Done 4 (Negated e) (t.Kept r.Not ∷ used) rest
unfolding read
negated e used rest d = (suc d.0, turn)
  where
    turn : (n : ℕ) → suc d.0 ≤ n → read n 4 (t.Kept r.Not ∷ used ++ rest) ≡ Some (Negated e, rest)
    turn zero le = absurd (omega (arith, le))
    turn (suc n) le = rw (d.1 n (omega (arith, le))) refl

-- a left side goes on with an operator and a right side
join : (l : ℕ) (op : Op) (a b : Tree) (left right rest : List Token) → level op ≡ suc l → (suc l ≡ 3 → ⊥) → Opens l a left (sign op ∷ (right ++ rest)) → Done l b right rest → Opens l (Joined op a b) (left ++ sign op ∷ right) rest
unfolding more
join l op a b left right rest lv nt o d = (
  o.0 + d.0,
  o.1 + 1,
  λ n m le.
      let spent : (o.1 + 1) + m ≡ o.1 + suc m = omega arith in
      let here : op_at (suc l) (sign op) ≡ Some op = ap (λ q. op_at q (sign op)) (sym lv) ∙ op_here op in
      let first = o.2 n (suc m) (omega (arith, le)) in
      rw (spent, append_assoc left (sign op ∷ right) rest, first, here, d.1 n (omega (arith, le)), differs (suc l) 3 nt) refl,
)

-- a comparison stands once
compare : (op : Op) (a b : Tree) (left right rest : List Token) → level op ≡ 3 → Done 2 a left (sign op ∷ (right ++ rest)) → Done 2 b right rest → Done 3 (Joined op a b) (left ++ sign op ∷ right) rest
unfolding read more
compare op a b left right rest lv d f = (suc (suc (d.0 + f.0)), turn)
  where
    turn : (n : ℕ) → suc (suc (d.0 + f.0)) ≤ n → read n 3 ((left ++ sign op ∷ right) ++ rest) ≡ Some (Joined op a b, rest)
    turn zero le = absurd (omega (arith, le))
    turn (suc zero) le = absurd (omega (arith, le))
    turn (suc (suc n)) le =
        let here : op_at 3 (sign op) ≡ Some op = ap (λ q. op_at q (sign op)) (sym lv) ∙ op_here op in
        ap (λ (w : List Token). read (suc (suc n)) 3 w) (append_assoc left (sign op ∷ right) rest) ∙ rw (d.1 (suc n) (omega (arith, le)), here, f.1 (suc n) (omega (arith, le))) refl

pub record Read (e : Tree) (l : ℕ) (used : List Token) : Type 0 where
  pub done : (rest : List Token) → Stops l rest → Done l e used rest
  pub opens : (k : ℕ) → l ≡ suc k → (suc k ≡ 3 → ⊥) → (suc k ≡ 4 → ⊥) → (rest : List Token) → Stops k rest → Opens k e used rest

le_split : (p k : ℕ) → p ≤ k → (k ≡ p) ⊎ (suc p ≤ k)
le_split p k le = elim (cases_Bool (nat_lt p k)) [
  | inl e ↦ inr (grind (arith, e))
  | inr ne ↦ inl (grind (arith, le, ne))
]

-- what is done at a tighter level
by_done : (p : ℕ) (e : Tree) (l : ℕ) (used : List Token) → p ≤ l → (p ≡ 0) ⊎ ((p ≡ 3) ⊎ (p ≡ 4)) → Reads p e used → ((rest : List Token) → Stops p rest → Done p e used rest) → Read e l used
by_done p e l used le ex r d = record {
  done = λ rest s. lift p l e used rest le r (d rest (fewer p l rest le s)) s;
  opens = λ k eq nt nf rest s. elim (le_split p l le) [
    | inl same ↦ elim ex [
      | inl z ↦ absurd (omega (arith, z, eq, same))
      | inr w ↦ elim w [ inl three ↦ absurd (nt (omega (arith, eq, same, three))) | inr four ↦ absurd (nf (omega (arith, eq, same, four))) ]
    ]
    | inr lt ↦ done-opens k e used rest (lift p k e used rest (omega (arith, lt, eq)) r (d rest (fewer p k rest (omega (arith, lt, eq)) s)) s)
  ];
}

pub int_again : (z : ℤ) (used rest : List Token) → IsInt z used → int_at (used ++ rest) ≡ Some (z, rest)
unfolding int_at
int_again z used rest r = let (n, which) = r in elim which [
  | inl h ↦ rw (h.1, h.0) refl
  | inr h ↦ rw (h.1, h.0) refl
]

pub name_again : (w : List ℕ) (used rest : List Token) → IsName w used → name_at (used ++ rest) ≡ Some (w, rest)
unfolding name_at
name_again w used rest r = elim r [ inl h ↦ rw h refl | inr h ↦ rw h.1 refl ]

number_done : (z : ℤ) (used rest : List Token) → IsInt z used → Done 0 (Number z) used rest
unfolding int_at
number_done z used rest r = let (n, which) = r in elim which [
  | inl h ↦ rw h.1 (once (Number z) (t.Digits n ∷ []) rest (λ inner. rw h.0 refl))
  | inr h ↦ rw h.1 (once (Number z) (t.Sign m.Minus ∷ t.Digits n ∷ []) rest (λ inner. rw h.0 refl))
]

name_done : (w : List ℕ) (used rest : List Token) → IsName w used → Done 0 (Named w) used rest
name_done w used rest r = elim r [
  | inl h ↦ rw h (once (Named w) (t.Quoted w ∷ []) rest (λ inner. refl))
  | inr h ↦ rw h.1 (once (Named w) (t.Word h.0 w ∷ []) rest (λ inner. refl))
]

at_close : (rest : List Token) → Stops 6 (t.Sign m.Close ∷ rest)
at_close rest = λ q _. no_op q (t.Sign m.Close) refl

pub complete : (e : Tree) (l : ℕ) (used : List Token) → Reads l e used → Read e l used
complete (Number z) l used r = by_done 0 (Number z) l used (omega arith) (inl refl) r (λ rest s. number_done z used rest r)
complete (Texted n) l used r = by_done 0 (Texted n) l used (omega arith) (inl refl) r (λ rest s. rw r (once (Texted n) (t.Quote n ∷ []) rest (λ inner. refl)))
complete (Named w) l used r = by_done 0 (Named w) l used (omega arith) (inl refl) r (λ rest s. name_done w used rest r)
complete (Length e) l used r = by_done 0 (Length e) l used (omega arith) (inl refl) r (λ rest s. rw r.2 (inside_len e r.0 rest ((complete e 6 r.0 r.1).done (t.Sign m.Close ∷ rest) (at_close rest))))
complete (Valued e) l used r = by_done 0 (Valued e) l used (omega arith) (inl refl) r (λ rest s. rw r.2 (inside_int e r.0 rest ((complete e 6 r.0 r.1).done (t.Sign m.Close ∷ rest) (at_close rest))))
complete (Inside e) l used r = by_done 0 (Inside e) l used (omega arith) (inl refl) r (λ rest s. rw r.2 (inside e r.0 rest ((complete e 6 r.0 r.1).done (t.Sign m.Close ∷ rest) (at_close rest))))
complete (Negated e) l used r = by_done 4 (Negated e) l used r.0 (inr (inr refl)) (omega arith, r.1, r.2, r.3) (λ rest s. rw r.3 (negated e r.1 rest ((complete e 4 r.1 r.2).done rest s)))
complete (Joined op a b) l used r = elim (left_kind op) [
  | inl h ↦ comparison h (complete a (left_level op) r.1 r.3) (complete b (level op - 1) r.2 r.4)
  | inr h ↦ chain h (complete a (left_level op) r.1 r.3) (complete b (level op - 1) r.2 r.4)
]
  where
    comparison : (level op ≡ 3) × (left_level op ≡ 2) → Read a (left_level op) r.1 → Read b (level op - 1) r.2 → Read (Joined op a b) l used
    comparison h ra rb =
        let two : level op - 1 ≡ 2 = omega (arith, h.0) in
        by_done 3 (Joined op a b) l used (omega (arith, h.0, r.0)) (inr (inl refl)) (omega (arith, h.0), r.1, r.2, r.3, r.4, r.5)
        (λ rest s. rw r.5 (compare op a b r.1 r.2 rest h.0
        ((rw h.1 at ra).done (sign op ∷ (r.2 ++ rest)) (λ q le. op_above op q (omega (arith, h.0, le))))
        ((rw two at rb).done rest (fewer 2 3 rest (omega arith) s))))

    chain : (level op ≡ 3 → ⊥) × (left_level op ≡ level op) → Read a (left_level op) r.1 → Read b (level op - 1) r.2 → Read (Joined op a b) l used
    chain h ra rb =
        let p = level op - 1 in
        let lv : level op ≡ suc p = level_is op in
        let nt : suc p ≡ 3 → ⊥ = λ e. h.0 (lv ∙ e) in
        let nf : suc p ≡ 4 → ⊥ = λ e. no_four op (lv ∙ e) in
        let n3 : p ≡ 3 → ⊥ = λ e. nf (omega (arith, e)) in
        let opened : (rest : List Token) → Stops p rest → Opens p (Joined op a b) (r.1 ++ sign op ∷ r.2) rest =
        λ rest s. join p op a b r.1 r.2 rest lv nt
        ((rw h.1 at ra).opens p lv nt nf (sign op ∷ (r.2 ++ rest)) (λ q e. op_above op q (omega (arith, lv, e))))
        (rb.done rest s) in
        let closed_at : (rest : List Token) → Stops (suc p) rest → Done (suc p) (Joined op a b) (r.1 ++ sign op ∷ r.2) rest =
        λ rest s. opens-done p (Joined op a b) (r.1 ++ sign op ∷ r.2) rest n3 (opened rest (fewer p (suc p) rest (omega arith) s)) s in
        let whole : Reads (suc p) (Joined op a b) (r.1 ++ sign op ∷ r.2) = (omega (arith, lv), r.1, r.2, r.3, r.4, refl) in
        rw r.5 (record {
          done = λ rest s. lift (suc p) l (Joined op a b) (r.1 ++ sign op ∷ r.2) rest (omega (arith, lv, r.0)) whole (closed_at rest (fewer (suc p) l rest (omega (arith, lv, r.0)) s)) s;
          opens = λ k eq nt4 nf4 rest s. elim (le_split p k (omega (arith, lv, r.0, eq))) [
            | inl e ↦ rw e (opened rest (rw e at s))
            | inr lt ↦ done-opens k (Joined op a b) (r.1 ++ sign op ∷ r.2) rest (lift (suc p) k (Joined op a b) (r.1 ++ sign op ∷ r.2) rest lt whole (closed_at rest (fewer (suc p) k rest lt s)) s)
          ];
        })
