-- What reading gives is in the grammar.
use Rattle.std.proofs.Common.{◌≡◌, ◌==◌, ◌≤◌, ◌-◌, ◌∷◌, ◌++◌, ◌∙◌, sym, refl, ap, inl, inr, ℕ, ℤ, zero, suc, List, [], Option, Some, None, true, false, arith, append_assoc, append-nil, eqb→eq, cond}
use Rattle.std.proofs.lemmas.Bool.{cases_Bool}
use Rattle.pipe_expr.specs.declared.token.Token.{Token}
use Rattle.pipe_expr.specs.declared.token.Token.TheVariants as t
use Rattle.pipe_expr.specs.declared.token.Reserved.TheVariants as r
use Rattle.pipe_text.specs.declared.lexeme.Symbol.TheVariants as m
use Rattle.pipe_expr.specs.declared.expr.Op.{Op}
use Rattle.pipe_expr.specs.declared.expr.Op.TheVariants as o
use Rattle.pipe_expr.specs.Grammar.{Tree, Number, Texted, Named, Length, Valued, Inside, Negated, Joined, Reads, IsInt, IsName, level, left_level, sign, int_of}
use Rattle.pipe_expr.specs.Reading.{Found, ◌>>=◌, op_of, of_level, op_at, with_rest, below_zero, int_at, name_at, closed, opened, atom, going, more, negation, read}
use Rattle.pipe_expr.proofs.Basics.{bind_some, some_inj}

-- the expression is read of the front of these tokens, and that is the rest
abbrev pub From : ℕ → Tree → List Token → List Token → Type 0
From l e ts rest = (used : List Token) × Reads l e used × (ts ≡ used ++ rest)

-- what was found is this
found_is : (l : ℕ) (d e : Tree) (ts r rest : List Token) → ◌≡◌ {A = Found} (Some (d, r)) (Some (e, rest)) → From l d ts r → From l e ts rest
found_is l d e ts r rest h m =
    let p = some_inj _ _ h in
    let a : d ≡ e = ap (λ (x : Tree × List Token). x.0) p in
    let b : r ≡ rest = ap (λ (x : Tree × List Token). x.1) p in
    rw (← a, ← b) m

with_rest_is : (r rest : List Token) (o : Option ℤ) (z : ℤ) → with_rest r o ≡ Some (z, rest) → (o ≡ Some z) × (r ≡ rest)
with_rest_is r rest None z h = cc h
with_rest_is r rest (Some y) z h = let p = some_inj _ _ h in (ap (λ (x : ℤ × List Token). Some x.0) p, ap (λ (x : ℤ × List Token). x.1) p)

below-sound : (ts rest : List Token) (z : ℤ) → below_zero ts ≡ Some (z, rest) → (n : ℕ) × (int_of true n ≡ Some z) × (ts ≡ t.Digits n ∷ rest)
below-sound [] rest z h = cc h
below-sound (t.Digits n ∷ r) rest z h = let w = with_rest_is r rest (int_of true n) z h in (n, w.0, ap (λ (x : List Token). t.Digits n ∷ x) w.1)
below-sound (_ ∷ r) rest z h = cc h

pub int-sound : (ts rest : List Token) (z : ℤ) → int_at ts ≡ Some (z, rest) → (used : List Token) × IsInt z used × (ts ≡ used ++ rest)
unfolding int_at
int-sound [] rest z h = cc h
int-sound (t.Digits n ∷ r) rest z h = let w = with_rest_is r rest (int_of false n) z h in (t.Digits n ∷ [], (n, inl (w.0, refl)), ap (λ (x : List Token). t.Digits n ∷ x) w.1)
int-sound (t.Sign m.Minus ∷ r) rest z h = let w = below-sound r rest z h in (t.Sign m.Minus ∷ t.Digits w.0 ∷ [], (w.0, inr (w.1, refl)), ap (λ (x : List Token). t.Sign m.Minus ∷ x) w.2)
int-sound (_ ∷ r) rest z h = cc h

pub name-sound : (ts rest : List Token) (w : List ℕ) → name_at ts ≡ Some (w, rest) → (used : List Token) × IsName w used × (ts ≡ used ++ rest)
unfolding name_at
name-sound [] rest w h = cc h
name-sound (t.Word v n ∷ r) rest w h =
    let p = some_inj _ _ h in
    let a : n ≡ w = ap (λ (x : List ℕ × List Token). x.0) p in
    let b : r ≡ rest = ap (λ (x : List ℕ × List Token). x.1) p in
    rw (← a, ← b) (t.Word v n ∷ [], inr (v, refl), refl)
name-sound (t.Quoted n ∷ r) rest w h =
    let p = some_inj _ _ h in
    let a : n ≡ w = ap (λ (x : List ℕ × List Token). x.0) p in
    let b : r ≡ rest = ap (λ (x : List ℕ × List Token). x.1) p in
    rw (← a, ← b) (t.Quoted n ∷ [], inl refl, refl)
name-sound (_ ∷ r) rest w h = cc h

-- what a closing parenthesis ends
closed-sound : (wrap : Tree → Tree) (d e : Tree) (r rest : List Token) → closed wrap (d, r) ≡ Some (e, rest) → (wrap d ≡ e) × (r ≡ t.Sign m.Close ∷ rest)
closed-sound wrap d e [] rest h = cc h
closed-sound wrap d e (t.Sign m.Close ∷ r) rest h =
    let p = some_inj _ _ h in
    let b : r ≡ rest = ap (λ (x : Tree × List Token). x.1) p in
    (ap (λ (x : Tree × List Token). x.0) p, rw b refl)
closed-sound wrap d e (_ ∷ r) rest h = cc h

pub Sounds : ℕ → (List Token → Found) → Type 0
Sounds l side = (ts rest : List Token) (e : Tree) → side ts ≡ Some (e, rest) → From l e ts rest

pub sounds : (l : ℕ) (side : List Token → Found) → Sounds l side → (ts rest : List Token) (e : Tree) → side ts ≡ Some (e, rest) → From l e ts rest
unfolding Sounds
sounds l side s = s

paren-sound : (wrap : Tree → Tree) (inner : List Token → Found) → Sounds 6 inner → (ts rest : List Token) (e : Tree) → (inner ts >>= closed wrap) ≡ Some (e, rest)
    → (d : Tree) × (used : List Token) × Reads 6 d used × (wrap d ≡ e) × (ts ≡ (used ++ t.Sign m.Close ∷ []) ++ rest)
paren-sound wrap inner s ts rest e h =
    let x = bind_some (inner ts) (closed wrap) (e, rest) h in
    let f = sounds 6 inner s ts x.0.1 x.0.0 x.1 in
    let c = closed-sound wrap x.0.0 e x.0.1 rest x.2 in
    (x.0.0, f.0, f.1, c.0, f.2 ∙ ap (λ (y : List Token). f.0 ++ y) c.1 ∙ sym (append_assoc f.0 (t.Sign m.Close ∷ []) rest))

opened-sound : (wrap : Tree → Tree) (inner : List Token → Found) → Sounds 6 inner → (ts rest : List Token) (e : Tree) → opened wrap inner ts ≡ Some (e, rest)
    → (d : Tree) × (used : List Token) × Reads 6 d used × (wrap d ≡ e) × (ts ≡ (t.Sign m.Open ∷ (used ++ t.Sign m.Close ∷ [])) ++ rest)
opened-sound wrap inner s [] rest e h = cc h
opened-sound wrap inner s (t.Sign m.Open ∷ r) rest e h = let p = paren-sound wrap inner s r rest e h in (p.0, p.1, p.2, p.3, ap (λ (y : List Token). t.Sign m.Open ∷ y) p.4)
opened-sound wrap inner s (_ ∷ r) rest e h = cc h

abbrev numbered : ℤ × List Token → Found
numbered x = Some (Number x.0, x.1)

int_tree : (ts rest : List Token) (e : Tree) → (int_at ts >>= numbered) ≡ Some (e, rest) → From 0 e ts rest
int_tree ts rest e h =
    let x = bind_some (int_at ts) numbered (e, rest) h in
    let i = int-sound ts x.0.1 x.0.0 x.1 in
    found_is 0 (Number x.0.0) e ts x.0.1 rest x.2 (i.0, i.1, i.2)

pub atom-sound : (inner : List Token → Found) → Sounds 6 inner → (ts rest : List Token) (e : Tree) → atom inner ts ≡ Some (e, rest) → From 0 e ts rest
atom-sound inner s (t.Kept r.Len ∷ ts) rest e h =
    let p = opened-sound Length inner s ts rest e h in
    rw (← p.3) (t.Kept r.Len ∷ t.Sign m.Open ∷ (p.1 ++ t.Sign m.Close ∷ []), (p.1, p.2, refl), ap (λ (y : List Token). t.Kept r.Len ∷ y) p.4)
atom-sound inner s (t.Kept r.ToInt ∷ ts) rest e h =
    let p = opened-sound Valued inner s ts rest e h in
    rw (← p.3) (t.Kept r.ToInt ∷ t.Sign m.Open ∷ (p.1 ++ t.Sign m.Close ∷ []), (p.1, p.2, refl), ap (λ (y : List Token). t.Kept r.ToInt ∷ y) p.4)
atom-sound inner s (t.Sign m.Open ∷ r) rest e h =
    let p = paren-sound Inside inner s r rest e h in
    rw (← p.3) (t.Sign m.Open ∷ (p.1 ++ t.Sign m.Close ∷ []), (p.1, p.2, refl), ap (λ (y : List Token). t.Sign m.Open ∷ y) p.4)
atom-sound inner s (t.Quote n ∷ r) rest e h = found_is 0 (Texted n) e (t.Quote n ∷ r) r rest h (t.Quote n ∷ [], refl, refl)
atom-sound inner s (t.Word v w ∷ r) rest e h = found_is 0 (Named w) e (t.Word v w ∷ r) r rest h (t.Word v w ∷ [], inr (v, refl), refl)
atom-sound inner s (t.Quoted w ∷ r) rest e h = found_is 0 (Named w) e (t.Quoted w ∷ r) r rest h (t.Quoted w ∷ [], inl refl, refl)
atom-sound inner s [] rest e h = int_tree [] rest e h
atom-sound inner s (k ∷ r) rest e h = int_tree (k ∷ r) rest e h

sign_of : (k : Token) (op : Op) → op_of k ≡ Some op → sign op ≡ k
sign_of (t.Sign m.Times) op h = rw (← some_inj _ _ h) refl
sign_of (t.Sign m.Divide) op h = rw (← some_inj _ _ h) refl
sign_of (t.Sign m.Remainder) op h = rw (← some_inj _ _ h) refl
sign_of (t.Sign m.Plus) op h = rw (← some_inj _ _ h) refl
sign_of (t.Sign m.Minus) op h = rw (← some_inj _ _ h) refl
sign_of (t.Sign m.Join) op h = rw (← some_inj _ _ h) refl
sign_of (t.Sign m.Equal) op h = rw (← some_inj _ _ h) refl
sign_of (t.Sign m.Differ) op h = rw (← some_inj _ _ h) refl
sign_of (t.Sign m.Less) op h = rw (← some_inj _ _ h) refl
sign_of (t.Sign m.AtMost) op h = rw (← some_inj _ _ h) refl
sign_of (t.Sign m.More) op h = rw (← some_inj _ _ h) refl
sign_of (t.Sign m.AtLeast) op h = rw (← some_inj _ _ h) refl
sign_of (t.Kept r.And) op h = rw (← some_inj _ _ h) refl
sign_of (t.Kept r.Or) op h = rw (← some_inj _ _ h) refl
sign_of _ op h = cc h

level_is : (l : ℕ) (x : Option Op) (op : Op) → of_level l x ≡ Some op → (x ≡ Some op) × (level op ≡ l)
level_is l None op h = cc h
level_is l (Some q) op h = elim (cases_Bool (level q == l)) [
  | inl e ↦ let s = rw e at h in let same = some_inj _ _ s in (s, rw (← same) (eqb→eq (level q) l (rw e tt)))
  | inr e ↦ let s = rw e at h in cc s
]

pub op_info : (l : ℕ) (k : Token) (op : Op) → op_at l k ≡ Some op → (level op ≡ l) × (sign op ≡ k)
unfolding op_at
op_info l k op h = let p = level_is l (op_of k) op h in (p.1, sign_of k op p.0)

pub looser : (e : Tree) (l m : ℕ) (ts : List Token) → l ≤ m → Reads l e ts → Reads m e ts
looser (Number z) l m ts le r = r
looser (Texted z) l m ts le r = r
looser (Named w) l m ts le r = r
looser (Length w) l m ts le r = r
looser (Valued w) l m ts le r = r
looser (Inside e) l m ts le r = r
looser (Negated e) l m ts le r = (omega (arith, le, r.0), r.1, r.2, r.3)
looser (Joined op a b) l m ts le r = (omega (arith, le, r.0), r.1, r.2, r.3, r.4, r.5)

-- what an operator's left side may be: a chain's level, or one below
left_is : (op : Op) (l : ℕ) → level op ≡ suc l → (suc l ≡ 3 → ⊥) → left_level op ≡ suc l
left_is o.Times l h n = h
left_is o.Divide l h n = h
left_is o.Remainder l h n = h
left_is o.Plus l h n = h
left_is o.Minus l h n = h
left_is o.Join l h n = h
left_is o.Equal l h n = absurd (n (sym h))
left_is o.Differ l h n = absurd (n (sym h))
left_is o.Less l h n = absurd (n (sym h))
left_is o.AtMost l h n = absurd (n (sym h))
left_is o.More l h n = absurd (n (sym h))
left_is o.AtLeast l h n = absurd (n (sym h))
left_is o.And l h n = h
left_is o.Or l h n = h

left_once : (op : Op) → level op ≡ 3 → left_level op ≡ 2
left_once o.Times h = absurd (omega (arith, h))
left_once o.Divide h = absurd (omega (arith, h))
left_once o.Remainder h = absurd (omega (arith, h))
left_once o.Plus h = absurd (omega (arith, h))
left_once o.Minus h = absurd (omega (arith, h))
left_once o.Join h = absurd (omega (arith, h))
left_once o.Equal h = refl
left_once o.Differ h = refl
left_once o.Less h = refl
left_once o.AtMost h = refl
left_once o.More h = refl
left_once o.AtLeast h = refl
left_once o.And h = absurd (omega (arith, h))
left_once o.Or h = absurd (omega (arith, h))

-- a left side of a chain, or of a comparison that has not yet come
IsLeft : ℕ → Tree → List Token → Type 0
IsLeft l e used = Reads (cond (l == 3) 2 l) e used

-- the rest of a chain
Chain : ℕ → Tree → List Token → List Token → List Token → Type 0
Chain l f used ts rest = (tail : List Token) × Reads l f (used ++ tail) × (ts ≡ tail ++ rest)

below_left : (l : ℕ) (e : Tree) (used : List Token) → Reads l e used → IsLeft (suc l) e used
unfolding IsLeft
below_left l e used r = elim (cases_Bool (suc l == 3)) [
  | inl b ↦ let two : l ≡ 2 = omega (arith, eqb→eq (suc l) 3 (rw b tt)) in rw b (rw two at r)
  | inr b ↦ rw b (looser e l (suc l) used (omega arith) r)
]

left_whole : (l : ℕ) (e : Tree) (used : List Token) → IsLeft l e used → Reads l e used
unfolding IsLeft
left_whole l e used r = elim (cases_Bool (l == 3)) [
  | inl b ↦ let three : l ≡ 3 = eqb→eq l 3 (rw b tt) in rw three (looser e 2 3 used (omega arith) (rw b at r))
  | inr b ↦ rw b at r
]

join_left : (l : ℕ) (op : Op) (e : Tree) (used : List Token) → level op ≡ suc l → IsLeft (suc l) e used → Reads (left_level op) e used
unfolding IsLeft
join_left l op e used lv r = elim (cases_Bool (suc l == 3)) [
  | inl b ↦ rw (left_once op (lv ∙ eqb→eq (suc l) 3 (rw b tt))) (rw b at r)
  | inr b ↦ rw (left_is op l lv (λ h. let two : l ≡ 2 = omega (arith, h) in let bad = rw two at b in cc bad)) (rw b at r)
]

more-sound : (side : List Token → Found) (l : ℕ) → Sounds l side
    → (n : ℕ) (e f : Tree) (used ts rest : List Token) → IsLeft (suc l) e used → more side (suc l) n e ts ≡ Some (f, rest)
    → Chain (suc l) f used ts rest
unfolding more Chain IsLeft
more-sound side l s zero e f used ts rest m h = cc h
more-sound side l s (suc n) e f used [] rest m h =
    let p = some_inj _ _ h in
    let a : e ≡ f = ap (λ (x : Tree × List Token). x.0) p in
    let b : [] ≡ rest = ap (λ (x : Tree × List Token). x.1) p in
    ([], rw (← a, append-nil used) (left_whole (suc l) e used m), b)
more-sound side l s (suc n) e f used (k ∷ ts) rest m h = step (op_at (suc l) k) refl h (more-sound side l s n)
  where
    step : (op : Option Op) → op_at (suc l) k ≡ op → going op (Some (e, k ∷ ts)) (λ op. side ts >>= λ x. cond (suc l == 3) (Some (Joined op e x.0, x.1)) (more side (suc l) n (Joined op e x.0) x.1)) ≡ Some (f, rest)
        → ((d f : Tree) (used ts rest : List Token) → IsLeft (suc l) d used → more side (suc l) n d ts ≡ Some (f, rest) → Chain (suc l) f used ts rest)
        → Chain (suc l) f used (k ∷ ts) rest
    step None is g again =
        let p = some_inj _ _ g in
        let a : e ≡ f = ap (λ (x : Tree × List Token). x.0) p in
        let b : k ∷ ts ≡ rest = ap (λ (x : Tree × List Token). x.1) p in
        ([], rw (← a, append-nil used) (left_whole (suc l) e used m), b)
    step (Some op) is g again =
        let x = bind_some (side ts) (λ (x : Tree × List Token). cond (suc l == 3) (Some (Joined op e x.0, x.1)) (more side (suc l) n (Joined op e x.0) x.1)) (f, rest) g in
        let right = sounds l side s ts x.0.1 x.0.0 x.1 in
        let info = op_info (suc l) k op is in
        let side_level : level op - 1 ≡ l = rw info.0 (omega arith) in
        let joined : Reads (suc l) (Joined op e x.0.0) (used ++ sign op ∷ right.0) = (omega (arith, info.0), used, right.0, join_left l op e used info.0 m, rw side_level right.1, refl) in
        let here : k ∷ ts ≡ (sign op ∷ right.0) ++ x.0.1 = ap (λ (q : Token). q ∷ ts) (sym info.1) ∙ ap (λ (x : List Token). sign op ∷ x) right.2 in
        finish (Joined op e x.0.0) x.0.1 (sign op ∷ right.0) joined here x.2 again
      where
        finish : (d : Tree) (after : List Token) (tail : List Token) → Reads (suc l) d (used ++ tail) → k ∷ ts ≡ tail ++ after
            → cond (suc l == 3) (Some (d, after)) (more side (suc l) n d after) ≡ Some (f, rest)
            → ((d f : Tree) (used ts rest : List Token) → IsLeft (suc l) d used → more side (suc l) n d ts ≡ Some (f, rest) → Chain (suc l) f used ts rest)
            → Chain (suc l) f used (k ∷ ts) rest
        finish d after tail joined here g again = elim (cases_Bool (suc l == 3)) [
          | inl b ↦
              let p = some_inj _ _ (rw b at g) in
              let same : d ≡ f = ap (λ (x : Tree × List Token). x.0) p in
              let end : after ≡ rest = ap (λ (x : Tree × List Token). x.1) p in
              (tail, rw (← same) joined, rw (← end) here)
          | inr b ↦
              let next = again d f (used ++ tail) after rest (rw b joined) (rw b at g) in
              (tail ++ next.0, rw (← append_assoc used tail next.0) next.1, here ∙ ap (λ (x : List Token). tail ++ x) next.2 ∙ sym (append_assoc tail next.0 rest))
        ]

negation-sound : (again below : List Token → Found) → Sounds 4 again → Sounds 3 below → (ts rest : List Token) (e : Tree) → negation again below ts ≡ Some (e, rest) → From 4 e ts rest
negation-sound again below sa sb (t.Kept r.Not ∷ ts) rest e h =
    let x = bind_some (again ts) (λ (x : Tree × List Token). Some (Negated x.0, x.1)) (e, rest) h in
    let f = sounds 4 again sa ts x.0.1 x.0.0 x.1 in
    found_is 4 (Negated x.0.0) e (t.Kept r.Not ∷ ts) x.0.1 rest x.2 (t.Kept r.Not ∷ f.0, (omega arith, f.0, f.1, refl), ap (λ (y : List Token). t.Kept r.Not ∷ y) f.2)
negation-sound again below sa sb [] rest e h = let f = sounds 3 below sb [] rest e h in (f.0, looser e 3 4 f.0 (omega arith) f.1, f.2)
negation-sound again below sa sb (k ∷ ts) rest e h = let f = sounds 3 below sb (k ∷ ts) rest e h in (f.0, looser e 3 4 f.0 (omega arith) f.1, f.2)

pub sound : (n l : ℕ) → Sounds l (read n l)
unfolding read Sounds Chain
sound zero l ts rest e h = cc h
sound (suc n) zero ts rest e h = atom-sound (read n 6) (sound n 6) ts rest e h
sound (suc n) (suc l) ts rest e h = elim (cases_Bool (l == 3)) [
  | inl b ↦ let three : l ≡ 3 = eqb→eq l 3 (rw b tt) in rw three (negation-sound (read n 4) (read n 3) (sound n 4) (sound n 3) ts rest e (rw b at h))
  | inr b ↦ chain (sound n l) (rw b at h)
]
  where
    chain : Sounds l (read n l) → (read n l ts >>= λ x. more (read n l) (suc l) n x.0 x.1) ≡ Some (e, rest) → From (suc l) e ts rest
    chain s g =
        let x = bind_some (read n l ts) (λ (x : Tree × List Token). more (read n l) (suc l) n x.0 x.1) (e, rest) g in
        let left = s ts x.0.1 x.0.0 x.1 in
        let tail = more-sound (read n l) l s n x.0.0 e left.0 x.0.1 rest (below_left l x.0.0 left.0 left.1) x.2 in
        (left.0 ++ tail.0, tail.1, left.2 ∙ ap (λ (x : List Token). left.0 ++ x) tail.2 ∙ sym (append_assoc left.0 tail.0 rest))
