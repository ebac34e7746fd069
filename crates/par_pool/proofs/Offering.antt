-- The tails of a chain, offered one by one, the nearest first.
use Rattle.std.proofs.Common.{◌≡◌, ℕ, suc, ◌+◌, ◌*◌, ◌/◌, ◌^◌, ◌<◌, ◌⊎◌, inl, inr, ⊎_elim, List, [], ◌∷◌, ◌++◌, length, sym, refl, ◌∙◌, subst, arith, true, false, append_assoc}
use Rattle.std.proofs.lemmas.List.{append-nil}
use mathlib.Core.Logic.{dite}
use native.Mathlib.Decide.{ℕ_discrete}
use Rattle.par_board.specs.Tree.{below, TreeLaws}
use Rattle.par_board.specs.Seen.{Owned, owned_free, Sight, owns_at}
use Rattle.par_board.specs.Calls.{OwnsTree, HasOpen, IsOffered, HoldsSame}
use Rattle.par_board.specs.Loads.{IsPiece}
use Rattle.par_pool.specs.Tails.{AreTails, Opens, AreOffered, Pending, IsShut, FreeBelow}
use Rattle.par_pool.proofs.Spines.{In, not_true, true_or, in_child, in_spine, left_is, left_half, right_half, right_out, up_pos}
use Rattle.par_pool.proofs.Cutting.{tails_next, piece_next, few_next}

-- each node that was offered lies below a
abbrev pub Insides : {S : Type 0} → ℕ → List (ℕ × S) → Type 0
Insides a [] = Unit {0}
Insides a (t ∷ ts) = (t.0 < 2048) × (below a t.0 ≡ true) × Insides a ts

insides_push : {S : Type 0} (a : ℕ) (ts : List (ℕ × S)) (t : ℕ × S) → Insides a ts → t.0 < 2048 → below a t.0 ≡ true → Insides a (ts ++ t ∷ [])
insides_push a [] t i near b = (near, b, tt)
insides_push a (x ∷ ts) t i near b = (i.0, i.1, insides_push a ts t i.2 near b)

insides_up : {S : Type 0} (laws : TreeLaws) (a c : ℕ) (ts : List (ℕ × S)) → 0 < a → c / 2 ≡ a → Insides c ts → Insides a ts
insides_up laws a c [] pos is i = tt
insides_up laws a c (x ∷ ts) pos is i = (i.0, in_child laws a c x.0 pos i.0 is (inr i.1), insides_up laws a c ts pos is i.2)

module _ {S X F : Type 0} (items : S → List X) (lo : S → ℕ) where
  opens_push : (w : Sight F) (ts : List (ℕ × S)) (t : ℕ × S) → Opens items lo w ts → HasOpen t.0 (lo t.1) (lo t.1 + length (items t.1)) w → Opens items lo w (ts ++ t ∷ [])
  opens_push w [] t o e = (e, tt)
  opens_push w (x ∷ ts) t o e = (o.0, opens_push w ts t o.1 e)

  opens_after : (v w : Sight F) (a : ℕ) (ts : List (ℕ × S)) → Insides a ts → ((m : ℕ) → m < 2048 → below a m ≡ true → owns_at w m ≡ owns_at v m) → Opens items lo v ts → Opens items lo w ts
  opens_after v w a [] i h o = tt
  opens_after v w a (x ∷ ts) i h o = (h x.0 i.0 i.1 ∙ o.0, opens_after v w a ts i.2 h o.1)

  -- the state between two offers
  pub record Offering (source : List X) (k hi : ℕ) (all ts : List (ℕ × S)) (u v : Sight F) : Type 0 where
    pub before : List (ℕ × S)
    pub from : ℕ
    pub all_is : all ≡ before ++ ts
    pub ahead : AreTails items lo source k from hi ts
    pub opens : Opens items lo v before
    pub inside : Insides (k * 2 ^ length ts) before
    pub spare : (m : ℕ) → m < 2048 → below k m ≡ true → (In (k * 2 ^ length ts) m → ⊥) → owns_at v m ≡ owned_free
    pub shut : (m : ℕ) → m < 2048 → IsShut (owns_at u m) → IsShut (owns_at v m) ⊎ Pending k (length ts) (length all) m
    pub holds : HoldsSame u v

  pub offering_first : (source : List X) (k from hi : ℕ) (all : List (ℕ × S)) (v : Sight F) → AreTails items lo source k from hi all → FreeBelow k v → Offering source k hi all all v v
  offering_first source k from hi all v a f = record {
    before = [];
    from = from;
    all_is = refl;
    ahead = a;
    opens = tt;
    inside = tt;
    spare = λ m near b _. f m near b;
    shut = λ m near s. inl s;
    holds = λ m near. refl;
  }

  pub offering_last : {source : List X} {k hi : ℕ} {all : List (ℕ × S)} {u v : Sight F} → Offering source k hi all [] u v → AreOffered items lo k all u v
  offering_last {all = all} {v = v} o = record {
    opens = subst (λ (x : List (ℕ × S)). Opens items lo v x) (sym (o.all_is ∙ append-nil o.before)) o.opens;
    shut = o.shut;
    holds = o.holds;
  }

  module _ {source : List X} {k hi : ℕ} {all ts : List (ℕ × S)} {x : ℕ} {s : S} {u v : Sight F} (pos : 0 < k) (o : Offering source k hi all ((x, s) ∷ ts) u v) where
    abbrev e : ℕ
    e = length ts

    abbrev left : ℕ
    left = k * 2 ^ suc e

    pub node_is : x ≡ left + 1
    node_is = (tails_next items lo source k o.from hi x s ts o.ahead).0

    pub node_near : (0 < x) × (x < 2048)
    node_near = let a = node_is in let b = left_is k e pos in let c = o.ahead.small in (omega (arith, a), omega (arith, a, b, c))

    pub piece : IsPiece items lo source (lo s) (lo s + length (items s)) s
    piece = piece_next items lo source k o.from hi x s ts o.ahead

    module _ (laws : TreeLaws) where
      pub node_free : OwnsTree x v
      node_free = let r : x ≡ left + 1 = node_is in let n = node_near in (
        o.spare x n.1 (in_spine laws e k 1 x pos n.1 (omega arith) (inl r)) (right_out laws k e pos x (inl r)),
        λ m near b. let i : In (left + 1) m = inr (subst (λ (y : ℕ). below y m ≡ true) r b) in o.spare m near (in_spine laws e k 1 m pos near (omega arith) i) (right_out laws k e pos m i),
      )

      pub offering_next : (w : Sight F) → IsOffered x (lo s) (lo s + length (items s)) v w → Offering source k hi all ts u w
      offering_next w f =
          let r : x ≡ left + 1 = node_is in let n = node_near in
          let up : ℕ = k * 2 ^ e in let upos : 0 < up = up_pos k e pos in
          let lh : left / 2 ≡ up = left_half k e pos in let rh : (left + 1) / 2 ≡ up = right_half k e pos in
          let at_x : (m : ℕ) → m ≡ x → In (left + 1) m = λ m z. inl (z ∙ r) in
          let below_x : (m : ℕ) → below x m ≡ true → In (left + 1) m = λ m z. inr (subst (λ (y : ℕ). below y m ≡ true) r z) in
          let same : (m : ℕ) → m < 2048 → (In (left + 1) m → ⊥) → owns_at w m ≡ owns_at v m = λ m near out. f.owns m near (λ z. out (at_x m z)) (not_true (below x m) (λ z. out (below_x m z))) in
          record {
            before = o.before ++ (x, s) ∷ [];
            from = o.from + length (items s);
            all_is = o.all_is ∙ sym (append_assoc o.before ((x, s) ∷ []) ts);
            ahead = (tails_next items lo source k o.from hi x s ts o.ahead).1;
            opens = opens_push w o.before (x, s) (opens_after v w left o.before o.inside (λ m near b. same m near (λ i. right_out laws k e pos m i (inr b))) o.opens) f.opened;
            inside = insides_push up o.before (x, s) (insides_up laws up left o.before upos lh o.inside) n.1 (in_child laws up (left + 1) x upos n.1 rh (inl r));
            spare = λ m near b out. let no : In (left + 1) m → ⊥ = (λ i. out (inr (in_child laws up (left + 1) m upos near rh i))) in
                same m near no ∙ o.spare m near b (λ i. out (inr (in_child laws up left m upos near lh i)));
            shut = λ m near q. dite (ℕ_discrete m x)
                (λ z. inr (e, omega arith, few_next items lo source k hi all o.before x s ts o.all_is, z ∙ r))
                (λ ne. ⊎_elim
                (λ (t : below x m ≡ true). inl (inl (f.gone m near t)))
                (λ (g : below x m ≡ false). ⊎_elim
                (λ (c : IsShut (owns_at v m)). inl (subst (λ (p : Owned). IsShut p) (sym (f.owns m near ne g)) c))
                (λ (p : Pending k (suc e) (length all) m). inr (p.0, omega (arith, p.1), p.2, p.3))
                (o.shut m near q))
                (true_or (below x m)));
            holds = λ m near. f.holds m near ∙ o.holds m near;
          }
