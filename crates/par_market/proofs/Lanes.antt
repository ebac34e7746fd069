-- The lanes of a seat, when one was used.
use Rattle.std.proofs.Common.{◌≡◌, ◌≢◌, ℕ, ◌+◌, ◌<◌, ◌≤◌, true, false, List, [], ◌∷◌, ◌++◌, Option, Some, None, MatchOption, length, map, replicate, get_or, set, refl, sym, ap, ◌∙◌, subst, arith}
use Rattle.std.specs.declared.alloc.Global.{Global}
use Rattle.std.specs.List.{All}
use Rattle.std.proofs.lemmas.List.{map-set, set-get_or, length-map, length-set, get_or-map, get_or-set_same, get_or-set_other, get_or_push, get_or_append_left}
use Rattle.std.proofs.lemmas.List.Elements.{All-set, All-get_or, All-head, All-tail, All-weaker}
use mathlib.Core.Logic.{dite}
use native.Mathlib.Decide.{ℕ_discrete}
use Rattle.crossbeam_deque.specs.Handles.{view, IsPassOf, stealer_deque}
use Rattle.crossbeam_deque.specs.declared.handles.Stealer.{Stealer}
use Rattle.par_edge.specs.Count.{raised, Rose}
use Rattle.par_market.specs.declared.rule.Entry.{Entry}
use Rattle.par_market.specs.declared.rule.Account.{Account}
use Rattle.par_market.specs.declared.rule.DequeRule.{DequeRule}
use Rattle.par_market.specs.declared.ends.Lane.{Lane}
use Rattle.par_market.specs.Markets.{NoneFell}
use Rattle.par_market.specs.declared.ticket.Ticket.{Ticket}
use Rattle.par_market.specs.Deques.{account, Above, HasTaken, told}
use Rattle.par_market.specs.Seats.{HasFound, fresh, DequeId, deques_of, lane_deques, lane_counts, lane_finds, IsBare}

abbrev pub id_of : Lane → DequeId
id_of l = (l.pass.rows, l.pass.heap)

abbrev finds_of : Lane → List Entry
finds_of l = (view {V = Account} l.pass).found

module _ (lanes : List Lane) (thieves : List (Stealer Entry Global Account DequeRule)) (k : ℕ) (same : lane_deques lanes ≡ deques_of thieves) (lt : k < length lanes) (l : Lane) (t : Stealer Entry Global Account DequeRule) (lane : l ≡ get_or lanes k l) (thief : t ≡ get_or thieves k t) where
  count : length lanes ≡ length thieves
  count = sym (length-map lanes id_of) ∙ (ap length same ∙ length-map thieves stealer_deque)

  lane_at : get_or (lane_deques lanes) k (id_of l) ≡ id_of l
  lane_at = get_or-map id_of lanes k l (id_of l) lt ∙ ap id_of (sym lane)

  pub deque_at : id_of l ≡ stealer_deque t
  deque_at = sym lane_at ∙ (ap (λ (ds : List DequeId). get_or ds k (id_of l)) same ∙ (get_or-map stealer_deque thieves k t (id_of l) (omega (arith, lt, count)) ∙ ap stealer_deque (sym thief)))

  pub is_pass : All IsBare lanes → IsPassOf (stealer_deque t) l.pass
  is_pass bare =
      let b : IsBare l = subst IsBare (sym lane) (All-get_or IsBare lanes k l lt bare) in
      (ap (λ (d : DequeId). d.0) deque_at, ap (λ (d : DequeId). d.1) deque_at, b.0, b.1)

  module _ (l' : Lane) (now : IsPassOf (stealer_deque t) l'.pass) where
    same_id : id_of l' ≡ id_of l
    same_id = (λ i. (now.0 i, now.1 i)) ∙ sym deque_at

    pub deques_after : lane_deques (set lanes k l') ≡ lane_deques lanes
    deques_after = map-set id_of lanes k l' ∙ (ap (λ (d : DequeId). set (lane_deques lanes) k d) (same_id ∙ sym lane_at) ∙ set-get_or (lane_deques lanes) k (id_of l))

    pub bare_after : All IsBare lanes → All IsBare (set lanes k l')
    bare_after bare = All-set IsBare lanes k l' (now.2, now.3) bare

module _ (lanes : List Lane) (k : ℕ) (lt : k < length lanes) (l l' : Lane) (lane : l ≡ get_or lanes k l) where
  abbrev after : List Lane
  after = set lanes k l'

  counts_after : lane_counts after ≡ set (lane_counts lanes) k l'.empty
  counts_after = map-set (λ (x : Lane). x.empty) lanes k l'

  finds_after : lane_finds after ≡ set (lane_finds lanes) k (finds_of l')
  finds_after = map-set finds_of lanes k l'

  count_here : get_or (lane_counts lanes) k 0 ≡ l.empty
  count_here = get_or-map (λ (x : Lane). x.empty) lanes k l 0 lt ∙ ap (λ (x : Lane). x.empty) (sym lane)

  finds_here : get_or (lane_finds lanes) k [] ≡ finds_of l
  finds_here = get_or-map finds_of lanes k l [] lt ∙ ap finds_of (sym lane)

  pub counts_kept : l.empty ≤ l'.empty → NoneFell (λ j. get_or (lane_counts lanes) j 0) (λ j. get_or (lane_counts after) j 0)
  counts_kept le j = rw counts_after (dite (ℕ_discrete j k)
      (λ (e : j ≡ k). subst (λ (x : ℕ). get_or (lane_counts lanes) x 0 ≤ get_or (set (lane_counts lanes) k l'.empty) x 0) (sym e)
      (let a = get_or-set_same (lane_counts lanes) k l'.empty 0 (let n = length-map lanes (λ (x : Lane). x.empty) in omega (arith, n, lt)) in let b = count_here in omega (arith, a, b, le)))
      (λ (ne : j ≢ k). let a = get_or-set_other (lane_counts lanes) k j l'.empty 0 ne in omega (arith, a)))

  pub empty_look : finds_of l' ≡ finds_of l → l'.empty ≡ raised l.empty 1 → Rose (get_or (lane_counts lanes) k 0) (get_or (lane_counts after) k 0) × (lane_finds after ≡ lane_finds lanes)
  empty_look same count = (
    (let a = get_or-set_same (lane_counts lanes) k l'.empty 0 (let n = length-map lanes (λ (x : Lane). x.empty) in omega (arith, n, lt)) in let b = count_here in rw counts_after (omega (arith, a, b, count))),
    finds_after ∙ (ap (λ (x : List Entry). set (lane_finds lanes) k x) (same ∙ sym finds_here) ∙ set-get_or (lane_finds lanes) k []),
  )

  pub found_look : (posted : List Ticket) (t : Ticket) → HasTaken (view {V = Account} l.pass) t (view {V = Account} l'.pass) → HasFound (told posted (lane_finds lanes)) k t (told posted (lane_finds after))
  found_look posted t h = (
    h.0,
    subst (λ (x : List Entry). Above x h.0) (sym finds_here) h.1,
    ap (told posted) (finds_after ∙ ap (λ (x : List Entry). set (lane_finds lanes) k x) (ap (λ (x : Account). x.found) h.2 ∙ ap (λ (x : List Entry). x ++ record { place = h.0; ticket = t } ∷ []) (sym finds_here))),
  )

  pub count_after : length after ≡ length lanes
  count_after = length-set lanes k l'

  -- what a look left of the lanes, by what it answered
  pub looked :
      (posted : List Ticket) (r : Option Ticket) →
      MatchOption r ((view {V = Account} l'.pass ≡ view l.pass) × (l'.empty ≡ raised l.empty 1)) (λ t. HasTaken (view {V = Account} l.pass) t (view {V = Account} l'.pass) × (l'.empty ≡ l.empty)) →
      NoneFell (λ j. get_or (lane_counts lanes) j 0) (λ j. get_or (lane_counts after) j 0)
      × MatchOption r (Rose (get_or (lane_counts lanes) k 0) (get_or (lane_counts after) k 0) × (told posted (lane_finds after) ≡ told posted (lane_finds lanes))) (λ t. HasFound (told posted (lane_finds lanes)) k t (told posted (lane_finds after)))
  looked posted None h =
      let e = empty_look (ap (λ (v : Account). v.found) h.0) h.1 in
      (counts_kept (let c = h.1 in omega (arith, c)), (e.0, ap (told posted) e.1))
  looked posted (Some t) h = (counts_kept (let c = h.1 in omega (arith, c)), found_look posted t h.0)

map_same : {X Y : Type 0} (f : X → Y) (y : Y) (xs : List X) → All (λ x. f x ≡ y) xs → map f xs ≡ replicate (length xs) y
map_same f y [] a = refl
map_same f y (x ∷ xs) a = let e = All-head (λ x. f x ≡ y) x xs a in let r = map_same f y xs (All-tail (λ x. f x ≡ y) x xs a) in cc (e, r)

-- a lane that was never used
abbrev IsNew : Lane → Type 0
IsNew l = IsBare l × (l.empty ≡ 0) × (view {V = Account} l.pass ≡ account false [] [])

-- a seat that did nothing yet
pub seat_fresh :
    (own : ℕ) (lanes : List Lane) (ds : List DequeId) (v : Account) → lane_deques lanes ≡ ds → All IsNew lanes → v ≡ account true [] [] →
    record { deques = lane_deques lanes; own = own; refused = 0; empty = lane_counts lanes; known = told v.posted (lane_finds lanes) } ≡ fresh ds own
seat_fresh own lanes ds v same new none =
    let n : length lanes ≡ length ds = sym (length-map lanes id_of) ∙ ap length same in
    let counts : lane_counts lanes ≡ replicate (length ds) 0 = map_same (λ (l : Lane). l.empty) 0 lanes (All-weaker IsNew (λ (l : Lane). l.empty ≡ 0) (λ l h. h.1) lanes new) ∙ ap (λ (k : ℕ). replicate k 0) n in
    let finds : lane_finds lanes ≡ replicate (length ds) [] = map_same finds_of [] lanes (All-weaker IsNew (λ (l : Lane). finds_of l ≡ []) (λ l h. ap (λ (a : Account). a.found) h.2) lanes new) ∙ ap (λ (k : ℕ). replicate k []) n in
    let posted : v.posted ≡ [] = ap (λ (a : Account). a.posted) none in
    λ i. record { deques = same i; own = own; refused = 0; empty = counts i; known = told (posted i) (finds i) }

-- what is at each place, with one more
pub each_push : {X : Type 0} (f : ℕ → X) (xs : List X) (x : X) (n : ℕ) → length xs ≡ n → x ≡ f n → ((i : ℕ) (d : X) → i < n → get_or xs i d ≡ f i) → (i : ℕ) (d : X) → i < n + 1 → get_or (xs ++ x ∷ []) i d ≡ f i
each_push f xs x n len is each i d lt = dite (ℕ_discrete i n)
    (λ (e : i ≡ n). get_or_push xs x d i (omega (arith, len, e)) ∙ (is ∙ ap f (sym e)))
    (λ (ne : i ≢ n). get_or_append_left xs (x ∷ []) d i (omega (arith, lt, ne, len)) ∙ each i d (omega (arith, lt, ne)))
