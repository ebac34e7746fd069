-- Lemmas on rooms: a room more has twice as many slots.
use Rattle.std.proofs.Common.{◌≡◌, ◌≢◌, ℕ, zero, suc, ◌+◌, ◌-◌, ◌*◌, ◌^◌, ◌<◌, ◌≤◌, refl, ap, sym, ◌∙◌, arith, pow-suc, ◌⊎◌, ⊎_elim, inl, inr, below_more}
use Rattle.std.proofs.lemmas.Bool.{cases_eq}
use Rattle.std.proofs.lemmas.Nat.{pow-add, pow_pos}
use Rattle.std.proofs.Math.Nat.{mul-le-mul_left}
use Rattle.par_flat.specs.Rooms.{IsRoomFor}

cases_le : (a b : ℕ) → (a ≤ b) ⊎ (b < a)
cases_le zero b = inl (omega arith)
cases_le (suc a) zero = inr (omega arith)
cases_le (suc a) (suc b) = ⊎_elim (λ (h : a ≤ b). inl (omega arith)) (λ (h : b < a). inr (omega arith)) (cases_le a b)

pub is_room : (n room : ℕ) → n ≤ 16 * 2 ^ room → ((m : ℕ) → m < room → 16 * 2 ^ m < n) → IsRoomFor n room
is_room n room e below = record {
  enough = omega arith;
  least = λ m h. ⊎_elim (λ (le : room ≤ m). le) (λ (lt : m < room). absurd (omega (arith, below m lt))) (cases_le room m);
}

pub twice : (room : ℕ) → 2 ^ (room + 1) ≡ 2 ^ room * 2
twice room = pow-add 2 room 1 ∙ refl

pub room_more : (room : ℕ) → room ≤ 18 → 32 * 2 ^ room < 8388608 → room + 1 ≤ 18
room_more room h l = ⊎_elim
    (λ (e : room ≡ 18).
    let full : 32 * 2 ^ room ≡ 8388608 = ap (λ r. 32 * 2 ^ r) e in
    absurd (omega arith))
    (λ (n : room ≢ 18). omega arith)
    (cases_eq room 18)

-- a room has few slots
pub small_room : (room : ℕ) → room ≤ 18 → 2 ^ room ≤ 262144
small_room room h =
    let whole : room + (18 - room) ≡ 18 = omega arith in
    let powers : 2 ^ room * 2 ^ (18 - room) ≡ 262144 = sym (pow-add 2 room (18 - room)) ∙ ap (λ n. 2 ^ n) whole in
    let more : 1 ≤ 2 ^ (18 - room) = omega (arith, pow_pos (18 - room)) in
    omega (arith, mul-le-mul_left (2 ^ room) more, powers)
