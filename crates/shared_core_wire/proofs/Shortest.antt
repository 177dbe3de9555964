-- The shortest varint.
use Rattle.std.proofs.Common.{◌≡◌, ℕ, zero, suc, ◌+◌, ◌-◌, ◌*◌, ◌/◌, ◌%◌, ◌^◌, ◌<◌, ◌≤◌, List, [], ◌∷◌, ◌++◌, length}
use Rattle.std.proofs.Common.{refl, ap, ◌∙◌, arith, lit<, inl, inr}
use Rattle.std.proofs.Math.Nat.{pow-suc, pow-le-pow_right}
use Rattle.std.proofs.lemmas.Bool.{lt-ltb, le-ltb, cases_lt}
use Rattle.shared_core_wire.specs.Grammar.{IsBase128, IsVarint, IsKey}
use Rattle.shared_core_wire.specs.Encoding.{shortest_within, shortest_varint, key_bytes}
use Rattle.shared_core_wire.specs.Examples.{repeated_byte}

enough : (more most n : ℕ) → n ≤ more → n ≤ most → shortest_within more n ≡ shortest_within most n
unfolding shortest_within
enough zero zero n h k = refl
enough zero (suc most) n h k = rw (lt-ltb n 128 (omega arith)) refl
enough (suc more) zero n h k = rw (lt-ltb n 128 (omega arith)) refl
enough (suc more) (suc most) n h k =
    elim (cases_lt n 128) [
      | inl lt ↦ rw (lt-ltb n 128 lt) refl
      | inr le ↦ rw (le-ltb n 128 le) (ap (λ (w : List ℕ). (n % 128 + 128) ∷ w)
          (enough more most (n / 128) (omega arith) (omega arith)))
    ]

small_within : (more n : ℕ) → n < 128 → shortest_within more n ≡ n ∷ []
unfolding shortest_within
small_within zero n h = refl
small_within (suc more) n h = rw (lt-ltb n 128 h) refl

pub shortest_small : (n : ℕ) → n < 128 → shortest_varint n ≡ n ∷ []
unfolding shortest_varint
shortest_small n h = small_within n n h

large_within : (more n : ℕ) → n ≤ more → 128 ≤ n → shortest_within more n ≡ (n % 128 + 128) ∷ shortest_within (n / 128)
    (n / 128)
unfolding shortest_within
large_within zero n h le = absurd (omega arith)
large_within (suc more) n h le = rw (le-ltb n 128 le) (ap (λ (w : List ℕ). (n % 128 + 128) ∷ w)
    (enough more (n / 128) (n / 128) (omega arith) (omega arith)))

pub shortest_large : (n : ℕ) → 128 ≤ n → shortest_varint n ≡ (n % 128 + 128) ∷ shortest_varint (n / 128)
unfolding shortest_varint
shortest_large n le = large_within n n (omega arith) le

-- ---- it is an encoding

encodes_more : (b : ℕ) (text : List ℕ) (n high : ℕ) → 128 ≤ b → n ≡ b % 128 + 128 * high → IsBase128 text high →
    IsBase128 (b ∷ text) n
encodes_more b [] n high le e h = absurd h
encodes_more b (c ∷ bs) n high le e h = (le, high, e, h)

encodes_within : (most n : ℕ) → n ≤ most → IsBase128 (shortest_varint n) n
encodes_within zero n le = rw (shortest_small n (omega arith)) (omega arith, refl)
encodes_within (suc most) n le =
    elim (cases_lt n 128) [
      | inl lt ↦ rw (shortest_small n lt) (lt, refl)
      | inr big ↦ rw (shortest_large n big) (encodes_more (n % 128 + 128) (shortest_varint (n / 128)) n (n / 128)
          (omega arith) (omega arith) (encodes_within most (n / 128) (omega arith)))
    ]

few_within : (k n : ℕ) → n < 128 * 128 ^ k → length (shortest_varint n) ≤ k + 1
few_within zero n h = rw (shortest_small n (omega arith)) (omega arith)
few_within (suc k) n h =
    elim (cases_lt n 128) [
      | inl lt ↦ rw (shortest_small n lt) (omega arith)
      | inr big ↦
          let wide = pow-suc 128 k in
          let more = few_within k (n / 128) (omega arith) in
          rw (shortest_large n big) (omega arith)
    ]

pub ten_bytes : (n : ℕ) → n < 2 ^ 64 → length (shortest_varint n) ≤ 10
ten_bytes n h = few_within 9 n (omega arith)

pub shortest_is : (n : ℕ) → n < 2 ^ 64 → IsVarint (shortest_varint n) n
shortest_is n h = record { encoding = encodes_within n n (omega arith); short = ten_bytes n h; fits = h }

pub key_is : (number wire : ℕ) → 0 < number → number < 2 ^ 29 → wire < 8 → IsKey (key_bytes number wire) number wire
key_is number wire p n w = record {
  encoding = shortest_is (8 * number + wire) (omega arith);
  numbered = p;
  typed = w;
  fits = omega arith;
}

pub fewest : (n : ℕ) (bytes : List ℕ) → IsBase128 bytes n → length (shortest_varint n) ≤ length bytes
fewest n [] h = absurd h
fewest n (b ∷ []) h = rw (shortest_small n (omega (arith, h.0, h.1))) (omega arith)
fewest n (b ∷ c ∷ bs) h =
    elim (cases_lt n 128) [
      | inl lt ↦ rw (shortest_small n lt) (omega arith)
      | inr big ↦
          let high : n / 128 ≡ h.1 = omega (arith, h.2) in
          let more = fewest h.1 (c ∷ bs) h.3 in
          rw (shortest_large n big, high) (omega arith)
    ]

-- ---- the greatest number of 64 bits

ones : (k : ℕ) → shortest_varint (2 * 128 ^ k - 1) ≡ repeated_byte k 255 ++ 1 ∷ []
ones zero = shortest_small 1 (omega arith)
ones (suc k) =
    let wide = pow-suc 128 k in
    let some = pow-le-pow_right {n = 128} (lit< tt) {i = 0} {j = k} (omega arith) in
    let high : (2 * 128 ^ suc k - 1) / 128 ≡ 2 * 128 ^ k - 1 = omega arith in
    let low : (2 * 128 ^ suc k - 1) % 128 + 128 ≡ 255 = omega arith in
    shortest_large (2 * 128 ^ suc k - 1) (omega arith) ∙ rw (low, high) (ap (λ (w : List ℕ). 255 ∷ w) (ones k))

pub shortest_greatest : shortest_varint 18446744073709551615 ≡ repeated_byte 9 255 ++ 1 ∷ []
shortest_greatest = ones 9
