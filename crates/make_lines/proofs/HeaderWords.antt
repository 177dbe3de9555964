-- The words of headers, as bytes.
use Rattle.std.proofs.Common.{◌≡◌, ℕ, ◌+◌, ◌*◌, ◌/◌, ◌%◌, ◌^◌, ◌<◌, ◌≤◌, List, [], ◌∷◌, ◌++◌, length, take, drop, refl}
use Rattle.std.proofs.Common.{sym, ap, subst, ◌∙◌, arith}
use native.Mathlib.Nat as nat
use Rattle.std.specs.Int.{w32, w64, to_be_bytes, from_be_bytes}
use Rattle.std.proofs.lemmas.Nat.{be_bytes_8}
use Rattle.std.proofs.lemmas.List.{take-append-drop, length-take-le}
use Rattle.base64.specs.GeneralPurpose.{IsBytes}
use Rattle.base64.proofs.EngineFacts.{front_bytes}

-- ---- halves

upper : (n hi lo p : ℕ) → n / 4294967296 ≡ hi → n / (4294967296 * p) ≡ hi / p
upper n hi lo p e = sym (nat.div-div-eq-div-mul n 4294967296 p) ∙ ap (λ m. m / p) e

-- a word by its high four bytes and its low ones
pub halves : (n hi lo : ℕ) → n ≡ hi * 4294967296 + lo → lo < 4294967296 → to_be_bytes w64 n ≡ to_be_bytes w32 hi ++
    to_be_bytes w32 lo
halves n hi lo e h =
    let high : n / 4294967296 ≡ hi = omega (arith, e, h) in
    let a : n / 72057594037927936 % 256 ≡ hi / 16777216 % 256 = ap (λ m. m % 256) (upper n hi lo 16777216 high) in
    let b : n / 281474976710656 % 256 ≡ hi / 65536 % 256 = ap (λ m. m % 256) (upper n hi lo 65536 high) in
    let c : n / 1099511627776 % 256 ≡ hi / 256 % 256 = ap (λ m. m % 256) (upper n hi lo 256 high) in
    let d : n / 4294967296 % 256 ≡ hi % 256 = ap (λ m. m % 256) high in
    let p : n / 16777216 % 256 ≡ lo / 16777216 % 256 = omega (arith, e, h) in
    let q : n / 65536 % 256 ≡ lo / 65536 % 256 = omega (arith, e, h) in
    let r : n / 256 % 256 ≡ lo / 256 % 256 = omega (arith, e, h) in
    let s : n % 256 ≡ lo % 256 = omega (arith, e, h) in
    λ i. a i ∷ b i ∷ c i ∷ d i ∷ p i ∷ q i ∷ r i ∷ s i ∷ []

-- ---- the first eight bytes

take_four : (bs : List ℕ) → take 4 (take 8 bs) ≡ take 4 bs
take_four [] = refl
take_four (a ∷ []) = refl
take_four (a ∷ b ∷ []) = refl
take_four (a ∷ b ∷ c ∷ []) = refl
take_four (a ∷ b ∷ c ∷ d ∷ bs) = refl

pub front_is_bytes : (n : ℕ) (bs : List ℕ) → IsBytes bs → IsBytes (take n bs)
front_is_bytes n bs h = front_bytes (take n bs) (drop n bs) (subst IsBytes (sym (take-append-drop n bs)) h)

pub word_below : (bs : List ℕ) → IsBytes bs → from_be_bytes w64 bs < 2 ^ 64
word_below bs h = omega (arith, h 0, h 1, h 2, h 3, h 4, h 5, h 6, h 7)

-- bytes that begin with a header, whose word this is
pub record Headed (bytes : List ℕ) (word : ℕ) : Type 0 where
  pub eight : 8 ≤ length bytes
  pub small : IsBytes bytes
  pub reads : word ≡ from_be_bytes w64 (take 8 bytes)

module _ (bytes : List ℕ) (word : ℕ) (headed : Headed bytes word) where
  pub word_small : word < 2 ^ 64
  word_small = subst (λ (n : ℕ). n < 2 ^ 64) (sym headed.reads)
      (word_below (take 8 bytes) (front_is_bytes 8 bytes headed.small))

  pub word_bytes : to_be_bytes w64 word ≡ take 8 bytes
  word_bytes = be_bytes_8 (take 8 bytes) word (length-take-le 8 bytes headed.eight)
      (front_is_bytes 8 bytes headed.small) headed.reads

  pub word_is_bytes : IsBytes (to_be_bytes w64 word)
  word_is_bytes = subst IsBytes (sym word_bytes) (front_is_bytes 8 bytes headed.small)

  -- the code and the flags
  pub front_four : to_be_bytes w32 (word / 4294967296) ≡ take 4 bytes
  front_four = ap (take 4) (sym (halves word (word / 4294967296) (word % 4294967296) (omega arith) (omega arith)) ∙
      word_bytes) ∙ take_four bytes

  -- a word with the same code and flags, and another length
  pub other_length : (n size : ℕ) → n ≡ word / 4294967296 * 4294967296 + size → size < 4294967296 → to_be_bytes w64 n ≡
      take 4 bytes ++ to_be_bytes w32 size
  other_length n size e h = halves n (word / 4294967296) size e h ∙ ap (λ (xs : List ℕ). xs ++ to_be_bytes w32 size)
      front_four

  pub four_of_word : take 4 (to_be_bytes w64 word) ≡ take 4 bytes
  four_of_word = ap (take 4) word_bytes ∙ take_four bytes
