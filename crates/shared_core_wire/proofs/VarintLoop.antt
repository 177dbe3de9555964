-- Reading a varint byte by byte.
use Rattle.std.proofs.Common.{◌≡◌, ℕ, suc, ◌+◌, ◌-◌, ◌*◌, ◌%◌, ◌^◌, ◌<◌, ◌≤◌, List, [], ◌∷◌, Option, Some, None, refl}
use Rattle.std.proofs.Common.{sym, ap, ◌∙◌, arith, lit<, inl, inr}
use Rattle.std.proofs.Math.Nat.{pow-le-pow_right, mul-le-mul_left}
use Rattle.std.proofs.lemmas.Bool.{lt-ltb, le-ltb, cases_lt}
use Rattle.shared_core_wire.specs.Reader.{◌>>=◌, varint_within, varint_at}

-- the low part that was read, and what reading gives for the rest
abbrev pub with_low : ℕ → ℕ → Option (ℕ × List ℕ) → Option (ℕ × List ℕ)
with_low low scale read = read >>= λ x. Some (low + scale * x.0, x.1)

regroup : (low scale b : ℕ) (read : Option (ℕ × List ℕ)) → with_low low scale
    (read >>= λ x. Some (b % 128 + 128 * x.0, x.1)) ≡ with_low (low + scale * (b % 128)) (scale * 128) read
regroup low scale b (Some x) = ap (λ (n : ℕ). Some (n, x.1)) (omega arith)
regroup low scale b None = refl

-- a byte that is not the last
pub with_low_more : (low scale most i b : ℕ) (bs : List ℕ) → i < most → 128 ≤ b → with_low low scale
    (varint_within (most - i) (b ∷ bs)) ≡ with_low (low + scale * (b % 128)) (scale * 128)
    (varint_within (most - (i + 1)) bs)
unfolding varint_within
with_low_more low scale most i b bs lt h =
    let k : most - i ≡ suc (most - (i + 1)) = omega arith in
    rw (k, le-ltb b 128 h) (regroup low scale b (varint_within (most - (i + 1)) bs))

-- the last byte
pub with_low_last : (low scale most i b : ℕ) (bs : List ℕ) → i < most → b < 128 → with_low low scale
    (varint_within (most - i) (b ∷ bs)) ≡ Some (low + scale * b, bs)
unfolding varint_within
with_low_last low scale most i b bs lt h =
    let k : most - i ≡ suc (most - (i + 1)) = omega arith in
    rw (k, lt-ltb b 128 h) refl

pub with_low_none : (low scale most i : ℕ) → i < most → with_low low scale (varint_within (most - i) []) ≡ None
unfolding varint_within
with_low_none low scale most i lt =
    let k : most - i ≡ suc (most - (i + 1)) = omega arith in
    rw k refl

pub scale_fits : (i : ℕ) → i < 9 → 128 ^ i ≤ 2 ^ 56
scale_fits i h = pow-le-pow_right {n = 128} (lit< tt) {i = i} {j = 8} (omega arith)

-- what fits next to a part below the scale
pub fits_above : (scale low b : ℕ) → low < scale → b < 128 → low + scale * b < scale * 128
fits_above scale low b h k = omega (arith, mul-le-mul_left scale (let e : b + 1 ≤ 128 = omega arith in e))

pub read_fits : (bytes rest : List ℕ) (n : ℕ) → varint_within 10 bytes ≡ Some (n, rest) → n < 2 ^ 64 → varint_at bytes ≡
    Some (n, rest)
unfolding varint_at
read_fits bytes rest n e h = rw (e, lt-ltb n (2 ^ 64) h) refl

pub read_wide : (bytes rest : List ℕ) (n : ℕ) → varint_within 10 bytes ≡ Some (n, rest) → 2 ^ 64 ≤ n → varint_at bytes ≡
    None
unfolding varint_at
read_wide bytes rest n e h = rw (e, le-ltb n (2 ^ 64) h) refl

pub read_none : (bytes : List ℕ) → varint_within 10 bytes ≡ None → varint_at bytes ≡ None
unfolding varint_at
read_none bytes e = rw e refl

-- the tenth byte
tenth_none : (low scale b : ℕ) (bs : List ℕ) → 128 ≤ b → with_low low scale (varint_within 1 (b ∷ bs)) ≡ None
unfolding varint_within
tenth_none low scale b bs h = rw (le-ltb b 128 h) refl

pub tenth_last : (low scale b : ℕ) (bs bytes : List ℕ) → scale ≡ 2 ^ 63 → low < scale → with_low low scale
    (varint_within 1 (b ∷ bs)) ≡ varint_within 10 bytes → b ≤ 1 → varint_at bytes ≡ Some (low + scale * b, bs)
tenth_last low scale b bs bytes e h read le =
    let below = rw e at h in
    let fits : low + 2 ^ 63 * b < 2 ^ 64 = omega arith in
    let found = with_low_last low scale 10 9 b bs (lit< tt) (omega arith) in
    read_fits bytes bs (low + scale * b) (sym read ∙ found) (rw e fits)

pub tenth_wide : (low scale b : ℕ) (bs bytes : List ℕ) → scale ≡ 2 ^ 63 → with_low low scale (varint_within 1 (b ∷ bs))
    ≡ varint_within 10 bytes → 1 < b → varint_at bytes ≡ None
tenth_wide low scale b bs bytes e read lt =
    let wide : 2 ^ 64 ≤ low + 2 ^ 63 * b = omega arith in
    elim (cases_lt b 128) [
      | inl small ↦ read_wide bytes bs (low + scale * b) (sym read ∙ with_low_last low scale 10 9 b bs (lit< tt) small)
          (rw e wide)
      | inr le ↦ read_none bytes (sym read ∙ tenth_none low scale b bs le)
    ]

-- ---- the first byte

pub varint_nil : varint_at [] ≡ None
unfolding varint_at varint_within
varint_nil = refl

first_last : (b : ℕ) (bs : List ℕ) → b < 128 → varint_within 10 (b ∷ bs) ≡ Some (b, bs)
unfolding varint_within
first_last b bs h = rw (lt-ltb b 128 h) refl

pub varint_one : (b : ℕ) (bs : List ℕ) → b < 128 → varint_at (b ∷ bs) ≡ Some (b, bs)
varint_one b bs h = read_fits (b ∷ bs) bs b (first_last b bs h) (omega arith)

second_last : (b c : ℕ) (bs : List ℕ) → 128 ≤ b → c < 128 → varint_within 10 (b ∷ c ∷ bs) ≡ Some
    (b % 128 + 128 * c, bs)
unfolding varint_within
second_last b c bs more h = rw (le-ltb b 128 more, lt-ltb c 128 h) refl

pub varint_two : (b c : ℕ) (bs : List ℕ) → 128 ≤ b → c < 128 → varint_at (b ∷ c ∷ bs) ≡ Some (b % 128 + 128 * c, bs)
varint_two b c bs more h =
    read_fits (b ∷ c ∷ bs) bs (b % 128 + 128 * c) (second_last b c bs more h) (omega (arith, h))
