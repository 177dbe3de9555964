-- Bytes that are ASCII, by lanes.
use Rattle.std.proofs.Common.{◌≡◌, ℕ, zero, suc, ◌+◌, ◌-◌, ◌*◌, ◌%◌, ◌^◌, ◌<◌, ◌≤◌, Bool, true, false, IsTrue, nat_eq}
use Rattle.std.proofs.Common.{List, [], ◌∷◌, length, drop, get_or, map, cond, leb, leb-false, sym, ◌∙◌, ap, arith}
use Rattle.std.proofs.Common.{get_or-take, get_or-drop, replicate, refl, inl, inr, subst}
use Rattle.std.proofs.lemmas.Bool.{cases_lt, eqb-true}
use Rattle.std.proofs.lemmas.List.{get_or_past, length-map, length-replicate}
use Rattle.std.proofs.lemmas.Simd.{mask_l-mod, length-zip2, length-chunk}
use Rattle.std.proofs.lemmas.Str.{is_utf8-from_IsUtf8, IsUtf8-from_ascii}
use Rattle.std.specs.Str.{is_utf8}
use lib.Lanes.{chunk, mask_l, zip2, top}

-- a lane of ones where a byte is at least another one, and otherwise of zeros
abbrev at_least : ℕ → ℕ → ℕ
at_least a b = cond (leb a b) 255 0

lane : (t : Bool) (x rest : ℕ) → leb 128 x ≡ t → ◌≡◌ {A = ℕ} (cond (top 7 (cond t 255 0)) 1 0 + 2 * rest) 0 → (x < 128)
lane true x rest p e = absurd (omega (arith, e))
lane false x rest p e = leb-false _ _ p

none_high : (xs : List ℕ) (n : ℕ) → length xs ≡ n → mask_l (map (top 7) (zip2 at_least (replicate n 128) xs)) ≡ 0
    → (k : ℕ) → get_or xs k 0 < 128
none_high [] n e m k = omega arith
none_high (x ∷ xs) zero e m k = absurd (omega (arith, e))
none_high (x ∷ xs) (suc n) e m zero = lane (leb 128 x) x _ refl m
none_high (x ∷ xs) (suc n) e m (suc k) = none_high xs n (omega (arith, e)) (omega (arith, m)) k

-- n bytes of which none is 128 or more
pub ascii_lanes : (d : List ℕ) (i n : ℕ) → n ≤ 64 → i + n ≤ length d
    → IsTrue (nat_eq (mask_l (map (top 7) (zip2 at_least (replicate n 128) (chunk i n d))) % 2 ^ 64) 0)
    → (k : ℕ) → i ≤ k → k < i + n → get_or d k 0 < 128
ascii_lanes d i n few room t k low high =
    let v = chunk i n d in
    let long : length v ≡ n = length-chunk i n d room in
    let least : List ℕ = replicate n 128 in
    let ends : length least ≡ n = length-replicate n 128 in
    let size : length (map (top 7) (zip2 at_least least v)) ≤ 64 = omega
    (arith, few, length-map (zip2 at_least least v) (top 7), length-zip2 at_least least v (ends ∙ sym long), ends) in
    let none : mask_l (map (top 7) (zip2 at_least least v)) ≡ 0 = sym (mask_l-mod _ 64 size) ∙ eqb-true _ _ t in
    let back : i + (k - i) ≡ k = omega (arith, low) in
    let is : get_or v (k - i) 0 ≡ get_or d k 0 = get_or-take n (drop i d) (k - i) 0 (omega (arith, high, low))
    ∙ get_or-drop i d (k - i) 0 ∙ ap (λ (j : ℕ). get_or d j 0) back in
    subst (λ (x : ℕ). x < 128) is (none_high v n long none (k - i))

-- bytes of which all are below 128 are UTF-8
pub ascii_is_utf8 : (d : List ℕ) → ((k : ℕ) → k < length d → get_or d k 0 < 128) → is_utf8 d ≡ true
ascii_is_utf8 d h = is_utf8-from_IsUtf8 d (IsUtf8-from_ascii d (λ k. elim (cases_lt k (length d)) [
  | inl l ↦ h k l
  | inr g ↦ subst (λ (x : ℕ). x < 128) (sym (get_or_past d k 0 g)) (omega arith)
]))
