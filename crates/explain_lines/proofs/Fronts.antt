-- What a line begins with.
use Rattle.std.proofs.Common.{◌≡◌, ℕ, zero, suc, ◌-◌, ◌≤◌, List, [], ◌∷◌, ◌++◌, length, take, refl}
use Rattle.std.proofs.Common.{ap, ◌∙◌, arith, append_assoc, length-append}
use Rattle.std.specs.Prelude.{codes, replicate, OnOk}
use Rattle.explain_lines.specs.Lines.{bytes_text, filled, spaced_bytes}
use Rattle.explain_lines.specs.Texts.{dots, front}

take_of_same : (n m : ℕ) → n ≤ m → take n (replicate {A = ℕ} m 32) ≡ replicate n 32
take_of_same zero m h = refl
take_of_same (suc n) zero h = absurd (omega (arith, h))
take_of_same (suc n) (suc m) h = ap (λ (l : List ℕ). 32 ∷ l) (take_of_same n m (omega (arith, h)))

pub spaces_taken : (n : ℕ) → n ≤ 27 → take n (codes "                           ") ≡ replicate n 32
spaces_taken n h = take_of_same n 27 h

-- a text to which bytes, then dots and then spaces are added
pub columns_filled : (bytes old with_bytes with_dots : List ℕ) (spaces : ℕ)
    → with_bytes ≡ old ++ spaced_bytes (front 8 bytes) → with_dots ≡ with_bytes ++ dots 8 bytes
    → spaces ≡ 27 - (length with_dots - length old)
    → with_dots ++ replicate spaces 32 ≡ old ++ bytes_text bytes
unfolding bytes_text
columns_filled bytes old with_bytes with_dots spaces is_bytes is_dots counted =
    let shown = spaced_bytes (front 8 bytes) ++ dots 8 bytes in
    let whole : with_dots ≡ old ++ shown =
    is_dots ∙ ap (λ (l : List ℕ). l ++ dots 8 bytes) is_bytes
    ∙ append_assoc old (spaced_bytes (front 8 bytes)) (dots 8 bytes) in
    let left : spaces ≡ 27 - length shown = omega (arith, counted, ap length whole, length-append old shown) in
    ap (λ (l : List ℕ). l ++ replicate spaces 32) whole
    ∙ append_assoc old shown (replicate spaces 32)
    ∙ ap (λ n. old ++ (shown ++ replicate n 32)) left
