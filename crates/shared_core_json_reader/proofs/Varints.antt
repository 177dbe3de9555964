-- Varints put before what is there.
use Rattle.std.proofs.Common.{◌≡◌, length, ℕ, zero, suc, ◌+◌, ◌/◌, ◌%◌, ◌<◌, ◌≤◌, List, [], ◌∷◌, ◌++◌, refl, sym, ap}
use Rattle.std.proofs.Common.{◌∙◌, ◌-◌, max, append_assoc, take, drop, arith, length-append, length-drop}
use Rattle.std.proofs.Common.{length-take-le}
use Rattle.std.proofs.lemmas.List.{drop-drop}
use Rattle.shared_core_wire.specs.Encoding.{shortest_varint}
use Rattle.shared_core_wire.proofs.Shortest.{shortest_small, shortest_large}

-- ---- a varint put in the place of bytes

pub more_put : (out new : List ℕ) (at end n : ℕ) → 128 ≤ n → take (at + 1) new ≡ take at out ++ (n % 128 + 128) ∷ [] →
    drop (max (at + 1) end) new ≡ drop (max at end) out → take (at + 1) new ++ (shortest_varint (n / 128) ++ drop
    (max (at + 1) end) new) ≡ take at out ++ (shortest_varint n ++ drop (max at end) out)
more_put out new at end n h t d =
    ap (λ (xs : List ℕ). xs ++ (shortest_varint (n / 128) ++ drop (max (at + 1) end) new)) t
    ∙ append_assoc (take at out) ((n % 128 + 128) ∷ []) (shortest_varint (n / 128) ++ drop (max (at + 1) end) new)
    ∙ ap (λ (xs : List ℕ). take at out ++ ((n % 128 + 128) ∷ (shortest_varint (n / 128) ++ xs))) d
    ∙ ap (λ (bytes : List ℕ). take at out ++ (bytes ++ drop (max at end) out)) (sym (shortest_large n h))

pub last_put : (out mid new : List ℕ) (at end n : ℕ) → n < 128 → take (at + 1) mid ≡ take at out ++ n ∷ [] → drop
    (max (at + 1) end) mid ≡ drop (max at end) out → new ≡ take (at + 1) mid ++ drop (max (at + 1) end) mid → new ≡ take
    at out ++ (shortest_varint n ++ drop (max at end) out)
last_put out mid new at end n h t d e =
    e ∙ ap (λ (xs : List ℕ). xs ++ drop (max (at + 1) end) mid) t
    ∙ append_assoc (take at out) (n ∷ []) (drop (max (at + 1) end) mid)
    ∙ ap (λ (xs : List ℕ). take at out ++ (n ∷ xs)) d
    ∙ ap (λ (bytes : List ℕ). take at out ++ (bytes ++ drop (max at end) out)) (sym (shortest_small n h))

-- ---- bytes removed

take_again : (at : ℕ) (xs ys : List ℕ) → at ≤ length xs → take at (take at xs ++ ys) ≡ take at xs
take_again zero xs ys h = refl
take_again (suc at) [] ys h = absurd (omega (arith, h))
take_again (suc at) (x ∷ xs) ys h = ap (λ (zs : List ℕ). x ∷ zs) (take_again at xs ys (omega (arith, h)))

drop_past : (at more : ℕ) (xs ys : List ℕ) → at ≤ length xs → drop (at + more) (take at xs ++ ys) ≡ drop more ys
drop_past zero more xs ys h =
    let none : 0 + more ≡ more = omega arith in
    ap (λ (n : ℕ). drop n ys) none
drop_past (suc at) more [] ys h = absurd (omega (arith, h))
drop_past (suc at) more (x ∷ xs) ys h =
    let later : suc at + more ≡ suc (at + more) = omega arith in
    ap (λ (n : ℕ). drop n (x ∷ (take at xs ++ ys))) later ∙ drop_past at more xs ys (omega (arith, h))

pub record Removed (xs new : List ℕ) (at more : ℕ) : Type 0 where
  pub room : at + (more - 1) ≤ length new
  pub before : take at new ≡ take at xs
  pub after : drop (at + (more - 1)) new ≡ drop (at + more) xs

pub removed : (xs new : List ℕ) (at more : ℕ) → 0 < more → at + more ≤ length xs → new ≡ take at xs ++ drop (at + 1) xs
    → Removed xs new at more
removed xs new at more p h e =
    let inside : at ≤ length xs = omega (arith, h) in
    let front : length (take at xs) ≡ at = length-take-le at xs inside in
    let size : length new ≡ length (take at xs) + length (drop (at + 1) xs) = ap length e ∙ length-append (take at xs)
    (drop (at + 1) xs) in
    let back : length (drop (at + 1) xs) ≡ length xs - (at + 1) = length-drop (at + 1) xs in
    let there : at + 1 + (more - 1) ≡ at + more = omega (arith, p) in
    record {
      room = omega (arith, size, front, back, h, p);
      before = ap (take at) e ∙ take_again at xs (drop (at + 1) xs) inside;
      after =
          ap (drop (at + (more - 1))) e ∙ drop_past at (more - 1) xs (drop (at + 1) xs) inside
          ∙ drop-drop (more - 1) (at + 1) xs ∙ ap (λ (n : ℕ). drop n xs) there;
    }
