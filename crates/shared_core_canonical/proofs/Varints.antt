-- Varints appended.
use Rattle.std.proofs.Common.{◌≡◌, ℕ, ◌+◌, ◌/◌, ◌%◌, ◌<◌, ◌≤◌, List, [], ◌∷◌, ◌++◌, sym, ap, ◌∙◌, append_assoc}
use Rattle.shared_core_wire.specs.Encoding.{shortest_varint}
use Rattle.shared_core_wire.proofs.Shortest.{shortest_small, shortest_large}

pub more_varint : (out new : List ℕ) (n : ℕ) → 128 ≤ n → new ≡ out ++ (n % 128 + 128) ∷ [] → new ++ shortest_varint
    (n / 128) ≡ out ++ shortest_varint n
more_varint out new n h e =
    ap (λ (xs : List ℕ). xs ++ shortest_varint (n / 128)) e ∙ append_assoc out ((n % 128 + 128) ∷ [])
    (shortest_varint (n / 128)) ∙ ap (λ (xs : List ℕ). out ++ xs) (sym (shortest_large n h))

pub last_varint : (out new : List ℕ) (n : ℕ) → n < 128 → new ≡ out ++ n ∷ [] → new ≡ out ++ shortest_varint n
last_varint out new n h e = e ∙ ap (λ (xs : List ℕ). out ++ xs) (sym (shortest_small n h))
