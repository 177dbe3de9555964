-- The length of what was appended after its key, put before it.
use Rattle.std.proofs.Common.{◌≡◌, length, ℕ, ◌-◌, List, ◌++◌, false, ap, ◌∙◌, append_assoc, take, drop, arith}
use Rattle.std.proofs.Common.{length-append}
use Rattle.std.proofs.Math.Seq.{take-append_seam, drop-append_seam}
use Rattle.shared_core_wire.specs.Encoding.{shortest_varint, key_bytes}
use Rattle.shared_core_wire.specs.WrittenRecords.{content_record}

-- `begun` has the key, and the bytes that leave room for the length
pub content_put : (n place end : ℕ) (old out room begun content new after : List ℕ) → out ≡ old ++ key_bytes n 2 → place
    ≡ length out → begun ≡ out ++ room → end ≡ length begun → after ≡ begun ++ content → new ≡ take place after ++
    (shortest_varint (length after - end) ++ drop end after) → new ≡ old ++ content_record false n content
content_put n place end old out room begun content new after k p b q a e =
    let size : length after - end ≡ length content = omega (arith, q, ap length a, length-append begun content) in
    let whole : after ≡ out ++ (room ++ content) = a ∙ ap (λ (xs : List ℕ). xs ++ content) b ∙ append_assoc out room
    content in
    let front : take place after ≡ out = ap (λ (i : ℕ). take i after) p ∙ ap (λ (xs : List ℕ). take (length out) xs)
    whole
    ∙ take-append_seam out (room ++ content) in
    let back : drop end after ≡ content = ap (λ (i : ℕ). drop i after) q ∙ ap
    (λ (xs : List ℕ). drop (length begun) xs) a ∙ drop-append_seam begun content in
    e ∙ ap (λ (xs : List ℕ). xs ++ (shortest_varint (length after - end) ++ drop end after)) (front ∙ k)
    ∙ ap (λ (m : ℕ). (old ++ key_bytes n 2) ++ (shortest_varint m ++ drop end after)) size
    ∙ ap (λ (xs : List ℕ). (old ++ key_bytes n 2) ++ (shortest_varint (length content) ++ xs)) back
    ∙ append_assoc old (key_bytes n 2) (shortest_varint (length content) ++ content)
