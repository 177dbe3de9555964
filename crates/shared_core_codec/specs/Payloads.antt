-- Whole payloads of the protocol's messages, and their laws.
use Rattle.std.specs.Prelude.{◌≡◌, ℕ, ◌^◌, ◌<◌, ◌≤◌, ◌↔◌, ◌++◌, List, Bool, true}
use Rattle.shared_core_wire.specs.Value.{Parts}
use Rattle.shared_core_wire.specs.Acceptance.{accepts_payload}
use Rattle.shared_core_wire.specs.Overlay.{overlay_payload, meaning}
use Rattle.shared_core_wire.specs.Canonical.{canonical_payload, size, levels}
use Rattle.shared_core_codec.specs.Table.{table}

-- The payload, whose records are at nesting depth 0, is well-formed for the schema; depth 100 is the greatest.
abbrev pub IsAccepted : ℕ → List ℕ → Type 0
IsAccepted s payload = accepts_payload table 100 s payload ≡ true

-- A value with a payload merged into it.
abbrev pub merged_payload : ℕ → Parts → List ℕ → Parts
merged_payload s v payload = overlay_payload table 100 s v payload

-- What a payload means.
abbrev pub payload_meaning : ℕ → List ℕ → Parts
payload_meaning s payload = meaning table 100 s payload

-- The bytes are accepted and mean the value, if its nesting depth is at most one hundred.
abbrev pub IsReadBack : ℕ → Parts → List ℕ → Type 0
IsReadBack s v bytes = levels v ≤ 100 → IsAccepted s bytes × (payload_meaning s bytes ≡ v)

-- The canonical payload of a value of nesting depth at most one hundred is accepted and means the value. (No slice has
-- 2 ^ 64 bytes.)
abbrev pub IsReadBackLaw : ℕ → Parts → Type 0
IsReadBackLaw s v = size table s v < 2 ^ 64 → IsReadBack s v (canonical_payload table s v)

-- Accepted payloads may be joined, and merging the joined payload into any value is merging one and then the other.
abbrev pub JoinedPayloadsLaw : ℕ → Type 0
JoinedPayloadsLaw s = (v : Parts) (a b : List ℕ) → IsAccepted s a → IsAccepted s b
    → IsAccepted s (a ++ b) × (merged_payload s v (a ++ b) ≡ merged_payload s (merged_payload s v a) b)

-- The test decides whether the canonical payloads of two values of nesting depth at most one hundred are equal.
abbrev pub HasOneEncoding : ℕ → Bool → Parts → Parts → Type 0
HasOneEncoding s test v w = levels v ≤ 100 → levels w ≤ 100 → size table s v < 2 ^ 64
    → (test ≡ true) ↔ (canonical_payload table s v ≡ canonical_payload table s w)
