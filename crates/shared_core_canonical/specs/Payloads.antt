-- Canonical payloads of what payloads mean.
use Rattle.std.specs.Prelude.{◌≡◌, ◌≤◌, ◌^◌, ℕ, List}
use Rattle.shared_core_wire.specs.Schema.{Table}
use Rattle.shared_core_wire.specs.Overlay.{meaning}
use Rattle.shared_core_wire.specs.Canonical.{canonical_payload, size}
use Rattle.shared_core_codec.specs.Canonicity.{IsCanonicalIn}
use Rattle.shared_core_codec.specs.Tables.{IsAcceptedIn}

-- The bytes are the canonical payload of what a payload means. They are canonical themselves, and mean the same.
pub record IsCanonicalOfIn (table : Table) (s : ℕ) (payload bytes : List ℕ) : Type 0 where
  pub written : bytes ≡ canonical_payload table s (meaning table 100 s payload)
  pub canonical : IsCanonicalIn table s bytes
  pub same : meaning table 100 s bytes ≡ meaning table 100 s payload

-- The payload is well-formed for the schema, and the canonical payload of what it means has more bytes than 32 bits can
-- count.
abbrev pub IsTooLongIn : Table → ℕ → List ℕ → Type 0
IsTooLongIn table s payload = IsAcceptedIn table s payload × (2 ^ 32 ≤ size table s (meaning table 100 s payload))
