-- The canonical payloads of values, and of what payloads mean.
use Rattle.std.specs.Prelude.{◌≡◌, ℕ, ◌≤◌, ◌^◌, List}
use Rattle.shared_core_wire.specs.Value.{Parts}
use Rattle.shared_core_wire.specs.Canonical.{canonical_payload, levels, size}
use Rattle.shared_core_wire.specs.Fitting.{Fits}
use Rattle.shared_core_codec.specs.Table.{table}
use Rattle.shared_core_codec.specs.Canonicity.{IsCanonical}
use Rattle.shared_core_codec.specs.Payloads.{IsAccepted, payload_meaning}

-- The bytes are the canonical payload of a value of the schema s, of nesting depth at most one hundred and one. (No
-- accepted payload means a deeper one than one hundred.)
pub record IsEncoding (s : ℕ) (v : Parts) (bytes : List ℕ) : Type 0 where
  pub fits : Fits table v (table s)
  pub low : levels v ≤ 101
  pub canonical : bytes ≡ canonical_payload table s v

-- The bytes are a canonical payload, which means what the given payload means.
pub record IsCanonicalOf (s : ℕ) (payload bytes : List ℕ) : Type 0 where
  pub canonical : IsCanonical s bytes
  pub same : payload_meaning s bytes ≡ payload_meaning s payload

-- The payload is well-formed for the schema, and the canonical payload of what it means has more bytes than 32 bits can
-- count.
abbrev pub IsTooLong : ℕ → List ℕ → Type 0
IsTooLong s payload = IsAccepted s payload × (2 ^ 32 ≤ size table s (payload_meaning s payload))
