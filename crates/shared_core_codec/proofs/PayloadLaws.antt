-- The laws of payloads, at the protocol's messages.
use Rattle.std.proofs.Common.{ℕ, Bool, ap}
use Rattle.shared_core_wire.specs.Value.{Parts}
use Rattle.shared_core_wire.specs.Canonical.{canonical_payload}
use Rattle.shared_core_wire.specs.Fitting.{Fits}
use Rattle.shared_core_wire.proofs.Merging.{accepts_payload-append, overlay_bytes-append}
use Rattle.shared_core_wire.proofs.ReadBackLevels.{canonical_back, canonical_one}
use Rattle.shared_core_codec.specs.Table.{table}
use Rattle.shared_core_codec.specs.Equality.{DecidesEquality}
use Rattle.shared_core_codec.specs.Payloads.{IsReadBackLaw, JoinedPayloadsLaw, HasOneEncoding}
use Rattle.shared_core_codec.proofs.Tables.{are_schemas}

pub canonical_is_read_back : (s : ℕ) (v : Parts) → Fits table v (table s) → IsReadBackLaw s v
canonical_is_read_back s v f z l = canonical_back table are_schemas 100 s v f l z

pub joined_payloads : (s : ℕ) → JoinedPayloadsLaw s
joined_payloads s v a b g h = (accepts_payload-append table 100 s a b g h, overlay_bytes-append table 100 s v a b g h)

pub encodes_one : (s : ℕ) (test : Bool) (v w : Parts) → Fits table v (table s) → Fits table w (table s) →
    DecidesEquality test v w → HasOneEncoding s test v w
encodes_one s test v w f g same l m z = (
  λ e. ap (canonical_payload table s) (same.sound e),
  λ e. same.complete
      (canonical_one table are_schemas 100 s v w f g l m z e),
)
