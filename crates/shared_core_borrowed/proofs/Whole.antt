-- What is measured of a whole record, and what is written of it.
use Rattle.std.proofs.Common.{◌≡◌, ℕ, ◌<◌, ◌≤◌, ◌^◌, arith, true}
use Rattle.shared_core_codec.proofs.Measuring.{size_is}
use Rattle.shared_core_codec.proofs.PayloadLaws.{canonical_is_read_back}
use Rattle.shared_core_codec.specs.Payloads.{IsReadBack}
use Rattle.shared_core_codec.specs.RowEncoding.{measured_rows}
use Rattle.shared_core_codec.specs.Table.{table}
use Rattle.shared_core_wire.specs.Canonical.{canonical_payload, size}
use Rattle.shared_core_wire.specs.Value.{Parts}
use Rattle.shared_core_borrowed.proofs.Fitting.{accepted}
use Rattle.shared_core_borrowed.specs.Fit.{rows_fit}

pub long : (s n : ℕ) (ps : Parts) → n ≡ measured_rows (table s) ps 0 → 2 ^ 32 ≤ n → 2 ^ 32 ≤ size table s ps
long s n ps e h = omega (arith, e, h, size_is s ps)

pub short : (s n len : ℕ) (ps : Parts) → n ≡ measured_rows (table s) ps 0 → len ≡ n → len < 2 ^ 32
    → len ≡ size table s ps
short s n len ps e l h = omega (arith, e, l, h, size_is s ps)

pub read_back : (s n : ℕ) (ps : Parts) → n ≡ measured_rows (table s) ps 0 → n < 2 ^ 32
    → rows_fit (table s) ps true ≡ true → IsReadBack s ps (canonical_payload table s ps)
read_back s n ps e h f = canonical_is_read_back s ps (accepted s ps f) (omega (arith, e, h, size_is s ps))
