-- Payloads of records, written over a slice.
use Rattle.std.proofs.Common.{◌≡◌, ℕ, ◌<◌, ◌≤◌, List, ◌++◌, length, drop, refl}
use Rattle.std.proofs.lemmas.Bool.{le-leb, lt-leb}
use Rattle.std.specs.Prelude.{Ok}
use Rattle.shared_core_wire.specs.Canonical.{canonical_payload, size}
use Rattle.shared_core_wire.specs.Fitting.{Fits}
use Rattle.shared_core_wire.specs.Value.{Parts}
use Rattle.shared_core_codec.specs.Payloads.{IsReadBack}
use Rattle.shared_core_codec.specs.Table.{table}
use Rattle.journal_c_api.specs.Outcomes.{Writes}
use Rattle.journal_c_api.specs.Records.{IsRecordPayload}

-- there is room for all of it
pub written : (s n : ℕ) (v : Parts) (old front : List ℕ) → Fits table v (table s) → n ≡ size table s v
    → IsReadBack s v (canonical_payload table s v) → n ≤ length old → front ≡ canonical_payload table s v
    → Writes (IsRecordPayload s v) old (front ++ drop n old) (Ok n)
written s n v old front fits counted reads h is = (
  canonical_payload table s v,
  (refl, fits, reads),
  counted,
  rw (is, counted, le-leb (size table s v) (length old) (rw counted at h)) refl,
)

-- there is too little
pub left : (s n : ℕ) (v : Parts) (old : List ℕ) → Fits table v (table s) → n ≡ size table s v
    → IsReadBack s v (canonical_payload table s v) → length old < n → Writes (IsRecordPayload s v) old old (Ok n)
left s n v old fits counted reads h = (
  canonical_payload table s v,
  (refl, fits, reads),
  counted,
  rw (lt-leb (size table s v) (length old) (rw counted at h)) refl,
)
