-- What is proved of canonical payloads that are checked, for the schemas of the protocol.
use Rattle.std.proofs.Common.{◌≡◌, ℕ, suc, ◌^◌, ◌<◌, ◌≤◌, List, length, true}
use Rattle.std.specs.List.{list_all}
use Rattle.shared_core_wire.specs.Schema.{Row, are_distinct, all_numbers}
use Rattle.shared_core_wire.specs.Value.{Parts}
use Rattle.shared_core_wire.specs.Canonical.{message_records, canonical_payload, levels}
use Rattle.shared_core_wire.specs.Fitting.{Fits}
use Rattle.shared_core_wire.specs.Acceptance.{NestedAcceptance}
use Rattle.shared_core_wire.proofs.EncodingLaws.{encodable}
use Rattle.shared_core_codec.specs.Table.{table}
use Rattle.shared_core_codec.specs.Tables.{may_be_empty}
use Rattle.shared_core_codec.specs.Canonicity.{IsCanonical, all_come, is_canonical_payload}
use Rattle.shared_core_codec.proofs.Tables.{is_table}
use Rattle.shared_core_codec.proofs.CanonicityIn.{total_size}
pub use Rattle.shared_core_codec.proofs.CanonicityExactIn.{records_encoded}
use Rattle.shared_core_codec.proofs.CanonicityExactIn as any

pub value_comes : (nested : NestedAcceptance) (left : ℕ) → ((t : ℕ) (ps : Parts) → Fits table ps (table t) → suc
    (levels ps) ≤ left → length (canonical_payload table t ps) < 2 ^ 64 → nested t (canonical_payload table t ps) ≡
    true)
    → (v : Parts) (rows : List Row) → are_distinct (all_numbers rows) ≡ true → list_all may_be_empty rows ≡ true
    → Fits table v rows → levels v ≤ left → list_all encodable (message_records table v rows) ≡ true
    → all_come nested (rows, total_size (message_records table v rows)) (message_records table v rows) ≡ true
value_comes = any.value_comes table

pub records_encode : (left s : ℕ) (v : Parts) → Fits table v (table s) → levels v ≤ left → length
    (canonical_payload table s v) < 2 ^ 64 → list_all encodable (message_records table v (table s)) ≡ true
records_encode = any.records_encode table is_table

pub canonical_comes : (left s : ℕ) (v : Parts) → Fits table v (table s) → levels v ≤ left → length
    (canonical_payload table s v) < 2 ^ 64 → is_canonical_payload left s (canonical_payload table s v) ≡ true
canonical_comes = any.canonical_comes table is_table

pub complete : (s : ℕ) (bytes : List ℕ) → IsCanonical s bytes → is_canonical_payload 100 s bytes ≡ true
complete = any.complete table is_table
