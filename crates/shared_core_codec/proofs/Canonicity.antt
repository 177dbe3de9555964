-- What is proved of the check of canonical payloads, for the schemas of the protocol.
use Rattle.std.proofs.Common.{◌≡◌, ℕ, ◌+◌, ◌^◌, ◌<◌, List, length, get_or, true, false}
use Rattle.std.specs.List.{list_all}
use Rattle.shared_core_wire.specs.ReadRecords.{read_records}
use Rattle.shared_core_codec.specs.Table.{table}
pub use Rattle.shared_core_codec.specs.Tables.{is_message, may_be_empty}
use Rattle.shared_core_codec.specs.Canonicity.{IsCanonical, all_come_read, is_canonical_message, is_canonical_payload}
use Rattle.shared_core_codec.proofs.Tables.{is_table}
pub use Rattle.shared_core_codec.proofs.CanonicityIn.{are_bytes, are_bytes_of, IsWritten, reader_written}
pub use Rattle.shared_core_codec.proofs.CanonicityIn.{WrittenTurn, written_turn, written_stop, written_end}
pub use Rattle.shared_core_codec.proofs.CanonicityIn.{none_written, some_written}
unfoldable pub use Rattle.shared_core_codec.proofs.CanonicityIn.{total_size}
use Rattle.shared_core_codec.proofs.CanonicityIn as any

pub rows_may_be_empty : (s : ℕ) → list_all may_be_empty (table s) ≡ true
rows_may_be_empty = any.rows_may_be_empty table is_table

abbrev pub Canon : ℕ → ℕ → List ℕ → Type 0
Canon = any.Canon table

pub payload_sound : (left s : ℕ) (bytes : List ℕ) → are_bytes bytes ≡ true → is_canonical_payload left s bytes ≡ true →
    Canon left s bytes
payload_sound = any.payload_sound table is_table

pub sound : (s : ℕ) (bytes : List ℕ) → ((i : ℕ) → get_or bytes i 0 < 256) → length bytes < 2 ^ 32 → is_canonical_payload
    100 s bytes ≡ true → IsCanonical s bytes
sound = any.sound table is_table

pub all_come_is : (left s : ℕ) (bytes : List ℕ) → all_come_read (is_canonical_message left) (table s, length bytes)
    (read_records 0 bytes) ≡ is_canonical_payload left s bytes
all_come_is = any.all_come_is table

pub canonical_zero : (s : ℕ) (bytes : List ℕ) → is_canonical_message 0 s bytes ≡ false
canonical_zero = any.canonical_zero table

pub canonical_below : (below left s : ℕ) (bytes : List ℕ) → below + 1 ≡ left → is_canonical_message left s bytes ≡
    is_canonical_payload below s bytes
canonical_below = any.canonical_below table
