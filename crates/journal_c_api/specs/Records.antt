-- The payload of a record of a caller's.
use Rattle.std.specs.Prelude.{◌≡◌, ℕ, ◌^◌, ◌≤◌, List, Result, Ok, Err}
use Rattle.shared_core_wire.specs.Canonical.{canonical_payload, size}
use Rattle.shared_core_wire.specs.Fitting.{Fits}
use Rattle.shared_core_wire.specs.Value.{Parts}
use Rattle.shared_core_codec.specs.Payloads.{IsReadBack}
use Rattle.shared_core_codec.specs.Table.{table}
use Rattle.shared_core_borrowed.specs.declared.record.RecordError.{RecordError}
use Rattle.shared_core_borrowed.specs.declared.record.RecordError.TheVariants as record_error_is
use Rattle.journal_c_api.specs.declared.outcome.CallError.{CallError}
use Rattle.journal_c_api.specs.declared.outcome.CallError.TheVariants.{Malformed, TooLong}

-- The error of a record that has no payload.
abbrev pub record_error : RecordError → CallError
record_error record_error_is.Malformed = Malformed
record_error record_error_is.TooLong = TooLong

-- The canonical payload of a value of a schema, which decodes to the value if it is at most one hundred levels deep; a
-- value that does not fit the schema is malformed, and one of 2 ^ 32 bytes or more too long.
abbrev pub IsRecordPayload : ℕ → Parts → Result (List ℕ) CallError → Type 0
IsRecordPayload s v (Ok bytes) = (bytes ≡ canonical_payload table s v) × Fits table v (table s) × IsReadBack s v bytes
IsRecordPayload s v (Err Malformed) = ¬ (Fits table v (table s))
IsRecordPayload s v (Err TooLong) = Fits table v (table s) × (2 ^ 32 ≤ size table s v)
IsRecordPayload s v (Err error) = ⊥
