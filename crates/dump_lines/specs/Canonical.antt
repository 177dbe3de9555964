-- The result for a payload that is to be printed.
use Rattle.std.specs.Prelude.{◌≡◌, ℕ, List, Option, Some, None, Result, Ok, Err}
use Rattle.shared_core_wire.specs.Overlay.{meaning}
use Rattle.shared_core_codec.specs.Canonicity.{IsCanonicalIn}
use Rattle.shared_core_codec.specs.Payloads.{IsAccepted}
use Rattle.shared_core_codec.specs.Tables.{IsAcceptedIn}
use Rattle.shared_core_canonical.specs.Payloads.{IsTooLongIn}
use Rattle.shared_core_json.specs.declared.error.JsonError.{JsonError}
use Rattle.shared_core_json.specs.declared.error.JsonError.TheVariants.{Malformed, TooLong, OutOfMemory}
use Rattle.shared_core_json.specs.Payloads.{IsCanonicalOf, IsTooLong}
use Rattle.dump_lines.specs.Reading.{Reading}

-- There is a schema, the payload is well-formed for it, and the canonical payload of what it means is too long to be
-- written.
abbrev pub IsLongFor : Option ℕ → List ℕ → Type 0
IsLongFor schema payload = (s : ℕ) × (schema ≡ Some s) × IsTooLong s payload

-- If there is a schema, its number is returned, and the canonical payload of what the payload means is written;
-- Malformed only if the payload is not well-formed for the schema; TooLong only if that canonical payload is too long;
-- None only if there is no schema.
abbrev pub ReturnsEncoding : Option ℕ → List ℕ → List ℕ → Result (Option ℕ) JsonError → Type 0
ReturnsEncoding schema payload canonical (Ok None) = schema ≡ None
ReturnsEncoding schema payload canonical (Ok (Some s)) = (schema ≡ Some s) × IsAccepted s payload × IsCanonicalOf s
    payload canonical
ReturnsEncoding schema payload canonical (Err Malformed) = (s : ℕ) × (schema ≡ Some s) × ¬ (IsAccepted s payload)
ReturnsEncoding schema payload canonical (Err TooLong) = IsLongFor schema payload
ReturnsEncoding schema payload canonical (Err OutOfMemory) = Unit {0}

-- ---- for any reading

-- The same as `IsLongFor` by a reading.
abbrev pub IsLongForIn : Reading → Option ℕ → List ℕ → Type 0
IsLongForIn reading schema payload = (s : ℕ) × (schema ≡ Some s) × IsTooLongIn reading.table s payload

-- The same as `ReturnsEncoding` by a reading.
abbrev pub ReturnsEncodingIn : Reading → Option ℕ → List ℕ → List ℕ → Result (Option ℕ) JsonError → Type 0
ReturnsEncodingIn reading schema payload canonical (Ok None) = schema ≡ None
ReturnsEncodingIn reading schema payload canonical (Ok (Some s)) = (schema ≡ Some s) × IsAcceptedIn reading.table s
    payload × IsCanonicalIn reading.table s canonical
    × (meaning reading.table 100 s canonical ≡ meaning reading.table 100 s payload)
ReturnsEncodingIn reading schema payload canonical (Err Malformed) = (s : ℕ) × (schema ≡ Some s) × ¬
    (IsAcceptedIn reading.table s payload)
ReturnsEncodingIn reading schema payload canonical (Err TooLong) = IsLongForIn reading schema payload
ReturnsEncodingIn reading schema payload canonical (Err OutOfMemory) = Unit {0}
