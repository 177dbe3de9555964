-- How decoding errors map to those of this crate, and what these print.
use Rattle.std.specs.Prelude.{ℕ, List, codes}
use Rattle.shared_core_wire.specs.declared.error.WireError.{WireError}
use Rattle.shared_core_wire.specs.declared.error.WireError.TheVariants as wire
use Rattle.shared_core_json.specs.declared.error.JsonError.{JsonError}
use Rattle.shared_core_json.specs.declared.error.JsonError.TheVariants.{Malformed, TooLong, OutOfMemory}

-- The error for a decoding error.
abbrev pub error_of_wire : WireError → JsonError
error_of_wire wire.Malformed = Malformed
error_of_wire wire.OutOfMemory = OutOfMemory

-- The text of an error.
abbrev pub error_text : JsonError → List ℕ
error_text Malformed = codes "malformed payload"
error_text TooLong = codes "too long"
error_text OutOfMemory = codes "out of memory"
