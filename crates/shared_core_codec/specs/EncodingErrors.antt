-- The text that an encoding error prints.
use Rattle.std.specs.Prelude.{ℕ, List, codes}
use Rattle.shared_core_codec.specs.declared.error.EncodingError.{EncodingError}
use Rattle.shared_core_codec.specs.declared.error.EncodingError.TheVariants.{PayloadTooLong, OutOfMemory}

-- The text of an encoding error.
abbrev pub encoding_error_text : EncodingError → List ℕ
encoding_error_text PayloadTooLong = codes "the payload has more than 4294967295 bytes"
encoding_error_text OutOfMemory = codes "out of memory"
