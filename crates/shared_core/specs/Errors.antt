-- The texts and the codes of errors.
use Rattle.std.specs.Prelude.{ℕ, ℤ, ◌++◌, List, codes, length, decimal, false}
use Rattle.std.specs.Fmt.{digits, signed_decimal}
use Rattle.shared_core_base.specs.declared.header.MessageType.{MessageType}
use Rattle.shared_core_base.specs.CommandType.{message_type_text}
use Rattle.shared_core_base.specs.MessageType.{debug_name_of, unknown_type_text}
-- Re-exported, so that a caller cites them by this crate's name.
pub use Rattle.shared_core_stream.specs.Errors.{push_error_text, pieces_error_text, missing_bytes_text}
use Rattle.shared_core_errors.specs.Mismatch.{mismatch_head, command_type_mismatch_text}
use Rattle.shared_core.specs.declared.encoding.error.DecodingError.{DecodingError}
use Rattle.shared_core.specs.declared.encoding.error.DecodingError.TheVariants.{DecodeMessage, UnexpectedMessageType}
use Rattle.shared_core.specs.declared.encoding.error.DecodingError.TheVariants.{MissingField, UnknownMessageType}
use Rattle.shared_core.specs.declared.encoding.error.DecodingError.TheVariants.{SkippedMessage, OutOfMemory}

-- The text of a mismatch of two commands of a type at a command index, with their difference.
abbrev pub command_mismatch_text : MessageType → ℤ → List ℕ → List ℕ
command_mismatch_text ty index difference =
    mismatch_head
    ++ (codes "- The mismatch happened while executing '" ++ (message_type_text ty
    ++ (codes "' (index '" ++ (signed_decimal index ++ (codes "')\n- Difference:" ++ difference)))))

-- The text of a decoding error.
abbrev pub decoding_error_text : DecodingError → List ℕ
decoding_error_text (DecodeMessage ty error) =
    codes "cannot decode protocol message type " ++ (debug_name_of ty ++ codes ". Reason: malformed payload")
decoding_error_text (UnexpectedMessageType mismatch) =
    command_type_mismatch_text mismatch.command_index mismatch.actual mismatch.expected
decoding_error_text (MissingField expected field) =
    codes "expected message type " ++ (debug_name_of expected ++ (codes " to have field " ++ field.now))
decoding_error_text (UnknownMessageType unknown) = unknown_type_text unknown.0
decoding_error_text (SkippedMessage code payload) =
    codes "skipped protocol.message code 0x"
    ++ (digits 16 false code ++ (codes " with " ++ (decimal (length payload) ++ codes " payload bytes")))
decoding_error_text OutOfMemory = codes "out of memory"

-- The code of a decoding error: a message of another type is a mismatch of the journal, every other error an internal
-- error.
abbrev pub decoding_error_code : DecodingError → ℕ
decoding_error_code (DecodeMessage ty error) = 500
decoding_error_code (UnexpectedMessageType mismatch) = 570
decoding_error_code (MissingField expected field) = 500
decoding_error_code (UnknownMessageType unknown) = 500
decoding_error_code (SkippedMessage code payload) = 500
decoding_error_code OutOfMemory = 500
