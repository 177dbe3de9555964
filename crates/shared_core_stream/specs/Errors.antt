-- The texts of errors.
use Rattle.std.specs.Prelude.{ℕ, ◌++◌, List, codes, decimal, Some, None}
use Rattle.shared_core_base.specs.MessageType.{debug_name_of, type_of, unknown_type_text}
use Rattle.shared_core_stream.specs.declared.encoding.error.ItemError.{ItemError}
use Rattle.shared_core_stream.specs.declared.encoding.error.ItemError.TheVariants as item
use Rattle.shared_core_stream.specs.declared.encoding.error.PiecesError.{PiecesError}
use Rattle.shared_core_stream.specs.declared.encoding.error.PiecesError.TheVariants as chunks
use Rattle.shared_core_stream.specs.declared.encoding.error.PushError.{PushError}
use Rattle.shared_core_stream.specs.declared.encoding.error.PushError.TheVariants as push
use Rattle.shared_core_stream.specs.declared.encoding.item_ref.MissingBytes.{MissingBytes}
use Rattle.shared_core_stream.specs.declared.encoding.limit_error.MessageTooLong.{MessageTooLong}

-- The text of the error of a rejected chunk.
abbrev pub push_error_text : PushError → List ℕ
push_error_text (push.OutOfMemory back) = codes "out of memory"
push_error_text (push.TooLong back) =
    codes "more than 2^64 - 1 bytes are pending, or a message is longer than the limit"

-- The text of the error of a decoder that returns no item.
abbrev pub item_error_text : ItemError → List ℕ
item_error_text item.OutOfMemory = codes "out of memory"
item_error_text item.TooLong = codes "a message is longer than the limit"

-- The text of the error of chunks that were not decoded.
abbrev pub pieces_error_text : PiecesError → List ℕ
pieces_error_text chunks.TooLong = codes "the chunks have more than 2^64 - 1 bytes"
pieces_error_text chunks.OutOfMemory = codes "out of memory"

-- The text of the error of bytes that do not begin with a complete item.
abbrev pub missing_bytes_text : MissingBytes → List ℕ
missing_bytes_text missing =
    codes "at least " ++ (decimal missing.count ++ codes " bytes are missing of an item")

-- The text of a code: the name of the type that it denotes, otherwise the text of an unknown code.
abbrev pub code_text : ℕ → List ℕ
code_text code = elim (type_of code) [ Some ty ↦ debug_name_of ty | None ↦ unknown_type_text code ]

-- The text of the error of a message that is longer than the limit.
abbrev pub message_too_long_text : MessageTooLong → List ℕ
message_too_long_text message =
    code_text message.code ++ (codes " at offset " ++ (decimal message.offset ++ (codes ": " ++ (decimal message.length
    ++ (codes " bytes of payload, more than the limit of " ++ decimal message.limit)))))
