-- The eight bytes before a payload, as a number, the first byte highest: the type's code in bits 48 to 63, the request
-- for an acknowledgement in bit 47, the payload's length in bits 0 to 31.
use Rattle.std.specs.Prelude.{◌≡◌, ℕ, ◌+◌, ◌*◌, ◌/◌, ◌%◌, ◌^◌, Bool, true, Option, Some, None, Result, Ok, Err, ◌==◌}
use Rattle.std.specs.Prelude.{if◌then◌else◌}
use Rattle.std.specs.Option.{option_map}
use Rattle.shared_core_base.specs.declared.message_header.MessageHeader.{MessageHeader}
use Rattle.shared_core_base.specs.declared.type_kinds.UnknownMessageType.{UnknownMessageType}
use Rattle.shared_core_base.specs.MessageType.{code_of, type_of, allows_ack}

-- The code in a header word.
abbrev pub word_code : ℕ → ℕ
word_code word = word / 2 ^ 48

-- The length in a header word: bits 32 to 47 are not part of it.
abbrev pub word_length : ℕ → ℕ
word_length word = word % 2 ^ 32

-- The header that a word denotes, if its code denotes a type. Only a type that allows it has a flag; bits 32 to 46 say
-- nothing, nor does bit 47 where the type has no flag.
unfoldable pub header_of : ℕ → Option MessageHeader
header_of word =
    option_map
    (λ ty. record {
      ty = ty;
      length = word_length word;
      requested_ack = if allows_ack ty then Some (word / 2 ^ 47 % 2 == 1) else None;
    })
    (type_of (word_code word))

-- The bit that a flag is written as.
abbrev pub ack_bit : Option Bool → ℕ
ack_bit (Some true) = 1
ack_bit flag = 0

-- The word that a header is written as: its flag is written whatever its type.
unfoldable pub word_of : MessageHeader → ℕ
word_of header = code_of header.ty * 2 ^ 48 + ack_bit header.requested_ack * 2 ^ 47 + header.length

-- Reading a word returns the header that it denotes, or its code if it denotes none.
abbrev pub ReadsHeader : ℕ → Result MessageHeader UnknownMessageType → Type 0
ReadsHeader word (Ok header) = header_of word ≡ Some header
ReadsHeader word (Err unknown) = (header_of word ≡ None) × (unknown.0 ≡ word_code word)
