-- What a line means: the bytes of an item, or those after the last one; or why it is rejected.
use Rattle.std.specs.Prelude.{ℕ, ◌+◌, ◌*◌, ◌/◌, ◌%◌, ◌^◌, Bool, true, false, not, ◌&&◌, ◌||◌, List, [], ◌∷◌, ◌++◌}
use Rattle.std.specs.Prelude.{length, take, codes, nat_lt, ◌==◌, if◌then◌else◌, Option, Some, None, ok_or, option_map}
use Rattle.std.specs.Prelude.{option_and_then, Result, Ok, Err}
use Rattle.std.specs.Option.{is_none}
use Rattle.std.specs.Result.{result_ok}
use Rattle.std.specs.Int.{w32, w64, to_be_bytes, from_be_bytes}
use Rattle.std.specs.Str.{bytes_eq}
use Rattle.json.specs.Json.{Json}
use Rattle.json.specs.Find.{as_str, as_bool}
use Rattle.shared_core_base.specs.declared.header.MessageType.{MessageType}
use Rattle.shared_core_base.specs.declared.version.Version.{Version}
use Rattle.shared_core_base.specs.Version.{skips_unknown_messages}
use Rattle.shared_core_base.specs.MessageHeader.{word_code, word_length}
use Rattle.shared_core_base.specs.MessageType.{code_of, type_of, type_in, named_types, allows_ack, debug_name_of}
use Rattle.shared_core_json_reader.specs.declared.error.Reason.{Reason}
use Rattle.shared_core_json_reader.specs.declared.error.Reason.TheVariants.{WrongKind, OutOfRange}
use Rattle.shared_core_json_reader.specs.Scalars.{unsigned_read, bytes_read}
use Rattle.shared_core_json_reader.specs.Reading.{value_payload_in, json_of_text}
use Rattle.shared_core_json_reader.specs.FirstError.{number_reason, bytes_reason, value_error_in}
use Rattle.shared_core_json_reader.specs.Rows.{Format}
use Rattle.make_lines.specs.declared.error.LineReason.TheVariants.{Json as Wrong, NoType, OtherType, NoPayload}
use Rattle.make_lines.specs.declared.error.LineReason.TheVariants.{SeveralPayloads, NoSchema, NoFlag, HeaderLength}
use Rattle.make_lines.specs.declared.error.LineReason.TheVariants.{OtherCode, OtherFlag, NoSuchPayload, CodeOfType}
use Rattle.make_lines.specs.declared.error.LineReason.TheVariants.{TooLong, ItemInRest, NoBytes}
use Rattle.make_lines.specs.Errors.{LineFault, lack, at, inside, no_type_named}
use Rattle.make_lines.specs.Making.{Making, schema_of}
use Rattle.make_lines.specs.Members.{given, given_either, given_name, shape_fault}

-- ---- what is read, or a fault

-- What a function reads of what is read, or the first fault.
abbrev pub then_read : {A B : Type 0} → (A → Result B LineFault) → Result A LineFault → Result B LineFault
then_read f (Ok a) = f a
then_read f (Err fault) = Err fault

-- A function of what is read, or the fault.
abbrev pub read_map : {A B : Type 0} → (A → B) → Result A LineFault → Result B LineFault
read_map f (Ok a) = Ok (f a)
read_map f (Err fault) = Err fault

-- ---- the code

-- A code has 16 bits.
abbrev pub code_below : ℕ → Result ℕ LineFault
code_below n = if nat_lt n 65536 then Ok n else Err (at (codes "code") (Wrong OutOfRange))

-- A code: a whole number of 16 bits.
abbrev pub code_read : Json → Result ℕ LineFault
code_read j = then_read code_below (ok_or (unsigned_read 4294967296 j) (at (codes "code") (Wrong (number_reason j))))

-- The name of a type.
abbrev pub name_read : Json → Result (List ℕ) LineFault
name_read j = ok_or (as_str j) (at (codes "type") (Wrong WrongKind))

-- The code of the named type that has this name.
abbrev pub code_named : List ℕ → Option ℕ
code_named name = option_map code_of (type_in named_types name)

-- The same, or that no named type has it.
abbrev pub code_of_name : List ℕ → Result ℕ LineFault
code_of_name name = ok_or (code_named name) (no_type_named name)

-- Whether this is the name of a code's type.
abbrev pub is_name_of : Option MessageType → List ℕ → Bool
is_name_of None name = false
is_name_of (Some ty) name = bytes_eq (debug_name_of ty) name

-- A code, if its type has this name.
abbrev pub code_if : ℕ → List ℕ → Result ℕ LineFault
code_if code name = if is_name_of (type_of code) name then Ok code else Err (at (codes "type") OtherType)

-- The code by a type and a code. One of them may be absent; if both are present, they have to agree.
abbrev pub code_said : Option Json → Option Json → Result ℕ LineFault
code_said None None = Err (at [] NoType)
code_said (Some t) None = then_read code_of_name (name_read t)
code_said None (Some c) = code_read c
code_said (Some t) (Some c) = then_read (λ code. then_read (code_if code) (name_read t)) (code_read c)

-- The code of the item that a line describes.
abbrev pub line_code : Json → Result ℕ LineFault
line_code j = code_said (given (codes "type") j) (given (codes "code") j)

-- ---- the payload

-- Bytes that a member of this name gives.
abbrev pub bytes_said : List ℕ → Json → Result (List ℕ) LineFault
bytes_said name j = ok_or (bytes_read j) (at name (Wrong (bytes_reason j)))

-- The fault of a message by the first error of its value. A message that has none has a payload, so the fault without
-- an error is none that a line has.
abbrev pub message_fault : Option (Reason × List ℕ) → LineFault
message_fault None = at (codes "message") lack
message_fault (Some error) = inside (codes "message") error.0 error.1

-- The payload of a message of a schema.
abbrev pub message_read : Format → Json → ℕ → Result (List ℕ) LineFault
message_read format m s = ok_or (value_payload_in format s m) (message_fault (value_error_in format s m))

-- The payload of a message of the type that has this code.
abbrev pub message_said : Making → ℕ → Json → Result (List ℕ) LineFault
message_said by code m =
    then_read (message_read by.messages.format m) (ok_or (option_and_then (schema_of by) (type_of code))
    (at (codes "message") NoSchema))

-- No payload, if a member says that there is none and the code is unassigned.
abbrev pub nothing_if : Option Bool → Option MessageType → Result (List ℕ) LineFault
nothing_if (Some true) None = Ok []
nothing_if (Some true) (Some ty) = Err (at (codes "unknown") CodeOfType)
nothing_if (Some false) ty = Err (at (codes "unknown") (Wrong WrongKind))
nothing_if None ty = Err (at (codes "unknown") (Wrong WrongKind))

-- No payload, of an item that is only a header, whose code is unassigned.
abbrev pub nothing_said : ℕ → Json → Result (List ℕ) LineFault
nothing_said code j = nothing_if (as_bool j) (type_of code)

-- The payload by a message, by bytes in a member of this name, or by the member that says that there is none: exactly
-- one of them has to be present.
abbrev pub payload_said : Making → ℕ → List ℕ → Option Json → Option Json → Option Json → Result (List ℕ) LineFault
payload_said by code name (Some m) None None = message_said by code m
payload_said by code name None (Some b) None = bytes_said name b
payload_said by code name None None (Some u) = nothing_said code u
payload_said by code name None None None = Err (at [] NoPayload)
payload_said by code name m b u = Err (at [] SeveralPayloads)

-- The name of the member that gives bytes.
abbrev pub bytes_name : Json → List ℕ
bytes_name j = given_name (codes "bytes") (codes "payload") j

-- The payload of the item that a line describes.
abbrev pub line_payload : Making → ℕ → Json → Result (List ℕ) LineFault
line_payload by code j =
    payload_said by code (bytes_name j) (given (codes "message") j)
    (given_either (codes "bytes") (codes "payload") j) (given (codes "unknown") j)

-- ---- the header

-- Whether the headers of a type can request an acknowledgement.
abbrev pub has_flag : Option MessageType → Bool
has_flag None = false
has_flag (Some ty) = allows_ack ty

-- Whether a member of this name requests an acknowledgement; only a type with that flag may have the member.
abbrev pub flag_said : ℕ → List ℕ → Option Json → Result Bool LineFault
flag_said code name None = Ok false
flag_said code name (Some j) =
    if has_flag (type_of code) then ok_or (as_bool j) (at name (Wrong WrongKind)) else Err (at name NoFlag)

-- The name of the member for whether an acknowledgement is requested.
abbrev pub ack_name : Json → List ℕ
ack_name j = given_name (codes "requestedAck") (codes "ack") j

-- Whether the item that a line describes requests an acknowledgement.
abbrev pub line_flag : ℕ → Json → Result Bool LineFault
line_flag code j = flag_said code (ack_name j) (given_either (codes "requestedAck") (codes "ack") j)

-- The word of a header.
abbrev pub word : ℕ → Bool → ℕ → ℕ
word code flag size = code * 2 ^ 48 + (if flag then 2 ^ 47 else 0) + size

-- The header that has the first four bytes of given ones, which are the code and the flags, and this length.
abbrev pub with_size : ℕ → List ℕ → Result (List ℕ) LineFault
with_size size bytes = if nat_lt size 4294967296 then Ok (take 4 bytes ++ to_be_bytes w32 size) else Err (at [] TooLong)

-- Whether the word of a header has this flag. Where the code's type has no flag, its bit says nothing.
abbrev pub agrees_in_flag : ℕ → Bool → ℕ → Bool
agrees_in_flag code flag word = if has_flag (type_of code) then word / 2 ^ 47 % 2 == (if flag then 1 else 0) else true

-- The fault of the word of a header that has another code or flag than these.
abbrev pub word_fault : ℕ → Bool → ℕ → Option LineFault
word_fault code flag word =
    if word_code word == code
    then (if agrees_in_flag code flag word then None else Some (at (codes "header") OtherFlag))
    else Some (at (codes "header") OtherCode)

-- A header without a payload. Where a message of an unknown type is skipped with its payload, it must not have a
-- length.
abbrev pub alone_given : Version → ℕ → List ℕ → Result (List ℕ) LineFault
alone_given version word bytes =
    if skips_unknown_messages version && not (word_length word == 0) then Err (at (codes "header") NoSuchPayload) else
    Ok bytes

-- The header by given bytes with this word: all of them if there is no payload, otherwise the first four and the length
-- of the payload.
abbrev pub word_given : Version → Bool → ℕ → ℕ → List ℕ → Result (List ℕ) LineFault
word_given version alone size word bytes = if alone then alone_given version word bytes else with_size size bytes

-- What is read, if there is no fault.
abbrev pub unless : {A : Type 0} → Option LineFault → Result A LineFault → Result A LineFault
unless None read = read
unless (Some fault) read = Err fault

-- The header by given bytes with this word, which has to have this code and this flag.
abbrev pub checked_given : Version → ℕ → Bool → ℕ → Bool → ℕ → List ℕ → Result (List ℕ) LineFault
checked_given version code flag size alone word bytes = unless (word_fault code flag word)
    (word_given version alone size word bytes)

-- The header by eight given bytes.
abbrev pub header_given : Version → ℕ → Bool → ℕ → Bool → List ℕ → Result (List ℕ) LineFault
header_given version code flag size alone bytes =
    if length bytes == 8
    then checked_given version code flag size alone (from_be_bytes w64 bytes) bytes
    else Err (at (codes "header") HeaderLength)

-- The eight bytes of a header: those of its word, which has room for lengths of 32 bits, or those that are given.
abbrev pub header_said : Version → ℕ → Bool → ℕ → Bool → Option Json → Result (List ℕ) LineFault
header_said version code flag size alone None =
    if nat_lt size 4294967296 then Ok (to_be_bytes w64 (word code flag size)) else Err (at [] TooLong)
header_said version code flag size alone (Some h) =
    then_read (header_given version code flag size alone) (bytes_said (codes "header") h)

-- Whether a line says that there is no payload.
abbrev pub is_alone : Json → Bool
is_alone j = not (is_none (given (codes "unknown") j))

-- The eight bytes of the header of the item that a line describes.
abbrev pub line_header : Version → ℕ → Bool → ℕ → Json → Result (List ℕ) LineFault
line_header version code flag size j = header_said version code flag size (is_alone j) (given (codes "header") j)

-- ---- lines

-- The header and the payload of an item.
abbrev pub framed : Version → ℕ → Bool → Json → List ℕ → Result (List ℕ) LineFault
framed version code flag j payload = read_map (λ h. h ++ payload) (line_header version code flag (length payload) j)

-- The bytes of the item that a line describes.
unfoldable pub item_said : Making → Json → Result (List ℕ) LineFault
item_said by j =
    then_read (λ code. then_read (λ flag. then_read (framed by.version code flag j) (line_payload by code j))
    (line_flag code j)) (line_code j)

-- Whether a line has none of the members that say what an item is.
abbrev pub says_no_item : Json → Bool
says_no_item j =
    ((((is_none (given (codes "type") j) && is_none (given (codes "code") j)) && is_none (given (codes "message") j)) &&
    is_none (given (codes "unknown") j))
    && is_none (given (codes "header") j)) && is_none (given_either (codes "requestedAck") (codes "ack") j)

-- The number of bytes that a line does not have.
abbrev pub none_left : ℕ → Result (List ℕ) LineFault
none_left n = if n == 0 then Ok [] else Err (at (codes "rest") NoBytes)

-- The bytes after the last item: those that a member of this name gives, or none if their number is 0.
abbrev pub rest_bytes : Json → List ℕ → Option Json → Result (List ℕ) LineFault
rest_bytes r name None = then_read none_left (ok_or (unsigned_read 18446744073709551616 r)
    (at (codes "rest") (Wrong (number_reason r))))
rest_bytes r name (Some b) = bytes_said name b

-- The bytes of the line of the bytes after the last item.
unfoldable pub rest_said : Json → Json → Result (List ℕ) LineFault
rest_said r j =
    if says_no_item j
    then rest_bytes r (bytes_name j) (given_either (codes "bytes") (codes "payload") j)
    else Err (at (codes "rest") ItemInRest)

-- The bytes of a line, which is that of an item or of the bytes after the last item.
abbrev pub said : Making → Option Json → Json → Result (List ℕ) LineFault
said by None j = item_said by j
said by (Some r) j = rest_said r j

-- The bytes that the value of a line means, or why it is rejected: the first fault, in the order of its members, its
-- code, its flag, its payload and its header.
unfoldable pub line_said : Making → Json → Result (List ℕ) LineFault
line_said by j = unless (shape_fault j) (said by (given (codes "rest") j) j)

-- Whether a byte is a space, a tab or a carriage return.
abbrev pub is_space : ℕ → Bool
is_space b = ((b == 32) || (b == 9)) || (b == 13)

-- Whether a line has only spaces, tabs and carriage returns.
abbrev pub is_blank : List ℕ → Bool
is_blank [] = true
is_blank (b ∷ bs) = if is_space b then is_blank bs else false

-- The bytes that the value of a line means, if it is not rejected.
abbrev pub value_made : Making → Json → Option (List ℕ)
value_made by j = result_ok (line_said by j)

-- The bytes that a line means: none if it is blank.
unfoldable pub line_made : Making → List ℕ → Option (List ℕ)
line_made by text = if is_blank text then Some [] else option_and_then (value_made by) (json_of_text text)
