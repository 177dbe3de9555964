-- The lines of a dump: one JSON object for each selected item of a stream, and last one for the remaining bytes.
use Rattle.std.specs.Prelude.{ℕ, ◌+◌, ◌*◌, ◌^◌, Bool, true, nat_lt, ◌&&◌, ◌||◌, List, [], ◌∷◌, ◌++◌, length, codes}
use Rattle.std.specs.Prelude.{decimal, nat_eq, ◌==◌, if◌then◌else◌, Option, Some, None}
use Rattle.std.specs.List.{list_any}
use Rattle.std.specs.Int.{w64, to_be_bytes}
use Rattle.base64.specs.GeneralPurpose.{encode_of}
use Rattle.base64.specs.Engines.{standard}
use Rattle.json.specs.Token.{Token}
use Rattle.json.specs.Json.{Json, boolean, number, string, object, Members, no_members, member}
use Rattle.shared_core_base.specs.MessageType.{code_of, debug_name_of}
use Rattle.shared_core_base.specs.MessageHeader.{word_of}
use Rattle.shared_core_wire.specs.Acceptance.{accepts_payload}
use Rattle.shared_core_wire.specs.Overlay.{meaning}
use Rattle.shared_core_stream.specs.declared.encoding.item.Item.{Item}
use Rattle.shared_core_stream.specs.declared.encoding.item.Item.TheVariants.{Message, Unknown, Skipped}
use Rattle.shared_core_json.specs.Form.{byte_string_json, json_with_in}
use Rattle.dump_lines.specs.declared.options.Options.{Options}
use Rattle.dump_lines.specs.Reading.{Reading, protocol}
use Rattle.dump_lines.specs.Spread.{json_text}

-- The bytes of a header, in base64.
abbrev pub header_json : List ℕ → Json
header_json bytes = string (encode_of standard bytes)

-- The JSON of what a payload means.
abbrev pub meaning_json : Reading → Bool → ℕ → List ℕ → Json
meaning_json reading texts s payload = json_with_in reading.table reading.names texts s
    (meaning reading.table 100 s payload)

-- The members of a malformed payload: that it is, and its bytes.
abbrev pub malformed_members : Bool → List ℕ → Members
malformed_members texts payload =
    member (codes "malformed") (boolean true) (member (codes "bytes") (byte_string_json texts payload) no_members)

-- The members of a payload, with texts or without: for a message its JSON, or that it is malformed, and its bytes;
-- without a schema, as of a custom entry, its bytes.
abbrev pub payload_members_in : Reading → Bool → Option ℕ → List ℕ → Members
payload_members_in reading texts None payload = member (codes "bytes") (byte_string_json texts payload) no_members
payload_members_in reading texts (Some s) payload =
    if accepts_payload reading.table 100 s payload
    then member (codes "message") (meaning_json reading texts s payload) no_members
    else malformed_members texts payload

-- Members, with one before them for whether an acknowledgement is requested, if the type has that flag.
abbrev pub ack_members : Option Bool → Members → Members
ack_members None others = others
ack_members (Some flag) others = member (codes "requestedAck") (boolean flag) others

-- The tokens of the member for whether an acknowledgement is requested.
abbrev pub ack_tokens : Option Bool → List Token
ack_tokens None = []
ack_tokens (Some flag) = Token.key (codes "requestedAck") ∷ Token.boolean flag ∷ []

-- The word that the header of an item is written as, by what its line says: its code, its length, and the request for
-- an acknowledgement.
abbrev pub written_word : Item → ℕ
written_word (Message message) = word_of message.header
written_word (Unknown code) = code * 2 ^ 48
written_word (Skipped code payload) = code * 2 ^ 48 + length payload

-- Members, with one before them that has the bytes of the header, if its word is not the one that it is written as.
abbrev pub header_members : ℕ → ℕ → Members → Members
header_members word written others =
    if word == written then others else member (codes "header") (header_json (to_be_bytes w64 word)) others

-- The tokens of the member that has the bytes of the header.
abbrev pub header_tokens : ℕ → ℕ → List Token
header_tokens word written =
    if word == written then [] else Token.key (codes "header") ∷ Token.string
    (encode_of standard (to_be_bytes w64 word)) ∷ []

-- Members, with one before them that has a number.
abbrev pub number_member : List ℕ → ℕ → Members → Members
number_member name n others = member name (number (decimal n)) others

-- The members of an unknown code after its offset, by the word of its header.
abbrev pub unknown_members : ℕ → ℕ → Members
unknown_members word code =
    member (codes "unknown") (boolean true)
    (number_member (codes "code") code
    (header_members word (written_word (Unknown code)) no_members))

-- The members of a skipped message after its offset, by the word of its header.
abbrev pub skipped_members : Options → ℕ → ℕ → List ℕ → Members
skipped_members options word code payload =
    member (codes "skipped") (boolean true)
    (number_member (codes "code") code
    (number_member (codes "length") (length payload)
    (header_members word (written_word (Skipped code payload))
    (if options.payloads then member (codes "bytes") (byte_string_json options.texts payload) no_members else
    no_members))))

-- The members of an item after its offset, by the word of its header.
abbrev pub item_members_in : Reading → Options → ℕ → Item → Members
item_members_in reading options word (Message message) =
    member (codes "type") (string (debug_name_of message.header.ty))
    (number_member (codes "code") (code_of message.header.ty)
    (number_member (codes "length") (length message.payload)
    (ack_members message.header.requested_ack
    (header_members word (written_word (Message message))
    (if options.payloads then payload_members_in reading options.texts
    (reading.schema_at options.version message.header.ty) message.payload else no_members)))))
item_members_in reading options word (Unknown code) = unknown_members word code
item_members_in reading options word (Skipped code payload) = skipped_members options word code payload

-- The object of an item that begins at an offset of the stream, with this word as its header.
abbrev pub item_json_in : Reading → Options → ℕ → ℕ → Item → Json
item_json_in reading options at word item =
    object (number_member (codes "offset") at (item_members_in reading options word item))

-- The code of an item.
abbrev pub item_code : Item → ℕ
item_code (Message message) = code_of message.header.ty
item_code (Unknown code) = code
item_code (Skipped code payload) = code

-- Whether items of a code have lines: all do if none is selected.
abbrev pub is_selected : List ℕ → ℕ → Bool
is_selected selected code = (length selected == 0) || list_any (λ x. nat_eq x code) selected

-- The line of an object, or its lines.
abbrev pub json_line : Bool → Json → List ℕ
json_line is_pretty json = json_text is_pretty json ++ codes "\n"

-- The line of an item that begins at an offset, with this word as its header, if it is selected.
abbrev pub line_of_in : Reading → Options → ℕ → ℕ → Item → List ℕ
line_of_in reading options at word item =
    if is_selected options.codes.now (item_code item)
    then json_line options.pretty (item_json_in reading options at word item)
    else []

-- The member of the trailing bytes, if there are any and payloads are printed.
abbrev pub rest_members : Options → List ℕ → Members
rest_members options rest =
    if options.payloads && nat_lt 0 (length rest) then member (codes "bytes") (byte_string_json options.texts rest)
    no_members else no_members

-- The line of the trailing bytes: their offset, how many they are, and these bytes.
abbrev pub unread_line : Options → ℕ → List ℕ → List ℕ
unread_line options at rest =
    json_line options.pretty (object (number_member (codes "offset") at
    (number_member (codes "rest") (length rest) (rest_members options rest))))

-- The last line, where the options have it: that of the trailing bytes.
abbrev pub rest_line : Options → ℕ → List ℕ → List ℕ
rest_line options at rest = if options.rest then unread_line options at rest else []

-- ---- for the messages of the protocol

-- The members of a payload.
abbrev pub payload_members : Bool → Option ℕ → List ℕ → Members
payload_members = payload_members_in protocol

-- The object of an item.
abbrev pub item_json : Options → ℕ → ℕ → Item → Json
item_json = item_json_in protocol

-- The line of an item.
abbrev pub line_of : Options → ℕ → ℕ → Item → List ℕ
line_of = line_of_in protocol
