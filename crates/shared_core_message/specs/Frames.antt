-- Frames: what a message is written as at a version.
use Rattle.std.specs.Prelude.{ℕ, ◌++◌, Bool, List, length, Option, None}
use Rattle.std.specs.Int.{w64, to_be_bytes}
use Rattle.shared_core_base.specs.declared.header.MessageType.{MessageType}
use Rattle.shared_core_base.specs.declared.message_header.MessageHeader.{MessageHeader}
use Rattle.shared_core_base.specs.MessageHeader.{word_of}
use Rattle.shared_core_wire.specs.Value.{Parts}
use Rattle.shared_core_wire.specs.Canonical.{canonical_payload, size}
use Rattle.shared_core_wire.specs.Fitting.{Fits}
use Rattle.shared_core_codec.specs.Table.{table}

-- The header of a payload: its type, its length and its flag.
abbrev pub header_of_payload : MessageType → Option Bool → List ℕ → MessageHeader
header_of_payload ty requested_ack payload = record { ty = ty; length = length payload; requested_ack = requested_ack }

-- A frame: the eight bytes of the header, in big-endian order, and the payload after them.
abbrev pub frame : MessageType → Option Bool → List ℕ → List ℕ
frame ty requested_ack payload = to_be_bytes w64 (word_of (header_of_payload ty requested_ack payload)) ++ payload

-- What a message is written as: a value of a schema, and the flag of its header.
pub record WireForm : Type 0 where
  pub schema : ℕ
  pub parts : Parts
  pub requested_ack : Option Bool

-- The payload of a wire form: its canonical encoding.
abbrev pub wire_payload : WireForm → List ℕ
wire_payload form = canonical_payload table form.schema form.parts

-- The number of bytes of the payload of a wire form.
abbrev pub wire_size : WireForm → ℕ
wire_size form = size table form.schema form.parts

-- The value of a wire form fits its schema.
abbrev pub WireFits : WireForm → Type 0
WireFits form = Fits table form.parts (table form.schema)

-- The frame of a wire form.
abbrev pub wire_frame : MessageType → WireForm → List ℕ
wire_frame ty form = frame ty form.requested_ack (wire_payload form)

-- What most messages are written as at every version: the record unchanged, without a flag.
abbrev pub plain_form : ℕ → Parts → WireForm
plain_form schema parts = record { schema = schema; parts = parts; requested_ack = None }
