-- The item that a frame encodes.
use Rattle.std.specs.Prelude.{ℕ, ◌<◌, ◌^◌, length, List, [], ◌∷◌, ◌++◌, Some, None, ◌==◌, if◌then◌else◌}
use Rattle.shared_core_base.specs.declared.header.MessageType.{MessageType}
use Rattle.shared_core_base.specs.declared.message_header.MessageHeader.{MessageHeader}
use Rattle.shared_core_base.specs.MessageType.{allows_ack, IsNamed}
use Rattle.shared_core_base.specs.MessageHeader.{ack_bit}
use Rattle.shared_core_message.specs.Frames.{WireForm, wire_payload, wire_size, wire_frame}
use Rattle.shared_core_stream.specs.declared.encoding.item.Item.{Item}
use Rattle.shared_core_stream.specs.declared.encoding.item.Item.TheVariants.{Message}

-- The header that is read from a frame: its flag is read where the type allows one.
abbrev pub header_read : MessageType → WireForm → MessageHeader
header_read ty form = record {
  ty = ty;
  length = length (wire_payload form);
  requested_ack = if allows_ack ty then Some (ack_bit form.requested_ack == 1) else None;
}

-- The item that the frame of a wire form encodes: a message with that header and the payload.
abbrev pub item_written : MessageType → WireForm → Item
item_written ty form = Message (record { header = header_read ty form; payload = wire_payload form })

-- The frames of wire forms, each with its type, one after the other.
abbrev pub joined_frames : List (MessageType × WireForm) → List ℕ
joined_frames [] = []
joined_frames (message ∷ messages) = wire_frame message.0 message.1 ++ joined_frames messages

-- The items that these frames encode.
abbrev pub items_written : List (MessageType × WireForm) → List Item
items_written [] = []
items_written (message ∷ messages) = item_written message.0 message.1 ∷ items_written messages

-- Each of the types has a name, and no payload is too long for a header.
abbrev pub AreFrames : List (MessageType × WireForm) → Type 0
AreFrames [] = Unit {0}
AreFrames (message ∷ messages) = IsNamed message.0 × (wire_size message.1 < 2 ^ 32) × AreFrames messages
