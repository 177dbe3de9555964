-- What the item that a frame encodes decodes to.
use Rattle.std.specs.Prelude.{◌≡◌, ◌≤◌, ℕ, Bool, List, ◌++◌, Option, Some, None, Result, Ok, Err}
use Rattle.shared_core_base.specs.declared.header.MessageType.{MessageType}
use Rattle.shared_core_base.specs.declared.version.Version.{Version}
use Rattle.shared_core_wire.specs.Canonical.{levels}
use Rattle.shared_core_wire.specs.Value.{Parts}
use Rattle.shared_core_codec.specs.Payloads.{IsReadBack}
use Rattle.shared_core_message.specs.Frames.{WireForm, wire_frame, wire_payload}
use Rattle.shared_core.specs.declared.encoding.error.DecodingError.{DecodingError}
use Rattle.shared_core.specs.declared.encoding.error.DecodingError.TheVariants.{OutOfMemory}
use Rattle.shared_core_stream.specs.declared.encoding.raw_message.RawMessage.{RawMessage}
use Rattle.shared_core_stream.specs.declared.encoding.item.Item.{Item}
use Rattle.shared_core_stream.specs.declared.encoding.item.Item.TheVariants.{Message}
use Rattle.shared_core.specs.Items.{ReturnsNext, IsItem}
use Rattle.shared_core.specs.Typed.{IsCanonical, MeansParts}
use Rattle.shared_core.specs.Written.{item_written}

-- The item is a message of this type whose payload is the canonical encoding of the value and means it.
abbrev pub DecodesTo : MessageType → ℕ → Parts → Item → Type 0
DecodesTo ty schema v (Message message) =
    (message.header.ty ≡ ty) × IsCanonical schema v message.payload × MeansParts schema message.payload v
DecodesTo ty schema v other = ⊥

-- The flag that is read from an item's header, where its type has one.
abbrev pub requested_ack_of : Item → Option Bool
requested_ack_of (Message message) = message.header.requested_ack
requested_ack_of other = None

-- The frame of a wire form is the encoding of the item that was written, and that item has this property.
abbrev pub FrameEncodes : Version → MessageType → WireForm → (Item → Type 0) → Type 0
FrameEncodes version ty form HasProperty =
    IsItem version (wire_frame ty form) (item_written ty form) × HasProperty (item_written ty form)

-- What a decoder returns if its pending bytes are the frame of a wire form and then the rest: the message that decodes
-- to what was written, and the rest is left; or an allocation fails, and all bytes are left.
abbrev pub ReturnsWritten : MessageType → WireForm → List ℕ → Result (Option RawMessage) DecodingError → List ℕ → List ℕ
    → Type 0
ReturnsWritten ty form old (Ok (Some message)) rest new = DecodesTo ty form.schema form.parts (Message message) ×
    (new ≡ rest)
ReturnsWritten ty form old (Ok None) rest new = ⊥
ReturnsWritten ty form old (Err error) rest new = (error ≡ OutOfMemory) × (new ≡ old)

-- The bytes are the frame of a wire form: they encode one item, whose payload means what was written; and whatever
-- follows them, a decoder that they were pushed to returns what was written.
pub record IsFrameOf (version : Version) (ty : MessageType) (form : WireForm) (bytes : List ℕ) : Type 0 where
  pub is_frame : bytes ≡ wire_frame ty form
  pub is_item : IsItem version bytes (item_written ty form)
  pub reads_back : IsReadBack form.schema form.parts (wire_payload form)
  pub comes_out : levels form.parts ≤ 100 → (rest new : List ℕ) (returned : Result (Option RawMessage) DecodingError)
      → ReturnsNext version (bytes ++ rest) returned new → ReturnsWritten ty form (bytes ++ rest) returned rest new
