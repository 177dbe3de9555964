-- A frame encodes one item.
use Rattle.std.proofs.Common.{◌≡◌, ℕ, ◌+◌, ◌*◌, ◌/◌, ◌%◌, ◌^◌, ◌<◌, List, [], ◌∷◌, ◌++◌, length, Option, Some, None}
use Rattle.std.proofs.Common.{Bool, true, false, cond, eqb, ltb, refl, sym, ap, ◌∙◌, arith, length-append}
use Rattle.std.specs.Int.{w64, to_be_bytes}
use Rattle.std.specs.Option.{option_map}
use Rattle.std.proofs.lemmas.Nat.{from_be_bytes-to_be_bytes_8}
use Rattle.std.proofs.lemmas.Bool.{ltb-true}
use Rattle.shared_core_base.specs.declared.header.MessageType.{MessageType}
use Rattle.shared_core_base.specs.declared.header.MessageType.TheVariants.{CustomEntry}
use Rattle.shared_core_base.specs.declared.message_header.MessageHeader.{MessageHeader}
use Rattle.shared_core_base.specs.declared.version.Version.{Version}
use Rattle.shared_core_base.specs.MessageType.{code_of, type_of, allows_ack, IsNamed}
use Rattle.shared_core_base.specs.MessageHeader.{header_of, word_of, ack_bit}
use Rattle.shared_core_base.proofs.Types.{type_of_code}
use Rattle.shared_core_message.specs.Frames.{WireForm, wire_payload, wire_frame, header_of_payload}
use Rattle.shared_core.specs.Items.{IsItem, AreItems, IsItemsThen, front_word, item_of}
use Rattle.shared_core.specs.Written.{header_read, item_written, joined_frames, items_written, AreFrames}
use Rattle.shared_core_stream.proofs.Items.{announces_message, front_word_head, drop_exact}

-- a word by its three numbers
word_parts : (code ack size : ℕ) → ack < 2 → size < 2 ^ 32 → ((code * 2 ^ 48 + ack * 2 ^ 47 + size) / 2 ^ 48 ≡ code) ×
    ((code * 2 ^ 48 + ack * 2 ^ 47 + size) / 2 ^ 47 % 2 ≡ ack) × ((code * 2 ^ 48 + ack * 2 ^ 47 + size) % 2 ^ 32 ≡ size)
word_parts code ack size one fits = (omega arith, omega arith, omega arith)

ack_small : (flag : Option Bool) → ack_bit flag < 2
ack_small (Some true) = omega arith
ack_small (Some false) = omega arith
ack_small None = omega arith

-- a named type's code has sixteen bits
named_code : (ty : MessageType) → IsNamed ty → code_of ty < 65536
named_code ty named = ltb-true _ _ (small ty named)
  where
    small : (ty : MessageType) → IsNamed ty → ltb (code_of ty) 65536 ≡ true
    small ty = elim ty as (λ ty. IsNamed ty → ltb (code_of ty) 65536 ≡ true) [
      | CustomEntry code ↦ λ named. absurd named
      | _ ↦ λ named. refl
    ]

abbrev header : MessageType → ℕ → Option Bool → MessageHeader
header ty size flag = record { ty = ty; length = size; requested_ack = flag }

-- what is read from the word of a header
read_again : (ty : MessageType) (flag : Option Bool) (size : ℕ) → IsNamed ty → size < 2 ^ 32 →
    (header_of (word_of (header ty size flag)) ≡ Some (header ty size
    (cond (allows_ack ty) (Some (eqb (ack_bit flag) 1)) None))) × (word_of (header ty size flag) < 2 ^ 64)
unfolding header_of word_of
read_again ty flag size named fits =
    let code = code_of ty in
    let ack = ack_bit flag in
    let small = ack_small flag in
    let low = named_code ty named in
    let parts = word_parts code ack size small fits in
    let word = code * 2 ^ 48 + ack * 2 ^ 47 + size in
    let found : type_of (word / 2 ^ 48) ≡ Some ty = ap type_of parts.0 ∙ type_of_code ty named in (
      ap (option_map (λ t. header t (word % 2 ^ 32) (cond (allows_ack t) (Some (eqb (word / 2 ^ 47 % 2) 1)) None)))
          found
          ∙ ap (λ n. Some (header ty n (cond (allows_ack ty) (Some (eqb (word / 2 ^ 47 % 2) 1)) None))) parts.2
          ∙ ap (λ n. Some (header ty size (cond (allows_ack ty) (Some (eqb n 1)) None))) parts.1,
      omega (arith, small, low, fits),
    )

-- a frame is the encoding of one item, with its type and its payload
pub frame_is_item : (version : Version) (ty : MessageType) (form : WireForm) (bytes : List ℕ) → IsNamed ty → length
    (wire_payload form) < 2 ^ 32 → bytes ≡ wire_frame ty form → IsItem version bytes (item_written ty form)
frame_is_item version ty form bytes named fits is =
    let payload = wire_payload form in
    let word = word_of (header_of_payload ty form.requested_ack payload) in
    let head = to_be_bytes w64 word in
    let eight : length head ≡ 8 = refl in
    let again = read_again ty form.requested_ack (length payload) named fits in
    let reads : front_word (head ++ payload) ≡ word = front_word_head head payload eight ∙ from_be_bytes-to_be_bytes_8
    word again.1 in
    let typed : header_of (front_word (head ++ payload)) ≡ Some (header_read ty form) = ap header_of reads ∙ again.0 in
    let announced = announces_message version (front_word (head ++ payload)) (header_read ty form) typed in
    rw is (record {
      whole = length-append head payload ∙ ap (λ n. n + length payload) eight ∙ ap (λ n. 8 + n) announced.length_is;
      means = announced.item_is payload ∙ ap (item_of version (front_word (head ++ payload)))
          (sym (drop_exact 8 head payload eight));
    })

-- frames one after the other are items one after the other
frames_are_items : (version : Version) (messages : List (MessageType × WireForm)) → AreFrames messages → AreItems
    version (joined_frames messages) (items_written messages)
frames_are_items version [] are = refl
frames_are_items version (message ∷ messages) are = (
  wire_frame message.0 message.1,
  joined_frames messages,
  frame_is_item version message.0 message.1 (wire_frame message.0 message.1) are.0 are.1 refl,
  frames_are_items version messages are.2,
  refl,
)

-- the same, whatever follows the frames
pub frames_then : (version : Version) (messages : List (MessageType × WireForm)) (rest : List ℕ) → AreFrames messages →
    IsItemsThen version (joined_frames messages ++ rest) (items_written messages) rest
frames_then version messages rest are = record {
  front = joined_frames messages;
  encoded = frames_are_items version
      messages are;
  whole = refl;
}
