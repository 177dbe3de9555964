-- The line of an item means the item, with its payload as it is made again.
use Rattle.std.proofs.Common.{◌≡◌, ℕ, ◌+◌, ◌*◌, ◌/◌, ◌%◌, ◌^◌, ◌<◌, List, length, take, drop, decimal, Bool, true}
use Rattle.std.proofs.Common.{false, cond, Option, Some, None, refl, sym, ap, subst, ◌∙◌, append-nil, length-drop}
use Rattle.std.proofs.Common.{arith}
use Rattle.std.specs.Prelude.{codes}
use Rattle.base64.specs.GeneralPurpose.{IsBytes}
use Rattle.json.specs.Json.{Json, number, string, object, Members, member, no_members}
use Rattle.json.specs.Tree.{json_tokens}
use Rattle.json.specs.Print.{print}
use Rattle.shared_core_base.specs.declared.header.MessageType.{MessageType}
use Rattle.shared_core_base.specs.declared.version.Version.{Version}
use Rattle.shared_core_base.specs.Version.{skips_unknown_messages}
use Rattle.shared_core_base.specs.MessageType.{code_of, type_of, debug_name_of}
use Rattle.shared_core_base.specs.MessageHeader.{ack_bit, header_of, word_of}
use Rattle.shared_core_base.proofs.Types.{code_of_type}
use Rattle.shared_core_json.specs.Form.{byte_string_json}
use Rattle.shared_core_stream.specs.declared.encoding.item.Item.{Item}
use Rattle.shared_core_stream.specs.declared.encoding.item.Item.TheVariants.{Message, Unknown, Skipped}
use Rattle.dump_lines.specs.declared.options.Options.{Options}
use Rattle.shared_core_stream.specs.Items.{front_word, body_length, item_of, IsItem}
use Rattle.dump_lines.specs.Lines.{payload_members_in, ack_members, header_members, item_json_in, written_word}
use Rattle.dump_lines.specs.Reading.{Reading}
use Rattle.shared_core_json_reader.specs.Rows.{EnumValues}
use Rattle.make_lines.specs.Lines.{value_made, line_made}
use Rattle.make_lines.specs.Made.{has_newline}
use Rattle.make_lines.specs.MadeAgain.{payload_again_in, with_payload, item_again_in, IsWhole}
use Rattle.make_lines.specs.Making.{Making, making, messages_of}
use Rattle.make_lines.proofs.ReadBack.{ReadsBack}
use Rattle.make_lines.proofs.HeaderWords.{Headed, word_small}
use Rattle.make_lines.proofs.LineMembers.{message_line, unknown_line, skipped_line}
use Rattle.make_lines.proofs.ItemsBack.{flag_of, header_text, shown_header, body_is_bytes, written, unknown_back}
use Rattle.make_lines.proofs.ItemsBack.{skipped_back, message_line_back}
use Rattle.make_lines.proofs.LineTexts.{OptionIs, IsLineText, single_line, line_reads, name_utf8, header_text_is}
use Rattle.make_lines.proofs.LineTexts.{payload_texts, message_texts, unknown_texts, skipped_texts}

-- a line that means bytes, or nothing
pub record MadeLine (by : Making) (json : Json) (bytes : Option (List ℕ)) : Type 0 where
  pub single : has_newline (print (json_tokens json)) ≡ false
  pub means : line_made by (print (json_tokens json)) ≡ bytes

pub as_made : (by : Making) (ms : Members) (bytes : Option (List ℕ)) → IsLineText (object ms) → value_made by
    (object ms) ≡ bytes → MadeLine by (object ms) bytes
as_made by ms bytes text said = record {
  single = single_line (object ms) text;
  means = line_reads by ms text
      ∙ said;
}

-- ---- what a header says

pub typed_item : (version : Version) (word : ℕ) (body : List ℕ) (ty : MessageType) → type_of (word / 281474976710656) ≡
    Some ty
    → item_of version word body ≡ Message (record {
      header = record
          { ty = ty; length = word % 4294967296; requested_ack = flag_of ty word };
      payload = body;
    })
unfolding item_of header_of
typed_item version word body ty typed = rw typed refl

pub typed_length : (version : Version) (word : ℕ) (ty : MessageType) → type_of (word / 281474976710656) ≡ Some ty →
    body_length version word ≡ word % 4294967296
unfolding body_length header_of
typed_length version word ty typed = rw typed refl

pub other_item : (version : Version) (word : ℕ) (body : List ℕ) → type_of (word / 281474976710656) ≡ None
    → item_of version word body ≡ cond (skips_unknown_messages version) (Skipped (word / 281474976710656) body)
    (Unknown (word / 281474976710656))
unfolding item_of header_of
other_item version word body none = rw none refl

pub other_length_of : (version : Version) (word : ℕ) → type_of (word / 281474976710656) ≡ None → body_length version
    word ≡ cond (skips_unknown_messages version) (word % 4294967296) 0
unfolding body_length header_of
other_length_of version word none = rw none refl

-- ---- the lines of a dump

module _ (reading : Reading) (values : EnumValues) (back : ReadsBack reading values) (options : Options)
    (whole : IsWhole options) (at : ℕ) (early : at < 2 ^ 128) (bytes : List ℕ) (word : ℕ)
    (headed : Headed bytes word) where
  abbrev code : ℕ
  code = word / 281474976710656

  code_low : code < 2 ^ 128
  code_low = omega (arith, word_small bytes word headed)

  header_is : (written : ℕ) → OptionIs (header_text word written)
  header_is written = header_text_is word written

  unknown_json : item_json_in reading options at word (Unknown code) ≡ unknown_line (decimal at) (decimal code)
      (header_text word (code * 281474976710656))
  unknown_json = ap (λ (ms : Members). object (member (codes "offset") (number (decimal at))
      (member (codes "unknown") (Json.boolean true) (member (codes "code") (number (decimal code)) ms))))
      (shown_header word (code * 281474976710656) no_members)

  unknown_made : type_of code ≡ None → skips_unknown_messages options.version ≡ false
      → MadeLine (making (messages_of reading values) options.version)
      (item_json_in reading options at word (Unknown code)) (Some (take 8 bytes))
  unknown_made none keeps =
      subst (λ (j : Json). MadeLine (making (messages_of reading values) options.version) j (Some (take 8 bytes)))
      (sym unknown_json)
      (as_made (making (messages_of reading values) options.version) _ (Some (take 8 bytes)) (unknown_texts at code
      (header_text word (code * 281474976710656)) early code_low (header_is (code * 281474976710656)))
      (unknown_back bytes word headed reading values back options.version options.texts (decimal at) (decimal 0) none
      keeps ∙ ap
      (λ (xs : List ℕ). Some xs) (append-nil (take 8 bytes))))

  skipped_json : item_json_in reading options at word (Skipped code (drop 8 bytes))
      ≡ skipped_line (decimal at) (decimal code) (decimal (length (drop 8 bytes)))
      (header_text word (code * 281474976710656 + length (drop 8 bytes)))
      (byte_string_json options.texts (drop 8 bytes))
  skipped_json =
      let body = drop 8 bytes in
      let shown : Members → Json = λ (ms : Members). object (member (codes "offset") (number (decimal at))
      (member (codes "skipped") (Json.boolean true) (member (codes "code") (number (decimal code))
      (member (codes "length") (number (decimal (length body))) ms)))) in
      ap (λ (b : Bool). shown (header_members word (written_word (Skipped code body))
      (cond b (member (codes "bytes") (byte_string_json options.texts body) no_members) no_members))) whole.payloads
      ∙ ap shown (shown_header word (code * 281474976710656 + length body)
      (member (codes "bytes") (byte_string_json options.texts body) no_members))

  skipped_made : type_of code ≡ None → length (drop 8 bytes) ≡ word % 4294967296
      → MadeLine (making (messages_of reading values) options.version)
      (item_json_in reading options at word (Skipped code (drop 8 bytes))) (with_payload (take 4 bytes) (drop 8 bytes))
  skipped_made none long =
      let body = drop 8 bytes in
      subst (λ (j : Json). MadeLine (making (messages_of reading values) options.version) j
      (with_payload (take 4 bytes) body)) (sym skipped_json)
      (as_made (making (messages_of reading values) options.version) _ _
      (skipped_texts options.texts at code (length body)
      (header_text word (code * 281474976710656 + length body)) body early code_low (omega (arith, long))
      (header_is (code * 281474976710656 + length body)))
      (skipped_back bytes word headed reading values back options.version options.texts (decimal at)
      (decimal (length body)) none long))

  module _ (ty : MessageType) (typed : type_of code ≡ Some ty) (long : length (drop 8 bytes) ≡ word % 4294967296) where
    abbrev as_item : Item
    as_item = Message (record {
      header = record {
        ty = ty;
        length = word % 4294967296;
        requested_ack = flag_of ty word;
      };
      payload = drop 8 bytes;
    })

    code_is : code_of ty ≡ code
    code_is = code_of_type code ty typed

    abbrev shown_payload : Members
    shown_payload = payload_members_in reading options.texts (reading.schema_at options.version ty) (drop 8 bytes)

    message_json : item_json_in reading options at word as_item
        ≡ message_line (decimal at) (debug_name_of ty) (decimal code) (decimal (length (drop 8 bytes)))
        (flag_of ty word) (header_text word (written bytes word headed reading values back options.version options.texts
        (decimal at)
        (decimal (length (drop 8 bytes))) ty typed)) shown_payload
    unfolding word_of
    message_json =
        let body = drop 8 bytes in
        let shown : ℕ → Members → Json = λ (n : ℕ) (ms : Members). object
        (member (codes "offset") (number (decimal at)) (member (codes "type") (string (debug_name_of ty))
        (member (codes "code") (number (decimal n)) (member (codes "length") (number (decimal (length body)))
        (ack_members (flag_of ty word) ms))))) in
        let as_written : ℕ → ℕ = λ (n : ℕ). n * 281474976710656 + ack_bit (flag_of ty word) * 140737488355328 + word %
        4294967296 in
        ap (λ (b : Bool). shown (code_of ty) (header_members word (as_written (code_of ty))
        (cond b shown_payload no_members))) whole.payloads
        ∙ ap (λ (n : ℕ). shown n (header_members word (as_written n) shown_payload)) code_is
        ∙ ap (shown code) (shown_header word (as_written code) shown_payload)

    message_made : MadeLine (making (messages_of reading values) options.version)
        (item_json_in reading options at word as_item)
        (with_payload (take 4 bytes) (payload_again_in reading (reading.schema_at options.version ty) (drop 8 bytes)))
    message_made =
        let body = drop 8 bytes in
        subst (λ (j : Json). MadeLine (making (messages_of reading values) options.version) j
        (with_payload (take 4 bytes)
        (payload_again_in reading (reading.schema_at options.version ty) body))) (sym message_json)
        (as_made (making (messages_of reading values) options.version) _ _
        (message_texts at code (length body) (debug_name_of ty) (flag_of ty word)
        (header_text word (written bytes word headed reading values back options.version options.texts (decimal at)
        (decimal (length body)) ty typed)) shown_payload
        early code_low (omega (arith, long)) (name_utf8 ty (omega (arith, code_is, word_small bytes word headed)))
        (header_is _) (payload_texts reading values back options.texts (reading.schema_at options.version ty) body
        (body_is_bytes bytes word headed)))
        (message_line_back bytes word headed reading values back options.version options.texts (decimal at)
        (decimal (length body)) ty typed
        (reading.schema_at options.version ty) refl))

-- ---- items

pub headed_of : (version : Version) (bytes : List ℕ) (item : Item) → IsItem version bytes item → IsBytes bytes → Headed
    bytes (front_word bytes)
unfolding front_word
headed_of version bytes item is small = record { eight = omega (arith, is.whole); small = small; reads = refl }

pub body_long : (bytes : List ℕ) (n : ℕ) → length bytes ≡ 8 + n → length (drop 8 bytes) ≡ n
body_long bytes n e = omega (arith, length-drop 8 bytes, e)

pub item_made : (reading : Reading) (values : EnumValues) (back : ReadsBack reading values) (options : Options) (at : ℕ)
    (bytes : List ℕ) (item : Item) → IsWhole options → at < 2 ^ 128 → IsItem
    options.version bytes item → IsBytes bytes
    → MadeLine (making (messages_of reading values) options.version)
    (item_json_in reading options at (front_word bytes) item)
    (item_again_in reading options.version bytes item)
item_made reading values back options at bytes item whole early is small = subst Made (sym is.means)
    (by_type (type_of (front_word bytes / 281474976710656)) refl)
  where
    headed : Headed bytes (front_word bytes)
    headed = headed_of options.version bytes item is small

    Made : Item → Type 0
    Made i = MadeLine (making (messages_of reading values) options.version)
        (item_json_in reading options at (front_word bytes) i) (item_again_in reading options.version bytes i)

    by_skip : (b : Bool) → skips_unknown_messages options.version ≡ b → type_of (front_word bytes / 281474976710656) ≡
        None → Made (cond b (Skipped (front_word bytes / 281474976710656) (drop 8 bytes))
        (Unknown (front_word bytes / 281474976710656)))
    by_skip true e none =
        skipped_made reading values back options whole at early bytes (front_word bytes) headed none
        (body_long bytes (front_word bytes % 4294967296) (is.whole ∙ ap (λ (n : ℕ). 8 + n)
        (other_length_of options.version (front_word bytes) none ∙ ap
        (λ (b : Bool). cond b (front_word bytes % 4294967296) 0) e)))
    by_skip false e none = unknown_made reading values back options whole at early bytes (front_word bytes) headed none
        e

    by_type : (o : Option MessageType) → type_of (front_word bytes / 281474976710656) ≡ o → Made
        (item_of options.version (front_word bytes) (drop 8 bytes))
    by_type None none = subst Made (sym (other_item options.version (front_word bytes) (drop 8 bytes) none))
        (by_skip (skips_unknown_messages options.version) refl none)
    by_type (Some ty) typed =
        subst Made (sym (typed_item options.version (front_word bytes) (drop 8 bytes) ty typed))
        (message_made reading values back options whole at early bytes (front_word bytes) headed ty typed
        (body_long bytes (front_word bytes % 4294967296)
        (is.whole ∙ ap (λ (n : ℕ). 8 + n) (typed_length options.version (front_word bytes) ty typed))))
