-- The lines of items mean their headers and payloads.
use Rattle.std.proofs.Common.{◌≡◌, ℕ, ◌+◌, ◌*◌, ◌/◌, ◌%◌, ◌<◌, List, [], ◌++◌, length, take, drop, decimal, Bool, true}
use Rattle.std.proofs.Common.{false, cond, not, ◌&&◌, zero, suc, Option, Some, None, option_map, Result, Ok, Err, refl}
use Rattle.std.proofs.Common.{sym, ap, ap₂, subst, ◌∙◌, arith, eqb, ltb}
use Rattle.std.proofs.lemmas.Bool.{lt-ltb, ltb-true, eqb-true, eq-eqb}
use Rattle.std.proofs.lemmas.Nat.{from_be_bytes-to_be_bytes_8}
use Rattle.std.proofs.lemmas.List.{take-append-drop}
use Rattle.std.specs.Prelude.{codes, ok_or, option_and_then}
use Rattle.std.specs.Result.{result_ok}
use Rattle.std.specs.Int.{w32, w64, to_be_bytes}
use Rattle.base64.specs.GeneralPurpose.{encode_of, IsBytes}
use Rattle.base64.specs.Engines.{standard}
use Rattle.json.specs.Json.{Json, boolean, number, string, Members, member, no_members}
use Rattle.shared_core_base.specs.declared.header.MessageType.{MessageType}
use Rattle.shared_core_base.specs.declared.version.Version.{Version}
use Rattle.shared_core_base.specs.Version.{skips_unknown_messages}
use Rattle.shared_core_base.specs.MessageType.{type_of, allows_ack, debug_name_of}
use Rattle.shared_core_base.specs.MessageHeader.{ack_bit, word_length}
use Rattle.shared_core_wire.specs.Acceptance.{accepts_payload}
use Rattle.shared_core_wire.specs.Value.{Parts}
use Rattle.shared_core_wire.specs.Canonical.{canonical_payload}
use Rattle.shared_core_wire.specs.Overlay.{meaning}
use Rattle.shared_core_json.specs.Form.{byte_string_json, members_json_in, json_with_in}
use Rattle.shared_core_json.specs.declared.digits.Digits.TheVariants.{Unsigned}
use Rattle.shared_core_json_reader.specs.declared.error.Reason.TheVariants.{OutOfRange}
use Rattle.shared_core_json_reader.specs.Scalars.{bytes_read}
use Rattle.shared_core_json_reader.specs.FirstError.{number_reason, bytes_reason, value_error_in}
use Rattle.shared_core_json_reader.specs.Rows.{EnumValues}
use Rattle.shared_core_json.proofs.Meanings.{back_bytes}
use Rattle.shared_core_json_reader.proofs.ScalarsBack.{u32_back, bytes_back, byte_string_back, byte_string_there}
use Rattle.shared_core_json_reader.proofs.TreeBack.{message_back}
use Rattle.shared_core_json_reader.proofs.NamesApart.{same_bytes}
use Rattle.make_lines.specs.declared.error.LineReason.TheVariants.{Json as Wrong, OtherType, NoSchema, NoFlag}
use Rattle.make_lines.specs.declared.error.LineReason.TheVariants.{OtherCode, OtherFlag, NoSuchPayload, TooLong}
use Rattle.make_lines.specs.Errors.{LineFault, at as fault_at}
use Rattle.make_lines.specs.MadeAgain.{payload_again_in}
use Rattle.make_lines.specs.Making.{making, messages_of}
use Rattle.make_lines.proofs.ReadBack.{ReadsBack}
use Rattle.dump_lines.specs.Lines.{payload_members_in, header_members, meaning_json, malformed_members}
use Rattle.dump_lines.specs.Reading.{Reading}
use Rattle.make_lines.specs.Lines.{then_read, read_map, unless, code_below, code_read, name_read, is_name_of, code_if}
use Rattle.make_lines.specs.Lines.{code_said, has_flag, flag_said, nothing_if, bytes_said, message_fault, message_read}
use Rattle.make_lines.specs.Lines.{message_said, word as said_word, word_fault, with_size, word_given}
use Rattle.make_lines.specs.Lines.{checked_given, header_given, header_said, value_made}
use Rattle.make_lines.proofs.HeaderWords.{Headed, word_small, word_bytes, word_is_bytes, other_length, four_of_word}
use Rattle.make_lines.proofs.LineMembers.{Says, header_if, message_line, unknown_line, skipped_line, item_is}
use Rattle.make_lines.proofs.LineMembers.{says_message, says_bytes, says_malformed, says_unknown}
use Rattle.make_lines.proofs.LineMembers.{says_skipped}

-- ---- codes, bytes and flags

pub bytes_there : (name : List ℕ) (b : Json) (payload : List ℕ) → bytes_read b ≡ Some payload → bytes_said name b ≡ Ok
    payload
bytes_there name b payload read = ap (λ (o : Option (List ℕ)). ok_or o (fault_at name (Wrong (bytes_reason b)))) read

code_back : (n : ℕ) → n < 65536 → code_read (number (decimal n)) ≡ Ok n
code_back n h =
    ap (λ (o : Option ℕ). then_read code_below (ok_or o (fault_at (codes "code")
    (Wrong (number_reason (number (decimal n))))))) (u32_back Unsigned n (omega arith))
    ∙ ap (λ (b : Bool). cond b (Ok n) (Err (fault_at (codes "code") (Wrong OutOfRange)))) (lt-ltb n 65536 h)

typed_back : (n : ℕ) (ty : MessageType) → n < 65536 → type_of n ≡ Some ty → code_said (Some (string (debug_name_of ty)))
    (Some (number (decimal n))) ≡ Ok n
typed_back n ty h typed =
    let name = debug_name_of ty in
    ap (then_read (λ (m : ℕ). then_read (code_if m) (name_read (string name)))) (code_back n h)
    ∙ ap (λ (o : Option MessageType). cond (is_name_of o name) (Ok n) (Err (fault_at (codes "type") OtherType))) typed
    ∙ ap (λ (b : Bool). cond b (Ok n) (Err (fault_at (codes "type") OtherType))) (same_bytes name)

-- the flag of a header, and whether it requests an acknowledgement
abbrev pub flag_of : MessageType → ℕ → Option Bool
flag_of ty word = cond (allows_ack ty) (Some (eqb (word / 140737488355328 % 2) 1)) None

abbrev requests : Option Bool → Bool
requests None = false
requests (Some f) = f

flag_back : (n word : ℕ) (ty : MessageType) (name : List ℕ) → type_of n ≡ Some ty → flag_said n name
    (option_map boolean (flag_of ty word)) ≡ Ok (requests (flag_of ty word))
flag_back n word ty name typed = by_test (allows_ack ty) refl
  where
    by_test : (b : Bool) → allows_ack ty ≡ b → flag_said n name
        (option_map boolean (cond b (Some (eqb (word / 140737488355328 % 2) 1)) None)) ≡ Ok
        (requests (cond b (Some (eqb (word / 140737488355328 % 2) 1)) None))
    by_test false e = refl
    by_test true e =
        let has : has_flag (type_of n) ≡ true = ap has_flag typed ∙ e in
        ap (λ (b : Bool). cond b (Ok (eqb (word / 140737488355328 % 2) 1)) (Err (fault_at name NoFlag))) has

flag_bit : (flag : Option Bool) → cond (requests flag) 140737488355328 0 ≡ ack_bit flag * 140737488355328
flag_bit None = omega arith
flag_bit (Some true) = omega arith
flag_bit (Some false) = omega arith

-- ---- what a header says again

bit_again : (x : ℕ) → x < 2 → eqb x (cond (eqb x 1) 1 0) ≡ true
bit_again zero h = refl
bit_again (suc zero) h = refl
bit_again (suc (suc n)) h = absurd (omega arith)

-- the fault of a word, by whether its code and its flag are those of the line
abbrev as_fault : Bool → Bool → Option LineFault
as_fault code flag = cond code (cond flag None (Some (fault_at (codes "header") OtherFlag)))
    (Some (fault_at (codes "header") OtherCode))

typed_agrees : (word : ℕ) (ty : MessageType) → type_of (word / 281474976710656) ≡ Some ty → word_fault
    (word / 281474976710656) (requests (flag_of ty word)) word ≡ None
typed_agrees word ty typed =
    let n = word / 281474976710656 in
    ap₂ as_fault (eq-eqb n n refl)
    (ap (λ (o : Option MessageType). cond (has_flag o) (eqb (word / 140737488355328 % 2)
    (cond (requests (flag_of ty word)) 1 0)) true) typed ∙ by_test (allows_ack ty))
  where
    by_test : (b : Bool) → cond b (eqb (word / 140737488355328 % 2)
        (cond (requests (cond b (Some (eqb (word / 140737488355328 % 2) 1)) None)) 1 0)) true ≡ true
    by_test true = bit_again (word / 140737488355328 % 2) (omega arith)
    by_test false = refl

untyped_agrees : (word : ℕ) → type_of (word / 281474976710656) ≡ None → word_fault (word / 281474976710656) false word ≡
    None
untyped_agrees word none =
    let n = word / 281474976710656 in
    ap₂ as_fault (eq-eqb n n refl) (ap (λ (o : Option MessageType). cond (has_flag o)
    (eqb (word / 140737488355328 % 2) 0) true) none)

-- ---- headers

-- the text of the member of a header, if it is there
abbrev pub header_text : ℕ → ℕ → Option (List ℕ)
header_text word written = cond (eqb word written) None (Some (encode_of standard (to_be_bytes w64 word)))

pub shown_header : (word written : ℕ) (others : Members) → header_members word written others ≡ header_if
    (header_text word written) others
shown_header word written others = by_test (eqb word written)
  where
    by_test : (b : Bool) → cond b others (member (codes "header") (string (encode_of standard (to_be_bytes w64 word)))
        others) ≡ header_if (cond b None (Some (encode_of standard (to_be_bytes w64 word)))) others
    by_test true = refl
    by_test false = refl

module _ (bytes : List ℕ) (word : ℕ) (headed : Headed bytes word) where
  code_small : word / 281474976710656 < 65536
  code_small = omega (arith, word_small bytes word headed)

  -- the first four bytes of the header, and this length, if it is not too long
  abbrev pub with_length : ℕ → Option (List ℕ)
  with_length size = cond (ltb size 4294967296) (Some (take 4 bytes ++ to_be_bytes w32 size)) None

  -- the same, as it is read
  abbrev read_length : ℕ → Result (List ℕ) LineFault
  read_length size = cond (ltb size 4294967296) (Ok (take 4 bytes ++ to_be_bytes w32 size)) (Err (fault_at [] TooLong))

  length_made : (size : ℕ) (payload : List ℕ) → result_ok (read_map (λ h. h ++ payload) (read_length size)) ≡ option_map
      (λ h. h ++ payload) (with_length size)
  length_made size payload = by_test (ltb size 4294967296)
    where
      by_test : (b : Bool) → result_ok (read_map (λ (h : List ℕ). h ++ payload)
          (cond b (Ok (take 4 bytes ++ to_be_bytes w32 size)) (Err (fault_at [] TooLong)))) ≡ option_map
          (λ (h : List ℕ). h ++ payload) (cond b (Some (take 4 bytes ++ to_be_bytes w32 size)) None)
      by_test true = refl
      by_test false = refl

  sized_back : (size : ℕ) → with_size size (to_be_bytes w64 word) ≡ read_length size
  sized_back size = ap (λ (xs : List ℕ). cond (ltb size 4294967296) (Ok (xs ++ to_be_bytes w32 size))
      (Err (fault_at [] TooLong))) (four_of_word bytes word headed)

  given_again : (version : Version) (code size : ℕ) (f alone : Bool) → word_fault code f word ≡ None
      → then_read (header_given version code f size alone) (bytes_said (codes "header")
      (string (encode_of standard (to_be_bytes w64 word)))) ≡ word_given version alone size word
      (to_be_bytes w64 word)
  given_again version code size f alone a =
      ap (then_read (header_given version code f size alone))
      (bytes_there (codes "header") (string (encode_of standard (to_be_bytes w64 word))) (to_be_bytes w64 word)
      (bytes_back (to_be_bytes w64 word) (word_is_bytes bytes word headed)))
      ∙ ap (λ (n : ℕ). checked_given version code f size alone n (to_be_bytes w64 word))
      (from_be_bytes-to_be_bytes_8 word (word_small bytes word headed))
      ∙ ap (λ (o : Option LineFault). unless o (word_given version alone size word (to_be_bytes w64 word))) a

  header_back : (version : Version) (written code size : ℕ) (f : Bool) → word_fault code f word ≡ None →
      (word ≡ written → said_word code f size ≡ word / 4294967296 * 4294967296 + size) → header_said version code f size
      false (option_map string (header_text word written)) ≡ read_length size
  header_back version written code size f a same = by_test (eqb word written) refl
    where
      by_size : (b : Bool) → ltb size 4294967296 ≡ b → word ≡ written → cond b
          (Ok (to_be_bytes w64 (said_word code f size))) (Err (fault_at [] TooLong)) ≡ cond b
          (Ok (take 4 bytes ++ to_be_bytes w32 size)) (Err (fault_at [] TooLong))
      by_size true l e = ap (λ (xs : List ℕ). Ok xs) (other_length bytes word headed (said_word code f size) size
          (same e) (ltb-true size 4294967296 l))
      by_size false l e = refl

      by_test : (b : Bool) → eqb word written ≡ b → header_said version code f size false
          (option_map string (cond b None (Some (encode_of standard (to_be_bytes w64 word))))) ≡ read_length size
      by_test true e = by_size (ltb size 4294967296) refl (eqb-true word written e)
      by_test false e = given_again version code size f false a ∙ sized_back size

  -- only a header
  alone_back : (version : Version) (code : ℕ) → word_fault code false word ≡ None → skips_unknown_messages version ≡
      false → header_said version code false 0 true (option_map string (header_text word (code * 281474976710656))) ≡ Ok
      (take 8 bytes)
  alone_back version code a keeps = by_test (eqb word (code * 281474976710656)) refl
    where
      by_test : (b : Bool) → eqb word (code * 281474976710656) ≡ b → header_said version code false 0 true
          (option_map string (cond b None (Some (encode_of standard (to_be_bytes w64 word))))) ≡ Ok (take 8 bytes)
      by_test true e =
          let same : said_word code false 0 ≡ word = omega (arith, eqb-true word (code * 281474976710656) e) in
          ap (λ (n : ℕ). Ok (to_be_bytes w64 n)) same ∙ ap (λ (xs : List ℕ). Ok xs) (word_bytes bytes word headed)
      by_test false e =
          given_again version code 0 false true a
          ∙ ap (λ (b : Bool). cond (b && not (eqb (word_length word) 0)) (Err (fault_at (codes "header") NoSuchPayload))
          (Ok (to_be_bytes w64 word))) keeps
          ∙ ap (λ (xs : List ℕ). Ok xs) (word_bytes bytes word headed)

  pub body_is_bytes : IsBytes (drop 8 bytes)
  body_is_bytes = back_bytes (take 8 bytes) (drop 8 bytes) (subst IsBytes (sym (take-append-drop 8 bytes)) headed.small)

  -- ---- items

  module _ (reading : Reading) (values : EnumValues) (back : ReadsBack reading values) (version : Version)
      (texts : Bool) (at len : List ℕ) where
    pub unknown_back : type_of (word / 281474976710656) ≡ None → skips_unknown_messages version ≡ false → value_made
        (making (messages_of reading values) version) (unknown_line at (decimal (word / 281474976710656))
        (header_text word (word / 281474976710656 * 281474976710656))) ≡ Some (take 8 bytes ++ [])
    unknown_back none keeps =
        let n = word / 281474976710656 in
        ap result_ok (item_is (making (messages_of reading values) version) _ _ _ _ _ _ _ _ n false []
        (Ok (take 8 bytes))
        (says_unknown at (decimal n) (header_text word (n * 281474976710656))) (code_back n code_small) refl
        (ap (nothing_if (Some true)) none)
        (alone_back version n (untyped_agrees word none) keeps))

    skipped_word : (size : ℕ) → word ≡ word / 281474976710656 * 281474976710656 + word % 4294967296 → said_word
        (word / 281474976710656) false size ≡ word / 4294967296 * 4294967296 + size
    skipped_word size e = omega (arith, e)

    pub skipped_back : type_of (word / 281474976710656) ≡ None → length (drop 8 bytes) ≡ word % 4294967296
        → value_made (making (messages_of reading values) version)
        (skipped_line at (decimal (word / 281474976710656)) len
        (header_text word (word / 281474976710656 * 281474976710656 + length (drop 8 bytes)))
        (byte_string_json texts (drop 8 bytes)))
        ≡ option_map (λ h. h ++ drop 8 bytes) (with_length (length (drop 8 bytes)))
    skipped_back none long =
        let n = word / 281474976710656 in
        let body = drop 8 bytes in
        ap result_ok (item_is (making (messages_of reading values) version) _ _ _ _ _ _ _ _ n false body
        (read_length (length body))
        (says_skipped at (decimal n) len (header_text word (n * 281474976710656 + length body))
        (byte_string_json texts body) (byte_string_there texts body))
        (code_back n code_small) refl (bytes_there _ (byte_string_json texts body) body
        (byte_string_back texts body body_is_bytes)) (header_back version (n * 281474976710656 + length body) n
        (length body) false (untyped_agrees word none) (λ e. skipped_word (length body) (omega (arith, e, long)))))
        ∙ length_made (length body) body

    module _ (ty : MessageType) (typed : type_of (word / 281474976710656) ≡ Some ty) where
      -- the word that the header is written as
      abbrev pub written : ℕ
      written = word / 281474976710656 * 281474976710656 + ack_bit (flag_of ty word) * 140737488355328 + word %
          4294967296

      message_word : (size : ℕ) → word ≡ written → said_word (word / 281474976710656) (requests (flag_of ty word)) size
          ≡ word / 4294967296 * 4294967296 + size
      message_word size e = let bit = flag_bit (flag_of ty word) in omega (arith, e, bit)

      abbrev made_of : List ℕ → Option (List ℕ)
      made_of payload = option_map (λ h. h ++ payload) (with_length (length payload))

      -- the line of a message with these members of its payload
      abbrev line_with : Members → Json
      line_with others = message_line at (debug_name_of ty) (decimal (word / 281474976710656)) len (flag_of ty word)
          (header_text word written) others

      given_back : (b : Json) (payload : List ℕ) (others : Members) → bytes_read b ≡ Some payload
          → Says (line_with others) (Some (string (debug_name_of ty)))
          (Some (number (decimal (word / 281474976710656)))) (option_map boolean (flag_of ty word))
          (option_map string (header_text word written)) None (Some b) None
          → value_made (making (messages_of reading values) version) (line_with others) ≡ made_of payload
      given_back b payload others read says =
          let n = word / 281474976710656 in
          ap result_ok (item_is (making (messages_of reading values) version) _ _ _ _ _ _ _ _ n
          (requests (flag_of ty word)) payload
          (read_length (length payload)) says
          (typed_back n ty code_small typed) (flag_back n word ty _ typed) (bytes_there _ b payload read)
          (header_back version written n (length payload) (requests (flag_of ty word)) (typed_agrees word ty typed)
          (message_word (length payload))))
          ∙ length_made (length payload) payload

      value_line : (s : ℕ) → reading.schema_at version ty ≡ Some s → accepts_payload reading.table 100 s (drop 8 bytes)
          ≡
          true → message_said (making (messages_of reading values) version)
          (word / 281474976710656) (meaning_json reading texts s (drop 8 bytes)) ≡ Ok
          (canonical_payload reading.table s (meaning reading.table 100 s (drop 8 bytes)))
      value_line s e a =
          let format = (messages_of reading values).format in
          let v = meaning reading.table 100 s (drop 8 bytes) in
          let is = back.well s (drop 8 bytes) a body_is_bytes in
          let m = json_with_in reading.table reading.names texts s v in
          ap (λ (o : Option MessageType). then_read (message_read format m)
          (ok_or (option_and_then (reading.schema_at version) o) (fault_at (codes "message") NoSchema))) typed
          ∙ ap (λ (o : Option ℕ). then_read (message_read format m) (ok_or o (fault_at (codes "message") NoSchema))) e
          ∙ ap (λ (o : Option Parts). ok_or (option_map (canonical_payload reading.table s) o)
          (message_fault (value_error_in format s m)))
          (message_back format back.readable texts 100 s v is.fits is.low is.bytes)

      pub message_line_back : (schema : Option ℕ) → reading.schema_at version ty ≡ schema → value_made
          (making (messages_of reading values) version) (line_with (payload_members_in reading texts schema
          (drop 8 bytes))) ≡ made_of (payload_again_in reading schema (drop 8 bytes))
      message_line_back None e =
          let body = drop 8 bytes in
          given_back (byte_string_json texts body) body (payload_members_in reading texts None body)
          (byte_string_back texts body body_is_bytes)
          (says_bytes at (debug_name_of ty) (decimal (word / 281474976710656)) len (flag_of ty word)
          (header_text word written) (byte_string_json texts body) (byte_string_there texts body))
      message_line_back (Some s) e = by_test (accepts_payload reading.table 100 s (drop 8 bytes)) refl
        where
          by_test : (b : Bool) → accepts_payload reading.table 100 s (drop 8 bytes) ≡ b → value_made
              (making (messages_of reading values) version) (line_with (cond b
              (member (codes "message") (meaning_json reading texts s (drop 8 bytes)) no_members)
              (malformed_members texts (drop 8 bytes))))
              ≡ made_of (cond b (canonical_payload reading.table s (meaning reading.table 100 s (drop 8 bytes)))
              (drop 8 bytes))
          by_test true a =
              let n = word / 281474976710656 in
              let v = meaning reading.table 100 s (drop 8 bytes) in
              let p = canonical_payload reading.table s v in
              ap result_ok (item_is (making (messages_of reading values) version) _ _ _ _ _ _ _ _ n
              (requests (flag_of ty word)) p (read_length (length p))
              (says_message at (debug_name_of ty) (decimal n) len (flag_of ty word) (header_text word written)
              (members_json_in reading.table reading.names texts (reading.names s) v (reading.table s)))
              (typed_back n ty code_small typed) (flag_back n word ty _ typed) (value_line s e a)
              (header_back version written n (length p) (requests (flag_of ty word)) (typed_agrees word ty typed)
              (message_word (length p))))
              ∙ length_made (length p) p
          by_test false a =
              given_back (byte_string_json texts (drop 8 bytes)) (drop 8 bytes) _
              (byte_string_back texts (drop 8 bytes) body_is_bytes)
              (says_malformed at (debug_name_of ty) (decimal (word / 281474976710656)) len (flag_of ty word)
              (header_text word written) (byte_string_json texts (drop 8 bytes))
              (byte_string_there texts (drop 8 bytes)))
