-- What is made of the lines of a whole dump.
use Rattle.std.proofs.Common.{◌≡◌, ℕ, ◌+◌, ◌/◌, ◌%◌, ◌^◌, ◌<◌, ◌≤◌, List, [], ◌∷◌, ◌++◌, length, drop, decimal, Bool}
use Rattle.std.proofs.Common.{true, false, cond, ltb, eqb, ◌&&◌, ◌||◌, Option, Some, None, refl, sym, ap, ap₂, subst}
use Rattle.std.proofs.Common.{◌∙◌, append_assoc, append-nil, length-append, length-drop, arith}
use Rattle.std.proofs.lemmas.Bool.{eq-eqb, lt-ltb}
use Rattle.std.proofs.lemmas.List.{take-append-le}
use Rattle.std.proofs.Math.Seq.{drop-append_seam}
use Rattle.std.specs.Prelude.{codes}
use Rattle.std.specs.Result.{result_ok}
use Rattle.std.specs.List.{list_any}
use Rattle.base64.specs.GeneralPurpose.{IsBytes}
use Rattle.base64.proofs.EngineFacts.{front_bytes}
use Rattle.json.specs.Json.{Json, number, object, Members, member, no_members}
use Rattle.json.specs.Tree.{json_tokens}
use Rattle.json.specs.Print.{print}
use Rattle.shared_core_base.specs.declared.header.MessageType.{MessageType}
use Rattle.shared_core_base.specs.declared.version.Version.{Version}
use Rattle.shared_core_base.specs.Version.{skips_unknown_messages}
use Rattle.shared_core_base.specs.MessageType.{type_of}
use Rattle.shared_core_json.specs.Form.{byte_string_json}
use Rattle.shared_core_json.proofs.Meanings.{back_bytes}
use Rattle.shared_core_json_reader.proofs.ScalarsBack.{byte_string_back, byte_string_there}
use Rattle.shared_core_stream.specs.declared.encoding.item.Item.{Item}
use Rattle.shared_core_stream.specs.declared.encoding.item.Item.TheVariants.{Message, Unknown, Skipped}
use Rattle.dump_lines.specs.declared.options.Options.{Options}
use Rattle.shared_core_stream.specs.Items.{front_word, item_of, IsItem, AreItems}
use Rattle.stream_lines.specs.Printing.{item_size, items_size, lines}
use Rattle.dump_lines.specs.Lines.{item_json_in, item_code, is_selected, json_line, line_of_in, rest_members, rest_line}
use Rattle.dump_lines.specs.Reading.{Reading}
use Rattle.shared_core_json_reader.specs.Rows.{EnumValues}
use Rattle.make_lines.specs.Lines.{line_made}
use Rattle.make_lines.specs.Made.{both}
use Rattle.make_lines.specs.MadeAgain.{payload_again_in, with_payload, item_again_in, stream_again_in, IsWhole}
use Rattle.make_lines.specs.Making.{Making, making, messages_of}
use Rattle.make_lines.proofs.ReadBack.{ReadsBack}
use Rattle.make_lines.proofs.LineMembers.{rest_is, no_rest_is}
use Rattle.make_lines.proofs.ItemsBack.{bytes_there}
use Rattle.make_lines.proofs.LineTexts.{rest_texts}
use Rattle.make_lines.proofs.ItemLines.{MadeLine, as_made, item_made, typed_item, other_item, other_length_of}
use Rattle.shared_core_stream.proofs.Items.{front_word_more}
use Rattle.make_lines.proofs.LineSplits.{Means, nothing_means, line_means}

-- ---- lines

abbrev line_text : Json → List ℕ
line_text json = print (json_tokens json) ++ (10 ∷ [])

empty_line : (by : Making) → line_made by [] ≡ Some []
unfolding line_made
empty_line by = refl

-- a line and its newline, before more
made_then : (by : Making) (json : Json) (more : List ℕ) (bytes others : Option (List ℕ)) → MadeLine by json
    bytes → Means (line_made by) more others → Means (line_made by) (line_text json ++ more)
    (both bytes others)
made_then by json more bytes others m h =
    subst (λ (text : List ℕ). Means (line_made by) text (both bytes others))
    (sym (append_assoc (print (json_tokens json)) (10 ∷ []) more))
    (line_means (line_made by) (print (json_tokens json)) more bytes others m.single m.means h)

-- ---- the rest

module _ (reading : Reading) (values : EnumValues) (options : Options) (whole : IsWhole options) where
  rest_line_made : (at : ℕ) (rest : List ℕ) → at < 2 ^ 128 → length rest < 2 ^ 128 → IsBytes rest → MadeLine
      (making (messages_of reading values) options.version) (object (member (codes "offset") (number (decimal at))
      (member (codes "rest") (number (decimal (length rest))) (rest_members options rest)))) (Some rest)
  rest_line_made at [] early short small =
      let shown : Members → Json = λ (ms : Members). object (member (codes "offset") (number (decimal at))
      (member (codes "rest") (number (decimal 0)) ms)) in
      subst (λ (j : Json). MadeLine (making (messages_of reading values) options.version) j (Some []))
      (sym (ap (λ (b : Bool). shown (cond b (member (codes "bytes") (byte_string_json options.texts []) no_members)
      no_members)) (and_false options.payloads)))
      (as_made (making (messages_of reading values) options.version) _ (Some [])
      (rest_texts options.texts at 0 None early (omega arith))
      (ap result_ok (no_rest_is (making (messages_of reading values) options.version) (decimal at))))
    where
      and_false : (b : Bool) → (b && false) ≡ false
      and_false true = refl
      and_false false = refl
  rest_line_made at (x ∷ rest) early short small =
      let body = x ∷ rest in
      let shown : Members → Json = λ (ms : Members). object (member (codes "offset") (number (decimal at))
      (member (codes "rest") (number (decimal (length body))) ms)) in
      let some : (options.payloads && ltb 0 (length body)) ≡ true = ap₂ (λ (a b : Bool). a && b) whole.payloads
      (lt-ltb 0 (length body) (omega arith)) in
      subst (λ (j : Json). MadeLine (making (messages_of reading values) options.version) j (Some body))
      (sym (ap (λ (b : Bool). shown (cond b (member (codes "bytes") (byte_string_json options.texts body)
      no_members) no_members)) some))
      (as_made (making (messages_of reading values) options.version) _ (Some body)
      (rest_texts options.texts at (length body) (Some body) early short)
      (ap result_ok (rest_is (making (messages_of reading values) options.version) (decimal at) (decimal (length body))
      (byte_string_json options.texts body)
      (byte_string_there options.texts body)
      ∙ bytes_there (codes "bytes") (byte_string_json options.texts body) body
      (byte_string_back options.texts body small))))

  one_line : (json : Json) → json_line options.pretty json ≡ line_text json
  one_line json = ap (λ (b : Bool). json_line b json) whole.one_line

  rest_is_there : (line : List ℕ) → cond options.rest line [] ≡ line
  rest_is_there line = ap (λ (b : Bool). cond b line []) whole.rest

  rest_means : (at : ℕ) (rest : List ℕ) → at < 2 ^ 128 → length rest < 2 ^ 128 → IsBytes rest → Means
      (line_made (making (messages_of reading values) options.version)) (rest_line options at rest) (Some rest)
  rest_means at rest early short small =
      let json = object (member (codes "offset") (number (decimal at))
      (member (codes "rest") (number (decimal (length rest))) (rest_members options rest))) in
      let m = made_then (making (messages_of reading values) options.version) json [] (Some rest) (Some [])
      (rest_line_made at rest early short small)
      (nothing_means (line_made (making (messages_of reading values) options.version))
      (empty_line (making (messages_of reading values) options.version))) in
      subst (λ (text : List ℕ). Means (line_made (making (messages_of reading values) options.version)) text
      (Some rest))
      (append-nil (line_text json) ∙ sym (one_line json) ∙ sym (rest_is_there (json_line options.pretty json)))
      (subst (λ (bs : List ℕ). Means (line_made (making (messages_of reading values) options.version))
      (line_text json ++ []) (Some bs)) (append-nil rest)
      m)

  -- ---- items

  selected : (code : ℕ) → is_selected options.codes.now code ≡ true
  selected code = ap (λ (b : Bool). b || list_any (λ x. eqb x code) options.codes.now)
      (eq-eqb (length options.codes.now) 0 whole.all)

  shown_line : (at word : ℕ) (item : Item) → line_of_in reading options at word item
      ≡ line_text (item_json_in reading options at word item)
  shown_line at word item =
      ap (λ (b : Bool). cond b (json_line options.pretty (item_json_in reading options at word item)) [])
      (selected (item_code item))
      ∙ one_line (item_json_in reading options at word item)

-- the size of an item is that of its bytes
pub sized : (version : Version) (bytes : List ℕ) (item : Item) → IsItem version bytes item → item_size item ≡ length
    bytes
sized version bytes item is = ap item_size is.means ∙ by_type (type_of (front_word bytes / 281474976710656)) refl
  where
    by_skip : (b : Bool) → skips_unknown_messages version ≡ b → type_of (front_word bytes / 281474976710656) ≡ None →
        item_size (cond b (Skipped (front_word bytes / 281474976710656) (drop 8 bytes))
        (Unknown (front_word bytes / 281474976710656))) ≡ length bytes
    by_skip true e none = omega (arith, is.whole, length-drop 8 bytes)
    by_skip false e none = omega (
      arith,
      is.whole,
      other_length_of version (front_word bytes) none ∙ ap
          (λ (b : Bool). cond b (front_word bytes % 4294967296) 0) e,
    )

    by_type : (o : Option MessageType) → type_of (front_word bytes / 281474976710656) ≡ o → item_size
        (item_of version (front_word bytes) (drop 8 bytes)) ≡ length bytes
    by_type None none = ap item_size (other_item version (front_word bytes) (drop 8 bytes) none) ∙ by_skip
        (skips_unknown_messages version) refl none
    by_type (Some ty) typed = ap item_size (typed_item version (front_word bytes) (drop 8 bytes) ty typed) ∙ omega
        (arith, is.whole, length-drop 8 bytes)

pub after_front : (n : ℕ) (front more : List ℕ) → n ≡ length front → drop n (front ++ more) ≡ more
after_front n front more e = ap (λ (k : ℕ). drop k (front ++ more)) e ∙ drop-append_seam front more

-- what follows the item does not matter
pub again_more : (reading : Reading) (version : Version) (front more : List ℕ) (item : Item) → 8 ≤ length front
    → item_again_in reading version
    (front ++ more) item ≡ item_again_in reading version front item
again_more reading version front more (Message message) h = ap (λ (xs : List ℕ). with_payload xs
    (payload_again_in reading (reading.schema_at version message.header.ty) message.payload))
    (take-append-le 4 front more (omega arith))
again_more reading version front more (Unknown code) h = ap (λ (xs : List ℕ). Some xs) (take-append-le 8 front more h)
again_more reading version front more (Skipped code payload) h = ap (λ (xs : List ℕ). with_payload xs payload)
    (take-append-le 4 front more (omega arith))

-- ---- a whole stream

module _ (reading : Reading) (values : EnumValues) (back : ReadsBack reading values) (options : Options)
    (whole : IsWhole options) (rest : List ℕ) (held : IsBytes rest)
    (short : length rest < 2 ^ 128) where
  pub stream_means : (at : ℕ) (front : List ℕ) (items : List Item) → AreItems options.version front items → IsBytes
      front → at + length front < 2 ^ 128
      → Means (line_made (making (messages_of reading values) options.version))
      (lines (line_of_in reading options) at (front ++ rest) items ++ rest_line options
      (at + items_size items) rest) (stream_again_in reading options.version (front ++ rest) items rest)
  stream_means at front [] are small early =
      subst (λ (n : ℕ). Means (line_made (making (messages_of reading values) options.version))
      (rest_line options n rest) (Some rest)) (omega arith)
      (rest_means reading values options whole at rest (omega arith) short held)
  stream_means at front (item ∷ items) are small early =
      let first = are.0 in
      let others = are.1 in
      let is = are.2 in
      let split : front ≡ first ++ others = are.4 in
      let first_small = front_bytes first others (subst IsBytes split small) in
      let others_small = back_bytes first others (subst IsBytes split small) in
      let long : 8 ≤ length first = omega (arith, is.whole) in
      let size = sized options.version first item is in
      let total : length front ≡ length first + length others = omega
      (arith, ap length split, length-append first others) in
      let joined : front ++ rest ≡ first ++ (others ++ rest) = ap (λ (xs : List ℕ). xs ++ rest) split ∙ append_assoc
      first others rest in
      let line = item_made reading values back options at first item whole (omega arith) is first_small in
      let more = stream_means (at + item_size item) others items are.3 others_small (omega (arith, size, total)) in
      let one = made_then (making (messages_of reading values) options.version)
      (item_json_in reading options at (front_word first) item) _
      (item_again_in reading options.version first item) _ line more in
      let word_is : front_word (front ++ rest) ≡ front_word first = ap front_word joined ∙ front_word_more first
      (others ++ rest) long in
      let after_is : drop (item_size item) (front ++ rest) ≡ others ++ rest = ap (drop (item_size item)) joined ∙
      after_front (item_size item) first (others ++ rest) size in
      let text_is : lines (line_of_in reading options) at (front ++ rest) (item ∷ items) ++ rest_line options
      (at + items_size (item ∷ items)) rest
      ≡ line_text (item_json_in reading options at (front_word first) item) ++
      (lines (line_of_in reading options) (at + item_size item) (others ++ rest) items ++ rest_line options
      (at + item_size item + items_size items) rest) =
      ap₂ (λ (xs ys : List ℕ). (xs ++ lines (line_of_in reading options) (at + item_size item) ys items) ++ rest_line
      options
      (at + (item_size item + items_size items)) rest)
      (ap (λ (n : ℕ). line_of_in reading options at n item) word_is
      ∙ shown_line reading values options whole at (front_word first) item) after_is
      ∙ append_assoc (line_text (item_json_in reading options at (front_word first) item))
      (lines (line_of_in reading options) (at + item_size item) (others ++ rest) items)
      (rest_line options (at + (item_size item + items_size items)) rest)
      ∙ ap (λ (n : ℕ). line_text (item_json_in reading options at (front_word first) item) ++
      (lines (line_of_in reading options) (at + item_size item) (others ++ rest) items ++ rest_line options n rest))
      (omega arith) in
      let bytes_are : stream_again_in reading options.version (front ++ rest) (item ∷ items) rest ≡ both
      (item_again_in reading options.version first item)
      (stream_again_in reading options.version (others ++ rest) items rest) =
      ap₂ (λ (o : Option (List ℕ)) (ys : List ℕ). both o (stream_again_in reading options.version ys items rest))
      (ap (λ (xs : List ℕ). item_again_in reading options.version xs item) joined
      ∙ again_more reading options.version first
      (others ++ rest) item long) after_is in
      subst (λ (text : List ℕ). Means (line_made (making (messages_of reading values) options.version)) text
      (stream_again_in reading options.version (front ++ rest) (item ∷ items) rest)) (sym text_is)
      (subst (λ (bs : Option (List ℕ)). Means (line_made (making (messages_of reading values) options.version))
      (line_text (item_json_in reading options at (front_word first) item) ++
      (lines (line_of_in reading options) (at + item_size item) (others ++ rest) items ++ rest_line options
      (at + item_size item + items_size items) rest)) bs) (sym bytes_are) one)
