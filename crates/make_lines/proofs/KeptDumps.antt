-- A stream whose payloads are made again as they are.
use Rattle.std.proofs.Common.{◌≡◌, ℕ, ◌+◌, ◌/◌, ◌%◌, ◌≤◌, List, [], ◌∷◌, ◌++◌, length, take, drop, Bool, true, false}
use Rattle.std.proofs.Common.{cond, Option, Some, None, Ok, option_map, ◌^◌, ◌<◌, refl, sym, ap, ap₂, subst, ◌∙◌}
use Rattle.std.proofs.Common.{append_assoc}
use Rattle.std.proofs.Common.{length-append, arith}
use Rattle.std.proofs.lemmas.Bool.{lt-ltb}
use Rattle.std.proofs.lemmas.List.{take-append-drop, take_all}
use Rattle.std.specs.Int.{w32, to_be_bytes}
use Rattle.base64.specs.GeneralPurpose.{IsBytes}
use Rattle.base64.proofs.EngineFacts.{front_bytes}
use Rattle.shared_core_base.specs.declared.header.MessageType.{MessageType}
use Rattle.shared_core_base.specs.declared.version.Version.{Version}
use Rattle.shared_core_base.specs.Version.{skips_unknown_messages}
use Rattle.shared_core_base.specs.MessageType.{type_of}
use Rattle.shared_core_wire.specs.Canonical.{canonical_payload}
use Rattle.shared_core_codec.specs.Table.{table}
use Rattle.shared_core_codec.specs.Payloads.{payload_meaning}
use Rattle.shared_core_codec.specs.Canonicity.{IsCanonical}
use Rattle.shared_core_json.proofs.Meanings.{back_bytes}
use Rattle.shared_core_stream.specs.declared.encoding.item.Item.{Item}
use Rattle.shared_core_stream.specs.declared.encoding.item.Item.TheVariants.{Unknown, Skipped}
use Rattle.dump_lines.specs.declared.options.Options.{Options}
use Rattle.shared_core_stream.specs.Items.{front_word, item_of, IsItem, AreItems}
use Rattle.stream_lines.specs.Printing.{item_size, items_size, lines as printed_lines, all_lines}
use Rattle.dump_lines.specs.Lines.{line_of_in, rest_line}
use Rattle.dump_lines.specs.Dump.{IsDumpedIn}
use Rattle.dump_lines.specs.Reading.{Reading, protocol}
use Rattle.stream_lines.specs.declared.report.Report.{Report}
use Rattle.shared_core_json_reader.specs.Rows.{EnumValues, enum_values}
use Rattle.make_lines.specs.Made.{AreLines, both, IsMade}
use Rattle.make_lines.specs.MadeAgain.{payload_again, payload_again_in, with_payload, item_again_in, stream_again_in}
use Rattle.make_lines.specs.MadeAgain.{IsKeptIn, AreKeptIn}
use Rattle.make_lines.specs.MadeAgain.{ItemIsMadeAgain, DumpIsMadeAgain, KeepsStreams, ThereAndBack, OtherThereAndBack}
use Rattle.make_lines.specs.MadeAgain.{IsWhole}
use Rattle.make_lines.specs.MadeAgain.{ItemIsMadeAgainIn, DumpIsMadeAgainIn, KeepsStreamsIn, ThereAndBackIn}
use Rattle.make_lines.specs.Making.{making, messages_of}
use Rattle.make_lines.proofs.ReadBack.{ReadsBack, protocol_back, other_back}
use Rattle.make_lines.proofs.HeaderWords.{Headed, word_bytes, other_length}
use Rattle.make_lines.proofs.ItemLines.{typed_item, typed_length, other_item, other_length_of, headed_of, body_long}
use Rattle.make_lines.proofs.ItemLines.{item_made}
use Rattle.make_lines.proofs.WholeDumps.{sized, after_front, again_more, stream_means}

-- a canonical payload is made again as it is
pub canonical_kept : (s : ℕ) (payload : List ℕ) → IsCanonical s payload → payload_again (Some s) payload ≡ payload
canonical_kept s payload c = ap (λ (b : Bool). cond b (canonical_payload table s (payload_meaning s payload)) payload)
    c.accepted ∙ sym c.canonical

-- ---- one item

module _ (version : Version) (bytes : List ℕ) (word : ℕ) (headed : Headed bytes word) where
  -- the code, the flags and the length are the header
  whole_again : length (drop 8 bytes) ≡ word % 4294967296 → with_payload (take 4 bytes) (drop 8 bytes) ≡ Some bytes
  whole_again long =
      let size = length (drop 8 bytes) in
      ap (λ (b : Bool). option_map (λ h. h ++ drop 8 bytes) (cond b (Some (take 4 bytes ++ to_be_bytes w32 size)) None))
      (lt-ltb size 4294967296 (omega (arith, long)))
      ∙ ap (λ (n : ℕ). Some ((take 4 bytes ++ to_be_bytes w32 n) ++ drop 8 bytes)) long
      ∙ ap (λ (xs : List ℕ). Some (xs ++ drop 8 bytes)) (sym
      (other_length bytes word headed word (word % 4294967296) (omega arith) (omega arith)) ∙ word_bytes bytes word
      headed)
      ∙ ap (λ (xs : List ℕ). Some xs) (take-append-drop 8 bytes)

kept_item : (reading : Reading) (version : Version) (bytes : List ℕ) (item : Item) → IsItem version bytes item
    → IsBytes bytes → IsKeptIn reading
    version item → item_again_in reading version bytes item ≡ Some bytes
kept_item reading version bytes item is small kept =
    ap (item_again_in reading version bytes) is.means ∙ by_type (type_of (front_word bytes / 281474976710656)) refl
    (subst (IsKeptIn reading version) is.means kept)
  where
    headed : Headed bytes (front_word bytes)
    headed = headed_of version bytes item is small

    by_skip : (b : Bool) → skips_unknown_messages version ≡ b → type_of (front_word bytes / 281474976710656) ≡ None →
        item_again_in reading version bytes (cond b (Skipped (front_word bytes / 281474976710656) (drop 8 bytes))
        (Unknown (front_word bytes / 281474976710656))) ≡ Some bytes
    by_skip true e none =
        let long = body_long bytes (front_word bytes % 4294967296)
        (is.whole ∙ ap (λ (n : ℕ). 8 + n) (other_length_of version (front_word bytes) none ∙ ap
        (λ (b : Bool). cond b (front_word bytes % 4294967296) 0) e)) in
        whole_again version bytes (front_word bytes) headed long
    by_skip false e none =
        let eight : length bytes ≡ 8 = omega (
          arith,
          is.whole,
          other_length_of version (front_word bytes) none ∙ ap
              (λ (b : Bool). cond b (front_word bytes % 4294967296) 0) e,
        ) in
        ap (λ (xs : List ℕ). Some xs) (take_all 8 bytes (omega (arith, eight)))

    by_type : (o : Option MessageType) → type_of (front_word bytes / 281474976710656) ≡ o → IsKeptIn reading version
        (item_of version (front_word bytes) (drop 8 bytes)) → item_again_in reading version bytes
        (item_of version (front_word bytes) (drop 8 bytes)) ≡ Some bytes
    by_type None none k = ap (item_again_in reading version bytes)
        (other_item version (front_word bytes) (drop 8 bytes) none) ∙
        by_skip (skips_unknown_messages version) refl none
    by_type (Some ty) typed k =
        let item_is = typed_item version (front_word bytes) (drop 8 bytes) ty typed in
        let same : payload_again_in reading (reading.schema_at version ty) (drop 8 bytes)
        ≡ drop 8 bytes = subst (IsKeptIn reading version) item_is k
        in
        let long = body_long bytes (front_word bytes % 4294967296)
        (is.whole ∙ ap (λ (n : ℕ). 8 + n) (typed_length version (front_word bytes) ty typed)) in
        ap (item_again_in reading version bytes) item_is ∙ ap (with_payload (take 4 bytes)) same
        ∙ whole_again version bytes
        (front_word bytes) headed long

-- ---- a stream

kept_front : (reading : Reading) (version : Version) (front rest : List ℕ) (items : List Item)
    → AreItems version front items → IsBytes
    front → AreKeptIn reading version items → stream_again_in reading version (front ++ rest) items rest
    ≡ Some (front ++ rest)
kept_front reading version front rest [] are small kept = ap (λ (xs : List ℕ). Some (xs ++ rest)) (sym are)
kept_front reading version front rest (item ∷ items) are small kept =
    let first = are.0 in
    let others = are.1 in
    let split : front ≡ first ++ others = are.4 in
    let long : 8 ≤ length first = omega (arith, are.2.whole) in
    let one = kept_item reading version first item are.2 (front_bytes first others (subst IsBytes split small)) kept.0
    in
    let more = kept_front reading version others rest items are.3 (back_bytes first others (subst IsBytes split small))
    kept.1
    in
    let joined : front ++ rest ≡ first ++ (others ++ rest) = ap (λ (xs : List ℕ). xs ++ rest) split ∙ append_assoc first
    others rest in
    let after_is : drop (item_size item) (front ++ rest) ≡ others ++ rest = ap (drop (item_size item)) joined ∙
    after_front (item_size item) first (others ++ rest) (sized version first item are.2) in
    ap₂ (λ (o : Option (List ℕ)) (ys : List ℕ). both o (stream_again_in reading version ys items rest))
    (ap (λ (xs : List ℕ). item_again_in reading version xs item) joined
    ∙ again_more reading version first (others ++ rest) item long ∙
    one) after_is
    ∙ ap (both (Some first)) more ∙ ap (λ (xs : List ℕ). Some xs) (sym joined)

-- ---- the laws

module _ (reading : Reading) (values : EnumValues) (back : ReadsBack reading values) where
  pub kept_streams_in : (version : Version) → KeepsStreamsIn reading version
  kept_streams_in version stream rest items small split kept =
      let then = split.items_then in
      ap (λ (bytes : List ℕ). stream_again_in reading version bytes items rest) then.whole
      ∙ kept_front reading version then.front rest items then.encoded (front_bytes then.front rest
      (subst IsBytes then.whole small)) kept
      ∙ ap (λ (bytes : List ℕ). Some bytes) (sym then.whole)

  pub item_again_made_in : (options : Options) → ItemIsMadeAgainIn reading values options
  item_again_made_in options at bytes item whole early small is =
      (item_made reading values back options at bytes item whole early is small).means

  pub dump_again_made_in : (options : Options) → DumpIsMadeAgainIn reading values options
  dump_again_made_in options stream rest items lines last whole small short split are =
      let then = split.items_then in
      let held = subst IsBytes then.whole small in
      let total : length stream ≡ length then.front + length rest = omega
      (arith, ap length then.whole, length-append then.front rest) in
      let means = stream_means reading values back options whole rest (back_bytes then.front rest held)
      (omega (arith, total)) 0 then.front
      items then.encoded (front_bytes then.front rest held) (omega (arith, total)) in
      let text_is : all_lines (line_of_in reading options) (rest_line options) stream items rest
      ≡ printed_lines (line_of_in reading options) 0
      (then.front ++ rest) items ++ rest_line options (0 + items_size items) rest =
      ap (λ (bytes : List ℕ). all_lines (line_of_in reading options) (rest_line options) bytes items rest) then.whole
      ∙ ap (λ (n : ℕ). printed_lines (line_of_in reading options) 0 (then.front ++ rest) items ++ rest_line options n
      rest)
      (omega arith) in
      means lines last (subst (λ (text : List ℕ). AreLines text lines last) text_is are)
      ∙ ap (λ (bytes : List ℕ). stream_again_in reading options.version bytes items rest) (sym then.whole)

  pub there_and_back_in : (options : Options) → ThereAndBackIn reading values options
  there_and_back_in options report stream dump bytes left after whole small short dumped back =
      let are = subst (λ (text : List ℕ). AreLines text back.lines back.rest) dumped.written_for.1 back.split in
      let means = sym (dump_again_made_in options stream dumped.rest dumped.items back.lines back.rest whole small short
      dumped.split are) ∙ back.stands.1 in (
        means,
        λ kept. let e = sym means ∙ kept_streams_in options.version stream dumped.rest dumped.items small dumped.split
            kept in cc,
      )

-- ---- the messages of the protocol

pub kept_streams : (version : Version) → KeepsStreams version
kept_streams = kept_streams_in protocol enum_values protocol_back

pub item_again_made : (options : Options) → ItemIsMadeAgain options
item_again_made = item_again_made_in protocol enum_values protocol_back

pub dump_again_made : (options : Options) → DumpIsMadeAgain options
dump_again_made = dump_again_made_in protocol enum_values protocol_back

pub there_and_back : (options : Options) → ThereAndBack options
there_and_back = there_and_back_in protocol enum_values protocol_back

-- ---- another table

pub other_there_and_back : (options : Options) → OtherThereAndBack options
other_there_and_back options reading values by = there_and_back_in reading values (other_back reading values by) options
