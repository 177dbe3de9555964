-- Items that are found at the front of bytes, and their numbers.
use Rattle.std.proofs.Common.{◌≡◌, ℕ, ◌+◌, ◌-◌, ◌/◌, ◌^◌, ◌≤◌, Bool, true, false, List, [], ◌∷◌, ◌++◌, length, take}
use Rattle.std.proofs.Common.{drop, Option, Some, None, refl, sym, ap, ◌∙◌, arith, length-append, length-drop}
use Rattle.std.proofs.lemmas.List.{length-take-le}
use Rattle.shared_core_base.specs.declared.message_header.MessageHeader.{MessageHeader}
use Rattle.shared_core_base.specs.declared.header.MessageType.{MessageType}
use Rattle.shared_core_base.specs.declared.version.Version.{Version}
use Rattle.shared_core_base.specs.MessageHeader.{header_of, word_code}
use Rattle.shared_core_base.specs.MessageType.{type_of}
use Rattle.shared_core_base.proofs.Types.{code_of_type}
use Rattle.shared_core_stream.specs.declared.encoding.item_ref.ItemRef.{ItemRef}
use Rattle.shared_core_stream.specs.Borrowed.{IsAtFront, IsMissing, item_borrowed, missing_bytes}
use Rattle.shared_core_stream.specs.Items.{front_word, skips_unknown_messages, body_length, item_of}
use Rattle.shared_core_stream.proofs.Items.{front_word_more}
use Rattle.journal_c_api.specs.Outcomes.{written_over}
use Rattle.journal_c_api.specs.Items.{item_kind, item_code, item_ack, item_payload, item_numbers, FindsItem}
use Rattle.journal_c_api.specs.Items.{borrowed_entry, entry_of}

-- if bytes are missing, nothing is written
pub item_missing : (version : Version) (bytes old : List ℕ) (missing : ℕ) → IsMissing version bytes missing → FindsItem
    version bytes old old missing
item_missing version bytes old missing are = record {
  counted = are.counted;
  needed = are.needed;
  found = λ none. absurd (omega (arith, are.some));
  kept = λ some. refl;
}

-- all bytes after the first eight are the payload
payload_fills : (version : Version) (word : ℕ) (body : List ℕ) → length body ≡ body_length version word → length
    (item_payload (item_of version word body)) ≡ length body
unfolding item_of body_length
payload_fills version word body long = by_header (header_of word) refl
  where
    by_header : (found : Option MessageHeader) → header_of word ≡ found → length
        (item_payload (item_of version word body)) ≡ length body
    by_header (Some header) typed = rw typed refl
    by_header None untyped = by_version (skips_unknown_messages version) refl
      where
        by_version : (skips : Bool) → skips_unknown_messages version ≡ skips → length
            (item_payload (item_of version word body)) ≡ length body
        by_version true skips = rw (untyped, skips) refl
        by_version false skips = let none = rw (untyped, skips) at long in rw (untyped, skips) (sym none)

-- the code of an item is that of its word
item_has_code : (version : Version) (word : ℕ) (body : List ℕ) → item_code (item_of version word body) ≡ word_code word
unfolding item_of header_of
item_has_code version word body = by_type (type_of (word_code word)) refl
  where
    by_type : (found : Option MessageType) → type_of (word_code word) ≡ found → item_code (item_of version word body)
        ≡ word_code word
    by_type (Some ty) typed = rw typed (code_of_type (word_code word) ty typed)
    by_type None untyped = by_version (skips_unknown_messages version) refl
      where
        by_version : (skips : Bool) → skips_unknown_messages version ≡ skips → item_code (item_of version word body)
            ≡ word_code word
        by_version true skips = rw (untyped, skips) refl
        by_version false skips = rw (untyped, skips) refl

-- the numbers that are written are those of the item at the front
module _ (version : Version) (bytes : List ℕ) (item : ItemRef) (rest : List ℕ) (is : IsAtFront version bytes item rest)
  where
    first : List ℕ
    first = is.taken.0

    bytes_are : length bytes ≡ length first + length rest
    unfolding first
    bytes_are = ap length is.taken.2 ∙ length-append is.taken.0 rest

    whole : length first ≡ 8 + body_length version (front_word first)
    unfolding first
    whole = is.taken.1.whole

    size_is : length first ≡ 8 + length item.payload.now
    size_is =
        let eight : length (take 8 bytes) ≡ 8 = length-take-le 8 bytes (omega (arith, bytes_are, whole)) in
        omega (
          arith,
          bytes_are,
          eight,
          ap length is.lies,
          length-append (take 8 bytes) (item.payload.now ++ rest),
          length-append item.payload.now rest,
        )

    place_is : length first - length (item_payload (item_borrowed item)) ≡ 8
    unfolding first
    place_is =
        let long : length (drop 8 is.taken.0) ≡ body_length version (front_word is.taken.0) = omega
        (arith, length-drop 8 is.taken.0, is.taken.1.whole) in
        let filled : length (item_payload (item_borrowed item)) ≡ length (drop 8 is.taken.0) = ap
        (λ i. length (item_payload i)) is.taken.1.means ∙ payload_fills version (front_word is.taken.0)
        (drop 8 is.taken.0) long in
        omega (arith, filled, long, is.taken.1.whole)

    same : front_word bytes ≡ front_word is.taken.0
    same = ap front_word is.taken.2 ∙ front_word_more is.taken.0 rest (omega (arith, is.taken.1.whole))

    -- the word of the item at the front has its code
    pub code_is : item_code (item_borrowed item) ≡ item.word / 2 ^ 48
    code_is =
        ap item_code is.taken.1.means ∙ item_has_code version (front_word is.taken.0) (drop 8 is.taken.0)
        ∙ ap word_code (sym (is.word_is ∙ same))

    none_missing : 0 ≡ missing_bytes version bytes
    unfolding first
    none_missing =
        let fits : 8 + body_length version (front_word bytes) ≤ length bytes = omega
        (arith, ap (body_length version) same, bytes_are, whole) in
        grind (arith, fits)

    pub item_found : (old new : List ℕ) → new ≡ written_over (item_kind (item_borrowed item) ∷ item.word ∷ item_code
        (item_borrowed item) ∷ item_ack (item_borrowed item) ∷ (8 + length item.payload.now) ∷ 8 ∷ []) old → FindsItem
        version bytes old new 0
    unfolding first
    item_found old new written =
        let numbers : item_kind (item_borrowed item) ∷ item.word ∷ item_code (item_borrowed item) ∷ item_ack
        (item_borrowed item) ∷ (8 + length item.payload.now) ∷ 8 ∷ [] ≡ item_numbers (front_word bytes)
        (length is.taken.0) (item_borrowed item) =
        rw (is.word_is, place_is, ← size_is) refl in
        record {
          counted = none_missing;
          needed = λ more few. absurd (omega (arith, few));
          found = λ none. (
            item_borrowed item,
            is.taken.0,
            rest,
            is.taken.1,
            is.taken.2,
            written ∙ ap
                (λ l. written_over l old) numbers,
          );
          kept = λ missing. absurd (omega (arith, missing));
        }

    -- the entry of the borrowed item is that of the item at the front
    pub entry_is : borrowed_entry item ≡ entry_of (front_word bytes) (length is.taken.0) (item_borrowed item)
    unfolding first
    entry_is = rw (is.word_is, place_is, ← size_is) refl
