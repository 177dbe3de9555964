-- A redacted stream splits as the stream does.
use Rattle.std.proofs.Common.{◌≡◌, ℕ, suc, ◌+◌, ◌-◌, ◌<◌, ◌≤◌, List, [], ◌∷◌, ◌++◌, length, take, drop, map, Bool}
use Rattle.std.proofs.Common.{true, false, Option, Some, None, refl, sym, ap, ◌∙◌, subst, arith, append_assoc}
use Rattle.std.proofs.Common.{length-append, ⊎_elim, inl, inr}
use Rattle.std.proofs.lemmas.Bool.{ltb-true, ltb-false}
use Rattle.std.specs.Prelude.{◌⊎◌, nat_lt, if◌then◌else◌}
use Rattle.std.specs.Int.{w64, from_be_bytes, to_be_bytes}
use Rattle.std.proofs.lemmas.Nat.{be_bytes_8}
use Rattle.std.proofs.lemmas.List.{get_or_append_left, get_or_past, length-drop, length-replicate, length-take-le}
use Rattle.std.proofs.lemmas.List.{take-append-drop}
use Rattle.shared_core_base.specs.declared.message_header.MessageHeader.{MessageHeader}
use Rattle.shared_core_base.specs.declared.version.Version.{Version}
use Rattle.shared_core_base.specs.MessageHeader.{header_of}
use Rattle.shared_core_stream.specs.declared.encoding.item.Item.{Item}
use Rattle.shared_core_stream.specs.declared.encoding.item.Item.TheVariants.{Message, Unknown, Skipped}
use Rattle.shared_core_stream.specs.Items.{AreItems, IsItem, NoItemBegins, SplitsInto, skips_unknown_messages}
use Rattle.shared_core_stream.specs.Items.{body_length, front_word, item_of}
use Rattle.shared_core_stream.proofs.Items.{drop_exact, front_item_of, front_word_head, front_word_more, none_short}
use Rattle.shared_core_stream.proofs.Limits.{item_length}
use Rattle.stream_lines.specs.Printing.{item_size, lines}
use Rattle.stream_redaction.specs.declared.key.Key.{Key}
use Rattle.stream_redaction.specs.Streams.{AreBytes, IsAlike, item_redacted, redacted_body, redacted_item}
use Rattle.stream_redaction.specs.Streams.{redacted_rest, stream_redacted}
use Rattle.stream_redaction.specs.Replacement.{zeros}
use Rattle.stream_redaction.proofs.Accepted.{length_payload}
use Rattle.stream_redaction.proofs.Kept.{length_replacement}

-- ---- bytes

below : (a b : ℕ) → (a < b) ⊎ (b ≤ a)
below a b = by_test (nat_lt a b) refl
  where
    by_test : (is_below : Bool) → nat_lt a b ≡ is_below → (a < b) ⊎ (b ≤ a)
    by_test true h = inl (ltb-true a b h)
    by_test false h = inr (ltb-false a b h)

first_bytes : (front rest : List ℕ) → AreBytes (front ++ rest) → AreBytes front
first_bytes front rest small i =
    ⊎_elim (λ within. subst (λ n. n < 256) (get_or_append_left front rest 0 i within) (small i))
    (λ past. omega (arith, get_or_past front i 0 past)) (below i (length front))

last_bytes : (front rest : List ℕ) → AreBytes (front ++ rest) → AreBytes rest
last_bytes [] rest small = small
last_bytes (byte ∷ front) rest small = last_bytes front rest (λ i. small (suc i))

-- ---- one item

module _ (key : Key) (version : Version) where
  -- what the item of a word becomes is the item of that word
  redacted_means : (word : ℕ) (body : List ℕ) → item_redacted key version (item_of version word body)
      ≡ item_of version word (redacted_body key version (item_of version word body))
  unfolding item_of
  redacted_means word body = by_header (header_of word) refl
    where
      by_header : (found : Option MessageHeader) → header_of word ≡ found
          → item_redacted key version (item_of version word body)
          ≡ item_of version word (redacted_body key version (item_of version word body))
      by_header (Some header) typed = rw typed refl
      by_header None untyped = by_version (skips_unknown_messages version) refl
        where
          by_version : (skips : Bool) → skips_unknown_messages version ≡ skips
              → item_redacted key version (item_of version word body)
              ≡ item_of version word (redacted_body key version (item_of version word body))
          by_version true h = rw (untyped, h) refl
          by_version false h = rw (untyped, h) refl

  -- and as long
  redacted_long : (word : ℕ) (body : List ℕ) → length body ≡ body_length version word
      → length (redacted_body key version (item_of version word body)) ≡ body_length version word
  unfolding item_of body_length
  redacted_long word body long = by_header (header_of word) refl
    where
      by_header : (found : Option MessageHeader) → header_of word ≡ found
          → length (redacted_body key version (item_of version word body)) ≡ body_length version word
      by_header (Some header) typed =
          rw typed (length_payload key version header.ty body ∙ (rw typed at long))
      by_header None untyped = by_version (skips_unknown_messages version) refl
        where
          by_version : (skips : Bool) → skips_unknown_messages version ≡ skips
              → length (redacted_body key version (item_of version word body)) ≡ body_length version word
          by_version true h = rw (untyped, h) (length_replacement key body ∙ (rw (untyped, h) at long))
          by_version false h = rw (untyped, h) refl

  -- a header and what the bytes after it become are what the item becomes
  of_head : (head body : List ℕ) (item : Item) (word : ℕ) → length head ≡ 8 → word ≡ from_be_bytes w64 head
      → length body ≡ body_length version word → item ≡ item_of version word body
      → IsItem version (head ++ redacted_body key version item) (item_redacted key version item)
  of_head head body item word eight reads long means =
      let after = redacted_body key version item in
      let same : front_word (head ++ after) ≡ word = front_word_head head after eight ∙ sym reads in
      let size : length after ≡ body_length version word =
      ap (λ (i : Item). length (redacted_body key version i)) means ∙ redacted_long word body long in
      record {
        whole = omega (arith, length-append head after, eight, size, ap (body_length version) same);
        means =
            ap (item_redacted key version) means ∙ redacted_means word body
            ∙ ap (λ (i : Item). item_of version word (redacted_body key version i)) (sym means)
            ∙ ap (λ w. item_of version w after) (sym same)
            ∙ ap (item_of version (front_word (head ++ after))) (sym (drop_exact 8 head after eight));
      }

  item_moved : (first : List ℕ) (item : Item) (word : ℕ) → AreBytes first → IsItem version first item
      → word ≡ front_word first
      → IsItem version (redacted_item key version word item) (item_redacted key version item)
  unfolding front_word
  item_moved first item word small is reads =
      let head = take 8 first in
      let eight : length head ≡ 8 = length-take-le 8 first (omega (arith, is.whole)) in
      let joined : head ++ drop 8 first ≡ first = take-append-drop 8 first in
      let written : to_be_bytes w64 word ≡ head =
      be_bytes_8 head word eight (first_bytes head (drop 8 first) (subst AreBytes (sym joined) small)) reads in
      let long : length (drop 8 first) ≡ body_length version word =
      omega (arith, is.whole, length-drop 8 first, ap (body_length version) reads) in
      let means : item ≡ item_of version word (drop 8 first) =
      is.means ∙ ap (λ w. item_of version w (drop 8 first)) (sym reads) in
      subst (λ (b : List ℕ). IsItem version (b ++ redacted_body key version item) (item_redacted key version item))
      (sym written) (of_head head (drop 8 first) item word eight reads long means)

  -- ---- items one after the other

  items_moved : (at : ℕ) (stream front rest : List ℕ) (items : List Item) → AreBytes stream
      → AreItems version front items → stream ≡ front ++ rest
      → AreItems version (lines (λ at. redacted_item key version) at stream items)
      (map (item_redacted key version) items)
  items_moved at stream front rest [] small encoded whole = refl
  items_moved at stream front rest (item ∷ items) small (first, others, is, after, joined) whole =
      let split : stream ≡ first ++ (others ++ rest) =
      whole ∙ ap (λ (l : List ℕ). l ++ rest) joined ∙ append_assoc first others rest in
      let small_both = subst AreBytes split small in
      let size : length first ≡ item_size item = omega (arith, is.whole, item_length version first item is) in
      let word : front_word stream ≡ front_word first =
      ap front_word split ∙ front_word_more first (others ++ rest) (omega (arith, is.whole)) in
      let left : drop (item_size item) stream ≡ others ++ rest =
      ap (drop (item_size item)) split ∙ drop_exact (item_size item) first (others ++ rest) size in (
        redacted_item key version (front_word stream) item,
        lines (λ at. redacted_item key version) (at + item_size item) (drop (item_size item) stream) items,
        item_moved first item (front_word stream) (first_bytes first (others ++ rest) small_both) is word,
        items_moved (at + item_size item) (drop (item_size item) stream) others rest items
            (subst AreBytes (sym left) (last_bytes first (others ++ rest) small_both)) after left,
        refl,
      )

  -- ---- trailing bytes

  -- bytes that begin with no item are fewer than the header at their front says
  short_of : (rest : List ℕ) → NoItemBegins version rest → length rest < 8 + body_length version (front_word rest)
  short_of rest none =
      ⊎_elim (λ short. short)
      (λ whole. let found = front_item_of version rest whole in absurd (none found.0 found.1 found.2))
      (below (length rest) (8 + body_length version (front_word rest)))

  none_moved : (rest : List ℕ) → NoItemBegins version rest → NoItemBegins version (redacted_rest rest)
  unfolding front_word
  none_moved rest none = by_size (nat_lt (length rest) 8) refl
    where
      by_size : (b : Bool) → nat_lt (length rest) 8 ≡ b
          → NoItemBegins version (if b then zeros (length rest) else take 8 rest ++ zeros (length rest - 8))
      by_size true h =
          none_short version (zeros (length rest)) (omega (
            arith,
            length-replicate {A = ℕ} (length rest) 0,
            ltb-true (length rest) 8 h,
          ))
      by_size false h =
          let head = take 8 rest in
          let after = zeros (length rest - 8) in
          let eight : length head ≡ 8 = length-take-le 8 rest (ltb-false (length rest) 8 h) in
          let same : front_word (head ++ after) ≡ front_word rest = front_word_head head after eight in
          none_short version (head ++ after) (omega (
            arith,
            ltb-false (length rest) 8 h,
            short_of rest none,
            length-append head after,
            eight,
            length-replicate {A = ℕ} (length rest - 8) 0,
            ap (body_length version) same,
          ))

  pub splits_alike : (stream rest : List ℕ) (items : List Item) → AreBytes stream → SplitsInto version stream items rest
      → SplitsInto version (stream_redacted key version stream items rest) (map (item_redacted key version) items)
      (redacted_rest rest)
  splits_alike stream rest items small split = record {
    items_then = record {
      front = lines (λ at. redacted_item key version) 0 stream items;
      encoded = items_moved 0 stream split.items_then.front rest items small split.items_then.encoded
          split.items_then.whole;
      whole = refl;
    };
    no_more = none_moved rest split.no_more;
  }

  pub alike : (item : Item) → IsAlike item (item_redacted key version item)
  alike (Message message) = (refl, length_payload key version message.header.ty message.payload)
  alike (Unknown code) = refl
  alike (Skipped code payload) = (refl, length_replacement key payload)
