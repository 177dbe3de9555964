-- Which item a stream begins with, and how streams split.
use Rattle.std.proofs.Common.{◌≡◌, ℕ, ◌+◌, ◌<◌, ◌≤◌, List, [], ◌∷◌, ◌++◌, length, take, drop, Option, Some, None, refl}
use Rattle.std.proofs.Common.{sym, ap, ◌∙◌, arith, subst, append_assoc, append-nil, length-append, zero, suc, inl, inr}
use Rattle.std.proofs.Common.{Bool, true, false, leb, All}
use Rattle.std.specs.Prelude.{◌⊎◌}
use Rattle.std.proofs.lemmas.Bool.{leb-true, leb-false}
use Rattle.std.specs.Int.{w64, from_be_bytes}
use Rattle.std.proofs.lemmas.List.{take-append-le, take-append-drop, length-take-le}
use Rattle.std.proofs.Math.Seq.{take-append_seam, drop-append_seam}
use Rattle.shared_core_base.specs.declared.message_header.MessageHeader.{MessageHeader}
use Rattle.shared_core_base.specs.declared.version.Version.{Version}
use Rattle.shared_core_base.specs.declared.type_kinds.UnknownMessageType.{UnknownMessageType}
use Rattle.shared_core_base.specs.MessageHeader.{header_of, word_code, word_length}
use Rattle.shared_core_base.specs.declared.header.MessageType.{MessageType}
use Rattle.shared_core_base.specs.MessageType.{type_of}
use Rattle.shared_core_stream.specs.declared.encoding.announced.Announced.{Announced}
use Rattle.shared_core_stream.specs.declared.encoding.announced.Announced.TheVariants as announced
use Rattle.shared_core_stream.specs.Borrowed.{Announces, announced_length, kind_announced, item_with}
use Rattle.shared_core_stream.specs.declared.encoding.item.Item.{Item}
use Rattle.shared_core_stream.specs.declared.encoding.item.Item.TheVariants.{Unknown, Skipped}
use Rattle.shared_core_stream.specs.Items.{front_word, skips_unknown_messages, body_length, item_of, IsItem, AreItems}
use Rattle.shared_core_stream.specs.Items.{TakesItem, NoItemBegins, IsItemsThen, SplitsInto, BeginsWithWritten}

take_exact : (n : ℕ) (front rest : List ℕ) → length front ≡ n → take n (front ++ rest) ≡ front
take_exact n front rest e = subst (λ k. take k (front ++ rest) ≡ front) e (take-append_seam front rest)

pub drop_exact : (n : ℕ) (front rest : List ℕ) → length front ≡ n → drop n (front ++ rest) ≡ rest
drop_exact n front rest e = subst (λ k. drop k (front ++ rest) ≡ rest) e (drop-append_seam front rest)

pub front_word_head : (head rest : List ℕ) → length head ≡ 8 → front_word (head ++ rest) ≡ from_be_bytes w64 head
unfolding front_word
front_word_head head rest eight = ap (from_be_bytes w64) (take_exact 8 head rest eight)

-- the word at the front stays, whatever comes after
pub front_word_more : (front more : List ℕ) → 8 ≤ length front → front_word (front ++ more) ≡ front_word front
unfolding front_word
front_word_more front more fits = ap (from_be_bytes w64) (take-append-le 8 front more fits)

module _ (version : Version) where
  -- the item of these bytes, if they are as many as its header says
  takes_front : (head rest : List ℕ) (word size : ℕ) → length head ≡ 8 → word ≡ from_be_bytes w64 head → size ≡
      body_length version word → size ≤ length rest → TakesItem version (head ++ rest)
      (item_of version word (take size rest)) (drop size rest)
  takes_front head rest word size eight reads sized fits =
      let body = take size rest in
      let same : front_word (head ++ body) ≡ word = front_word_head head body eight ∙ sym reads in
      let long : length (head ++ body) ≡ 8 + size = omega (
        arith,
        length-append head body,
        length-take-le size rest
            fits,
      ) in (
        head ++ body,
        record {
          whole = long ∙ ap (λ n. 8 + n) (sized ∙ ap (body_length version) (sym same));
          means = ap (λ w. item_of version w body) (sym same) ∙ ap (item_of version (front_word (head ++ body)))
              (sym (drop_exact 8 head body eight));
        },
        ap (λ l. head ++ l) (sym (take-append-drop size rest)) ∙ sym (append_assoc head body (drop size rest)),
      )

  -- bytes that are fewer than the header at their front says begin with no item
  pub none_short : (bytes : List ℕ) → length bytes < 8 + body_length version (front_word bytes) →
      NoItemBegins version bytes
  none_short bytes short item others (first, is, splits) =
      let fits : 8 ≤ length first = omega (arith, is.whole) in
      let same : front_word bytes ≡ front_word first = ap front_word splits ∙ front_word_more first others fits in
      let long : length first ≤ length bytes = omega (arith, ap length splits, length-append first others) in
      omega (arith, is.whole, ap (body_length version) same)

  -- What a word announces. Only the lemmas right after it unfold how the version decides that.
  pub announces_message : (word : ℕ) (header : MessageHeader) → header_of word ≡ Some header → Announces version word
      (announced.Message header)
  unfolding body_length item_of
  announces_message word header typed = record { length_is = rw typed refl; item_is = λ body. rw typed refl }

  pub announces_unknown : (word : ℕ) (unknown : UnknownMessageType) → header_of word ≡ None → unknown.0 ≡ word_code word
      → skips_unknown_messages version ≡ false → Announces version word (announced.Unknown unknown)
  unfolding body_length item_of
  announces_unknown word unknown untyped is_code alone = record
      { length_is = rw (untyped, alone) refl; item_is = λ body. rw (untyped, alone, is_code) refl }

  pub announces_skipped : (word size : ℕ) (unknown : UnknownMessageType) → header_of word ≡ None → unknown.0 ≡ word_code
      word → skips_unknown_messages version ≡ true → size ≡ word_length word → Announces version word
      (announced.Skipped unknown size)
  unfolding body_length item_of
  announces_skipped word size unknown untyped is_code skips sized = record
      { length_is = rw (untyped, skips) sized; item_is = λ body. rw (untyped, skips, is_code) refl }

  -- the version of an item of an untyped code
  pub unknown_item_version : (bytes : List ℕ) (code : ℕ) → IsItem version bytes (Unknown code) → skips_unknown_messages
      version ≡ false
  unfolding item_of
  unknown_item_version bytes code is = by_header (header_of (front_word bytes)) refl
    where
      by_header : (found : Option MessageHeader) → header_of (front_word bytes) ≡ found → skips_unknown_messages version
          ≡ false
      by_header (Some header) typed = let means = rw typed at is.means in cc
      by_header None untyped = by_version (skips_unknown_messages version) refl
        where
          by_version : (skips : Bool) → skips_unknown_messages version ≡ skips → skips ≡ false
          by_version true skips = let means = rw (untyped, skips) at is.means in cc
          by_version false skips = refl

  pub skipped_item_version : (bytes payload : List ℕ) (code : ℕ) → IsItem version bytes (Skipped code payload) →
      skips_unknown_messages version ≡ true
  unfolding item_of
  skipped_item_version bytes payload code is = by_header (header_of (front_word bytes)) refl
    where
      by_header : (found : Option MessageHeader) → header_of (front_word bytes) ≡ found → skips_unknown_messages version
          ≡ true
      by_header (Some header) typed = let means = rw typed at is.means in cc
      by_header None untyped = by_version (skips_unknown_messages version) refl
        where
          by_version : (skips : Bool) → skips_unknown_messages version ≡ skips → skips ≡ true
          by_version true skips = refl
          by_version false skips = let means = rw (untyped, skips) at is.means in cc

  -- the code of an unknown item is unassigned
  pub unknown_item_is_untyped : (bytes : List ℕ) (code : ℕ) → IsItem version bytes (Unknown code) → type_of code ≡ None
  unfolding item_of header_of
  unknown_item_is_untyped bytes code is = by_type (type_of (word_code (front_word bytes))) refl
    where
      by_type : (found : Option MessageType) → type_of (word_code (front_word bytes)) ≡ found → type_of code ≡ None
      by_type (Some ty) typed = let means = rw typed at is.means in cc
      by_type None untyped = by_version (skips_unknown_messages version) refl
        where
          by_version : (skips : Bool) → skips_unknown_messages version ≡ skips → type_of code ≡ None
          by_version true skips = let means = rw (untyped, skips) at is.means in cc
          by_version false skips = let means = rw (untyped, skips) at is.means in cc

  -- the two cases of bytes whose first eight are `head`
  module _ (bytes head rest : List ℕ) (word : ℕ) (eight : length head ≡ 8) (whole : bytes ≡ head ++ rest)
      (reads : word ≡ from_be_bytes w64 head) where
    pub takes_announced : (announced : Announced) (body after : List ℕ) → Announces version word announced →
        announced_length announced ≤ length rest → body ≡ take (announced_length announced) rest → after ≡ drop
        (announced_length announced) rest → TakesItem version bytes (item_with (kind_announced announced) body) after
    takes_announced announced body after says fits is_body is_after =
        let found = takes_front head rest word (announced_length announced) eight reads says.length_is fits in
        rw (whole, says.item_is body, is_body, is_after) found

    pub none_partial : (announced : Announced) → Announces version word announced → length rest < announced_length
        announced → NoItemBegins version bytes
    none_partial announced says short =
        none_short bytes (omega (
          arith,
          ap length whole,
          length-append head rest,
          ap (body_length version)
              (ap front_word whole ∙ front_word_head head rest eight ∙ sym reads),
          says.length_is,
        ))

  -- an item takes eight bytes at least
  pub item_is_long : (old new : List ℕ) (item : Item) → TakesItem version old item new → length new + 8 ≤ length old
  item_is_long old new item (first, is, splits) = omega (arith, is.whole, ap length splits, length-append first new)

  -- no item's bytes begin another's
  pub one_item : (a b x y : List ℕ) (i j : Item) → IsItem version a i → IsItem version b j → a ++ x ≡ b ++ y → (a ≡ b) ×
      (i ≡ j) × (x ≡ y)
  one_item a b x y i j is other joined =
      let words : front_word a ≡ front_word b =
      sym (front_word_more a x (omega (arith, is.whole))) ∙ ap front_word joined ∙ front_word_more b y
      (omega (arith, other.whole)) in
      let sizes : length a ≡ length b = omega (arith, is.whole, other.whole, ap (body_length version) words) in
      let same : a ≡ b = sym (take_exact (length a) a x refl) ∙ ap (take (length a)) joined ∙ take_exact (length a) b y
      (sym sizes) in
      let rests : x ≡ y = sym (drop_exact (length a) a x refl) ∙ ap (drop (length a)) joined ∙ drop_exact (length a) b y
      (sym sizes) in
      (same, is.means ∙ ap (λ l. item_of version (front_word l) (drop 8 l)) same ∙ sym other.means, rests)

  -- an item at the front stays there if bytes are appended
  pub takes_more : (old new more : List ℕ) (item : Item) → TakesItem version old item new → TakesItem version
      (old ++ more) item (new ++ more)
  takes_more old new more item taken = (taken.0, taken.1, ap (λ l. l ++ more) taken.2 ∙ append_assoc taken.0 new more)

  pub nothing_begins_with_none : NoItemBegins version []
  nothing_begins_with_none item others (first, is, splits) = omega
      (arith, is.whole, ap length splits, length-append first others)

  -- ---- items one after the other

  AreItems_join : (front back : List ℕ) (items others : List Item) → AreItems version front items → AreItems version
      back others → AreItems version (front ++ back) (items ++ others)
  AreItems_join front back [] others encoded next = let P : List ℕ → Type 0 = λ l. AreItems version (l ++ back) others
      in subst P (sym encoded) next
  AreItems_join front back (i ∷ items) others encoded next = (
    encoded.0,
    encoded.1 ++ back,
    encoded.2,
    AreItems_join encoded.1 back items others encoded.3 next,
    ap (λ l. l ++ back) encoded.4 ∙ append_assoc encoded.0 encoded.1 back,
  )

  pub then_join : (stream mid rest : List ℕ) (items others : List Item) → IsItemsThen version stream items mid →
      IsItemsThen version mid others rest → IsItemsThen version stream (items ++ others) rest
  then_join stream mid rest items others first second = record {
    front = first.front ++ second.front;
    encoded = AreItems_join first.front second.front items others first.encoded second.encoded;
    whole = first.whole ∙ ap (λ l. first.front ++ l) second.whole ∙ sym (append_assoc first.front second.front rest);
  }

  pub then_start : (stream : List ℕ) → IsItemsThen version stream [] stream
  then_start stream = record { front = []; encoded = refl; whole = refl }

  pub then_one : (old new : List ℕ) (item : Item) → TakesItem version old item new → IsItemsThen version old (item ∷ [])
      new
  then_one old new item taken = record {
    front = taken.0;
    encoded =
        (taken.0, [], taken.1, refl, sym (append-nil taken.0));
    whole = taken.2;
  }

  pub then_takes : (stream old new : List ℕ) (items : List Item) (item : Item) → IsItemsThen version stream items old →
      TakesItem version old item new → IsItemsThen version stream (items ++ item ∷ []) new
  then_takes stream old new items item before taken = then_join stream old new items (item ∷ []) before
      (then_one old new item taken)

  pub then_more : (stream rest chunk : List ℕ) (items : List Item) → IsItemsThen version stream items rest → IsItemsThen
      version (stream ++ chunk) items (rest ++ chunk)
  then_more stream rest chunk items before = record {
    front = before.front;
    encoded = before.encoded;
    whole = ap (λ l. l ++ chunk) before.whole ∙ append_assoc before.front rest chunk;
  }

  -- ---- how a stream splits

  -- whatever items the stream begins with, the items that it splits into begin with them
  begins : (front rest left right : List ℕ) (items written : List Item) → AreItems version front items → AreItems
      version left written → NoItemBegins version rest → front ++ rest ≡ left ++ right → (others : List Item) ×
      (items ≡ written ++ others)
  begins front rest left right items [] encoded begun no_more joined = (items, refl)
  begins front rest left right [] (w ∷ written) encoded begun no_more joined =
      absurd (no_more w (begun.1 ++ right) (
        begun.0,
        begun.2,
        ap (λ l. l ++ rest) (sym encoded) ∙ joined ∙ ap (λ l. l ++ right) begun.4 ∙ append_assoc
            begun.0 begun.1 right,
      ))
  begins front rest left right (i ∷ items) (w ∷ written) encoded begun no_more joined =
      let heads = one_item encoded.0 begun.0 (encoded.1 ++ rest) (begun.1 ++ right) i w encoded.2 begun.2
      (sym (append_assoc encoded.0 encoded.1 rest) ∙ ap (λ l. l ++ rest) (sym encoded.4) ∙ joined ∙ ap (λ l. l ++ right)
      begun.4 ∙ append_assoc begun.0 begun.1 right) in
      let tails = begins encoded.1 rest begun.1 right items written encoded.3 begun.3 no_more heads.2 in
      (tails.0, ap (λ l. i ∷ l) tails.1 ∙ ap (λ k. k ∷ (written ++ tails.0)) heads.1)

  pub split_begins : (stream rest : List ℕ) (items : List Item) → SplitsInto version stream items rest →
      BeginsWithWritten version stream items
  split_begins stream rest items split written right front =
      begins split.items_then.front rest front.front right items written split.items_then.encoded front.encoded
      split.no_more (sym split.items_then.whole ∙ front.whole)

  -- both lists are the items up to the first one that has not the property, or to the end
  pub same_split : (P : Item → Type 0) (front rest front' rest' : List ℕ) (items items' : List Item) → AreItems version
      front items → AreItems version front' items' → All P items → All P items' →
      ((item : Item) (others : List ℕ) → TakesItem version rest item others → P item → ⊥) →
      ((item : Item) (others : List ℕ) → TakesItem version rest' item others → P item → ⊥) → front ++ rest ≡ front' ++
      rest' → (items ≡ items') × (rest ≡ rest')
  same_split P front rest front' rest' [] [] encoded encoded' all all' none none' joined =
      (refl, ap (λ l. l ++ rest) (sym encoded) ∙ joined ∙ ap (λ l. l ++ rest') encoded')
  same_split P front rest front' rest' [] (j ∷ items') encoded encoded' all all' none none' joined =
      absurd (none j (encoded'.1 ++ rest') (
        encoded'.0,
        encoded'.2,
        ap (λ l. l ++ rest) (sym encoded) ∙ joined ∙ ap (λ l. l ++ rest') encoded'.4 ∙
            append_assoc encoded'.0 encoded'.1 rest',
      ) (all' 0 j (omega arith)))
  same_split P front rest front' rest' (i ∷ items) [] encoded encoded' all all' none none' joined =
      absurd (none' i (encoded.1 ++ rest) (
        encoded.0,
        encoded.2,
        ap (λ l. l ++ rest') (sym encoded') ∙ sym joined ∙ ap (λ l. l ++ rest) encoded.4 ∙
            append_assoc encoded.0 encoded.1 rest,
      ) (all 0 i (omega arith)))
  same_split P front rest front' rest' (i ∷ items) (j ∷ items') encoded encoded' all all' none none' joined =
      let heads = one_item encoded.0 encoded'.0 (encoded.1 ++ rest) (encoded'.1 ++ rest') i j encoded.2 encoded'.2
      (sym (append_assoc encoded.0 encoded.1 rest) ∙ ap (λ l. l ++ rest) (sym encoded.4) ∙ joined ∙ ap (λ l. l ++ rest')
      encoded'.4 ∙ append_assoc encoded'.0 encoded'.1 rest') in
      let tails = same_split P encoded.1 rest encoded'.1 rest' items items' encoded.3 encoded'.3
      (λ k d below. all (suc k) d (omega (arith, below))) (λ k d below. all' (suc k) d (omega (arith, below)))
      none none'
      heads.2 in
      (ap (λ l. i ∷ l) tails.0 ∙ ap (λ k. k ∷ items') heads.1, tails.1)

  -- a stream splits in one way
  pub split_is_unique : (stream : List ℕ) (items others : List Item) (rest left : List ℕ) → SplitsInto version stream
      items rest → SplitsInto version stream others left → (items ≡ others) × (rest ≡ left)
  split_is_unique stream items others rest left one other =
      same_split (λ _. Unit {0}) one.items_then.front rest other.items_then.front left items others
      one.items_then.encoded other.items_then.encoded (λ k d below. tt) (λ k d below. tt)
      (λ i r taken _. one.no_more i r taken) (λ i r taken _. other.no_more i r taken)
      (sym one.items_then.whole ∙ other.items_then.whole)

  -- bytes that are as many as the header at their front says begin with an item
  pub front_item_of : (bytes : List ℕ) → 8 + body_length version (front_word bytes) ≤ length bytes → (item : Item) ×
      (rest : List ℕ) × TakesItem version bytes item rest
  front_item_of bytes whole =
      let head = take 8 bytes in
      let eight : length head ≡ 8 = length-take-le 8 bytes (omega (arith, whole)) in
      let size = body_length version (from_be_bytes w64 head) in
      let word : front_word bytes ≡ from_be_bytes w64 head = ap front_word (sym (take-append-drop 8 bytes)) ∙
      front_word_head head (drop 8 bytes) eight in
      let long : length bytes ≡ 8 + length (drop 8 bytes) = ap length (sym (take-append-drop 8 bytes)) ∙
      length-append head (drop 8 bytes) ∙ ap (λ n. n + length (drop 8 bytes)) eight in
      let found = takes_front head (drop 8 bytes) (from_be_bytes w64 head) size eight refl refl
      (omega (arith, whole, long, ap (body_length version) word)) in
      (_, _, rw (take-append-drop 8 bytes) at found)

  -- the bytes begin with an item, or with none
  front_item : (bytes : List ℕ) → ((item : Item) × (rest : List ℕ) × TakesItem version bytes item rest) ⊎ NoItemBegins
      version bytes
  front_item bytes =
      (elim (leb (8 + body_length version (front_word bytes)) (length bytes)) as
      (λ b. leb (8 + body_length version (front_word bytes)) (length bytes) ≡ b →
      ((item : Item) × (rest : List ℕ) × TakesItem version bytes item rest) ⊎ NoItemBegins version bytes) [
        | true ↦ λ is. inl (front_item_of bytes (leb-true _ _ is))
        | false ↦ λ is. inr (none_short bytes (leb-false _ _ is))
      ]) refl

  shorter : (old new : List ℕ) (item : Item) → TakesItem version old item new → length new < length old
  shorter old new item (first, is, splits) = omega (arith, is.whole, ap length splits, length-append first new)

  Split : List ℕ → Type 0
  Split stream = (items : List Item) × (rest : List ℕ) × SplitsInto version stream items rest

  split_none : (stream : List ℕ) → NoItemBegins version stream → Split stream
  unfolding Split
  split_none stream none = ([], stream, record { items_then = then_start stream; no_more = none })

  split_next : (stream rest : List ℕ) (item : Item) → TakesItem version stream item rest → Split rest → Split stream
  unfolding Split
  split_next stream rest item taken (items, left, split) = (
    item ∷ items,
    left,
    record {
      items_then = then_join stream rest left (item ∷ []) items (then_one stream rest item taken) split.items_then;
      no_more = split.no_more;
    },
  )

  split_within : (fuel : ℕ) (stream : List ℕ) → length stream ≤ fuel → Split stream
  split_within zero stream fits =
      elim (front_item stream) as (λ _. Split stream) [
        | inl found ↦ absurd (omega (arith, shorter stream found.1 found.0 found.2, fits))
        | inr none ↦ split_none stream none
      ]
  split_within (suc fuel) stream fits =
      elim (front_item stream) as (λ _. Split stream) [
        | inl found ↦ split_next stream found.1 found.0 found.2
            (split_within fuel found.1 (omega (arith, shorter stream found.1 found.0 found.2, fits)))
        | inr none ↦ split_none stream none
      ]

  -- every stream splits
  pub split_of : (stream : List ℕ) → (items : List Item) × (rest : List ℕ) × SplitsInto version stream items rest
  unfolding Split
  split_of stream = split_within (length stream) stream (omega arith)
