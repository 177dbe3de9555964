-- Items within a limit.
use Rattle.std.proofs.Common.{◌≡◌, ℕ, ◌+◌, ◌-◌, ◌<◌, ◌≤◌, List, ◌++◌, length, take, drop, refl, sym, ap, ◌∙◌}
use Rattle.std.proofs.Common.{Option, Some, None, Ok, Err, Bool, true, false, arith, subst, length-append}
use Rattle.std.proofs.Common.{length-drop, leb, nat_lt, ◌^◌, [], min}
use Rattle.std.specs.Prelude.{IfNone, IfSome}
use Rattle.std.specs.Int.{w64, from_be_bytes}
use Rattle.std.proofs.Math.Seq.{drop-append_seam}
use Rattle.std.proofs.lemmas.List.{length-take-le}
use Rattle.std.proofs.lemmas.Bool.{leb-true, leb-false, lt-ltb, le-ltb, ltb-false, ltb-true}
use Rattle.shared_core_base.specs.declared.message_header.MessageHeader.{MessageHeader}
use Rattle.shared_core_base.specs.declared.version.Version.{Version}
use Rattle.shared_core_base.specs.MessageHeader.{header_of, word_code}
use Rattle.shared_core_stream.specs.declared.encoding.item.Item.{Item}
use Rattle.shared_core_stream.specs.declared.encoding.limit_error.MessageTooLong.{MessageTooLong}
use Rattle.shared_core_stream.specs.declared.encoding.error.ItemError.TheVariants as error
use Rattle.shared_core_stream.specs.Borrowed.{Announces, IsAtFront, announced_length, item_with, kind_announced}
use Rattle.shared_core_stream.specs.declared.encoding.announced.Announced.{Announced}
use Rattle.shared_core_stream.specs.declared.encoding.item_ref.ItemRef.{ItemRef}
use Rattle.shared_core_stream.specs.Unread.{Unread, held_bytes, offset_of}
use Rattle.shared_core_stream.specs.Items.{HasPayload, PayloadIsNext, IsItem, TakesItem, NoItemBegins, body_length}
use Rattle.shared_core_stream.specs.Items.{front_word, item_of, skips_unknown_messages}
use Rattle.shared_core_stream.specs.Limits.{ReturnsWithin, offset_after, rejection}
use Rattle.shared_core_stream.specs.Limits.{TakesWithin, payload_length, too_long_at, too_long_by}
use Rattle.shared_core_stream.proofs.Items.{front_item_of, front_word_head, front_word_more, item_is_long}
use Rattle.shared_core_stream.proofs.Items.{none_partial, takes_announced}

-- a word that announces no longer payload, and one that does
pub within_limit : (version : Version) (limit offset word : ℕ) → body_length version word ≤ limit → too_long_by version
    limit offset word ≡ None
unfolding too_long_by
within_limit version limit offset word fits = rw (le-ltb limit (body_length version word) fits) refl

pub past_limit : (version : Version) (limit offset word : ℕ) → limit < body_length version word → too_long_by version
    limit offset word ≡ Some (record
    { code = word_code word; length = body_length version word; limit = limit; offset = offset })
unfolding too_long_by
past_limit version limit offset word past = rw (lt-ltb limit (body_length version word) past) refl

-- a word that is not rejected announces a payload within the limit
word_within : (version : Version) (limit offset word : ℕ) → too_long_by version limit offset word ≡ None → body_length
    version word ≤ limit
unfolding too_long_by
word_within version limit offset word none = by_test (nat_lt limit (body_length version word)) refl
  where
    by_test : (past : Bool) → nat_lt limit (body_length version word) ≡ past → body_length version word ≤ limit
    by_test true past = let some = rw past at none in cc
    by_test false past = ltb-false limit (body_length version word) past

-- bytes of a whole header that are not rejected
pub front_within : (version : Version) (limit offset : ℕ) (bytes : List ℕ) → 8 ≤ length bytes → too_long_at version
    limit offset bytes ≡ None → body_length version (front_word bytes) ≤ limit
front_within version limit offset bytes whole none =
    word_within version limit offset (front_word bytes) (rw (le-ltb (length bytes) 8 whole) at none)

-- the payload of an item has as many bytes as its word says
pub item_length : (version : Version) (bytes : List ℕ) (item : Item) → IsItem version bytes item → payload_length item ≡
    body_length version (front_word bytes)
unfolding item_of body_length
item_length version bytes item is = by_header (header_of (front_word bytes)) refl
  where
    after : length (drop 8 bytes) ≡ body_length version (front_word bytes)
    after = omega (arith, is.whole, length-drop 8 bytes)

    by_header : (found : Option MessageHeader) → header_of (front_word bytes) ≡ found → payload_length item ≡
        body_length version (front_word bytes)
    by_header (Some header) typed =
        let means = rw typed at is.means in
        ap payload_length means ∙ after
    by_header None untyped = by_version (skips_unknown_messages version) refl
      where
        by_version : (skips : Bool) → skips_unknown_messages version ≡ skips → payload_length item ≡ body_length version
            (front_word bytes)
        by_version true skips =
            let means = rw (untyped, skips) at is.means in
            ap payload_length means ∙ after
        by_version false skips =
            let means = rw (untyped, skips) at is.means in
            ap payload_length means ∙ rw (untyped, skips) refl

pub taken_length : (version : Version) (old new : List ℕ) (item : Item) → TakesItem version old item new →
    payload_length item ≡ body_length version (front_word old)
taken_length version old new item (first, is, splits) =
    item_length version first item is ∙ ap (body_length version)
    (sym (ap front_word splits ∙ front_word_more first new (omega (arith, is.whole))))

-- an item takes as many bytes as it has
pub taken_size : (version : Version) (old new : List ℕ) (item : Item) → TakesItem version old item new → length old ≡
    (8 + payload_length item) + length new
taken_size version old new item (first, is, splits) =
    omega (arith, is.whole, ap length splits, length-append first new, item_length version first item is)

-- an item that is taken from bytes that are not rejected is within the limit
pub taken_within : (version : Version) (limit offset : ℕ) (old new : List ℕ) (item : Item) → too_long_at version limit
    offset old ≡ None → TakesItem version old item new → TakesWithin version limit old item new
taken_within version limit offset old new item none taken = (
  taken,
  omega (
    arith,
    taken_length version old new item taken,
    front_within version limit offset old
        (omega (arith, item_is_long version old new item taken)) none,
  ),
)

-- where no item begins and nothing is rejected, a header and all but one byte of a payload are there at most
pub none_within : (version : Version) (limit offset : ℕ) (bytes : List ℕ) → 8 ≤ length bytes → too_long_at version
    limit offset bytes ≡ None → NoItemBegins version bytes → length bytes ≤ limit + 7
none_within version limit offset bytes whole accepted none =
    (elim (leb (8 + body_length version (front_word bytes)) (length bytes)) as
    (λ b. leb (8 + body_length version (front_word bytes)) (length bytes) ≡ b → length bytes ≤ limit + 7) [
      | true ↦ λ is.
          let found = front_item_of version bytes (leb-true _ _ is) in
          absurd (none found.0 found.1 found.2)
      | false ↦ λ is. omega (arith, leb-false _ _ is, front_within version limit offset bytes whole accepted)
    ]) refl

-- the same, whether a header is there or not
pub left_within : (version : Version) (limit offset : ℕ) (bytes : List ℕ) → too_long_at version limit offset bytes ≡
    None → NoItemBegins version bytes → length bytes ≤ limit + 7
left_within version limit offset bytes accepts none = by_length (leb 8 (length bytes)) refl
  where
    by_length : (whole : Bool) → leb 8 (length bytes) ≡ whole → length bytes ≤ limit + 7
    by_length true is = none_within version limit offset bytes (leb-true _ _ is) accepts none
    by_length false is = omega (arith, leb-false _ _ is)

-- ---- a decoder with a limit

-- nothing was rejected, and nothing at the front is
pub accepted : (state : Unread) → rejection state ≡ None → (state.rejected ≡ None) × (too_long_at state.version
    state.limit state.offset state.bytes ≡ None)
accepted state none = by_rejected state.rejected refl
  where
    by_rejected : (rejected : Option MessageTooLong) → state.rejected ≡ rejected → (state.rejected ≡ None) ×
        (too_long_at state.version state.limit state.offset state.bytes ≡ None)
    by_rejected (Some error) is = let some = rw is at none in cc
    by_rejected None is = (is, rw is at none)

-- a decoder that has bytes has rejected nothing
pub unharmed : (rejected : Option MessageTooLong) (bytes : List ℕ) → IfSome rejected (λ _. bytes ≡ [])
    → 0 < length bytes → rejected ≡ None
unharmed (Some message) bytes gone some = absurd (omega (arith, some, ap length gone))
unharmed None bytes gone some = refl

-- how the offset moves: bytes that come leave it, those that are taken are added to it
pub offset_pushed : (pushed pending count sum : ℕ) → pending ≤ pushed → pending + count < 2 ^ 64
    → sum ≡ min (pushed + count) (2 ^ 128 - 1) → offset_of sum (pending + count) ≡ offset_of pushed pending
offset_pushed pushed pending count sum fits few is = omega (arith, fits, few, is)

pub offset_taken : (pushed before after : ℕ) → before ≤ pushed → after ≤ before
    → offset_of pushed after ≡ offset_after (offset_of pushed before) (before - after)
offset_taken pushed before after fits fewer = omega (arith, fits, fewer)

pub offset_moved : (state : Unread) (pushed : ℕ) (before after : List ℕ) → before ≡ state.bytes → offset_of pushed
    (length before) ≡ state.offset → length before ≤ pushed → length after ≤ length before → offset_of pushed
    (length after) ≡ offset_after state.offset (length state.bytes - length after)
offset_moved state pushed before after bytes_is offset_is fits fewer = rw (sym bytes_is, sym offset_is)
    (offset_taken pushed (length before) (length after) fits fewer)

module _ (state : Unread) (version : Version) (bytes : List ℕ) (limit offset : ℕ) (rejected : Option MessageTooLong)
    (version_is : version ≡ state.version) (limit_is : limit ≡ state.limit) (rejected_is : rejected ≡ state.rejected)
    (gone : state.rejected ≡ None) (accepts : too_long_at state.version state.limit state.offset state.bytes ≡ None)
  where
    none : rejection state ≡ None
    none = rw gone accepts

    -- an item was taken
    pub item_returned : (item : Item) → TakesItem state.version state.bytes item bytes
        → offset ≡ offset_after state.offset (length state.bytes - length bytes) → ReturnsWithin state (Ok (Some
        item)) (record
        { version = version; bytes = bytes; limit = limit; offset = offset; rejected = rejected })
    item_returned item taken offset_is = (
      none,
      taken_within state.version state.limit state.offset state.bytes bytes item accepts taken,
      rw (version_is, limit_is, offset_is, rejected_is) refl,
    )

    module _ (bytes_is : bytes ≡ state.bytes) (offset_is : offset ≡ state.offset) where
      -- no complete item is left
      pub none_returned : NoItemBegins state.version state.bytes → ReturnsWithin state (Ok None) (record
          { version = version; bytes = bytes; limit = limit; offset = offset; rejected = rejected })
      none_returned no_more = (
        none,
        no_more,
        rw (version_is, bytes_is, limit_is, offset_is, rejected_is) refl,
        left_within state.version state.limit state.offset state.bytes accepts no_more,
      )

      -- the allocation of a payload failed
      pub memory_returned : PayloadIsNext state.version state.bytes
          → ReturnsWithin state (Err error.OutOfMemory) (record
          { version = version; bytes = bytes; limit = limit; offset = offset; rejected = rejected })
      memory_returned next = (none, next, rw (version_is, bytes_is, limit_is, offset_is, rejected_is) refl)

-- the message that is rejected is at the front, if none was before
pub rejected_front : (state : Unread) (error : MessageTooLong) → state.rejected ≡ None → rejection state ≡ Some error →
    too_long_at state.version state.limit state.offset state.bytes ≡ Some error
rejected_front state error unharmed some = rw unharmed at some

module _ (version : Version) (limit offset : ℕ) (bytes : List ℕ) where
  -- what is too long at the front is a whole header that announces it
  front_past : (error : MessageTooLong) → too_long_at version limit offset bytes ≡ Some error → (8 ≤ length bytes) ×
      (limit < body_length version (front_word bytes))
  unfolding too_long_by
  front_past error some = by_length (nat_lt (length bytes) 8) refl
    where
      by_length : (short : Bool) → nat_lt (length bytes) 8 ≡ short → (8 ≤ length bytes) ×
          (limit < body_length version (front_word bytes))
      by_length true is = let none = rw is at some in cc
      by_length false is = (
        ltb-false (length bytes) 8 is,
        by_limit
            (nat_lt limit (body_length version (front_word bytes))) refl,
      )
        where
          by_limit : (past : Bool) → nat_lt limit (body_length version (front_word bytes)) ≡ past → limit < body_length
              version (front_word bytes)
          by_limit true past = ltb-true limit (body_length version (front_word bytes)) past
          by_limit false past = let none = rw (is, past) at some in cc

  -- no item within the limit is there then
  pub taken_past : (error : MessageTooLong) → too_long_at version limit offset bytes ≡ Some error → (item : Item)
      (others : List ℕ) → TakesWithin version limit bytes item others → ⊥
  taken_past error some item others (taken, fits) = omega (
    arith,
    taken_length version bytes others item taken,
    (front_past error some).1,
    fits,
  )

  -- it stays there, whatever comes after
  pub front_more : (more : List ℕ) (error : MessageTooLong) → too_long_at version limit offset bytes ≡ Some error →
      too_long_at version limit offset (bytes ++ more) ≡ Some error
  front_more more error some =
      let whole = (front_past error some).0 in
      let longer : 8 ≤ length (bytes ++ more) = omega (arith, whole, length-append bytes more) in
      rw (le-ltb (length (bytes ++ more)) 8 longer, front_word_more bytes more whole)
      (rw (le-ltb (length bytes) 8 whole) at some)

-- an item that is borrowed from the front is too long if and only if its payload is
module _ (version : Version) (limit offset : ℕ) (bytes : List ℕ) (item : ItemRef) (rest : List ℕ)
    (is : IsAtFront version bytes item rest) where
  borrowed_size : (8 ≤ length bytes) × (length item.payload.now ≡ body_length version (front_word bytes))
  borrowed_size =
      let (first, encodes, splits) = is.taken in
      let eight : 8 ≤ length first = omega (arith, encodes.whole) in
      let whole : 8 ≤ length bytes = omega (arith, eight, ap length splits, length-append first rest) in
      let same : front_word bytes ≡ front_word first = ap front_word splits ∙ front_word_more first rest eight in (
        whole,
        omega (
          arith,
          encodes.whole,
          ap (body_length version) same,
          ap length splits,
          length-append first rest,
          ap length is.lies,
          length-append (take 8 bytes) (item.payload.now ++ rest),
          length-append item.payload.now rest,
          length-take-le 8 bytes whole,
        ),
      )

  pub accepts_borrowed : length item.payload.now ≤ limit → too_long_at version limit offset bytes ≡ None
  accepts_borrowed fits =
      rw (le-ltb (length bytes) 8 borrowed_size.0) (within_limit version limit offset (front_word bytes)
      (omega (arith, fits, borrowed_size.1)))

  pub rejects_borrowed : limit < length item.payload.now → too_long_at version limit offset bytes ≡ None → ⊥
  rejects_borrowed past none =
      omega (arith, past, borrowed_size.1, front_within version limit offset bytes borrowed_size.0 none)

-- the word of the first eight bytes
pub lent_front : (version : Version) (limit offset : ℕ) (bytes head : List ℕ) (word : ℕ) (found : Option MessageTooLong)
    → head ≡ take 8 bytes → 8 ≤ length bytes → word ≡ from_be_bytes w64 head → found ≡ too_long_by version limit offset
    word → found ≡ too_long_at version limit offset bytes
unfolding front_word
lent_front version limit offset bytes head word found front whole reads is =
    is ∙ ap (too_long_by version limit offset) (reads ∙ ap (from_be_bytes w64) front) ∙ rw
    (le-ltb (length bytes) 8 whole) refl

-- a word is too long where the bytes that it is at the front of are
pub word_at_front : (version : Version) (limit offset word : ℕ) (bytes : List ℕ) → 8 ≤ length bytes → word ≡ front_word
    bytes → too_long_by version limit offset word ≡ too_long_at version limit offset bytes
word_at_front version limit offset word bytes whole is =
    ap (too_long_by version limit offset) is ∙ rw (le-ltb (length bytes) 8 whole) refl

-- what a decoder returns of the eight bytes at the front, and of what their word announces
module _ (state : Unread) (head rest : List ℕ) (word : ℕ) (announced : Announced) (eight : length head ≡ 8)
    (splits : state.bytes ≡ head ++ rest) (reads : word ≡ from_be_bytes w64 head)
    (says : Announces state.version word announced) where
  pub word_returned : word ≡ front_word state.bytes
  word_returned = reads ∙ sym (ap front_word splits ∙ front_word_head head rest eight)

  whole : 8 ≤ length state.bytes
  whole = omega (arith, eight, ap length splits, length-append head rest)

  of_front : too_long_at state.version state.limit state.offset state.bytes ≡ too_long_by state.version state.limit
      state.offset word
  of_front = sym (word_at_front state.version state.limit state.offset word state.bytes whole word_returned)

  pub front_accepts : announced_length announced ≤ state.limit → too_long_at state.version state.limit state.offset
      state.bytes ≡ None
  front_accepts fits = of_front ∙ within_limit state.version state.limit state.offset word
      (omega (arith, fits, says.length_is))

  pub front_rejects : state.limit < announced_length announced → state.rejected ≡ None → (old new : Unread)
      → old ≡ state → new ≡ record old { bytes = []; rejected = too_long_by old.version old.limit old.offset word }
      → ReturnsWithin state (Err error.TooLong) new
  front_rejects past gone old new same is =
      let found = past_limit state.version state.limit state.offset word (omega (arith, past, says.length_is)) in (
        record {
          code = word_code word;
          length = body_length state.version word;
          limit = state.limit;
          offset = state.offset;
        },
        rw gone (of_front ∙ found),
        is
            ∙ ap
            (λ (o : Unread). record o { bytes = []; rejected = too_long_by o.version o.limit o.offset word }) same
            ∙ ap (λ (r : Option MessageTooLong). record state { bytes = []; rejected = r }) found,
      )

-- what is pending after a header that is held
pub after_held : (bytes pending : List ℕ) (head found : Option (List ℕ)) → 8 ≤ length bytes → held_bytes head ++ pending
    ≡ bytes → IfSome found (λ front. (head ≡ Some front) × (length front ≡ 8) × (bytes ≡ front ++ pending))
    → IfNone found ((head ≡ None) × (length pending < 8)) → pending ≡ drop 8 bytes
after_held bytes pending head (Some front) long same (held, eight, splits) short =
    sym (ap (drop 8) splits ∙ ap (λ n. drop n (front ++ pending)) (sym eight) ∙ drop-append_seam front pending)
after_held bytes pending head None long same held (none, short) =
    let all = rw none at same in absurd (omega (arith, ap length all, long, short))

-- a decoder of these fields, if these bytes are pending
abbrev pub with_pending : Version → ℕ → ℕ → Option MessageTooLong → List ℕ → Unread
with_pending version limit pushed rejected bytes = record {
  version = version;
  bytes = bytes;
  limit = limit;
  offset = offset_of pushed (length bytes);
  rejected = rejected;
}

-- the same of the fields that a decoder holds
module _ (state : Unread) (version : Version) (before : List ℕ) (limit pushed : ℕ) (rejected : Option MessageTooLong)
    (view : with_pending version limit pushed rejected before ≡ state) (harmless : IfSome rejected (λ _. before ≡ []))
    (fits : length before ≤ pushed) (head rest : List ℕ)
    (word : ℕ) (announced : Announced) (eight : length head ≡ 8) (splits : before ≡ head ++ rest)
    (reads : word ≡ from_be_bytes w64 head) (says : Announces version word announced) where
  gone : rejected ≡ None
  gone = unharmed rejected before harmless (omega (arith, eight, ap length splits, length-append head rest))

  accepts : announced_length announced ≤ limit → too_long_at version limit (offset_of pushed (length before)) before ≡
      None
  accepts low = front_accepts (with_pending version limit pushed rejected before) head rest word announced eight
      splits reads says low

  pub word_given : word ≡ front_word state.bytes
  word_given =
      word_returned (with_pending version limit pushed rejected before) head rest word announced eight splits reads says
      ∙ ap (λ (s : Unread). front_word s.bytes) view

  pub rejects : limit < announced_length announced → (now : List ℕ) → now ≡ before → (new : Unread) → new ≡ record
      (with_pending version limit pushed rejected now) {
        bytes = [];
        rejected = too_long_by version limit (offset_of
            pushed (length now)) word;
      }
      → ReturnsWithin state (Err error.TooLong) new
  rejects past now same new is =
      subst (λ s. ReturnsWithin s (Err error.TooLong) new) view
      (front_rejects (with_pending version limit pushed rejected before) head rest word announced eight splits reads
      says past gone (with_pending version limit pushed rejected now) new (ap (with_pending version limit pushed
      rejected) same)
      is)

  pub gives : announced_length announced ≤ limit → announced_length announced ≤ length rest → (payload after : List ℕ)
      → payload ≡ take (announced_length announced) rest → after ≡ drop (announced_length announced) rest
      → ReturnsWithin state (Ok (Some (item_with (kind_announced announced) payload))) (with_pending version limit
      pushed rejected after)
  gives low enough payload after payload_is after_is =
      subst (λ s. ReturnsWithin s (Ok (Some (item_with (kind_announced announced) payload))) (with_pending version
      limit pushed rejected after)) view
      (item_returned (with_pending version limit pushed rejected before) version after limit (offset_of pushed (length
      after)) rejected refl refl refl gone
      (accepts low) (item_with (kind_announced announced) payload)
      (takes_announced version before head rest word eight splits reads announced payload after says enough payload_is
      after_is)
      (offset_moved (with_pending version limit pushed rejected before) pushed before after refl refl fits (omega (
        arith,
        ap length splits,
        length-append head rest,
        ap length after_is,
        length-drop (announced_length announced) rest,
      ))))

  pub waits : announced_length announced ≤ limit → length rest < announced_length announced → (now : List ℕ) → now ≡
      before → ReturnsWithin state (Ok None) (with_pending version limit pushed rejected now)
  waits low short now same =
      subst (λ s. ReturnsWithin s (Ok None) (with_pending version limit pushed rejected now)) view
      (none_returned (with_pending version limit pushed rejected before) version now limit (offset_of pushed (length
      now)) rejected refl refl refl gone
      (accepts low) same (ap (λ (b : List ℕ). offset_of pushed (length b)) same)
      (none_partial version before head rest word eight splits reads announced says short))

  pub lacks : announced_length announced ≤ limit → announced_length announced ≤ length rest
      → HasPayload (item_with (kind_announced announced) (take (announced_length announced) rest)) → (now : List ℕ)
      → now ≡ before → ReturnsWithin state (Err error.OutOfMemory) (with_pending version limit pushed rejected now)
  lacks low enough has now same =
      subst (λ s. ReturnsWithin s (Err error.OutOfMemory) (with_pending version limit pushed rejected now)) view
      (memory_returned (with_pending version limit pushed rejected before) version now limit (offset_of pushed (length
      now)) rejected refl refl refl gone
      (accepts low) same (ap (λ (b : List ℕ). offset_of pushed (length b)) same) (
        _,
        _,
        takes_announced version before head rest word eight splits reads announced _ _ says enough refl refl,
        has,
      ))
