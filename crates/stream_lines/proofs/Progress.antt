-- How the printing of a stream continues, and what is written when it ends.
use Rattle.std.proofs.Common.{ℕ, ◌+◌, ◌≤◌, drop, Some, None, Bool, true, false, cond, length-append}
use Rattle.std.proofs.Common.{length-drop, ◌≡◌, List, [], ◌∷◌, ◌++◌, length, ap, sym, subst, ◌∙◌, append_assoc}
use Rattle.std.proofs.Common.{append-nil, arith, Result, Ok, Err, Option, inl, inr, refl}
use Rattle.std.proofs.lemmas.List.Elements.{All-append, All-push}
use Rattle.std.specs.Io.KnownBytes.{Appends, Consumes, IsAtEnd}
use Rattle.std.proofs.KnownBytes.{Appends-nil, Appends-trans, Consumes-nil, Consumes-trans}
use Rattle.shared_core_base.specs.declared.version.Version.{Version}
use Rattle.shared_core_stream.specs.declared.encoding.item.Item.{Item}
use Rattle.std.specs.Option.{option_map_or}
use Rattle.shared_core_base.specs.declared.message_header.MessageHeader.{MessageHeader}
use Rattle.shared_core_base.specs.MessageHeader.{header_of, word_code, word_length}
use Rattle.shared_core_stream.specs.declared.encoding.item.Item.TheVariants.{Message, Unknown, Skipped}
use Rattle.shared_core_stream.specs.Items.{AreItems, NoItemBegins, IsItem, IsItemsThen, SplitsInto, front_word}
use Rattle.shared_core_stream.specs.Items.{body_length, item_of, skips_unknown_messages}
use Rattle.std.proofs.lemmas.List.{drop-drop}
use Rattle.shared_core_stream.proofs.Items.{drop_exact, front_word_more, nothing_begins_with_none}
use Rattle.shared_core_stream.proofs.Items.{then_start, then_join, then_more, then_one, split_of, split_begins}
use Rattle.std.specs.Option.{option_or}
use Rattle.stream_lines.specs.declared.report.Report.{Report}
use Rattle.stream_lines.specs.declared.report.Trouble.{Trouble}
use Rattle.stream_lines.specs.declared.error.PrintError.{PrintError}
use Rattle.stream_lines.specs.declared.error.PrintError.TheVariants.{Input, Output, OutOfMemory, TooLong}
use Rattle.stream_lines.specs.declared.error.PrintError.TheVariants.{MessageTooLong}
use Rattle.shared_core_stream.specs.declared.encoding.limit_error.MessageTooLong.{MessageTooLong as Longer}
use Rattle.shared_core_stream.specs.Unread.{fresh, Unread}
use Rattle.shared_core_stream.specs.Limits.{after_item, offset_after, payload_length, too_long_at, TakesWithin}
use Rattle.shared_core_io.specs.Reading.{with_more}
use Rattle.stream_lines.specs.Printing.{item_size, items_size, lines, trouble_at, first_trouble, ArePrinted}
use Rattle.stream_lines.specs.Printing.{too_long_after, AllWithin, AreWithin, Begins, IsLack, IsLongIn}
use Rattle.stream_lines.specs.Printing.{IsWrittenFor}
use Rattle.stream_lines.specs.Steps.{holding, Added, IsAfter}

lines_join : (line : ℕ → ℕ → Item → List ℕ) (at : ℕ) (bytes : List ℕ) (items others : List Item)
    → lines line at bytes items ++ lines line (at + items_size items) (drop (items_size items) bytes) others ≡ lines
    line at bytes (items ++ others)
lines_join line at bytes [] others = ap (λ (n : ℕ). lines line n bytes others) (omega arith)
lines_join line at bytes (item ∷ items) others =
    let after = drop (item_size item) bytes in
    append_assoc (line at (front_word bytes) item) (lines line (at + item_size item) after items)
    (lines line (at + (item_size item + items_size items)) (drop (item_size item + items_size items) bytes) others)
    ∙ ap (λ (l : List ℕ). line at (front_word bytes) item ++ l)
    (ap (λ (n : ℕ). lines line (at + item_size item) after items ++ lines line n
    (drop (item_size item + items_size items) bytes) others) (omega arith)
    ∙ ap (λ (l : List ℕ). lines line (at + item_size item) after items ++ lines line
    ((at + item_size item) + items_size items) l others) (sym (drop-drop (items_size items) (item_size item) bytes))
    ∙ lines_join line (at + item_size item) after items others)

or_assoc : {A : Type 0} (a b c : Option A) → option_or a (option_or b c) ≡ option_or (option_or a b) c
or_assoc None b c = refl
or_assoc (Some x) b c = refl

or_none : {A : Type 0} (a : Option A) → option_or a None ≡ a
or_none None = refl
or_none (Some x) = refl

first_join : (trouble : Item → Option Trouble) (at : ℕ) (items others : List Item)
    → option_or (first_trouble trouble at items) (first_trouble trouble (at + items_size items) others) ≡ first_trouble
    trouble at (items ++ others)
first_join trouble at [] others = ap (λ (n : ℕ). first_trouble trouble n others) (omega arith)
first_join trouble at (item ∷ items) others =
    let rest = first_trouble trouble (at + item_size item) items in
    ap (λ (n : ℕ). option_or (option_or (trouble_at trouble at item) rest) (first_trouble trouble n others))
    (omega arith)
    ∙ sym (or_assoc (trouble_at trouble at item) rest (first_trouble trouble ((at + item_size item) + items_size items)
    others))
    ∙ ap (λ (o : Option (ℕ × Trouble)). option_or (trouble_at trouble at item) o)
    (first_join trouble (at + item_size item) items others)

zero_more : (n : ℕ) → n ≡ 0 + n
zero_more n = omega arith

-- ---- how many bytes items take

item_long : (version : Version) (bytes : List ℕ) (item : Item) → IsItem version bytes item → length bytes ≡ item_size
    item
unfolding body_length item_of
item_long version bytes item is = by_header (header_of (front_word bytes)) (skips_unknown_messages version) is.whole
    is.means
  where
    by_header : (header : Option MessageHeader) (skips : Bool)
        → length bytes ≡ 8 + option_map_or (λ h. h.length) header (cond skips (word_length (front_word bytes)) 0)
        → item ≡ option_map_or (λ h. Message (record { header = h; payload = drop 8 bytes })) header
        (cond skips (Skipped (word_code (front_word bytes)) (drop 8 bytes))
        (Unknown (word_code (front_word bytes))))
        → length bytes ≡ item_size item
    by_header (Some h) skips w m = rw m (omega (arith, length-drop 8 bytes))
    by_header None true w m = rw m (omega (arith, length-drop 8 bytes))
    by_header None false w m = rw m w

items_long : (version : Version) (bytes : List ℕ) (items : List Item) → AreItems version bytes items → length bytes ≡
    items_size items
items_long version bytes [] h = rw h refl
items_long version bytes (item ∷ items) h =
    ap length h.4 ∙ length-append h.0 h.1 ∙ omega (
      arith,
      item_long version h.0 item h.2,
      items_long version h.1 items
          h.3,
    )

pub then_long : (version : Version) (stream rest : List ℕ) (items : List Item) → IsItemsThen version stream items rest →
    length stream ≡ items_size items + length rest
then_long version stream rest items h = ap length h.whole ∙ length-append h.front rest ∙ omega
    (arith, items_long version h.front items h.encoded)

-- the remaining bytes are those after the items
pub rest_after : (version : Version) (stream rest : List ℕ) (items : List Item) → IsItemsThen version stream items rest
    → drop (items_size items) stream ≡ rest
rest_after version stream rest items h = ap (drop (items_size items)) h.whole ∙ drop_exact (items_size items) h.front
    rest (items_long version h.front items h.encoded)

-- the lines of items, whatever is after them
lines_front : (version : Version) (line : ℕ → ℕ → Item → List ℕ) (at : ℕ) (front rest : List ℕ) (items : List Item) →
    AreItems version front items → lines line at (front ++ rest) items ≡ lines line at front items
lines_front version line at front rest [] h = refl
lines_front version line at front rest (item ∷ items) (first, others, is, are, splits) =
    let size = item_size item in
    let sized = item_long version first item is in
    let fits : 8 ≤ length front = omega (arith, is.whole, ap length splits, length-append first others) in
    let after : drop size (front ++ rest) ≡ others ++ rest =
    ap (λ (l : List ℕ). drop size (l ++ rest)) splits ∙ ap (drop size) (append_assoc first others rest) ∙ drop_exact
    size first (others ++ rest) sized in
    let alone : drop size front ≡ others = ap (drop size) splits ∙ drop_exact size first others sized in
    ap (λ (word : ℕ). line at word item ++ lines line (at + size) (drop size (front ++ rest)) items)
    (front_word_more front rest fits)
    ∙ ap (λ (l : List ℕ). line at (front_word front) item ++ l)
    (ap (λ (l : List ℕ). lines line (at + size) l items) after
    ∙ lines_front version line (at + size) others rest items are
    ∙ ap (λ (l : List ℕ). lines line (at + size) l items) (sym alone))

pub lines_more : (version : Version) (line : ℕ → ℕ → Item → List ℕ) (at : ℕ) (stream rest more : List ℕ)
    (items : List Item) → IsItemsThen version stream items rest
    → lines line at stream items ≡ lines line at (stream ++ more) items
lines_more version line at stream rest more items h =
    ap (λ (l : List ℕ). lines line at l items) h.whole
    ∙ lines_front version line at h.front rest items h.encoded
    ∙ sym (lines_front version line at h.front (rest ++ more) items h.encoded)
    ∙ ap (λ (l : List ℕ). lines line at l items) (sym (ap (λ (l : List ℕ). l ++ more) h.whole ∙ append_assoc h.front
    rest more))

begins_after : {A : Type 0} (front text whole : List A) → Begins text whole → Begins (front ++ text) (front ++ whole)
begins_after front text whole (more, is) = (more, ap (λ l. front ++ l) is ∙ sym (append_assoc front text more))

-- the item that is too long is one of the items
pub lack_in : (is_long : Item → Type 0) (version : Version) (bytes rest : List ℕ) (front : List Item) (item : Item)
    (error : PrintError) → IsItemsThen version bytes (front ++ item ∷ []) rest → IsLack (is_long item) error → IsLack
    (IsLongIn is_long version bytes) error
lack_in is_long version bytes rest front item Input is lack = absurd lack
lack_in is_long version bytes rest front item Output is lack = absurd lack
lack_in is_long version bytes rest front item OutOfMemory is lack = tt
lack_in is_long version bytes rest front item TooLong is lack = (front, item, rest, is, lack)
lack_in is_long version bytes rest front item (MessageTooLong longer) is lack = absurd lack

-- ---- steps

items_size_join : (items others : List Item) → items_size (items ++ others) ≡ items_size items + items_size others
items_size_join [] others = zero_more (items_size others)
items_size_join (item ∷ items) others = omega (arith, items_size_join items others)

-- what is held after an item is taken
pub moved : (version : Version) (limit offset : ℕ) (bytes rest : List ℕ) (size : ℕ) → length bytes ≡ size + length rest
    → after_item (holding version limit offset bytes) rest ≡ holding version limit (offset + size) rest
moved version limit offset bytes rest size long =
    ap (λ (o : ℕ). record
    { version = version; bytes = rest; limit = limit; offset = o; rejected = None })
    (omega (arith, long))

-- what is held before anything is read
pub began : (version : Version) (limit offset : ℕ) (state : Unread) → offset ≡ 0 → state ≡ fresh version limit → state ≡
    holding version limit offset state.bytes
began version limit offset state at nothing = rw (at, nothing) refl

-- what is held after more was read
pub filled : (version : Version) (limit offset : ℕ) (old new : Unread) (read : List ℕ) → old ≡ holding version limit
    offset old.bytes → new ≡ with_more old read → new ≡ holding version limit offset (old.bytes ++ read)
filled version limit offset old new read state after = after ∙ ap (λ (held : Unread). with_more held read) state

-- at the end nothing was read, and all that was held is in the decoder
pub all_decoded : (decoded outside before beside read : List ℕ) → decoded ++ outside ≡ (before ++ beside) ++ read →
    decoded ≡ before → outside ≡ [] → ((before ++ beside) ++ read ≡ before ++ beside) × (decoded ≡ before ++ beside)
all_decoded decoded outside before beside [] all same gone = (
  append-nil (before ++ beside),
  sym (append-nil decoded) ∙ ap (λ (l : List ℕ). decoded ++ l) (sym gone) ∙ all ∙ append-nil (before ++ beside),
)
all_decoded decoded outside before beside (byte ∷ read) all same gone = absurd (omega (
  arith,
  ap (λ (l : List ℕ). length l) all,
  ap (λ (l : List ℕ). length l) same,
  ap (λ (l : List ℕ). length l) gone,
  length-append decoded outside,
  length-append (before ++ beside) (byte ∷ read),
  length-append before beside,
))

-- what a step says of the items that it added, of these bytes, and of what is after them
abbrev pub HasAdded : (ℕ → ℕ → Item → List ℕ) → (Item → Option Trouble) → Version → ℕ → ℕ → Option (ℕ × Trouble) →
    List ℕ → List ℕ → Option Longer → ℕ → Option (ℕ × Trouble) → List ℕ → Unread → Type 0
HasAdded line trouble version limit at found text bytes longer offset noted longest state = (rest : List ℕ)
    × Added line trouble version limit at found text bytes offset noted longest rest
    × IsAfter version limit longer offset rest state

-- the same where the text was empty, and this was held
pub added_here : (line : ℕ → ℕ → Item → List ℕ) (trouble : Item → Option Trouble) (version : Version) (limit at : ℕ)
    (found : Option (ℕ × Trouble)) (text bytes : List ℕ) (longer : Option Longer) (offset : ℕ)
    (noted : Option (ℕ × Trouble)) (longest : List ℕ) (state from : Unread) → from ≡ holding version limit at bytes →
    text ≡ [] → HasAdded line trouble from.version from.limit at found text from.bytes longer offset noted longest state
    → HasAdded line trouble version limit at found [] bytes longer offset noted longest state
added_here line trouble version limit at found text bytes longer offset noted longest state from here none added =
    subst (λ (t : List ℕ). HasAdded line trouble version limit at found t bytes longer offset noted longest state) none
    (subst (λ (held : Unread). HasAdded line trouble held.version held.limit at found text held.bytes longer offset
    noted longest state) here added)

-- an item is taken of what is held
pub takes : (version : Version) (limit offset : ℕ) (old new : Unread) (item : Item) → old ≡ holding version limit
    offset
    old.bytes → TakesWithin old.version old.limit old.bytes item new.bytes → new ≡
    after_item old new.bytes → TakesWithin version limit old.bytes item new.bytes
    × (length old.bytes ≡ item_size item + length new.bytes)
    × (new ≡ holding version limit (offset + item_size item) new.bytes)
takes version limit offset old new item is taken after =
    let bytes = old.bytes in
    let rest = new.bytes in
    let here = subst (λ (state : Unread). TakesWithin state.version state.limit bytes item rest) is taken in
    let long : length bytes ≡ item_size item + length rest =
    omega (arith, then_long version bytes rest (item ∷ []) (then_one version bytes rest item here.0)) in (
      here,
      long,
      after ∙ ap (λ (state : Unread). after_item state rest) is
          ∙ moved version limit offset bytes rest (item_size item) long,
    )

module _ (line : ℕ → ℕ → Item → List ℕ) (trouble : Item → Option Trouble) (version : Version) (limit : ℕ) where
  -- one item was
  pub added_one : (at word offset : ℕ) (before found : Option (ℕ × Trouble)) (text longer bytes rest : List ℕ)
      (item : Item) → TakesWithin version limit bytes item rest → word ≡ front_word bytes → longer ≡ text ++ line at
      word item → offset ≡ at + item_size item → found ≡ option_or before (trouble_at trouble at item) → Added line
      trouble version limit at before text bytes offset found longer rest
  added_one at word offset before found text longer bytes rest item (taken, fits) word_is printed place noted =
      record {
        more = item ∷ [];
        next = then_one version bytes rest item taken;
        within = All-push (λ i. payload_length i ≤ limit) [] item (λ k i below. absurd (omega (arith, below))) fits;
        printed =
            printed ∙ ap (λ (w : ℕ). text ++ line at w item) word_is
            ∙ ap (λ (l : List ℕ). text ++ l) (sym (append-nil (line at (front_word bytes) item)));
        place = place ∙ omega arith;
        noted = noted ∙ ap (λ (o : Option (ℕ × Trouble)). option_or before o)
            (sym (or_none (trouble_at trouble at item)));
      }

  -- some were, and then others
  pub added_join : (at middle offset : ℕ) (before between found : Option (ℕ × Trouble))
      (text longer longest bytes left rest : List ℕ) → Added line trouble version limit at before text bytes middle
      between longer left → Added line trouble version limit middle between longer left offset found longest rest →
      Added line trouble version limit at before text bytes offset found longest rest
  added_join at middle offset before between found text longer longest bytes left rest first second =
      let after : drop (items_size first.more) bytes ≡ left = rest_after version bytes left first.more first.next in
      record {
        more = first.more ++ second.more;
        next = then_join version bytes left rest first.more second.more first.next second.next;
        within = All-append (λ item. payload_length item ≤ limit) first.more second.more first.within second.within;
        printed =
            second.printed ∙ ap (λ (t : List ℕ). t ++ lines line middle left second.more) first.printed
            ∙ append_assoc text (lines line at bytes first.more) (lines line middle left second.more)
            ∙ ap (λ (l : List ℕ). text ++ l)
            (ap (λ (n : ℕ). lines line at bytes first.more ++ lines line n left second.more) first.place
            ∙ ap (λ (l : List ℕ). lines line at bytes first.more ++ lines line (at + items_size first.more) l
            second.more) (sym after)
            ∙ lines_join line at bytes first.more second.more);
        place = omega (arith, first.place, second.place, items_size_join first.more second.more);
        noted =
            second.noted
            ∙ ap (λ (o : Option (ℕ × Trouble)). option_or o (first_trouble trouble middle second.more)) first.noted
            ∙ sym (or_assoc before (first_trouble trouble at first.more) (first_trouble trouble middle second.more))
            ∙ ap (λ (o : Option (ℕ × Trouble)). option_or before o)
            (ap (λ (n : ℕ). option_or (first_trouble trouble at first.more) (first_trouble trouble n second.more))
            first.place
            ∙ first_join trouble at first.more second.more);
      }

-- A printing that is not at its end: the items of what was read have their lines, and these bytes are pending, which
-- begin with no item.
pub record GoesOn (line : ℕ → ℕ → Item → List ℕ) (trouble : Item → Option Trouble) (version : Version) (limit : ℕ)
    (first start left out : Option (List ℕ)) (offset : ℕ) (pending : List ℕ) (found : Option (ℕ × Trouble)) : Type 0
  where
    pub read : List ℕ
    pub items : List Item
    pub split : SplitsInto version read items pending
    pub place : offset ≡ items_size items
    pub came : Consumes first left read
    pub wrote : Appends start out (lines line 0 read items)
    pub noted : found ≡ first_trouble trouble 0 items
    pub within : AreWithin version limit items pending

-- A printing that has ended, as its contract says it.
abbrev pub HasEnded : (ℕ → ℕ → Item → List ℕ) → (ℕ → List ℕ → List ℕ) → (Item → Type 0) → (Item → Option Trouble) →
    Version → ℕ → Option (List ℕ) → Option (List ℕ) → Option (List ℕ) → Option (List ℕ) → Result Report PrintError →
    Type 0
HasEnded line last is_long trouble version limit first start left out result =
    (read : List ℕ) × (written : List ℕ) × Consumes first left read × Appends start out written × ArePrinted line last
    is_long trouble version limit result read written left

module _ (line : ℕ → ℕ → Item → List ℕ) (last : ℕ → List ℕ → List ℕ) (is_long : Item → Type 0)
    (trouble : Item → Option Trouble) (version : Version) (limit : ℕ) (first start : Option (List ℕ)) where
  -- the first items of a stream, whatever follows them, are the first that it splits into
  printed_output : (stream rest written : List ℕ) (items : List Item) (left : Option (List ℕ)) → IsItemsThen version
      stream items rest → AllWithin limit items → Begins written (lines line 0 stream items) → ArePrinted line last
      is_long trouble version limit (Err Output) stream written left
  printed_output stream rest written items left front within begun =
      let (all, after, split) = split_of version stream in
      record {
        items = all;
        rest = after;
        split = split;
        written_for = inl (items, (split_begins version stream after all split items rest front, within), begun);
      }

  printed_lack : (error : PrintError) (stream rest : List ℕ) (items : List Item) (left : Option (List ℕ)) → IsLack
      (IsLongIn is_long version rest) error → IsItemsThen version stream items rest → AllWithin limit items →
      ArePrinted line last is_long trouble version limit (Err error) stream (lines line 0 stream items) left
  printed_lack Input stream rest items left lack front within = absurd lack
  printed_lack (MessageTooLong longer) stream rest items left lack front within = absurd lack
  printed_lack Output stream rest items left lack front within = absurd lack
  printed_lack OutOfMemory stream rest items left lack front within =
      let (all, after, split) = split_of version stream in
      record {
        items = all;
        rest = after;
        split = split;
        written_for =
            (items, (split_begins version stream after all split items rest front, within), refl);
      }
  printed_lack TooLong stream rest items left (more, item, others, then_item, long) front within =
      let (all, after, split) = split_of version stream in
      let until = items ++ (more ++ item ∷ []) in
      let then_long_one = then_join version stream rest others items (more ++ item ∷ []) front then_item in
      record {
        items = all;
        rest = after;
        split = split;
        written_for = (
          items,
          more,
          item,
          split_begins version stream after all split until others then_long_one,
          long,
          within,
          refl,
        );
      }

  starts : GoesOn line trouble version limit first start first start 0 [] None
  starts = record {
    read = [];
    items = [];
    split = record { items_then = then_start version []; no_more = nothing_begins_with_none version };
    place = refl;
    came = Consumes-nil first;
    wrote = Appends-nil start;
    noted = refl;
    within = (λ k item below. absurd (omega (arith, below)), refl);
  }

  pub starts_at : (offset : ℕ) (pending : List ℕ) (found : Option (ℕ × Trouble)) → offset ≡ 0 → pending ≡ [] → found ≡
      None → GoesOn line trouble version limit first start first start offset pending found
  starts_at offset pending found at none no_trouble = rw (at, none, no_trouble) starts

  -- the message after these items is longer than the limit
  printed_long : (stream rest : List ℕ) (items : List Item) (left : Option (List ℕ)) (longer : Longer) → IsItemsThen
      version stream items rest → AllWithin limit items → too_long_after version limit items
      rest ≡ Some longer → ArePrinted line last is_long trouble version limit (Err (MessageTooLong longer)) stream
      (lines line 0 stream items) left
  printed_long stream rest items left longer front within after =
      let (all, beyond, split) = split_of version stream in
      record {
        items = all;
        rest = beyond;
        split = split;
        written_for = (items, (rest, front, within, after), refl);
      }

  module _ (left out : Option (List ℕ)) (offset : ℕ) (pending : List ℕ) (found : Option (ℕ × Trouble))
      (so_far : GoesOn line trouble version limit first start left out offset pending found) where
    -- the lines that are written, and what was read before
    abbrev written_so_far : List ℕ
    written_so_far = lines line 0 so_far.read so_far.items

    -- nothing more was read
    pub stays : (now : Option (List ℕ)) (more : List ℕ) → Consumes left now more → pending ++ more ≡ pending → GoesOn
        line trouble version limit first start now out offset pending found
    stays now [] came same = record {
      read = so_far.read;
      items = so_far.items;
      split = so_far.split;
      place = so_far.place;
      came = subst (Consumes first now) (append-nil so_far.read)
          (Consumes-trans first left now so_far.read [] so_far.came came);
      wrote = so_far.wrote;
      noted = so_far.noted;
      within = so_far.within;
    }
    stays now (byte ∷ more) came same =
        absurd (omega (arith, ap (λ (l : List ℕ). length l) same, length-append pending (byte ∷ more)))

    pub ended_input : HasEnded line last is_long trouble version limit first start left out (Err Input)
    ended_input = (
      so_far.read,
      written_so_far,
      so_far.came,
      so_far.wrote,
      record { items = so_far.items; rest = pending; split = so_far.split; written_for = (refl, so_far.within) },
    )

    -- the input has ended, and the last line is written, or cut short
    module _ (grown : Option (List ℕ)) (written : List ℕ) (end : IsAtEnd left) (wrote : Appends out grown written) where
      then_last : (result : Result Report PrintError) → IsWrittenFor version limit line last is_long trouble result
          so_far.read so_far.items pending (written_so_far ++ written) left → HasEnded line last is_long trouble version
          limit first start left grown result
      then_last result written_for = (
        so_far.read,
        written_so_far ++ written,
        so_far.came,
        Appends-trans start out grown written_so_far written so_far.wrote wrote,
        record { items = so_far.items; rest = pending; split = so_far.split; written_for = written_for },
      )

      pub ended_whole : (found : Option (ℕ × Trouble)) (count : ℕ) → found ≡ first_trouble trouble 0 so_far.items →
          count ≡ length pending → written ≡ last offset pending → HasEnded line last is_long trouble version limit
          first start left grown
          (Ok (record { trouble = found; end = offset; rest = count }))
      ended_whole found count noted counted is = then_last _ (
        end,
        ap (λ (l : List ℕ). written_so_far ++ l) (is ∙ ap (λ (n : ℕ). last n pending) so_far.place),
        record { first = noted; end = so_far.place; count = counted },
        so_far.within,
      )

      pub ended_cut : Begins written (last offset pending) → HasEnded line last is_long trouble version limit first
          start
          left grown (Err Output)
      ended_cut is = then_last (Err Output) (inr (
        end,
        begins_after written_so_far written (last (items_size so_far.items) pending)
            (subst (λ (n : ℕ). Begins written (last n pending)) so_far.place is),
        so_far.within,
      ))

    module _ (now : Option (List ℕ)) (chunk : List ℕ) (taken : Consumes left now chunk) where
      with_chunk : Consumes first now (so_far.read ++ chunk)
      with_chunk = Consumes-trans first left now so_far.read chunk so_far.came taken

      then_chunk : IsItemsThen version (so_far.read ++ chunk) so_far.items (pending ++ chunk)
      then_chunk = then_more version so_far.read pending chunk so_far.items so_far.split.items_then

      -- they are the lines of the same items, a chunk later
      abbrev written_before : List ℕ
      written_before = lines line 0 (so_far.read ++ chunk) so_far.items

      wrote_before : Appends start out written_before
      wrote_before = subst (Appends start out) (lines_more version line 0 so_far.read pending chunk so_far.items
          so_far.split.items_then) so_far.wrote

      -- an error on a chunk
      pub ended_lack : (error : PrintError) → IsLack (IsLongIn is_long version (pending ++ chunk)) error → HasEnded line
          last is_long trouble version limit first start now out (Err error)
      ended_lack error lack = (
        so_far.read ++ chunk,
        written_before,
        with_chunk,
        wrote_before,
        printed_lack error (so_far.read ++ chunk) (pending ++ chunk) so_far.items now lack then_chunk so_far.within.0,
      )

      module _ (after : ℕ) (noted : Option (ℕ × Trouble)) (text rest : List ℕ)
          (step : Added line trouble version limit offset found [] (pending ++ chunk) after noted text rest) where
        then_items : IsItemsThen version (so_far.read ++ chunk) (so_far.items ++ step.more) rest
        then_items = then_join version (so_far.read ++ chunk) (pending ++ chunk) rest so_far.items step.more then_chunk
            step.next

        -- the lines of these items are those after the others
        joined : written_before ++ text ≡ lines line 0 (so_far.read ++ chunk) (so_far.items ++ step.more)
        joined =
            ap (λ (l : List ℕ). written_before ++ l) step.printed
            ∙ ap (λ (n : ℕ). written_before ++ lines line n (pending ++ chunk) step.more)
            (so_far.place ∙ zero_more (items_size so_far.items))
            ∙ ap (λ (l : List ℕ). written_before ++ lines line (0 + items_size so_far.items) l step.more)
            (sym (rest_after version (so_far.read ++ chunk) (pending ++ chunk) so_far.items then_chunk))
            ∙ lines_join line 0 (so_far.read ++ chunk) so_far.items step.more

        -- where the bytes begin that are left
        place_next : after ≡ items_size (so_far.items ++ step.more)
        place_next = omega (arith, so_far.place, step.place, items_size_join so_far.items step.more)

        after_next : (longer : Option Longer) → too_long_at version limit (offset_after 0 after) rest ≡ longer →
            too_long_after version limit (so_far.items ++ step.more) rest ≡ longer
        after_next longer is = ap (λ n. too_long_at version limit (offset_after 0 n) rest) (sym place_next) ∙ is

        within_next : AllWithin limit (so_far.items ++ step.more)
        within_next = All-append (λ item. payload_length item ≤ limit) so_far.items step.more so_far.within.0
            step.within

        -- the text is not written whole
        pub ended_output : (grown : Option (List ℕ)) (written : List ℕ) → Appends out grown written → Begins written
            text → HasEnded line last is_long trouble version limit first start now grown (Err Output)
        ended_output grown written wrote is = (
          so_far.read ++ chunk,
          written_before ++ written,
          with_chunk,
          Appends-trans start out grown written_before written wrote_before wrote,
          printed_output (so_far.read ++ chunk) rest (written_before ++ written) (so_far.items ++ step.more) now
              then_items within_next
              (subst (Begins (written_before ++ written)) joined (begins_after written_before written text is)),
        )

        module _ (grown : Option (List ℕ)) (wrote : Appends out grown text) where
          all_written : Appends start grown (lines line 0 (so_far.read ++ chunk) (so_far.items ++ step.more))
          all_written = subst (Appends start grown) joined
              (Appends-trans start out grown written_before text wrote_before wrote)

          pub goes_on : NoItemBegins version rest → too_long_at version limit (offset_after 0 after) rest ≡ None →
              GoesOn line trouble version limit first start now grown after rest noted
          goes_on none short = record {
            read = so_far.read ++ chunk;
            items = so_far.items ++ step.more;
            split = record { items_then = then_items; no_more = none };
            place = place_next;
            came = with_chunk;
            wrote = all_written;
            noted =
                step.noted ∙ ap (λ (o : Option (ℕ × Trouble)). option_or o (first_trouble trouble offset step.more))
                so_far.noted
                ∙ ap (λ (n : ℕ). option_or (first_trouble trouble 0 so_far.items) (first_trouble trouble n step.more))
                (so_far.place ∙ zero_more (items_size so_far.items))
                ∙ first_join trouble 0 so_far.items step.more;
            within = (within_next, after_next None short);
          }

          -- after them comes a message that is longer than the limit
          pub ended_long : (longer : Longer) → too_long_at version limit (offset_after 0 after) rest ≡ Some longer →
              HasEnded line last is_long trouble version limit first start now grown (Err (MessageTooLong longer))
          ended_long longer is = (
            so_far.read ++ chunk,
            lines line 0 (so_far.read ++ chunk) (so_far.items ++ step.more),
            with_chunk,
            all_written,
            printed_long (so_far.read ++ chunk) rest (so_far.items ++ step.more) now longer then_items within_next
                (after_next (Some longer) is),
          )
