-- How streams split under a limit.
use Rattle.std.proofs.Common.{◌≡◌, ℕ, ◌^◌, ◌≤◌, ◌↔◌, List, [], ◌∷◌, length, refl, sym, ◌∙◌}
use Rattle.std.proofs.Common.{Option, Some, None, Bool, true, false, arith, nat_lt, get_or, zero, suc}
use Rattle.std.proofs.lemmas.Nat.{mod_below}
use Rattle.shared_core_base.specs.declared.message_header.MessageHeader.{MessageHeader}
use Rattle.shared_core_base.specs.declared.header.MessageType.{MessageType}
use Rattle.shared_core_base.specs.declared.version.Version.{Version}
use Rattle.shared_core_base.specs.MessageHeader.{header_of, word_code, word_length}
use Rattle.shared_core_base.specs.MessageType.{type_of}
use Rattle.shared_core_stream.specs.declared.encoding.item.Item.{Item}
use Rattle.shared_core_stream.specs.Items.{AreItems, NoItemBegins, SplitsInto, body_length, front_word}
use Rattle.shared_core_stream.specs.Items.{skips_unknown_messages}
use Rattle.shared_core_stream.specs.Limits.{SplitsWithin, payload_length, rejection, too_long_at}
use Rattle.shared_core_stream.specs.Unread.{IsUnlimited, Unread}
use Rattle.shared_core_stream.proofs.Items.{same_split}
use Rattle.shared_core_stream.proofs.Limits.{item_length, left_within, taken_length, within_limit}

-- under a limit a stream splits in one way
pub limited_split_is_unique : (version : Version) (limit : ℕ) (stream : List ℕ) (items others : List Item)
    (rest left : List ℕ) → SplitsWithin version limit stream items rest → SplitsWithin version limit stream others left
    → (items ≡ others) × (rest ≡ left)
limited_split_is_unique version limit stream items others rest left one other =
    same_split version (λ item. payload_length item ≤ limit) one.items_then.front rest other.items_then.front left items
    others one.items_then.encoded other.items_then.encoded one.within other.within
    (λ item after taken fits. one.no_more item after (taken, fits))
    (λ item after taken fits. other.no_more item after (taken, fits))
    (sym one.items_then.whole ∙ other.items_then.whole)

-- no word announces more than 32 bits can count
word_below : (word : ℕ) → word_length word ≤ 4294967295
word_below word = let below = mod_below word (2 ^ 32) (omega arith) in omega (arith, below)

header_below : (word : ℕ) (header : MessageHeader) → header_of word ≡ Some header → header.length ≤ 4294967295
unfolding header_of
header_below word header typed = by_type (type_of (word_code word)) refl
  where
    by_type : (found : Option MessageType) → type_of (word_code word) ≡ found → header.length ≤ 4294967295
    by_type (Some ty) is =
        let same = rw is at typed in
        let sized : word_length word ≡ header.length = cc in
        omega (arith, word_below word, sized)
    by_type None is = let none = rw is at typed in cc

pub body_below : (version : Version) (word : ℕ) → body_length version word ≤ 4294967295
unfolding body_length
body_below version word = by_header (header_of word) refl
  where
    by_header : (found : Option MessageHeader) → header_of word ≡ found → body_length version word ≤ 4294967295
    by_header (Some header) typed = rw typed (header_below word header typed)
    by_header None untyped = by_version (skips_unknown_messages version) refl
      where
        by_version : (skips : Bool) → skips_unknown_messages version ≡ skips → body_length version word ≤ 4294967295
        by_version true skips = rw (untyped, skips) (word_below word)
        by_version false skips = rw (untyped, skips) (omega arith)

-- the greatest limit accepts every message
pub greatest_accepts : (version : Version) (offset : ℕ) (bytes : List ℕ) → too_long_at version 4294967295 offset bytes ≡
    None
greatest_accepts version offset bytes = by_length (nat_lt (length bytes) 8) refl
  where
    by_length : (short : Bool) → nat_lt (length bytes) 8 ≡ short → too_long_at version 4294967295 offset bytes ≡ None
    by_length true is = rw is refl
    by_length false is = rw is (within_limit version 4294967295 offset (front_word bytes)
        (body_below version (front_word bytes)))

-- a decoder without a limit rejects nothing
pub unlimited_accepts : (state : Unread) → IsUnlimited state → rejection state ≡ None
unlimited_accepts state (limit_is, gone) =
    rw (gone, limit_is) (greatest_accepts state.version state.offset state.bytes)

-- a header and all but one byte of the longest payload, where no item begins
pub none_bounded : (version : Version) (bytes : List ℕ) → NoItemBegins version bytes → length bytes ≤ 4294967302
none_bounded version bytes none =
    omega (arith, left_within version 4294967295 0 bytes (greatest_accepts version 0 bytes) none)

all_below : (version : Version) (bytes : List ℕ) (items : List Item) → AreItems version bytes items → (k : ℕ) (d : Item)
    → suc k ≤ length items → payload_length (get_or items k d) ≤ 4294967295
all_below version bytes [] are k d below = absurd (omega (arith, below))
all_below version bytes (item ∷ items) are zero d below =
    omega (arith, item_length version are.0 item are.2, body_below version (front_word are.0))
all_below version bytes (item ∷ items) are (suc k) d below =
    all_below version are.1 items are.3 k d (omega (arith, below))

-- under it a stream splits as without a limit
pub greatest_splits : (version : Version) (stream : List ℕ) (items : List Item) (rest : List ℕ) → SplitsWithin version
    4294967295 stream items rest ↔ SplitsInto version stream items rest
greatest_splits version stream items rest = (
  λ within. record {
    items_then = within.items_then;
    no_more = λ item others taken. within.no_more item others (
      taken,
      omega (arith, taken_length version rest others item taken, body_below version (front_word rest)),
    );
  },
  λ split. record {
    items_then = split.items_then;
    within = all_below version split.items_then.front items split.items_then.encoded;
    no_more = λ item others taken. split.no_more item others taken.0;
  },
)
