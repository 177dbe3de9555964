-- What sources give of journals: items, ends, and errors.
use Rattle.std.specs.Prelude.{◌≡◌, ℕ, ◌^◌, ◌<◌, ◌≤◌, Bool, true, List, length}
use Rattle.std.specs.Prelude.{Option, Some, None, IfSome, Result, Ok, Err}
use Rattle.std.specs.Io.KnownBytes.{prepend_known}
use Rattle.shared_core_base.specs.declared.version.Version.{Version}
use Rattle.shared_core_stream.specs.declared.encoding.item.Item.{Item as AnyItem}
use Rattle.shared_core_stream.specs.declared.encoding.limit_error.MessageTooLong.{MessageTooLong as LongMessage}
use Rattle.shared_core_stream.specs.Items.{IsItemsThen, NoItemBegins, TakesItem}
use Rattle.shared_core_stream.specs.Limits.{too_long_at}
use Rattle.shared_core_stream.specs.Unread.{Unread}
use Rattle.replay_bench.specs.declared.sources.Next.{Next}
use Rattle.replay_bench.specs.declared.sources.Next.TheVariants.{Item, End}
use Rattle.replay_bench.specs.declared.sources.SourceError.{SourceError}
use Rattle.replay_bench.specs.declared.sources.SourceError.TheVariants as source
use Rattle.replay_bench.specs.declared.verdicts.Side.{Side}
use Rattle.replay_bench.specs.declared.verdicts.BenchError.TheVariants.{TooLong, OutOfMemory}
use Rattle.replay_bench.specs.declared.verdicts.ReaderError.{ReaderError}
use Rattle.replay_bench.specs.declared.verdicts.ReaderError.TheVariants.{Read, Bench, MessageTooLong}

-- ---- what one call gives

-- An item is at the front of the bytes that are to come, where these are known, and those after it are left.
abbrev pub TakesKnown : Version → Option (List ℕ) → AnyItem → Option (List ℕ) → Type 0
TakesKnown version None item new = Unit {0}
TakesKnown version (Some old) item None = ⊥
TakesKnown version (Some old) item (Some new) = TakesItem version old item new

-- No item is at the front of the bytes that are to come, where these are known, and this many are left.
abbrev pub EndsKnown : Version → Option (List ℕ) → ℕ → Type 0
EndsKnown version known rest = IfSome known (λ bytes. NoItemBegins version bytes × (rest ≡ length bytes))

-- The bytes begin with this message, which is longer than the limit.
abbrev pub BeginsTooLong : Version → ℕ → LongMessage → List ℕ → Type 0
BeginsTooLong version limit message bytes = (offset : ℕ) × (too_long_at version limit offset bytes ≡ Some message)

-- Why a source gives no item of the bytes that are to come, where these are known.
abbrev pub RejectsNext : Version → ℕ → Bool → Option (List ℕ) → SourceError → Type 0
RejectsNext version limit may_fail known source.Failed = may_fail ≡ true
RejectsNext version limit may_fail known (source.MessageTooLong message) =
    (limit < 4294967295) × IfSome known (BeginsTooLong version limit message)
RejectsNext version limit may_fail known source.TooLong = IfSome known (λ bytes. 2 ^ 64 ≤ length bytes)
RejectsNext version limit may_fail known source.OutOfMemory = Unit {0}

-- What a source gives of the bytes that are to come, and which are left then.
abbrev pub IsNext : Version → ℕ → Bool → Option (List ℕ) → Result Next SourceError → Option (List ℕ) → Type 0
IsNext version limit may_fail old (Ok (Item item)) new = TakesKnown version old item new
IsNext version limit may_fail old (Ok (End rest)) new = EndsKnown version old rest
IsNext version limit may_fail old (Err error) new = RejectsNext version limit may_fail old error

-- If no item was given since an allocation failed, this holds.
abbrev pub WithoutMemory : Result Next SourceError → Type 0 → Type 0
WithoutMemory (Err source.OutOfMemory) holds = holds
WithoutMemory result holds = Unit {0}

-- Why a decoder does not take a chunk with which it would hold these bytes.
abbrev pub RejectsBytes : List ℕ → SourceError → Type 0
RejectsBytes bytes source.TooLong = 2 ^ 64 ≤ length bytes
RejectsBytes bytes source.OutOfMemory = Unit {0}
RejectsBytes bytes error = ⊥

-- ---- readers

-- What is known, unless a message was too long: then some bytes were dropped.
abbrev pub known_unless : Option LongMessage → Option (List ℕ) → Option (List ℕ)
known_unless None known = known
known_unless (Some message) known = None

-- The trailing bytes of a reader of items, where these are known.
abbrev pub coming_of : Unread → Option (List ℕ) → Option (List ℕ)
coming_of state remaining = known_unless state.rejected (prepend_known state.bytes remaining)

-- A limit, unless a message was too long: then no other one is taken.
abbrev pub limit_unless : Option LongMessage → ℕ → ℕ
limit_unless None limit = limit
limit_unless (Some message) limit = 0

-- The greatest length that a reader of items takes.
abbrev pub limit_of : Unread → ℕ
limit_of state = limit_unless state.rejected state.limit

-- ---- why a journal was not read

-- The error of a comparison, by that of the source of one side.
abbrev pub reader_error : Side → SourceError → ReaderError
reader_error side source.Failed = Read side
reader_error side (source.MessageTooLong message) = MessageTooLong side message
reader_error side source.TooLong = Bench TooLong
reader_error side source.OutOfMemory = Bench OutOfMemory

-- If a journal was not read on since an allocation failed, this holds.
abbrev pub UnreadWithoutMemory : {T : Type 0} → Result T ReaderError → Type 0 → Type 0
UnreadWithoutMemory (Err (Bench OutOfMemory)) holds = holds
UnreadWithoutMemory result holds = Unit {0}

-- A journal has this message after some of its items, and it is longer than its limit.
pub record HasLonger (version : Version) (message : LongMessage) (stream : List ℕ) : Type 0 where
  pub items : List AnyItem
  pub rest : List ℕ
  pub items_then : IsItemsThen version stream items rest
  pub begins : BeginsTooLong version message.limit message rest

-- Why the next command of a journal is not returned: a read of this side failed, where it may; a message is longer than
-- a limit, where there is one; the journal is too long; or an allocation fails.
abbrev pub MayReject : Side → Bool → Version → ℕ → Option (List ℕ) → ReaderError → Type 0
MayReject side may_fail version limit known (Read failed) = (failed ≡ side) × (may_fail ≡ true)
MayReject side may_fail version limit known (MessageTooLong failed message) =
    (failed ≡ side) × (limit < 4294967295) × IfSome known (HasLonger version message)
MayReject side may_fail version limit known (Bench TooLong) = IfSome known (λ bytes. 2 ^ 64 ≤ length bytes)
MayReject side may_fail version limit known (Bench OutOfMemory) = Unit {0}
MayReject side may_fail version limit known (Bench error) = ⊥
