-- What reading items from a reader does.
use Rattle.std.specs.Prelude.{◌≡◌, ◌≢◌, ℕ, ◌+◌, ◌<◌, ◌≤◌, List, [], ◌∷◌, ◌++◌, length}
use Rattle.std.specs.Prelude.{Result, Ok, Err, Option, Some, None}
use Rattle.std.specs.Io.KnownBytes.{IsAtEnd}
use Rattle.std.specs.IoError.{error_kind}
use Rattle.std.specs.declared.io.ErrorKind.TheVariants.{Interrupted}
use Rattle.bytes.specs.Filled.{Filled}
use Rattle.shared_core_stream.specs.Items.{front_word, NoItemBegins}
use Rattle.shared_core_stream.specs.Limits.{TakesWithin, rejection, after_item, after_rejection}
use Rattle.shared_core_stream.specs.Unread.{Unread}
use Rattle.shared_core_stream.specs.declared.encoding.item.Item.{Item}
use Rattle.shared_core_stream.specs.declared.encoding.limit_error.MessageTooLong.{MessageTooLong}
use Rattle.shared_core_io.specs.declared.error.ReadError.{ReadError}
use Rattle.shared_core_io.specs.declared.error.ReadError.TheVariants.{Failed, TooLong, Truncated, OutOfMemory}

-- A decoder that has received more bytes.
abbrev pub with_more : Unread → List ℕ → Unread
with_more state more = record state { bytes = state.bytes ++ more }

-- What is held: a decoder that has also received the bytes that were read and are still in a chunk or a buffer.
abbrev pub held : Unread → List ℕ → Filled → Unread
held decoder chunk buffer = with_more decoder (chunk ++ buffer.items)

-- The most bytes that are held: a header, all but one byte of its payload, and what three reads give.
abbrev pub most_held : ℕ
most_held = 4295163910

-- What the next item is, by what was held or read, what the reader has left, and what is held afterwards: the item at
-- the front, if it is within the limit; none, if there are no bytes at the end; an error that the message at the front
-- is too long, after which nothing is held; an error with the number of bytes, if they are those of a part of an item
-- and the stream has ended; and an error that takes nothing, which no interrupted read is.
abbrev pub IsRead : Unread → Option (List ℕ) → Result (Option Item) ReadError → Unread → Type 0
IsRead old left (Ok (Some item)) new =
    (rejection old ≡ None) × TakesWithin old.version old.limit old.bytes item new.bytes
    × (new ≡ after_item old new.bytes)
IsRead old left (Ok None) new = IsAtEnd left × (rejection old ≡ None) × (old.bytes ≡ []) × (new ≡ old)
IsRead old left (Err (TooLong message)) new = (rejection old ≡ Some message) × (new ≡ after_rejection old message)
IsRead old left (Err (Truncated count)) new =
    IsAtEnd left × (rejection old ≡ None) × NoItemBegins old.version old.bytes
    × (count ≡ length old.bytes) × (0 < count) × (new ≡ old)
IsRead old left (Err (Failed reason)) new = (new ≡ old) × (error_kind reason ≢ Interrupted)
IsRead old left (Err OutOfMemory) new = new ≡ old

-- What was taken of a decoder, and of the bytes outside it, which are dropped with a message that is too long: the item
-- at the front; nothing, since no complete item is there or an allocation failed.
abbrev pub IsTaken : Unread → List ℕ → Result (Option Item) ReadError → Unread → List ℕ → Type 0
IsTaken old outside (Ok (Some item)) new kept =
    (rejection old ≡ None) × TakesWithin old.version old.limit old.bytes item new.bytes
    × (new ≡ after_item old new.bytes) × (kept ≡ outside)
IsTaken old outside (Ok None) new kept =
    (rejection old ≡ None) × NoItemBegins old.version old.bytes
    × (length old.bytes ≤ old.limit + 7) × (new ≡ old) × (kept ≡ outside)
IsTaken old outside (Err (TooLong message)) new kept =
    (rejection old ≡ Some message) × (new ≡ after_rejection old message) × (kept ≡ [])
IsTaken old outside (Err OutOfMemory) new kept = (new ≡ old) × (kept ≡ outside)
IsTaken old outside (Err error) new kept = ⊥

-- What was taken without reading, of what was held, and what is held afterwards: the item at the front, if it is within
-- the limit; nothing, since no complete item is there; an error that the message at the front is too long, after which
-- nothing is held; or a failed allocation, which takes nothing.
abbrev pub IsTakenOf : Unread → Result (Option Item) ReadError → Unread → Type 0
IsTakenOf old (Ok (Some item)) new =
    (rejection old ≡ None) × TakesWithin old.version old.limit old.bytes item new.bytes
    × (new ≡ after_item old new.bytes)
IsTakenOf old (Ok None) new =
    (rejection old ≡ None) × NoItemBegins old.version old.bytes × (new ≡ old)
IsTakenOf old (Err (TooLong message)) new = (rejection old ≡ Some message) × (new ≡ after_rejection old message)
IsTakenOf old (Err OutOfMemory) new = new ≡ old
IsTakenOf old (Err error) new = ⊥

-- The result at the end of a stream, if these are the bytes that are left: an error, if there are any.
abbrev pub result_at_end : List ℕ → Result (Option Item) ReadError
result_at_end [] = Ok None
result_at_end (byte ∷ bytes) = Err (Truncated (length (byte ∷ bytes)))

-- The result without the word of the item's header.
abbrev pub without_word : {E : Type 0} → Result (Option (ℕ × Item)) E → Result (Option Item) E
without_word (Ok (Some next)) = Ok (Some next.1)
without_word (Ok None) = Ok None
without_word (Err error) = Err error

-- The word that comes with an item is that of the first header of the bytes.
abbrev pub HasWord : Result (Option (ℕ × Item)) ReadError → List ℕ → Type 0
HasWord (Ok (Some next)) bytes = next.0 ≡ front_word bytes
HasWord (Ok None) bytes = Unit {0}
HasWord (Err error) bytes = Unit {0}

-- At the end of a stream no byte is outside the decoder.
abbrev pub IsDrained : Result (Option (ℕ × Item)) ReadError → List ℕ → Type 0
IsDrained (Ok None) outside = outside ≡ []
IsDrained (Ok (Some next)) outside = Unit {0}
IsDrained (Err (Truncated count)) outside = outside ≡ []
IsDrained (Err error) outside = Unit {0}

-- The most bytes that hold no complete item: a header, and all but one byte of the longest payload.
abbrev pub most_of_a_part : ℕ
most_of_a_part = 4294967302

-- The error of a read, by the message that was rejected before, if any, and by what was held and is held: a failed
-- read, which is not an interrupted one, and an error for that message change nothing; after a failed allocation what
-- was read is held.
abbrev pub LosesNothing : {T : Type 0} → Option MessageTooLong → T → T → ReadError → Type 0
LosesNothing rejected old new (Failed reason) = (new ≡ old) × (error_kind reason ≢ Interrupted)
LosesNothing rejected old new (TooLong message) = (rejected ≡ Some message) × (new ≡ old)
LosesNothing rejected old new (Truncated count) = ⊥
LosesNothing rejected old new OutOfMemory = Unit {0}
