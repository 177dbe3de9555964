-- What copying a part of a stream reads and writes.
use Rattle.std.specs.Prelude.{◌≡◌, ℕ, ◌-◌, ◌<◌, ◌≤◌, List, [], ◌++◌, length, max, take, drop, Result, Ok, Err, Option}
use Rattle.std.specs.Io.KnownBytes.{Consumes, IsAtEnd}
use Rattle.stream_lines.specs.Printing.{Begins}
use Rattle.stream_parts.specs.declared.copy.Part.{Part}
use Rattle.stream_parts.specs.declared.error.CopyError.{CopyError}
use Rattle.stream_parts.specs.declared.error.CopyError.TheVariants.{Input, Output, OutOfMemory, Ended}

-- The bytes from one offset to before another one, as far as there are any.
abbrev pub slice : ℕ → ℕ → List ℕ → List ℕ
slice from until stream = take (until - from) (drop from stream)

-- The bytes of a stream that are in a part, as far as the stream was read.
abbrev pub kept : Part → List ℕ → List ℕ
kept part stream = slice part.after part.front stream ++ slice part.from part.until stream

-- A part in which an offset that is less than the one before it is that one.
abbrev pub ordered : Part → Part
ordered part = record {
  after = part.after;
  front = max part.front part.after;
  from = max part.from (max part.front part.after);
  until = max part.until (max part.from (max part.front part.after));
}

-- What is read and written by a result. All of the part is, and the stream is read up to its end. Where the input
-- failed or ended before, those bytes of the part are written that were read; where the output failed, a prefix of
-- these; where an allocation failed, nothing.
abbrev pub IsCopied : Part → Result Unit CopyError → List ℕ → List ℕ → Option (List ℕ) → Type 0
IsCopied part (Ok done) read written left = (length read ≡ part.until) × (written ≡ kept part read)
IsCopied part (Err Input) read written left = (length read < part.until) × (written ≡ kept part read)
IsCopied part (Err Ended) read written left =
    IsAtEnd left × (length read < part.until) × (written ≡ kept part read)
IsCopied part (Err Output) read written left = (length read ≤ part.until) × Begins written (kept part read)
IsCopied part (Err OutOfMemory) read written left = (read ≡ []) × (written ≡ [])

-- What is read by a result where this many bytes are passed over.
abbrev pub IsPassedOver : ℕ → Result Unit CopyError → List ℕ → Option (List ℕ) → Type 0
IsPassedOver count (Ok done) read left = length read ≡ count
IsPassedOver count (Err Input) read left = length read < count
IsPassedOver count (Err Ended) read left = IsAtEnd left × (length read < count)
IsPassedOver count (Err error) read left = ⊥

-- What is read and written by a result where this many bytes are passed on.
abbrev pub IsPassedOn : ℕ → Result Unit CopyError → List ℕ → List ℕ → Option (List ℕ) → Type 0
IsPassedOn count (Ok done) read written left = (length read ≡ count) × (written ≡ read)
IsPassedOn count (Err Input) read written left = (length read < count) × (written ≡ read)
IsPassedOn count (Err Ended) read written left = IsAtEnd left × (length read < count) × (written ≡ read)
IsPassedOn count (Err Output) read written left = (length read ≤ count) × Begins written read
IsPassedOn count (Err OutOfMemory) read written left = ⊥

-- One read, of at most this many bytes: they are at the front of the buffer; or none, since it failed or the input
-- ended.
abbrev pub IsReadPart : ℕ → Option (List ℕ) → Option (List ℕ) → Result ℕ CopyError → List ℕ → Type 0
IsReadPart most old new (Ok count) buffer =
    (0 < count) × (count ≤ most) × (count ≤ length buffer) × Consumes old new (take count buffer)
IsReadPart most old new (Err Input) buffer = Consumes old new []
IsReadPart most old new (Err Ended) buffer = Consumes old new [] × IsAtEnd new
IsReadPart most old new (Err error) buffer = ⊥
