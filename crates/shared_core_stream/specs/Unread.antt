-- What a decoder holds.
use Rattle.std.specs.Prelude.{◌≡◌, ℕ, ◌-◌, ◌^◌, ◌<◌, ◌≤◌, min, List, [], length, take, drop, Option, Some, None}
use Rattle.shared_core_base.specs.declared.version.Version.{Version}
use Rattle.shared_core_stream.specs.declared.encoding.limit_error.MessageTooLong.{MessageTooLong}

-- A decoder as contracts see it: its version; its pending bytes, those that no call has taken; its limit; the offset of
-- the pending bytes in the stream, or 2^64 - 1 from there on; and the message that it has rejected, if any.
pub record Unread : Type 0 where
  pub version : Version
  pub bytes : List ℕ
  pub limit : ℕ
  pub offset : ℕ
  pub rejected : Option MessageTooLong

-- A decoder of this version and this limit that has received no byte.
abbrev pub fresh : Version → ℕ → Unread
fresh version limit = record { version = version; bytes = []; limit = limit; offset = 0; rejected = None }

-- No message is too long for the decoder: it has the greatest limit, which is none, and has rejected nothing.
abbrev pub IsUnlimited : Unread → Type 0
IsUnlimited decoder = (decoder.limit ≡ 4294967295) × (decoder.rejected ≡ None)

-- The eight bytes that were read as a header and are held, if any are.
abbrev pub held_bytes : Option (List ℕ) → List ℕ
held_bytes None = []
held_bytes (Some head) = head

-- The number of bytes that are held as a header: eight, or none.
abbrev pub held_length : Option (List ℕ) → ℕ
held_length None = 0
held_length (Some head) = 8

-- A payload of a length was wanted after the first eight bytes: both were taken, or there are too few, and nothing was.
abbrev pub LosesPayload : List ℕ → ℕ → Option (List ℕ) → List ℕ → Type 0
LosesPayload old count None new = (length (drop 8 old) < count) × (new ≡ old)
LosesPayload old count (Some payload) new =
    (count ≤ length (drop 8 old)) × (payload ≡ take count (drop 8 old)) × (new ≡ drop count (drop 8 old))

-- The offset of the pending bytes, if this many were received, and that many of them are pending.
abbrev pub offset_of : ℕ → ℕ → ℕ
offset_of pushed pending = min (pushed - pending) (2 ^ 64 - 1)
