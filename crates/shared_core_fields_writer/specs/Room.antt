-- Records written into a slice, as far as there is room.
use Rattle.std.specs.Prelude.{◌≡◌, ◌<◌, ◌≤◌, ℕ, ◌+◌, ◌-◌, ◌*◌, List, ◌++◌, length, take, drop, slice_set}
use Rattle.shared_core_wire.specs.Encoding.{shortest_varint}
use Rattle.shared_core_wire.specs.WrittenRecords.{at_most_64_bits}

-- Bytes come after those before an index, up to another one, if the slice has room for all of them. What is before
-- stays in any case.
pub record Wrote (old : List ℕ) (from : ℕ) (new : List ℕ) (to : ℕ) (bytes : List ℕ) : Type 0 where
  pub same_length : length new ≡ length old
  pub before : take from new ≡ take from old
  pub up : from ≤ to
  pub count : to ≡ at_most_64_bits (from + length bytes)
  pub written : to ≤ length old → take to new ≡ take from old ++ bytes

-- The length of the bytes between two indices comes in the place of what is before them, from an index on, and these
-- bytes after it, if the slice has room for all of them.
pub record WroteLength (old : List ℕ) (from start end : ℕ) (new : List ℕ) (to : ℕ) : Type 0 where
  pub same_length : length new ≡ length old
  pub before : take from new ≡ take from old
  pub count : to ≡ at_most_64_bits (from + length (shortest_varint (end - start)) + (end - start))
  pub written : to ≤ length old → take to new ≡ take from old ++ (shortest_varint (end - start) ++ drop start
      (take end old))

-- The key and the length of a few bytes, a byte each, come from an index on, and there is room for these bytes, up to
-- another index.
pub record WroteFewHead (old : List ℕ) (from number len : ℕ) (new : List ℕ) (to : ℕ) : Type 0 where
  pub key : number < 16
  pub some : 0 < len
  pub few : len ≤ 64
  pub end : to ≡ from + 2 + len
  pub room : to ≤ length old
  pub same_length : length new ≡ length old
  pub written : new ≡ slice_set (slice_set old from (8 * number + 2)) (from + 1) len
