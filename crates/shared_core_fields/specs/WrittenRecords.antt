-- Records as they are written.
use Rattle.std.specs.Prelude.{◌≡◌, ℕ, Bool, ◌&&◌, ◌+◌, ◌==◌, List, length, Option, Some, None, option_map}
use Rattle.std.specs.Prelude.{if◌then◌else◌}
use Rattle.shared_core_wire.specs.Grammar.{FieldRecord}
use Rattle.shared_core_wire.specs.Encoding.{shortest_varint}
use Rattle.shared_core_wire.specs.Reader.{◌>>=◌, varint_at, record_at}
use Rattle.shared_core_wire.specs.Schema.{Kind, Row}
use Rattle.shared_core_wire.specs.Acceptance.{NestedAcceptance, accepts_number}
use Rattle.shared_core_codec.specs.Canonicity.{is_written_run, rows_after, written_size}

-- The bytes begin with the varint of a number, in as few bytes as can be, and then these come.
pub record IsWrittenVarint (bytes : List ℕ) (n : ℕ) (rest : List ℕ) : Type 0 where
  pub read : varint_at bytes ≡ Some (n, rest)
  pub size : length (shortest_varint n) + length rest ≡ length bytes

-- The record that the bytes begin with, and the bytes after it, if it has as few bytes as when it is written.
unfoldable pub written_record_at : List ℕ → Option (FieldRecord × List ℕ)
written_record_at bytes = record_at 0 bytes >>= λ x.
    if written_size x.0 + length x.1 == length bytes then Some x else None

-- The rows that may come after the record that the bytes begin with, which is written, and the bytes after it.
abbrev pub rows_and_rest : NestedAcceptance → List Row → List ℕ → Option (List Row × List ℕ)
rows_and_rest nested rows bytes = written_record_at bytes >>= λ x.
    option_map (λ rs. (rs, x.1)) (rows_after nested rows x.0)

-- Whether bytes are a packed run of a field of a kind, repeated or not.
abbrev pub is_run : Kind → Bool → List ℕ → Bool
is_run k repeated run = (accepts_number k && repeated) && is_written_run k run
