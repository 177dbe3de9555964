-- What checking a payload and writing its entries in one pass says of a record.
use Rattle.std.specs.Prelude.{◌≡◌, ℕ, ◌+◌, ◌-◌, ◌<◌, Bool, List, [], ◌∷◌, length, drop, Some}
use Rattle.shared_core_wire.specs.Grammar.{RecordValue, Length, FieldRecord}
use Rattle.shared_core_wire.specs.Reader.{record_at}
use Rattle.shared_core_wire.specs.Schema.{Kind, Row, ByteString, Plain}
use Rattle.shared_core_codec.specs.Table.{table}
use Rattle.shared_core_codec.specs.Canonicity.{Next, next_field, written_size}
use Rattle.shared_core_fields.specs.Fields.{record_part}
use Rattle.shared_core_fields.specs.Entries.{field_entries}
use Rattle.shared_core_fields.specs.Rows.{TableRow, WritesRows, level_rows}
use Rattle.shared_core_fields.specs.declared.table.FieldEntry.{FieldEntry}

-- Entries of exactly these rows are written from an index on, as many as there is room for, and this is the index after
-- them.
abbrev pub WritesTo : List ℕ → List TableRow → ℕ → List FieldEntry → List FieldEntry → ℕ → Type 0
WritesTo payload rows at old new after = (after ≡ at + length rows) × WritesRows payload rows at old new

-- The rows of a record of a field, in a message in which messages may be nested `left` deep, and of those within it.
abbrev pub record_rows : ℕ → ℕ → Kind × Bool → RecordValue → List TableRow
record_rows left n f w = level_rows (field_entries left (100 - left) (n, f, record_part f w))

-- The entries of the rows of a record are written, for the field of these rows of which it may come next, and after it
-- may come the rows that are left.
pub record WritesNext (payload : List ℕ) (left : ℕ) (rows : List Row) (r : FieldRecord) (at : ℕ)
    (old new : List FieldEntry) (after : ℕ) (rest : List Row) : Type 0 where
  pub next : Next
  pub found : next_field rows r.number ≡ Some next
  pub rest_is : rest ≡ next.rows
  pub written : WritesTo payload (record_rows left r.number next.field r.value) at old new after

-- The only row of a schema is a plain field of bytes with this number, and the bytes are one record of it, as it is
-- written, after whose key and length of one byte each comes what it holds.
pub record IsSingleOf (n : ℕ) (all : List Row) (bytes : List ℕ) : Type 0 where
  pub content : List ℕ
  pub rows : all ≡ Plain n ByteString ∷ []
  pub read : record_at 0 bytes ≡ Some (record { number = n; value = Length content }, [])
  pub size : written_size (record { number = n; value = Length content }) ≡ length bytes
  pub there : drop 2 bytes ≡ content
  pub long : 2 + length content ≡ length bytes
  pub some : 0 < length content

-- The same of the schema of the protocol at an index.
abbrev pub IsSingle : ℕ → ℕ → List ℕ → Type 0
IsSingle n s bytes = IsSingleOf n (table s) bytes
