-- The rows of the table of a value's fields, which depend only on the value, and the rows that the program's entries
-- are.
use Rattle.std.specs.Prelude.{◌≡◌, ◌≤◌, ◌<◌, ℕ, ◌+◌, List, [], ◌∷◌, map, take, drop, set, length, flat_map}
use Rattle.std.specs.Int.{from_bool}
use Rattle.shared_core_wire.specs.Schema.{Kind, U32, U64, Boolean, Enumeration, Text, ByteString, Message}
use Rattle.shared_core_wire.specs.Value.{Part, Parts, Number, Bytes, Nested, Elements, nil, cons}
use Rattle.shared_core_wire.specs.Canonical.{written_number, canonical_payload}
use Rattle.shared_core_codec.specs.FieldParts.{enum_number}
use Rattle.shared_core_codec.specs.ProgramRows.{kind_view}
use Rattle.shared_core_codec.specs.Table.{table}
use Rattle.shared_core_fields.specs.Fields.{FieldPart}
use Rattle.shared_core_fields.specs.Views.{message_meaning}
use Rattle.shared_core_fields.specs.Entries.{LevelField, field_entries, message_entries}
use Rattle.shared_core_fields.specs.declared.fields.CanonicalPayload.{CanonicalPayload}
use Rattle.shared_core_fields.specs.declared.fields.FieldValue.{FieldValue}
use Rattle.shared_core_fields.specs.declared.fields.FieldValue.TheVariants as v
use Rattle.shared_core_fields.specs.declared.table.FieldEntry.{FieldEntry}

-- A row of the table: the level, the number and the kind of a field, the number that it holds, and its bytes.
pub record TableRow : Type 0 where
  pub level : ℕ
  pub number : ℕ
  pub kind : ℕ
  pub value : ℕ
  pub bytes : List ℕ

-- ---- by the value

-- The number of a kind.
abbrev pub kind_number : Kind → ℕ
kind_number U32 = 1
kind_number U64 = 2
kind_number Boolean = 3
kind_number Enumeration = 4
kind_number Text = 5
kind_number ByteString = 6
kind_number (Message s) = 7

-- The row of a number of a kind; an enum is sign-extended to 64 bits.
abbrev pub number_row : ℕ → ℕ → Kind → ℕ → TableRow
number_row level n k m = record {
  level = level;
  number = n;
  kind = kind_number k;
  value = written_number k m;
  bytes = [];
}

-- The row of bytes of a kind: of a message the value is its schema.
abbrev pub bytes_row : ℕ → ℕ → Kind → ℕ → List ℕ → TableRow
bytes_row level n k value bytes = record {
  level = level;
  number = n;
  kind = kind_number k;
  value = value;
  bytes = bytes;
}

-- The rows of the numbers of a packed run.
abbrev pub run_rows : ℕ → ℕ → Kind → Parts → List TableRow
run_rows level n k nil = []
run_rows level n k (cons (Number m) ps) = number_row level n k m ∷ run_rows level n k ps
run_rows level n k (cons p ps) = run_rows level n k ps

-- The rows of a part of a field at a level: one, and of a packed run one for each number.
abbrev pub part_rows : ℕ → ℕ → Kind → Part → List TableRow
part_rows level n k (Number m) = number_row level n k m ∷ []
part_rows level n k (Bytes bytes) = bytes_row level n k 0 bytes ∷ []
part_rows level n (Message s) (Nested v) = bytes_row level n (Message s) s (canonical_payload table s v) ∷ []
part_rows level n k (Elements ps) = run_rows level n k ps
part_rows level n k p = []

-- The rows of a field at a level, without those of the fields within it.
abbrev pub field_rows : ℕ → FieldPart → List TableRow
field_rows level f = part_rows level f.0 f.1.0 f.2

-- The rows of fields with their levels.
abbrev pub level_rows : List LevelField → List TableRow
level_rows es = flat_map (λ (e : LevelField). field_rows e.0 e.1) es

-- The rows of a value of the schema s: those of its fields of all levels.
abbrev pub table_rows : ℕ → Parts → List TableRow
table_rows s v = level_rows (message_entries 0 s v)

-- The rows of fields at a level, and of those within them, where messages are nested at most `left` deep in them.
abbrev pub fields_rows : ℕ → ℕ → List FieldPart → List TableRow
fields_rows left level fs = level_rows (flat_map (field_entries left level) fs)

-- ---- of the program

-- The row that an entry is, whose bytes are those of the payload at its offset.
abbrev pub entry_row : List ℕ → FieldEntry → TableRow
entry_row payload e = record {
  level = e.level;
  number = e.number;
  kind = e.kind;
  value = e.value;
  bytes = take e.length (drop e.offset payload);
}

-- The bytes of an entry are in the payload; where its kind has none, it says 0.
abbrev pub IsPlaced : List ℕ → FieldEntry → Type 0
IsPlaced payload e = (e.offset + e.length ≤ length payload) × (e.kind < 5 → e.offset ≡ 0)

-- The same of each.
abbrev pub ArePlaced : List ℕ → List FieldEntry → Type 0
ArePlaced payload [] = Unit {0}
ArePlaced payload (e ∷ es) = IsPlaced payload e × ArePlaced payload es

-- A list in which these elements are written one after the other, from an index on; those past its end are left out.
abbrev pub written_at : {A : Type 0} → List A → ℕ → List A → List A
written_at xs at [] = xs
written_at xs at (y ∷ ys) = written_at (set xs at y) (at + 1) ys

-- Entries of exactly these rows are written from an index on, as many as there is room for.
pub record WritesRows (payload : List ℕ) (rows : List TableRow) (at : ℕ) (old new : List FieldEntry) : Type 0 where
  pub entries : List FieldEntry
  pub are : map (entry_row payload) entries ≡ rows
  pub placed : ArePlaced payload entries
  pub written : new ≡ written_at old at entries

-- The entry of a number.
abbrev pub number_entry : Kind → ℕ → ℕ → ℕ → FieldEntry
number_entry k m n level = record {
  level = level;
  number = n;
  kind = kind_number k;
  value = m;
  offset = 0;
  length = 0;
}

-- The entry of bytes at an offset.
abbrev pub bytes_entry : Kind → ℕ → ℕ → ℕ → ℕ → ℕ → FieldEntry
bytes_entry k m size n offset level = record {
  level = level;
  number = n;
  kind = kind_number k;
  value = m;
  offset = offset;
  length = size;
}

-- The entry of a value of a field at an offset.
abbrev pub value_entry : {T S : _} → FieldValue (CanonicalPayload T S) → ℕ → ℕ → ℕ → FieldEntry
value_entry (v.U32 m) n offset level = number_entry U32 m n level
value_entry (v.U64 m) n offset level = number_entry U64 m n level
value_entry (v.Boolean b) n offset level = number_entry Boolean (from_bool b) n level
value_entry (v.Enumeration z) n offset level =
    number_entry Enumeration (written_number Enumeration (enum_number z)) n level
value_entry (v.Text text) n offset level = bytes_entry Text 0 (length text.now) n offset level
value_entry (v.ByteString bytes) n offset level = bytes_entry ByteString 0 (length bytes.now) n offset level
value_entry (v.Message m) n offset level = bytes_entry (Message m.schema) m.schema (length m.bytes.now) n offset level
value_entry (v.Numbers run) n offset level = bytes_entry (kind_view run.kind) 0 (length run.bytes.now) n offset level

-- The bytes of a message are the canonical payload of what it means.
abbrev pub IsExact : {T S : _} → FieldValue (CanonicalPayload T S) → Type 0
IsExact (v.Message m) = m.bytes.now ≡ canonical_payload table m.schema (message_meaning m)
IsExact value = Unit {0}
