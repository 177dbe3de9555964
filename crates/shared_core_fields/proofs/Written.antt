-- Entries of rows, written one after the other.
use Rattle.std.proofs.Common.{◌≡◌, ℕ, zero, suc, ◌+◌, ◌-◌, ◌%◌, ◌^◌, ◌<◌, ◌≤◌, Bool, List, [], ◌∷◌, ◌++◌, map, take}
use Rattle.std.proofs.Common.{drop, set, length, refl, sym, ap, ◌∙◌, arith}
use Rattle.std.proofs.lemmas.List.{map-append, length-map, length-append, drop-drop, take-take, drop-take}
use Rattle.std.proofs.lemmas.List.Concat.{flat_map-append}
use Rattle.std.specs.Prelude.{flat_map}
use Rattle.shared_core_wire.specs.Schema.{Kind, Text, ByteString, Message}
use Rattle.shared_core_wire.specs.Value.{Number}
use Rattle.shared_core_codec.specs.FieldParts.{parts_of}
use Rattle.shared_core_codec.specs.ProgramRows.{kind_view}
use Rattle.shared_core_codec.specs.Table.{table}
use Rattle.shared_core_fields.specs.Fields.{FieldPart, message_fields}
use Rattle.shared_core_fields.specs.NumberValues.{number_value}
use Rattle.shared_core_fields.specs.Runs.{held_numbers, run_numbers}
use Rattle.shared_core_fields.specs.Views.{IsAt, message_meaning, value_kind, value_part, value_bytes}
use Rattle.shared_core_fields.specs.Entries.{LevelField, within_field, field_entries}
use Rattle.shared_core_fields.specs.Rows.{TableRow, bytes_row, run_rows, field_rows, level_rows}
use Rattle.shared_core_fields.specs.Rows.{fields_rows, entry_row, IsPlaced, ArePlaced, written_at, WritesRows}
use Rattle.shared_core_fields.specs.Rows.{value_entry, IsExact}
use Rattle.shared_core_fields.specs.declared.table.FieldEntry.{FieldEntry}
use Rattle.shared_core_fields.specs.declared.fields.FieldValue.{FieldValue}
use Rattle.shared_core_fields.specs.declared.fields.FieldValue.TheVariants as v
use Rattle.shared_core_fields.specs.declared.fields.CanonicalPayload.{CanonicalPayload}
use Rattle.shared_core_fields.specs.declared.runs.Run.{Run}
use Rattle.shared_core_fields.proofs.FieldEntries.{of_message}

written_more : (ys zs xs : List FieldEntry) (at : ℕ) → written_at (written_at xs at ys) (at + length ys) zs ≡ written_at
    xs at (ys ++ zs)
written_more [] zs xs at =
    let here : at + 0 ≡ at = omega arith in
    ap (λ (n : ℕ). written_at xs n zs) here
written_more (y ∷ ys) zs xs at =
    let there : at + length (y ∷ ys) ≡ at + 1 + length ys = omega arith in
    ap (λ (n : ℕ). written_at (written_at (set xs at y) (at + 1) ys) n zs) there ∙ written_more ys zs (set xs at y)
    (at + 1)

placed_append : (payload : List ℕ) (xs ys : List FieldEntry) → ArePlaced payload xs → ArePlaced payload ys → ArePlaced
    payload (xs ++ ys)
placed_append payload [] ys a b = b
placed_append payload (x ∷ xs) ys a b = (a.0, placed_append payload xs ys a.1 b)

pub nothing : (payload : List ℕ) (at : ℕ) (old : List FieldEntry) → WritesRows payload [] at old old
nothing payload at old = record { entries = []; are = refl; placed = tt; written = refl }

pub one : (payload : List ℕ) (rows : List TableRow) (at : ℕ) (old new : List FieldEntry) (e : FieldEntry) → rows ≡
    entry_row payload e ∷ [] → IsPlaced payload e → new ≡ set old at e → WritesRows payload rows at old new
one payload rows at old new e is placed written = record {
  entries = e ∷ [];
  are = sym is;
  placed = (placed, tt);
  written = written;
}

pub joined : (payload : List ℕ) (front rest all : List TableRow) (at from : ℕ) (old mid new : List FieldEntry) → all ≡
    front ++ rest → from ≡ at + length front → WritesRows payload front at old mid → WritesRows payload rest from mid
    new → WritesRows payload all at old new
joined payload front rest all at from old mid new whole place a b =
    let as_many : length a.entries ≡ length front = sym (length-map a.entries (entry_row payload)) ∙ ap length a.are in
    let there : from ≡ at + length a.entries = omega (arith, place, as_many) in
    record {
      entries = a.entries ++ b.entries;
      are = map-append (entry_row payload) a.entries b.entries ∙ ap (λ (rs : List TableRow). rs ++ map
          (entry_row payload) b.entries) a.are ∙ ap (λ (rs : List TableRow). front ++ rs) b.are ∙ sym whole;
      placed = placed_append payload a.entries b.entries a.placed b.placed;
      written = b.written ∙ ap (λ (xs : List FieldEntry). written_at xs from b.entries) a.written ∙ ap
          (λ (n : ℕ). written_at (written_at old at a.entries) n b.entries) there ∙ written_more a.entries b.entries old
          at;
    }

-- ---- the rows of fields

pub rows_append : (xs ys : List LevelField) → level_rows (xs ++ ys) ≡ level_rows xs ++ level_rows ys
rows_append xs ys = flat_map-append (λ (e : LevelField). field_rows e.0 e.1) xs ys

pub rows_more : (left level : ℕ) (f : FieldPart) (fs : List FieldPart) → fields_rows left level (f ∷ fs) ≡ level_rows
    (field_entries left level f) ++ fields_rows left level fs
rows_more left level f fs = rows_append (field_entries left level f) (flat_map (field_entries left level) fs)

-- ---- a packed run

pub run_step : (payload : List ℕ) (rows rest all : List TableRow) (at count : ℕ) (start old mid new : List FieldEntry)
    (e : FieldEntry) → rows ≡ entry_row payload e ∷ rest → IsPlaced payload e → mid ≡ set old count e
    → ((n : List FieldEntry) → WritesRows payload rows count old n → WritesRows payload all at start n)
    → WritesRows payload rest (count + 1) mid new → WritesRows payload all at start new
run_step payload rows rest all at count start old mid new e is placed written goes w =
    goes new (joined payload (entry_row payload e ∷ []) rest rows count (count + 1) old mid new is (omega arith)
    (one payload (entry_row payload e ∷ []) count old mid e refl placed written) w)

pub run_length : (level n : ℕ) (k : Kind) (ns : List ℕ) → length (run_rows level n k (parts_of Number ns)) ≡ length ns
run_length level n k [] = refl
run_length level n k (m ∷ ns) = ap suc (run_length level n k ns)

pub held_length : (level n : ℕ) (k : Kind) (run : List ℕ) → length (run_rows level n k
    (parts_of Number (held_numbers k run))) ≡ length (run_numbers run)
held_length level n k run = run_length level n k (held_numbers k run) ∙ length-map (run_numbers run) (number_value k)

pub run_field : {T S : _} (level n : ℕ) (repeated : Bool) (value : FieldValue (CanonicalPayload T S)) (run : Run)
    → value ≡ v.Numbers run → field_rows
    level (n, (value_kind value, repeated), value_part value) ≡ run_rows level n (kind_view run.kind)
    (parts_of Number (held_numbers (kind_view run.kind) run.bytes.now))
run_field {T} {S} level n repeated value run e = ap
    (λ (x : FieldValue (CanonicalPayload T S)). field_rows level (n, (value_kind x, repeated), value_part x)) e

-- ---- a field with a row of its own

pub own_entry : {T S : _} (payload : List ℕ) (value : FieldValue (CanonicalPayload T S)) (n offset level : ℕ) (repeated
    : Bool) →
    ((run : Run) → value ≡ v.Numbers run → ⊥) → IsExact value → IsAt payload offset (value_bytes value)
    → (field_rows level (n, (value_kind value, repeated), value_part value) ≡ entry_row payload
    (value_entry value n offset level) ∷ []) × IsPlaced payload (value_entry value n offset level)
own_entry payload (v.U32 m) n offset level repeated h x a = (refl, (omega arith, λ l. refl))
own_entry payload (v.U64 m) n offset level repeated h x a = (refl, (omega arith, λ l. refl))
own_entry payload (v.Boolean b) n offset level repeated h x a = (refl, (omega arith, λ l. refl))
own_entry payload (v.Enumeration z) n offset level repeated h x a = (refl, (omega arith, λ l. refl))
own_entry payload (v.Text text) n offset level repeated h x a = (
  ap (λ (bs : List ℕ). bytes_row level n Text 0 bs ∷ []) (sym a.1),
  (a.0, λ l. absurd (omega (arith, l))),
)
own_entry payload (v.ByteString bytes) n offset level repeated h x a = (
  ap (λ (bs : List ℕ). bytes_row level n ByteString 0 bs ∷ []) (sym a.1),
  (a.0, λ l. absurd (omega (arith, l))),
)
own_entry payload (v.Message m) n offset level repeated h x a = (
  ap (λ (bs : List ℕ). bytes_row level n (Message m.schema) m.schema bs ∷ []) (sym x ∙ sym a.1),
  (a.0, λ l. absurd (omega (arith, l))),
)
own_entry payload (v.Numbers run) n offset level repeated h x a = absurd (h run refl)

-- ---- a field and those within it

pub at_within : (whole : List ℕ) (base : ℕ) (bytes : List ℕ) (offset : ℕ) (part : List ℕ) → IsAt whole base bytes →
    IsAt bytes offset part → IsAt whole (base + offset) part
at_within whole base bytes offset part a b =
    let rest = length bytes - offset in
    let after = drop base whole in
    let fits : offset + rest ≡ length bytes = omega (arith, b.0) in
    let short : length part ≤ rest = omega (arith, b.0) in (
      omega (arith, a.0, b.0),
      ap (take (length part)) (sym (drop-drop offset base whole)) ∙ sym
          (take-take (length part) rest (drop offset after) short) ∙ ap (take (length part))
          (sym (drop-take offset rest after)) ∙ ap (λ (n : ℕ). take (length part) (drop offset (take n after))) fits ∙
          ap (λ (bs : List ℕ). take (length part) (drop offset bs)) a.1 ∙ b.1,
    )

entries_first : (left level : ℕ) (f : FieldPart) → (inner : List LevelField) ×
    (field_entries left level f ≡ (level, f) ∷ inner)
unfolding field_entries
entries_first zero level f = ([], refl)
entries_first (suc left) level f = (
  within_field (λ s ps. flat_map (field_entries left (level + 1)) (message_fields (table s) ps)) f,
  refl,
)

pub first_few : (left level : ℕ) (f : FieldPart) (fs rest : List FieldPart) → fs ≡ f ∷ rest → length
    (field_rows level f) ≤ length (fields_rows left level fs)
first_few left level f fs rest e =
    let x = entries_first left level f in
    let whole = ap (λ (gs : List FieldPart). length (fields_rows left level gs)) e ∙ ap length
    (rows_more left level f rest) ∙ length-append (level_rows (field_entries left level f))
    (fields_rows left level rest) in
    let own = ap (λ (es : List LevelField). length (level_rows es)) x.1 ∙ length-append (field_rows level f)
    (level_rows x.0) in
    omega (arith, whole, own)

pub inner_few : (left level : ℕ) (f : FieldPart) (fs rest : List FieldPart) (inner : List TableRow) → fs ≡ f ∷ rest
    → level_rows (field_entries left level f) ≡ field_rows level f ++ inner → length (field_rows level f) + length inner
    ≤ length (fields_rows left level fs)
inner_few left level f fs rest inner e own =
    let whole = ap (λ (gs : List FieldPart). length (fields_rows left level gs)) e ∙ ap length
    (rows_more left level f rest) ∙ length-append (level_rows (field_entries left level f))
    (fields_rows left level rest) in
    let parts = ap length own ∙ length-append (field_rows level f) inner in
    omega (arith, whole, parts)

pub field_step : (whole : List ℕ) (left level at count own_count new_count : ℕ) (start old own mid : List FieldEntry)
    (all inner : List TableRow) (f : FieldPart) (fs rest : List FieldPart) → fs ≡ f ∷ rest
    → level_rows (field_entries left level f) ≡ field_rows level f ++ inner
    → own_count ≡ count + length (field_rows level f) → WritesRows whole (field_rows level f) count old own
    → new_count ≡ own_count + length inner → WritesRows whole inner own_count own mid
    → count + length (fields_rows left level fs) ≡ at + length all
    → ((new : List FieldEntry) → WritesRows whole (fields_rows left level fs) count old new → WritesRows whole all at
    start new)
    → (new_count + length (fields_rows left level rest) ≡ at + length all)
    × ((new : List FieldEntry) → WritesRows whole (fields_rows left level rest) new_count mid new → WritesRows whole all
    at start new)
field_step whole left level at count own_count new_count start old own mid all inner f fs rest e is c a d b sum goes =
    let both = level_rows (field_entries left level f) in
    let turn = ap (λ (gs : List FieldPart). fields_rows left level gs) e ∙ rows_more left level f rest in
    let lengths = ap length turn ∙ length-append both (fields_rows left level rest) in
    let parts = ap length is ∙ length-append (field_rows level f) inner in (
      omega (arith, lengths, parts, c, d, sum),
      λ new w.
          goes new (joined whole both (fields_rows left level rest) (fields_rows left level fs) count new_count old mid
          new turn (omega (arith, parts, c, d))
          (joined whole (field_rows level f) inner both count own_count old own mid is c a b) w),
    )

pub message_rows : {T S : _} (left level n : ℕ) (repeated : Bool) (value : FieldValue (CanonicalPayload T S))
    (m : CanonicalPayload T S) → 0 < left → value ≡
    v.Message m
    → level_rows (field_entries left level (n, (value_kind value, repeated), value_part value)) ≡ field_rows level
    (n, (value_kind value, repeated), value_part value) ++ fields_rows (left - 1) (level + 1)
    (message_fields (table m.schema) (message_meaning m))
message_rows left level n repeated value m l e = ap level_rows (of_message left level n repeated value m l e)
