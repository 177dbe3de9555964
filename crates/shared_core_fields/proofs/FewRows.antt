-- A value has at most as many rows as its canonical payload has bytes.
use Rattle.std.proofs.Common.{◌≡◌, ℕ, zero, suc, ◌+◌, ◌*◌, ◌<◌, ◌≤◌, List, [], ◌∷◌, ◌++◌, map, length, Bool, true}
use Rattle.std.proofs.Common.{false, cond, refl, ap, ◌∙◌, arith, inl, inr, append-nil}
use Rattle.std.proofs.lemmas.Bool.{cases_lt}
use Rattle.std.proofs.lemmas.List.{map-append, length-append}
use Rattle.std.proofs.lemmas.List.Concat.{flat_map-append}
use Rattle.std.specs.Prelude.{flat_map}
use Rattle.shared_core_wire.specs.Grammar.{RecordValue, Varint, Length, FieldRecord}
use Rattle.shared_core_wire.specs.Encoding.{shortest_varint, key_bytes, record_bytes, record_list_bytes}
use Rattle.shared_core_wire.specs.Schema.{Kind, Row, Message, Plain}
use Rattle.shared_core_wire.specs.Schema.{Optional, Repeated, OneOf, member_kind}
use Rattle.shared_core_wire.specs.Value.{Part, Parts, Absent, Number, Bytes, Nested, Elements, Member, nil, cons}
use Rattle.shared_core_wire.specs.Acceptance.{accepts_number}
use Rattle.shared_core_wire.specs.Canonical.{is_default, run_values, kind_of, row_records, part_values, element_values}
use Rattle.shared_core_wire.specs.Canonical.{number_bytes, message_records, canonical_payload, levels, written_number}
use Rattle.shared_core_wire.specs.Fitting.{is_single, has_shape, PartFits, ElementsFit, Fits}
use Rattle.shared_core_wire.proofs.Numbers.{no_bytes, no_message}
use Rattle.shared_core_wire.proofs.Runs.{and_split}
use Rattle.shared_core_wire.proofs.Shortest.{shortest_small, shortest_large}
use Rattle.shared_core_codec.specs.Canonicity.{IsCanonical}
use Rattle.shared_core_codec.specs.Payloads.{payload_meaning}
use Rattle.shared_core_codec.specs.Table.{table}
use Rattle.shared_core_fields.specs.Fields.{FieldPart, list_field, each_field, row_fields, message_fields}
use Rattle.shared_core_fields.specs.Entries.{field_entries}
use Rattle.shared_core_fields.specs.Rows.{run_rows, level_rows, fields_rows, table_rows}
use Rattle.shared_core_fields.proofs.Depths.{all_entries}
use Rattle.shared_core_fields.proofs.Written.{rows_append, rows_more}

abbrev numbered : ℕ → RecordValue → FieldRecord
numbered n w = record { number = n; value = w }

-- how many bytes a field's record values take
abbrev taken : ℕ → List RecordValue → ℕ
taken n ws = length (record_list_bytes (map (numbered n) ws))

-- how many rows fields have
abbrev rows_of : ℕ → ℕ → List FieldPart → ℕ
rows_of left level fs = length (fields_rows left level fs)

-- ---- what a record takes

varint_there : (n : ℕ) → 0 < length (shortest_varint n)
varint_there n =
    elim (cases_lt n 128) [
      | inl lt ↦ rw (shortest_small n lt) (omega arith)
      | inr big ↦ rw (shortest_large n big) (omega arith)
    ]

number_takes : (n m : ℕ) → 1 ≤ taken n (Varint m ∷ [])
number_takes n m =
    let k = varint_there (8 * n + 0) in
    let whole = length-append (key_bytes n 0 ++ shortest_varint m) [] in
    let parts = length-append (key_bytes n 0) (shortest_varint m) in
    omega (arith, k, whole, parts)

bytes_take : (n : ℕ) (bytes : List ℕ) → 1 + length bytes ≤ taken n (Length bytes ∷ [])
bytes_take n bytes =
    let k = varint_there (8 * n + 2) in
    let whole = length-append (key_bytes n 2 ++ (shortest_varint (length bytes) ++ bytes)) [] in
    let parts = length-append (key_bytes n 2) (shortest_varint (length bytes) ++ bytes) in
    let after = length-append (shortest_varint (length bytes)) bytes in
    omega (arith, k, whole, parts, after)

taken_append : (n : ℕ) (vs ws : List RecordValue) → taken n (vs ++ ws) ≡ taken n vs + taken n ws
taken_append n vs ws =
    ap (λ (rs : List FieldRecord). length (record_list_bytes rs)) (map-append (numbered n) vs ws)
    ∙ ap length (flat_map-append record_bytes (map (numbered n) vs) (map (numbered n) ws))
    ∙ length-append (record_list_bytes (map (numbered n) vs)) (record_list_bytes (map (numbered n) ws))

rows_split : (left level : ℕ) (f : FieldPart) (fs : List FieldPart) → rows_of left level (f ∷ fs) ≡ rows_of left level
    (f ∷ []) + rows_of left level fs
rows_split left level f fs =
    let all = ap length (rows_more left level f fs) ∙ length-append (level_rows (field_entries left level f))
    (fields_rows left level fs) in
    let alone = ap length (rows_more left level f []) ∙ length-append (level_rows (field_entries left level f)) [] in
    omega (arith, all, alone)

rows_joined : (left level : ℕ) (fs gs : List FieldPart) → rows_of left level (fs ++ gs) ≡ rows_of left level fs +
    rows_of left level gs
rows_joined left level fs gs =
    ap (λ es. length (level_rows es)) (flat_map-append (field_entries left level) fs gs)
    ∙ ap length (rows_append (flat_map (field_entries left level) fs) (flat_map (field_entries left level) gs))
    ∙ length-append (fields_rows left level fs) (fields_rows left level gs)

-- ---- one field

-- A message that is nested in a field has few rows.
abbrev Inner : ℕ → Type 0
Inner zero = Unit {0}
Inner (suc left) = (level s : ℕ) (v : Parts) → Fits table v (table s) → rows_of left level (message_fields (table s) v)
    ≤ length (canonical_payload table s v)

number_few : (left level n m : ℕ) (k : Kind) (repeated : Bool) → rows_of left level ((n, (k, repeated), Number m) ∷ [])
    ≡ 1
unfolding field_entries
number_few zero level n m k repeated = refl
number_few (suc left) level n m k repeated = refl

bytes_few : (left level n : ℕ) (bytes : List ℕ) (k : Kind) (repeated : Bool) → rows_of left level
    ((n, (k, repeated), Bytes bytes) ∷ []) ≡ 1
unfolding field_entries
bytes_few zero level n bytes k repeated = refl
bytes_few (suc left) level n bytes k repeated = refl

message_few : (left level n s : ℕ) (v : Parts) (repeated : Bool) → Inner left → Fits table v (table s) → rows_of left
    level ((n, (Message s, repeated), Nested v) ∷ []) ≤ 1 + length (canonical_payload table s v)
unfolding field_entries
message_few zero level n s v repeated i h = omega arith
message_few (suc left) level n s v repeated i h =
    let inside = flat_map (field_entries left (level + 1)) (message_fields (table s) v) in
    let few = i (level + 1) s v h in
    let whole = ap (λ es. length (level_rows es)) (append-nil inside) in
    omega (arith, few, whole)

field_few : (left level n : ℕ) (k : Kind) (repeated : Bool) (p : Part) → Inner left → is_single p ≡ true → PartFits
    table p k → rows_of left level ((n, (k, repeated), p) ∷ []) ≤ taken n (part_values table p k)
unfolding part_values PartFits
field_few left level n k repeated (Number m) i b h =
    omega (arith, number_few left level n m k repeated, number_takes n (written_number k m))
field_few left level n k repeated (Bytes bytes) i b h =
    omega (arith, bytes_few left level n bytes k repeated, bytes_take n bytes)
field_few left level n (Message s) repeated (Nested v) i b h =
    omega (arith, message_few left level n s v repeated i h, bytes_take n (canonical_payload table s v))
field_few left level n k repeated (Nested v) i b h = absurd h
field_few left level n k repeated Absent i b h = absurd cc
field_few left level n k repeated (Elements ps) i b h = absurd cc
field_few left level n k repeated (Member m p) i b h = absurd cc

-- ---- repeated fields

each_few : (left level n : ℕ) (k : Kind) (ps : Parts) → Inner left → ElementsFit table ps k → rows_of left level
    (each_field n k ps) ≤ taken n (element_values table ps k)
unfolding part_values PartFits
each_few left level n k nil i h = omega arith
each_few left level n k (cons p ps) i h =
    let first = field_few left level n k true p i h.0 h.1 in
    let rest = each_few left level n k ps i h.2 in
    let split = rows_split left level (n, (k, true), p) (each_field n k ps) in
    let sum = taken_append n (part_values table p k) (element_values table ps k) in
    omega (arith, first, rest, split, sum)

numbers_few : (level n : ℕ) (k : Kind) (ps : Parts) → accepts_number k ≡ true → ElementsFit table ps k → length
    (run_rows level n k ps) ≤ length (flat_map number_bytes (element_values table ps k))
unfolding part_values PartFits
numbers_few level n k nil a h = omega arith
numbers_few level n k (cons (Number m) ps) a h =
    let rest = numbers_few level n k ps a h.2 in
    let sum = length-append (shortest_varint (written_number k m)) (flat_map number_bytes (element_values table ps k))
    in
    omega (arith, rest, sum, varint_there (written_number k m))
numbers_few level n k (cons Absent ps) a h = absurd (cc h.0)
numbers_few level n k (cons (Elements qs) ps) a h = absurd (cc h.0)
numbers_few level n k (cons (Member m p) ps) a h = absurd (cc h.0)
numbers_few level n k (cons (Bytes bytes) ps) a h = absurd (no_bytes k bytes a h.1)
numbers_few level n k (cons (Nested qs) ps) a h = absurd (no_message table k qs a h.1)

run_entries : (left level n : ℕ) (k : Kind) (ps : Parts) → rows_of left level ((n, (k, true), Elements ps) ∷ []) ≡
    length (run_rows level n k ps)
unfolding field_entries
run_entries zero level n k ps = ap length (append-nil (run_rows level n k ps))
run_entries (suc left) level n k ps = ap length (append-nil (run_rows level n k ps))

run_few : (left level n : ℕ) (k : Kind) (ps : Parts) → accepts_number k ≡ true → ElementsFit table ps k → rows_of left
    level ((n, (k, true), Elements ps) ∷ []) ≤ taken n (Length (flat_map number_bytes (element_values table ps k)) ∷ [])
run_few left level n k ps a h =
    let whole = run_entries left level n k ps in
    let few = numbers_few level n k ps a h in
    let all = bytes_take n (flat_map number_bytes (element_values table ps k)) in
    omega (arith, whole, few, all)

list_few : (left level n : ℕ) (k : Kind) (ps : Parts) (b : Bool) → accepts_number k ≡ b → Inner left → ElementsFit table
    ps k → rows_of left level (cond b (list_field n k ps) (each_field n k ps)) ≤ taken n
    (cond b (run_values (element_values table ps k)) (element_values table ps k))
unfolding part_values PartFits
list_few left level n k nil true a i h = omega arith
list_few left level n k (cons (Number m) ps) true a i h = run_few left level n k (cons (Number m) ps) a h
list_few left level n k (cons Absent ps) true a i h = absurd (cc h.0)
list_few left level n k (cons (Elements qs) ps) true a i h = absurd (cc h.0)
list_few left level n k (cons (Member m p) ps) true a i h = absurd (cc h.0)
list_few left level n k (cons (Bytes bytes) ps) true a i h = absurd (no_bytes k bytes a h.1)
list_few left level n k (cons (Nested qs) ps) true a i h = absurd (no_message table k qs a h.1)
list_few left level n k ps false a i h = each_few left level n k ps i h

-- ---- rows of the schema

plain_few : (left level n : ℕ) (k : Kind) (p : Part) (default : Bool) → Inner left → is_single p ≡ true → PartFits table
    p k → rows_of left level (cond default [] ((n, (k, false), p) ∷ [])) ≤ taken n
    (cond default [] (part_values table p k))
plain_few left level n k p true i b h = omega arith
plain_few left level n k p false i b h = field_few left level n k false p i b h

row_few : (left level : ℕ) (row : Row) (p : Part) → Inner left → has_shape row p ≡ true → PartFits table p
    (kind_of row p) → rows_of left level (row_fields row p) ≤ length
    (record_list_bytes (row_records row p (part_values table p (kind_of row p))))
unfolding part_values PartFits
row_few left level (Plain n k) Absent i b h = absurd cc
row_few left level (Plain n k) (Elements ps) i b h = absurd cc
row_few left level (Plain n k) (Member m p) i b h = absurd cc
row_few left level (Plain n k) (Number m) i b h = plain_few left level n k (Number m) (is_default (Number m)) i b h
row_few left level (Plain n k) (Bytes bytes) i b h = plain_few left level n k (Bytes bytes) (is_default (Bytes bytes)) i
    b h
row_few left level (Plain n k) (Nested ps) i b h = field_few left level n k false (Nested ps) i b h
row_few left level (Optional n k) Absent i b h = omega arith
row_few left level (Optional n k) (Elements ps) i b h = absurd cc
row_few left level (Optional n k) (Member m p) i b h = absurd cc
row_few left level (Optional n k) (Number m) i b h = field_few left level n k false (Number m) i b h
row_few left level (Optional n k) (Bytes bytes) i b h = field_few left level n k false (Bytes bytes) i b h
row_few left level (Optional n k) (Nested ps) i b h = field_few left level n k false (Nested ps) i b h
row_few left level (Repeated n k) (Elements ps) i b h = list_few left level n k ps (accepts_number k) refl i h
row_few left level (Repeated n k) p i b h = absurd cc
row_few left level (OneOf members) Absent i b h = omega arith
row_few left level (OneOf members) (Member m p) i b h =
    field_few left level m (member_kind members m) false p i (and_split _ _ b).1 h
row_few left level (OneOf members) p i b h = absurd cc

-- ---- messages

fields_few : (left level : ℕ) (v : Parts) (rows : List Row) → Inner left → Fits table v rows → rows_of left level
    (message_fields rows v) ≤ length (record_list_bytes (message_records table v rows))
unfolding part_values PartFits
fields_few left level nil [] i h = omega arith
fields_few left level nil (row ∷ rows) i h = absurd h
fields_few left level (cons p ps) [] i h = absurd h
fields_few left level (cons p ps) (row ∷ rows) i h =
    let own = row_records row p (part_values table p (kind_of row p)) in
    let first = row_few left level row p i h.0 h.1 in
    let rest = fields_few left level ps rows i h.2 in
    let split = rows_joined left level (row_fields row p) (message_fields rows ps) in
    let sum = ap length (flat_map-append record_bytes own (message_records table ps rows)) ∙ length-append
    (record_list_bytes own) (record_list_bytes (message_records table ps rows)) in
    omega (arith, first, rest, split, sum)

-- of messages nested at most `left` deep
nested_few : (left level s : ℕ) (v : Parts) → Fits table v (table s) → rows_of left level (message_fields (table s) v) ≤
    length (canonical_payload table s v)
nested_few zero level s v h = fields_few zero level v (table s) tt h
nested_few (suc left) level s v h = fields_few (suc left) level v (table s) (nested_few left) h

pub few_rows : (s : ℕ) (v : Parts) → Fits table v (table s) → length (table_rows s v) ≤ length
    (canonical_payload table s v)
few_rows s v h = nested_few (levels v) 0 s v h

-- ---- a whole payload

pub whole_rows : (s : ℕ) (bytes : List ℕ) → IsCanonical s bytes
    → (fields_rows 100 0 (message_fields (table s) (payload_meaning s bytes)) ≡ table_rows s (payload_meaning s bytes))
    × (length (table_rows s (payload_meaning s bytes)) ≤ length bytes)
whole_rows s bytes c =
    let few = few_rows s (payload_meaning s bytes) c.fits in
    let same = ap length c.canonical in
    (ap level_rows (all_entries 100 0 s (payload_meaning s bytes) c.low), omega (arith, few, same))
