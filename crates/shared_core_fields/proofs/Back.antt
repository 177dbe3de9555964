-- The records of the fields of a value are those of its canonical payload.
use Rattle.std.proofs.Common.{◌≡◌, ℕ, List, [], ◌∷◌, ◌++◌, map, Bool, true, false, cond, append-nil, append_assoc, refl}
use Rattle.std.proofs.Common.{sym, ap, ◌∙◌}
use Rattle.std.specs.Prelude.{flat_map}
use Rattle.shared_core_wire.specs.Grammar.{RecordValue, FieldRecord}
use Rattle.shared_core_wire.specs.Encoding.{record_list_bytes}
use Rattle.shared_core_wire.specs.Schema.{Kind, Row, Plain, Optional, Repeated, OneOf}
use Rattle.shared_core_wire.specs.Acceptance.{accepts_number}
use Rattle.shared_core_wire.specs.Value.{Part, Parts, Absent, Number, Bytes, Nested, Elements, Member, nil, cons}
use Rattle.shared_core_wire.specs.Canonical.{is_default, run_values, kind_of, row_records, part_values, element_values}
use Rattle.shared_core_wire.specs.Canonical.{message_records, canonical_payload}
use Rattle.shared_core_wire.specs.Fitting.{has_shape, PartFits, Fits}
use Rattle.shared_core_codec.specs.Table.{table}
use Rattle.shared_core_fields.specs.Fields.{FieldPart, list_field, each_field, row_fields, message_fields, field_values}
use Rattle.shared_core_fields.specs.Fields.{field_records, fields_payload}

abbrev numbered : ℕ → RecordValue → FieldRecord
numbered n w = record { number = n; value = w }

with_append : (n : ℕ) (xs ys : List RecordValue) → map (numbered n) (xs ++ ys) ≡ map (numbered n) xs ++ map (numbered n)
    ys
with_append n [] ys = refl
with_append n (x ∷ xs) ys = ap (λ (rs : List FieldRecord). numbered n x ∷ rs) (with_append n xs ys)

one : (n : ℕ) (k : Kind) (p : Part) → flat_map field_records ((n, (k, false), p) ∷ []) ≡ map (numbered n)
    (part_values table p k)
one n k p = append-nil _

plain : (n : ℕ) (k : Kind) (p : Part) (default : Bool) → flat_map field_records
    (cond default [] ((n, (k, false), p) ∷ [])) ≡ map (numbered n) (cond default [] (part_values table p k))
plain n k p true = refl
plain n k p false = one n k p

-- the elements of a field that is not packed
each : (n : ℕ) (k : Kind) → ((p : Part) → field_values (k, true) p ≡ part_values table p k) → (ps : Parts) → flat_map
    field_records (each_field n k ps) ≡ map (numbered n) (element_values table ps k)
unfolding part_values
each n k h nil = refl
each n k h (cons p ps) =
    ap (λ (ws : List RecordValue). map (numbered n) ws ++ flat_map field_records (each_field n k ps)) (h p)
    ∙ ap (λ (rs : List FieldRecord). map (numbered n) (part_values table p k) ++ rs) (each n k h ps)
    ∙ sym (with_append n (part_values table p k) (element_values table ps k))

list : (n : ℕ) (k : Kind) (ps : Parts) (b : Bool) → accepts_number k ≡ b → flat_map field_records
    (cond b (list_field n k ps) (each_field n k ps)) ≡ map (numbered n)
    (cond b (run_values (element_values table ps k)) (element_values table ps k))
unfolding part_values
list n k nil true a = refl
list n k (cons p ps) true a =
    append-nil _ ∙ ap (λ (b : Bool). map (numbered n) (cond b
    (run_values (part_values table p k ++ element_values table ps k))
    (part_values table p k ++ element_values table ps k))) a
list n k ps false a = each n k (λ p. rw a refl) ps

row : (r : Row) (p : Part) → has_shape r p ≡ true → PartFits table p (kind_of r p) → flat_map field_records
    (row_fields r p) ≡ row_records r p (part_values table p (kind_of r p))
unfolding part_values PartFits
row (Plain n k) Absent i h = absurd cc
row (Plain n k) (Elements ps) i h = absurd cc
row (Plain n k) (Member m p) i h = absurd cc
row (Plain n k) (Number m) i h = plain n k (Number m) (is_default (Number m))
row (Plain n k) (Bytes bytes) i h = plain n k (Bytes bytes) (is_default (Bytes bytes))
row (Plain n k) (Nested ps) i h = one n k (Nested ps)
row (Optional n k) Absent i h = refl
row (Optional n k) (Elements ps) i h = absurd cc
row (Optional n k) (Member m p) i h = absurd cc
row (Optional n k) (Number m) i h = one n k (Number m)
row (Optional n k) (Bytes bytes) i h = one n k (Bytes bytes)
row (Optional n k) (Nested ps) i h = one n k (Nested ps)
row (Repeated n k) (Elements ps) i h = list n k ps (accepts_number k) refl
row (Repeated n k) p i h = absurd cc
row (OneOf members) Absent i h = refl
row (OneOf members) (Member m p) i h = one m _ p
row (OneOf members) p i h = absurd cc

joined : (xs ys : List FieldPart) → flat_map field_records (xs ++ ys) ≡ flat_map field_records xs ++ flat_map
    field_records ys
joined [] ys = refl
joined (x ∷ xs) ys = ap (λ (rs : List FieldRecord). field_records x ++ rs) (joined xs ys) ∙ sym
    (append_assoc (field_records x) (flat_map field_records xs) (flat_map field_records ys))

records_back : (v : Parts) (rows : List Row) → Fits table v rows → flat_map field_records (message_fields rows v) ≡
    message_records table v rows
unfolding part_values PartFits
records_back nil [] h = refl
records_back nil (r ∷ rows) h = absurd h
records_back (cons p ps) [] h = absurd h
records_back (cons p ps) (r ∷ rows) h =
    joined (row_fields r p) (message_fields rows ps)
    ∙ ap (λ (rs : List FieldRecord). rs ++ flat_map field_records (message_fields rows ps)) (row r p h.0 h.1)
    ∙ ap (λ (rs : List FieldRecord). row_records r p (part_values table p (kind_of r p)) ++ rs)
    (records_back ps rows h.2)

pub payload_back : (s : ℕ) (v : Parts) → Fits table v (table s) → fields_payload (message_fields (table s) v) ≡
    canonical_payload table s v
payload_back s v h = ap (λ (rs : List FieldRecord). record_list_bytes rs) (records_back v (table s) h)
