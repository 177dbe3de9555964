-- The fields of all levels do not depend on how deep messages may be nested, where they are not nested deeper.
use Rattle.std.proofs.Common.{◌≡◌, ℕ, zero, suc, ◌+◌, ◌≤◌, List, [], ◌∷◌, ◌++◌, Bool, true, false, cond, refl, sym, ap}
use Rattle.std.proofs.Common.{◌∙◌, arith}
use Rattle.std.specs.Prelude.{flat_map}
use Rattle.shared_core_wire.specs.Schema.{Kind, Row, U32, U64, Boolean, Enumeration, Text, ByteString, Message, Plain}
use Rattle.shared_core_wire.specs.Schema.{Optional, Repeated, OneOf}
use Rattle.shared_core_wire.specs.Acceptance.{accepts_number}
use Rattle.shared_core_wire.specs.Value.{Part, Parts, Absent, Number, Bytes, Nested, Elements, Member, nil, cons}
use Rattle.shared_core_wire.specs.Canonical.{is_default, part_levels, levels}
use Rattle.shared_core_codec.specs.Table.{table}
use Rattle.shared_core_fields.specs.Fields.{FieldPart, list_field, each_field, row_fields, message_fields}
use Rattle.shared_core_fields.specs.Entries.{LevelField, within_part, within_field, field_entries, message_entries}

-- ---- how deep messages are nested in fields

abbrev EachLow : ℕ → List FieldPart → Type 0
EachLow top [] = Unit {0}
EachLow top (f ∷ fs) = (part_levels f.2 ≤ top) × EachLow top fs

low_append : (top : ℕ) (xs ys : List FieldPart) → EachLow top xs → EachLow top ys → EachLow top (xs ++ ys)
low_append top [] ys a b = b
low_append top (x ∷ xs) ys a b = (a.0, low_append top xs ys a.1 b)

each_low : (top n : ℕ) (k : Kind) (ps : Parts) → levels ps ≤ top → EachLow top (each_field n k ps)
unfolding levels
each_low top n k nil h = tt
each_low top n k (cons p ps) h =
    let low_first : part_levels p ≤ top = omega arith in
    let low_rest : levels ps ≤ top = omega arith in
    (low_first, each_low top n k ps low_rest)

plain_low : (top n : ℕ) (k : Kind) (p : Part) (default : Bool) → part_levels p ≤ top → EachLow top
    (cond default [] ((n, (k, false), p) ∷ []))
plain_low top n k p true h = tt
plain_low top n k p false h = (h, tt)

list_low : (top n : ℕ) (k : Kind) (ps : Parts) (b : Bool) → levels ps ≤ top → EachLow top
    (cond b (list_field n k ps) (each_field n k ps))
unfolding levels
list_low top n k nil true h = tt
list_low top n k (cons p ps) true h = (h, tt)
list_low top n k ps false h = each_low top n k ps h

row_low : (top : ℕ) (row : Row) (p : Part) → part_levels p ≤ top → EachLow top (row_fields row p)
unfolding levels
row_low top (Plain n k) Absent h = tt
row_low top (Plain n k) (Number m) h = plain_low top n k (Number m) (is_default (Number m)) h
row_low top (Plain n k) (Bytes bytes) h = plain_low top n k (Bytes bytes) (is_default (Bytes bytes)) h
row_low top (Plain n k) (Nested ps) h = (h, tt)
row_low top (Plain n k) (Elements ps) h = (h, tt)
row_low top (Plain n k) (Member m p) h = (h, tt)
row_low top (Optional n k) Absent h = tt
row_low top (Optional n k) (Number m) h = (h, tt)
row_low top (Optional n k) (Bytes bytes) h = (h, tt)
row_low top (Optional n k) (Nested ps) h = (h, tt)
row_low top (Optional n k) (Elements ps) h = (h, tt)
row_low top (Optional n k) (Member m p) h = (h, tt)
row_low top (Repeated n k) (Elements ps) h = list_low top n k ps (accepts_number k) h
row_low top (Repeated n k) p h = tt
row_low top (OneOf members) Absent h = tt
row_low top (OneOf members) (Member m p) h = (h, tt)
row_low top (OneOf members) p h = tt

fields_low : (top : ℕ) (v : Parts) (rows : List Row) → levels v ≤ top → EachLow top (message_fields rows v)
unfolding levels
fields_low top nil [] h = tt
fields_low top nil (row ∷ rows) h = tt
fields_low top (cons p ps) [] h = tt
fields_low top (cons p ps) (row ∷ rows) h =
    let low_row : part_levels p ≤ top = omega arith in
    let low_rest : levels ps ≤ top = omega arith in
    low_append top (row_fields row p) (message_fields rows ps) (row_low top row p low_row)
    (fields_low top ps rows low_rest)

own_low : (s : ℕ) (v : Parts) → EachLow (levels v) (message_fields (table s) v)
own_low s v = fields_low (levels v) v (table s) (omega arith)

-- ---- what is within a field

same_entries : (g h : FieldPart → List LevelField) (top : ℕ) (fs : List FieldPart) → EachLow top fs →
    ((f : FieldPart) → part_levels f.2 ≤ top → g f ≡ h f) → flat_map g fs ≡ flat_map h fs
same_entries g h top [] l e = refl
same_entries g h top (f ∷ fs) l e = ap (λ (es : List LevelField). es ++ flat_map g fs) (e f l.0) ∙ ap
    (λ (es : List LevelField). h f ++ es) (same_entries g h top fs l.1 e)

same_within : (g h : ℕ → Parts → List LevelField) (p : Part) (k : Kind) →
    ((s : ℕ) (ps : Parts) → p ≡ Nested ps → g s ps ≡ h s ps) → within_part g p k ≡ within_part h p k
same_within g h (Nested ps) (Message s) e = e s ps refl
same_within g h (Nested ps) U32 e = refl
same_within g h (Nested ps) U64 e = refl
same_within g h (Nested ps) Boolean e = refl
same_within g h (Nested ps) Enumeration e = refl
same_within g h (Nested ps) Text e = refl
same_within g h (Nested ps) ByteString e = refl
same_within g h Absent k e = refl
same_within g h (Number n) k e = refl
same_within g h (Bytes bytes) k e = refl
same_within g h (Elements ps) k e = refl
same_within g h (Member n p) k e = refl

message_low : (top : ℕ) (p : Part) (ps : Parts) → p ≡ Nested ps → part_levels p ≤ suc top → levels ps ≤ top
unfolding levels
message_low top p ps e h =
    let deep : part_levels p ≡ suc (levels ps) = ap part_levels e in
    omega (arith, deep, h)

none_within : (g : ℕ → Parts → List LevelField) (p : Part) (k : Kind) → part_levels p ≤ 0 → within_part g p k ≡ []
unfolding levels
none_within g (Nested ps) k l = absurd (omega (arith, l))
none_within g Absent k l = refl
none_within g (Number n) k l = refl
none_within g (Bytes bytes) k l = refl
none_within g (Elements ps) k l = refl
none_within g (Member n p) k l = refl

-- ---- any depth that is enough gives the same

enough : (a b level : ℕ) (f : FieldPart) → part_levels f.2 ≤ a → part_levels f.2 ≤ b → field_entries a level f ≡
    field_entries b level f
unfolding field_entries
enough zero zero level f h l = refl
enough zero (suc b) level f h l = sym (ap (λ (es : List LevelField). (level, f) ∷ es) (none_within _ f.2 f.1.0 h))
enough (suc a) zero level f h l = ap (λ (es : List LevelField). (level, f) ∷ es) (none_within _ f.2 f.1.0 l)
enough (suc a) (suc b) level f h l =
    ap (λ (es : List LevelField). (level, f) ∷ es) (same_within _ _ f.2 f.1.0 (λ s ps e.
    same_entries (field_entries a (level + 1)) (field_entries b (level + 1)) (levels ps) (message_fields (table s) ps)
    (own_low s ps)
    (λ g j. let in_a = message_low a f.2 ps e h in let in_b = message_low b f.2 ps e l in enough a b (level + 1) g
    (omega (arith, in_a, j)) (omega (arith, in_b, j)))))

pub all_entries : (left level s : ℕ) (v : Parts) → levels v ≤ left → flat_map (field_entries left level)
    (message_fields (table s) v) ≡ message_entries level s v
all_entries left level s v h =
    same_entries (field_entries left level) (field_entries (levels v) level) (levels v) (message_fields (table s) v)
    (own_low s v)
    (λ f j. enough left (levels v) level f (omega (arith, h, j)) j)

-- ---- and it is the fields, each with those within it

field_nested : (left level : ℕ) (f : FieldPart) → part_levels f.2 ≤ left → field_entries left level f ≡ (level, f) ∷
    within_field (message_entries (level + 1)) f
unfolding field_entries
field_nested zero level f h = sym (ap (λ (es : List LevelField). (level, f) ∷ es) (none_within _ f.2 f.1.0 h))
field_nested (suc left) level f h =
    ap (λ (es : List LevelField). (level, f) ∷ es) (same_within _ _ f.2 f.1.0
    (λ s ps e. all_entries left (level + 1) s ps (message_low left f.2 ps e h)))

pub entries_nested : (level s : ℕ) (v : Parts) → message_entries level s v ≡ flat_map
    (λ f. (level, f) ∷ within_field (message_entries (level + 1)) f) (message_fields (table s) v)
entries_nested level s v =
    same_entries (field_entries (levels v) level) (λ f. (level, f) ∷ within_field (message_entries (level + 1)) f)
    (levels v) (message_fields (table s) v) (own_low s v)
    (λ f j. field_nested (levels v) level f j)
