-- The entries of a field, and of the fields within it, by what it holds.
use Rattle.std.proofs.Common.{◌≡◌, ℕ, zero, suc, ◌+◌, ◌-◌, ◌<◌, Bool, List, [], ◌∷◌, refl, ap, ◌∙◌, arith}
use Rattle.std.specs.Prelude.{flat_map}
use Rattle.shared_core_codec.specs.Table.{table}
use Rattle.shared_core_fields.specs.Fields.{FieldPart, message_fields}
use Rattle.shared_core_fields.specs.Views.{value_kind, value_part, message_meaning}
use Rattle.shared_core_fields.specs.Entries.{LevelField, within_field, field_entries}
use Rattle.shared_core_fields.specs.declared.fields.FieldValue.{FieldValue}
use Rattle.shared_core_fields.specs.declared.fields.FieldValue.TheVariants as v
use Rattle.shared_core_fields.specs.declared.fields.CanonicalPayload.{CanonicalPayload}

abbrev inner_entries : {T S : _} → ℕ → ℕ → CanonicalPayload T S → List LevelField
inner_entries left level m = flat_map (field_entries left level)
    (message_fields (table m.schema) (message_meaning m))

below : (left : ℕ) → left ≡ suc left - 1
below left = omega arith

pub of_message : {T S : _} (left level n : ℕ) (repeated : Bool) (value : FieldValue (CanonicalPayload T S))
    (m : CanonicalPayload T S) → 0 < left → value ≡
    v.Message m
    → field_entries left level (n, (value_kind value, repeated), value_part value)
    ≡ (level, (n, (value_kind value, repeated), value_part value)) ∷ flat_map (field_entries (left - 1) (level + 1))
    (message_fields (table m.schema) (message_meaning m))
unfolding field_entries
of_message zero level n repeated value m h e = absurd (omega arith)
of_message {T} {S} (suc left) level n repeated value m h e =
    ap (λ (x : FieldValue (CanonicalPayload T S)). (level, (n, (value_kind value, repeated), value_part value)) ∷
    within_field
    (λ s v. flat_map (field_entries left (level + 1)) (message_fields (table s) v))
    (n, (value_kind x, repeated), value_part x)) e
    ∙ ap (λ (l : ℕ). (level, (n, (value_kind value, repeated), value_part value)) ∷ inner_entries l (level + 1) m)
    (below left)

pub of_last : (left level : ℕ) (f : FieldPart) → left ≡ 0 → field_entries left level f ≡ (level, f) ∷ []
unfolding field_entries
of_last zero level f e = refl
of_last (suc left) level f e = absurd (omega (arith, e))

pub of_other : {T S : _} (left level n : ℕ) (repeated : Bool) (value : FieldValue (CanonicalPayload T S)) →
    ((m : CanonicalPayload T S) → value ≡ v.Message m → ⊥)
    → field_entries left level (n, (value_kind value, repeated), value_part value) ≡
    (level, (n, (value_kind value, repeated), value_part value)) ∷ []
unfolding field_entries
of_other zero level n repeated value h = refl
of_other (suc left) level n repeated (v.U32 x) h = refl
of_other (suc left) level n repeated (v.U64 x) h = refl
of_other (suc left) level n repeated (v.Boolean x) h = refl
of_other (suc left) level n repeated (v.Enumeration x) h = refl
of_other (suc left) level n repeated (v.Text x) h = refl
of_other (suc left) level n repeated (v.ByteString x) h = refl
of_other (suc left) level n repeated (v.Message m) h = absurd (h m refl)
of_other (suc left) level n repeated (v.Numbers x) h = refl
