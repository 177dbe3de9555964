-- Fields of a difference, from a test of the two values, and one after the other.
use Rattle.std.proofs.Common.{◌≡◌, Bool, true, List, ℕ, [], ◌∷◌, ◌++◌, ◌∙◌, refl, sym, ap, subst, if◌then◌else◌}
use Rattle.std.specs.Fmt.{comma_space}
use Rattle.std.specs.List.{FoldsTo, join_by}
use Rattle.shared_core_wire.specs.Schema.{Message}
use Rattle.shared_core_wire.specs.Value.{Part}
use Rattle.shared_core_codec.specs.EqualityRules.{part_test_is}
use Rattle.shared_core_codec.specs.FieldParts.{elements_part, message_part}
use Rattle.shared_core_codec.specs.Table as schema
use Rattle.shared_core_parts.specs.Texts.{headers_text}
use Rattle.shared_core_parts.specs.declared.header.Header.{Header}
use Rattle.shared_core_parts.specs.contracts.header.HeaderWireRecord.TheImpl as header
use Rattle.shared_core_compare.specs.Differences.{FieldTexts, HasWrittenFields, elements_text, field_difference}
use Rattle.shared_core_compare.specs.Differences.{field_texts, kind_text}
use Rattle.shared_core_compare.proofs.Elements.{joined_elements}

-- ---- one field

-- A test tells whether two parts are the same. What is written unless it holds is their field, if they differ.
pub field_is : (test : Bool) (field : List ℕ) (text : Part → List ℕ) (p q : Part) →
    ((test ≡ true → p ≡ q) × (p ≡ q → test ≡ true))
    → (if test then [] else (field_texts field (text p) (text q) ∷ [])) ≡ field_difference field text p q
unfolding field_difference
field_is test field text p q d = rw (part_test_is test p q (record { sound = d.0; complete = d.1 })) refl

-- The part of a field of headers.
abbrev pub headers_part : List Header → Part
headers_part = elements_part (message_part header.parts-value.it)

-- What headers print.
headers_print : (headers : List Header) → headers_text headers ≡ elements_text (kind_text (Message schema.header))
    (headers_part headers)
headers_print = joined_elements (message_part header.parts-value.it) (kind_text (Message schema.header)) comma_space

-- The same of headers.
pub headers_field_is : (test : Bool) (field : List ℕ) (a b : List Header)
    → ((test ≡ true → headers_part a ≡ headers_part b) × (headers_part a ≡ headers_part b → test ≡ true))
    → (if test then [] else (field_texts field (headers_text a) (headers_text b) ∷ []))
    ≡ field_difference field (elements_text (kind_text (Message schema.header))) (headers_part a) (headers_part b)
headers_field_is test field a b d =
    ap (λ (t : List ℕ). if test then [] else (field_texts field t (headers_text b) ∷ [])) (headers_print a)
    ∙ (ap (λ (t : List ℕ). if test then [] else (field_texts field
    (elements_text (kind_text (Message schema.header)) (headers_part a)) t ∷ [])) (headers_print b)
    ∙ field_is test field (elements_text (kind_text (Message schema.header))) (headers_part a) (headers_part b) d)

-- What a list prints, from what each of its values prints.
list_prints : {X : Type 0} (part : X → Part) (text : Part → List ℕ) (xs : List X) → join_by (λ x. text (part x))
    comma_space xs ≡ elements_text text (elements_part part xs)
list_prints part text = joined_elements part text comma_space

-- The same of a list.
pub list_field_is : {X : Type 0} (part : X → Part) (each : Part → List ℕ) (test : Bool) (field : List ℕ) (a b : List X)
    → ((test ≡ true → elements_part part a ≡ elements_part part b) ×
    (elements_part part a ≡ elements_part part b → test ≡ true))
    → (if test then [] else (field_texts field (join_by (λ x. each (part x)) comma_space a)
    (join_by (λ x. each (part x)) comma_space b) ∷ []))
    ≡ field_difference field (elements_text each) (elements_part part a) (elements_part part b)
list_field_is part each test field a b d =
    ap (λ (t : List ℕ). if test then [] else (field_texts field t (join_by (λ x. each (part x)) comma_space b) ∷ []))
    (list_prints part each a)
    ∙ (ap (λ (t : List ℕ). if test then [] else (field_texts field (elements_text each (elements_part part a)) t ∷ []))
    (list_prints part each b)
    ∙ field_is test field (elements_text each) (elements_part part a) (elements_part part b) d)

-- ---- fields that are written

module _ {T : Type 0} (writes : T → FieldTexts → T → Type 0) where
  -- Nothing is written by doing nothing.
  pub nothing_written : (a : T) → HasWrittenFields writes a [] a
  nothing_written a = record { folds = refl }

  -- One field is written.
  pub one_written : (a : T) (field : FieldTexts) (b : T) → writes a field b → HasWrittenFields writes a (field ∷ []) b
  one_written a field b wrote = record { folds = (b, wrote, refl) }

  folds_append : (a : T) (xs : List FieldTexts) (b : T) (ys : List FieldTexts) (c : T)
      → FoldsTo writes a xs b → FoldsTo writes b ys c → FoldsTo writes a (xs ++ ys) c
  folds_append a [] b ys c p q = subst (λ (x : T). FoldsTo writes x ys c) (sym p) q
  folds_append a (x ∷ xs) b ys c p q = (p.0, p.1, folds_append p.0 xs b ys c p.2 q)

  -- Fields are written, and others after them.
  pub fields_append : (a : T) (xs : List FieldTexts) (b : T) (ys : List FieldTexts) (c : T)
      → HasWrittenFields writes a xs b → HasWrittenFields writes b ys c → HasWrittenFields writes a (xs ++ ys) c
  fields_append a xs b ys c p q = record { folds = folds_append a xs b ys c p.folds q.folds }
