-- The printed fields of commands have names.
use Rattle.std.proofs.Common.{◌≡◌, ℕ, zero, suc, ◌<◌, Bool, true, false, cond, List, [], ◌∷◌, ◌++◌, length, Option}
use Rattle.std.proofs.Common.{Some, None, Ok, refl, sym, subst, arith, length-append}
use Rattle.std.specs.Prelude.{nat_eq, nat_lt, flat_map, slice_get}
use Rattle.std.proofs.lemmas.Bool.{ltb-true}
use Rattle.shared_core_base.specs.MessageType.{type_of}
use Rattle.shared_core_wire.specs.Schema.{Row, includes, numbers}
use Rattle.shared_core_wire.specs.Value.{Parts, Part}
use Rattle.shared_core_codec.specs.Equality.{part_equal}
use Rattle.shared_core_codec.specs.Table.{table}
use Rattle.shared_core_compare.specs.Commands.{CommandFields, command_fields, commands, entry_of, first_part}
use Rattle.shared_core_compare.specs.Commands.{rest_parts}
use Rattle.shared_core_compare.specs.Differences.{FieldTexts, differing_fields, field_difference, field_texts}
use Rattle.shared_core_compare.specs.Differences.{numbered_difference, row_text}
use Rattle.journal_c_api.specs.Commands.{AreChangedFields, AtSchema, ComparesPayloads, ReturnsChangedField, field_bytes}
use Rattle.journal_c_api.specs.Commands.{schema_of_type}

-- Each of these fields has a name.
abbrev AreNamed : List FieldTexts → Type 0
AreNamed [] = Unit {0}
AreNamed (field ∷ fields) = (0 < length field.name) × AreNamed fields

named_join : (fields others : List FieldTexts) → AreNamed fields → AreNamed others → AreNamed (fields ++ others)
named_join [] others named more = more
named_join (field ∷ fields) others (first, named) more = (first, named_join fields others named more)

named_at : (fields : List FieldTexts) (index : ℕ) (field : FieldTexts) → AreNamed fields
    → slice_get fields index ≡ Some field → 0 < length field.name
named_at [] index field named is = absurd cc
named_at (one ∷ fields) zero field named is =
    subst (λ (f : FieldTexts). 0 < length f.name) (let same : one ≡ field = cc in same) named.0
named_at (one ∷ fields) (suc index) field named is = named_at fields index field named.1 is

-- ---- the fields of a row

one_named : (name : List ℕ) (text : Part → List ℕ) (actual expected : Part) → 0 < length name
    → AreNamed (field_difference name text actual expected)
unfolding field_difference
one_named name text actual expected some = by_test (part_equal actual expected)
  where
    by_test : (test : Bool) → AreNamed (cond test [] (field_texts name (text actual) (text expected) ∷ []))
    by_test true = tt
    by_test false = (some, tt)

row_named : (field : ℕ × List ℕ) (rows : List Row) (actual expected : Parts) → 0 < length field.1
    → AreNamed (numbered_difference field rows actual expected)
row_named field [] actual expected some = tt
row_named field (row ∷ rows) actual expected some =
    by_test (includes (numbers row) field.0) (row_named field rows (rest_parts actual) (rest_parts expected) some)
  where
    by_test : (test : Bool)
        → AreNamed (numbered_difference field rows (rest_parts actual) (rest_parts expected)) → AreNamed (cond test
        (field_difference field.1 (row_text row) (first_part actual) (first_part expected))
        (numbered_difference field rows (rest_parts actual) (rest_parts expected)))
    by_test true others = one_named field.1 (row_text row) (first_part actual) (first_part expected) some
    by_test false others = others

-- ---- the fields of the table

-- Whether each printed field has a name.
abbrev has_names : List (ℕ × List ℕ) → Bool
has_names [] = true
has_names (field ∷ fields) = cond (nat_lt 0 (length field.1)) (has_names fields) false

abbrev all_have_names : List (ℕ × CommandFields) → Bool
all_have_names [] = true
all_have_names (entry ∷ entries) = cond (has_names entry.1.printed) (all_have_names entries) false

both_true : (a b : Bool) → cond a b false ≡ true → (a ≡ true) × (b ≡ true)
both_true true b is = (refl, is)
both_true false b is = absurd cc

entry_named : (entries : List (ℕ × CommandFields)) (s : ℕ) → all_have_names entries ≡ true
    → has_names (entry_of entries s).printed ≡ true
entry_named [] s all = refl
entry_named (entry ∷ entries) s all =
    let (one, others) = both_true (has_names entry.1.printed) (all_have_names entries) all in
    by_test (nat_eq s entry.0) one (entry_named entries s others)
  where
    by_test : (test : Bool) → has_names entry.1.printed ≡ true → has_names (entry_of entries s).printed ≡ true
        → has_names (cond test entry.1 (entry_of entries s)).printed ≡ true
    by_test true one others = one
    by_test false one others = others

all_named : (fields : List (ℕ × List ℕ)) (rows : List Row) (actual expected : Parts) → has_names fields ≡ true
    → AreNamed (flat_map (λ field. numbered_difference field rows actual expected) fields)
all_named [] rows actual expected all = tt
all_named (field ∷ fields) rows actual expected all =
    let (some, others) = both_true (nat_lt 0 (length field.1)) (has_names fields) all in
    named_join (numbered_difference field rows actual expected)
    (flat_map (λ field. numbered_difference field rows actual expected) fields)
    (row_named field rows actual expected (ltb-true _ _ some)) (all_named fields rows actual expected others)

differing_named : (s : ℕ) (actual expected : Parts) → AreNamed (differing_fields s actual expected)
differing_named s actual expected =
    all_named (command_fields s).printed (table s) actual expected (entry_named commands s refl)

-- ---- one of them

pub field_has_bytes : (code index room : ℕ) (first second : List ℕ) (field : FieldTexts)
    → ReturnsChangedField code index room first second (Ok (Some field)) → 0 < length (field_bytes field)
field_has_bytes code index room first second field (fields, long, are, is) =
    omega (
      arith,
      named_at fields index field (by_schema (schema_of_type (type_of code)) are) (sym is),
      length-append field.name (field.actual ++ field.expected),
    )
  where
    by_schema : (schema : Option ℕ)
        → AtSchema schema (Ok fields) (λ s. ComparesPayloads (AreChangedFields s) s first second (Ok fields))
        → AreNamed fields
    by_schema None held = absurd cc
    by_schema (Some s) (one, other, same) = subst AreNamed (sym same) (differing_named s _ _)
