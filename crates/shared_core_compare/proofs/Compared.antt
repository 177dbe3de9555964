-- How erasure and differences are related.
use Rattle.std.proofs.Common.{◌≡◌, Bool, true, false, ◌&&◌, ◌||◌, not, List, ℕ, [], ◌∷◌, ◌++◌, refl, if◌then◌else◌}
use Rattle.std.specs.Prelude.{filter, flat_map}
use Rattle.std.specs.List.{list_any}
use Rattle.shared_core_wire.specs.Schema.{Row, numbers, includes}
use Rattle.shared_core_wire.specs.Value.{Part, Parts, cons, empty_part}
use Rattle.shared_core_codec.specs.Equality.{part_equal}
use Rattle.shared_core_codec.specs.EqualityRules.{part_equal_sound, part_equal_refl, both_of}
use Rattle.shared_core_codec.specs.Table.{table}
use Rattle.shared_core_compare.specs.Commands.{CommandFields, command_fields, first_part, rest_parts, row_part}
use Rattle.shared_core_compare.specs.Commands.{name_part, name_number}
use Rattle.shared_core_compare.specs.Erasure.{erased, erased_part, erased_parts, has_any, without_payloads}
use Rattle.shared_core_compare.specs.Differences.{FieldTexts, are_covered, difference, differing_fields}
use Rattle.shared_core_compare.specs.Differences.{field_difference, field_line, is_printed_whole, numbered_difference}
use Rattle.shared_core_compare.specs.Differences.{row_text}

-- ---- erasure where payloads are ignored, after erasure where they are not

erased_twice : (among payload : Bool) (empty p : Part) (without : Part → Part) →
    (if among then empty else (if payload && true then without
    (if among then empty else (if payload && false then without p else p)) else
    (if among then empty else (if payload && false then without p else p))))
    ≡ (if among then empty else (if payload && true then without p else p))
erased_twice true payload empty p without = refl
erased_twice false true empty p without = refl
erased_twice false false empty p without = refl

erased_again : (fields : CommandFields) (rows : List Row) (v : Parts)
    → erased_parts fields true rows (erased_parts fields false rows v) ≡ erased_parts fields true rows v
erased_again fields [] v = refl
erased_again fields (row ∷ rows) v =
    let head = erased_twice (has_any fields.not_compared row) (has_any fields.payloads row) (empty_part row)
    (first_part v) (without_payloads fields.payloads row) in
    let tail = erased_again fields rows (rest_parts v) in cc

-- Commands that are the same with their payloads are the same without.
pub same_without_payloads : (s : ℕ) (a b : Parts) → erased s false a ≡ erased s false b → erased s true a ≡ erased s
    true b
same_without_payloads s a b e =
    let p = erased_again (command_fields s) (table s) a in
    let q = erased_again (command_fields s) (table s) b in cc

-- ---- no line, no difference

first_nothing : {A : Type 0} (x y : List A) → x ++ y ≡ [] → x ≡ []
first_nothing [] y e = refl
first_nothing (b ∷ x) y e = cc

second_nothing : {A : Type 0} (x y : List A) → x ++ y ≡ [] → y ≡ []
second_nothing [] y e = e
second_nothing (b ∷ x) y e = cc

-- Without lines there are no fields.
no_line_no_field : (indentation : List ℕ) (fields : List FieldTexts) → flat_map (field_line indentation) fields ≡ [] →
    fields ≡ []
no_line_no_field indentation [] e = refl
no_line_no_field indentation (field ∷ fields) e = cc

no_field_test : (test : Bool) (field : FieldTexts) → (if test then [] else (field ∷ [])) ≡ [] → test ≡ true
no_field_test true field e = refl
no_field_test false field e = cc

-- What is not a field of a difference holds the same.
no_field_same : (name : List ℕ) (text : Part → List ℕ) (p q : Part) → field_difference name text p q ≡ [] → p ≡ q
unfolding field_difference
no_field_same name text p q e = part_equal_sound p q (no_field_test (part_equal p q) _ e)

-- What holds the same is not a field of a difference.
same_no_field : (name : List ℕ) (text : Part → List ℕ) (p q : Part) → p ≡ q → field_difference name text p q ≡ []
unfolding field_difference
same_no_field name text p q e = rw (e, part_equal_refl q) refl

-- By whether a test holds.
by_test : {A : Type 0} (test : Bool) → (test ≡ true → A) → (test ≡ false → A) → A
by_test true holds fails = holds refl
by_test false holds fails = fails refl

-- If the names are the same, they are not a field of a difference.
name_no_field : (rows : List Row) (a b : Parts) (n : ℕ) (name : List ℕ) → row_part rows a n ≡ row_part rows b n
    → numbered_difference (n, name) rows a b ≡ []
name_no_field [] a b n name e = refl
name_no_field (row ∷ rows) a b n name e = by_test (includes (numbers row) n)
    (λ t. rw t (same_no_field name (row_text row) (first_part a) (first_part b) (rw t at e)))
    (λ t. rw t (name_no_field rows (rest_parts a) (rest_parts b) n name (rw t at e)))

-- Those of some fields in which two values differ.
abbrev differing_of : List (ℕ × List ℕ) → List Row → Parts → Parts → List FieldTexts
differing_of fields rows a b = flat_map (λ field. numbered_difference field rows a b) fields

-- Where no field differs, the first row holds the same, if it has one of them.
covered_same : (row : Row) (rows : List Row) (a b : Parts) (fields : List (ℕ × List ℕ))
    → list_any (λ field. includes (numbers row) field.0) fields ≡ true → differing_of fields (row ∷ rows) a b ≡ [] →
    first_part a ≡ first_part b
covered_same row rows a b [] covered none = cc
covered_same row rows a b (f ∷ fields) covered none = by_test (includes (numbers row) f.0)
    (λ t. no_field_same f.1 (row_text row) (first_part a) (first_part b) (first_nothing _ _ (rw t at none)))
    (λ t. covered_same row rows a b fields (rw t at covered) (second_nothing _ _ none))

-- Where no field differs, none of the other rows' does.
rest_none : (row : Row) (rows : List Row) (a b : Parts) (fields : List (ℕ × List ℕ)) → differing_of fields (row ∷ rows)
    a b ≡ []
    → differing_of (filter (λ field. not (includes (numbers row) field.0)) fields) rows (rest_parts a) (rest_parts b) ≡
    []
rest_none row rows a b [] none = refl
rest_none row rows a b (f ∷ fields) none =
    let after = rest_none row rows a b fields (second_nothing _ _ none) in
    by_test (includes (numbers row) f.0) (λ t. rw t after) (λ t. rw (
      t,
      first_nothing (numbered_difference f rows (rest_parts a) (rest_parts b))
          (differing_of fields (row ∷ rows) a b) (rw t at none),
    ) after)

-- Where no field differs, the rows that have one of them hold the same, and the others are erased.
covered_rows_same : (fields : CommandFields) (printed : List (ℕ × List ℕ)) (rows : List Row) (a b : Parts)
    → are_covered fields.not_compared printed rows ≡ true → differing_of printed rows a b ≡ []
    → erased_parts fields false rows a ≡ erased_parts fields false rows b
covered_rows_same fields printed [] a b covered none = refl
covered_rows_same fields printed (row ∷ rows) a b covered none =
    let both = both_of (has_any fields.not_compared row || list_any (λ field. includes (numbers row) field.0) printed) _
    covered in
    let head : erased_part fields false row (first_part a) ≡ erased_part fields false row (first_part b) =
    by_test (has_any fields.not_compared row) (λ t. rw t refl)
    (λ t. rw (t, covered_same row rows a b printed (rw t at both.0) none) refl) in
    let tail = covered_rows_same fields (filter (λ field. not (includes (numbers row) field.0)) printed) rows
    (rest_parts a) (rest_parts b) both.1 (rest_none row rows a b printed none) in
    λ i. cons (head i) (tail i)

-- Commands of one name and without a difference are the same, if each field that is compared is printed.
pub same_without_lines : (s : ℕ) (indentation : List ℕ) (a b : Parts) → is_printed_whole s ≡ true → name_part s a ≡
    name_part s b
    → difference s indentation a b ≡ [] → erased s false a ≡ erased s false b
same_without_lines s indentation a b whole name none =
    covered_rows_same (command_fields s) ((name_number, []) ∷ (command_fields s).printed) (table s) a b whole
    (rw (name_no_field (table s) a b name_number [] name) (no_line_no_field indentation (differing_fields s a b) none))
