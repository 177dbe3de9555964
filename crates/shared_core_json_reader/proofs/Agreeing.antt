-- What is appended for a JSON value is the canonical payload of what it means.
use Rattle.std.proofs.Common.{◌≡◌, ℕ, zero, suc, ◌+◌, ◌-◌, ◌/◌, ◌%◌, ◌^◌, ◌<◌, ◌≤◌, List, [], ◌∷◌, ◌++◌, map, length}
use Rattle.std.proofs.Common.{Bool, true, false, cond, ◌&&◌, ◌||◌, ◌⊎◌, inl, inr, Option, Some, None, option_map}
use Rattle.std.proofs.Common.{option_and_then, not, refl, sym, ap, ap₂, subst, ◌∙◌, append-nil, arith, eqb, ltb, eq-eqb}
use Rattle.std.specs.Prelude.{flat_map}
use Rattle.std.proofs.lemmas.List.{map-append, length-append}
use Rattle.std.proofs.lemmas.List.Concat.{flat_map-append}
use Rattle.std.proofs.lemmas.Bool.{eqb-false, ltb-false, ne_eqb}
use Rattle.json.specs.Json.{Json, null, boolean, number, string, array, object, Items, no_items, item, Members}
use Rattle.shared_core_wire.specs.Grammar.{RecordValue, Varint, Length, FieldRecord}
use Rattle.shared_core_wire.specs.Encoding.{shortest_varint, shortest_within, key_bytes, record_bytes}
use Rattle.shared_core_wire.specs.Encoding.{record_list_bytes}
use Rattle.shared_core_wire.specs.Schema.{Kind, Row, U32, U64, Boolean, Enumeration, Text, ByteString, Message}
use Rattle.shared_core_wire.specs.Schema.{includes, member_kind, are_distinct, all_numbers, numbers}
use Rattle.shared_core_wire.specs.Schema as schema
use Rattle.shared_core_wire.specs.Value.{Part, Parts, Absent, Number, Bytes, Nested, Elements, Member, nil, cons}
use Rattle.shared_core_wire.specs.Value.{default_of}
use Rattle.shared_core_wire.specs.Acceptance.{accepts_number}
use Rattle.shared_core_wire.specs.Canonical.{kind_of, member_number, written_number, number_bytes, is_default}
use Rattle.shared_core_wire.specs.Canonical.{run_values, packed_values, row_records}
use Rattle.shared_core_wire.specs.Canonical.{part_values, element_values, message_records}
use Rattle.shared_core_wire.specs.Canonical.{canonical_payload}
use Rattle.shared_core_wire.proofs.ReadBack.{includes-append, distinct_back, or_split}
use Rattle.shared_core_wire.proofs.Runs.{and_split}
use Rattle.shared_core_json_reader.specs.Rows.{NamedField, NamedRow, Plain, Optional, Repeated, OneOf, named_field}
use Rattle.shared_core_json_reader.specs.Rows.{NumberForm, named_row, named_rows}
use Rattle.shared_core_json_reader.specs.Scalars.{u32_read, u64_read, boolean_read, enum_read, text_read, bytes_read}
use Rattle.shared_core_json_reader.specs.Reading.{are_known, given, single_read, field_read, elements_read, list_read}
use Rattle.shared_core_json_reader.specs.Reading.{or_absent, member_read, oneof_read, row_read, rows_read, members_read}
use Rattle.shared_core_json_reader.specs.Reading.{object_read, message_read}
use Rattle.shared_core_wire.specs.WrittenRecords.{number_record, content_record}
use Rattle.shared_core_json_reader.specs.Appended.{both, single_bytes, field_bytes}
use Rattle.shared_core_json_reader.specs.Appended.{items_bytes, number_read, run_bytes}
use Rattle.shared_core_json_reader.specs.Appended.{array_bytes, list_bytes, member_bytes}
use Rattle.shared_core_json_reader.specs.Appended.{held_after, oneof_bytes, given_bytes, row_bytes, rows_bytes}
use Rattle.shared_core_json_reader.specs.Appended.{members_bytes, object_bytes, message_bytes}
use Rattle.shared_core_json_reader.proofs.FormatRows.{schemas_of}
use Rattle.shared_core_json_reader.specs.Readable.{IsReadable}
use Rattle.shared_core_json_reader.specs.Rows.{Format}

-- the records of a field that has these values
abbrev pub out_of : ℕ → List RecordValue → List ℕ
out_of n ws = record_list_bytes (map (λ w. record { number = n; value = w }) ws)

-- those of a plain field without its default
abbrev pub single_out : (format : Format) → Bool → ℕ → Kind → Part → List ℕ
single_out format plain n k p = out_of n (cond (plain && is_default p) [] (part_values format.table p k))

varint_out : (b : Bool) (n value : ℕ) → cond b [] (key_bytes n 0 ++ shortest_varint value) ≡ out_of n
    (cond b [] (Varint value ∷ []))
varint_out true n value = refl
varint_out false n value = sym (append-nil (key_bytes n 0 ++ shortest_varint value))

length_out : (b : Bool) (n : ℕ) (bytes : List ℕ) → cond b []
    (key_bytes n 2 ++ (shortest_varint (length bytes) ++ bytes)) ≡ out_of n (cond b [] (Length bytes ∷ []))
length_out true n bytes = refl
length_out false n bytes = sym (append-nil (key_bytes n 2 ++ (shortest_varint (length bytes) ++ bytes)))

enum_zero : (m : ℕ) → eqb (written_number Enumeration m) 0 ≡ eqb m 0
enum_zero m = by_sign (ltb m (2 ^ 31)) refl
  where
    by_sign : (b : Bool) → ltb m (2 ^ 31) ≡ b → eqb (cond b m (m + (2 ^ 64 - 2 ^ 32))) 0 ≡ eqb m 0
    by_sign true e = refl
    by_sign false e = let h : 2 ^ 31 ≤ m = ltb-false m (2 ^ 31) e in ne_eqb (m + (2 ^ 64 - 2 ^ 32)) 0 (λ z. omega arith)
        ∙ sym (ne_eqb m 0 (λ z. omega arith))

no_default : (plain : Bool) → (plain && false) ≡ false
no_default true = refl
no_default false = refl

-- the bytes of a varint are there
varint_there : (n : ℕ) → 0 < length (shortest_varint n)
unfolding shortest_varint shortest_within
varint_there zero = omega arith
varint_there (suc n) = by_test (ltb (suc n) 128)
  where
    by_test : (b : Bool) → 0 < length (cond b (suc n ∷ []) ((suc n % 128 + 128) ∷ shortest_within n (suc n / 128)))
    by_test true = omega arith
    by_test false = omega arith

-- ---- what rows are without names

-- a row without the names of its fields
abbrev pub plain_row : NamedRow → Row
plain_row (Plain f) = schema.Plain f.number f.kind
plain_row (Optional f) = schema.Optional f.number f.kind
plain_row (Repeated f) = schema.Repeated f.number f.kind
plain_row (OneOf fs) = schema.OneOf (map (λ f. (f.number, f.kind)) fs)

-- the members have the numbers and the kinds of these fields
abbrev pub Knows : List (ℕ × Kind) → List NamedField → Type 0
Knows members [] = Unit {0}
Knows members (f ∷ fs) = (member_kind members f.number ≡ f.kind) × (includes (map (λ m. m.0) members) f.number ≡ true) ×
    Knows members fs

abbrev pub RowKnows : NamedRow → Type 0
RowKnows (Plain f) = Unit {0}
RowKnows (Optional f) = Unit {0}
RowKnows (Repeated f) = Unit {0}
RowKnows (OneOf fs) = Knows (map (λ f. (f.number, f.kind)) fs) fs

abbrev pub RowsKnow : List NamedRow → Type 0
RowsKnow [] = Unit {0}
RowsKnow (row ∷ rows) = RowKnows row × RowsKnow rows

module _ (format : Format) (nested_r : ℕ → Json → Option Parts) (nested_b : ℕ → Json → Option (List ℕ))
    (same : (s : ℕ) (j : Json) → nested_b s j ≡ option_map (canonical_payload format.table s) (nested_r s j)) where
  numbers_same : (plain : Bool) (n : ℕ) (k : Kind) (written : ℕ → ℕ) (o : Option ℕ) →
      ((m : ℕ) → part_values format.table (Number m) k ≡ Varint (written m) ∷ [])
      → ((m : ℕ) → eqb (written m) 0 ≡ eqb m 0)
      → option_map (λ m. number_record plain n (written m)) o
      ≡ option_map (single_out format plain n k) (option_map Number o)
  numbers_same plain n k written None is zeros = refl
  numbers_same plain n k written (Some m) is zeros =
      ap (λ (xs : List ℕ). Some xs)
      (ap (λ (b : Bool). cond (plain && b) [] (key_bytes n 0 ++ shortest_varint (written m))) (zeros m) ∙ varint_out
      (plain && eqb m 0) n (written m)
      ∙ ap (λ (ws : List RecordValue). out_of n (cond (plain && eqb m 0) [] ws)) (sym (is m)))

  bytes_same : (plain : Bool) (n : ℕ) (k : Kind) (o : Option (List ℕ)) →
      ((b : List ℕ) → part_values format.table (Bytes b) k ≡ Length b ∷ [])
      → option_map (content_record plain n) o ≡ option_map (single_out format plain n k) (option_map Bytes o)
  bytes_same plain n k None is = refl
  bytes_same plain n k (Some b) is =
      ap (λ (xs : List ℕ). Some xs) (length_out (plain && eqb (length b) 0) n b ∙ ap
      (λ (ws : List RecordValue). out_of n (cond (plain && eqb (length b) 0) [] ws)) (sym (is b)))

  message_same : (plain : Bool) (n s : ℕ) (o : Option Parts) → option_map (content_record false n)
      (option_map (canonical_payload format.table s) o)
      ≡ option_map (single_out format plain n (Message s)) (option_map Nested o)
  unfolding part_values
  message_same plain n s None = refl
  message_same plain n s (Some ps) =
      ap (λ (xs : List ℕ). Some xs)
      (length_out false n (canonical_payload format.table s ps) ∙ ap
      (λ (b : Bool). out_of n (cond b [] (Length (canonical_payload format.table s ps) ∷ []))) (sym (no_default plain)))

  single_same : (plain : Bool) (n : ℕ) (k : Kind) (form : NumberForm) (j : Json) → single_bytes nested_b plain
      n k form j ≡ option_map (single_out format plain n k) (single_read nested_r k form j)
  unfolding part_values
  single_same plain n U32 form j = numbers_same plain n U32 (λ m. m) (u32_read form.digits j) (λ m. refl)
      (λ m. refl)
  single_same plain n U64 form j = numbers_same plain n U64 (λ m. m) (u64_read form.digits j)
      (λ m. refl) (λ m. refl)
  single_same plain n Boolean form j = numbers_same plain n Boolean (λ m. m) (boolean_read j) (λ m. refl) (λ m. refl)
  single_same plain n Enumeration form j = numbers_same plain n Enumeration (written_number Enumeration)
      (enum_read form.values j) (λ m. refl) enum_zero
  single_same plain n Text form j = bytes_same plain n Text (text_read j) (λ b. refl)
  single_same plain n ByteString form j = bytes_same plain n ByteString (bytes_read j) (λ b. refl)
  single_same plain n (Message s) form j = ap (option_map (content_record false n)) (same s j) ∙ message_same plain n
      s
      (nested_r s j)

  field_same : (plain : Bool) (f : NamedField) (j : Json) → field_bytes nested_b plain f j ≡ option_map
      (single_out format plain f.number f.kind) (field_read nested_r f j)
  field_same plain f j = single_same plain f.number f.kind f.form j

  -- if both lists exist, each does
  both_same : {A B C : Type 0} (F : A → List ℕ) (G : B → List ℕ) (H : C → List ℕ) (c : A → B → C) (a : Option A)
      (b : Option B) → ((x : A) (y : B) → F x ++ G y ≡ H (c x y))
      → both (option_map F a) (option_map G b) ≡ option_map H (option_and_then (λ x. option_map (c x) b) a)
  both_same F G H c None b e = refl
  both_same F G H c (Some x) None e = refl
  both_same F G H c (Some x) (Some y) e = ap (λ (xs : List ℕ). Some xs) (e x y)

  out_append : (n : ℕ) (us ws : List RecordValue) → out_of n us ++ out_of n ws ≡ out_of n (us ++ ws)
  out_append n us ws =
      sym (flat_map-append record_bytes (map (λ w. record { number = n; value = w }) us)
      (map (λ w. record { number = n; value = w }) ws))
      ∙ ap (λ (rs : List FieldRecord). record_list_bytes rs)
      (sym (map-append (λ w. record { number = n; value = w }) us ws))

  items_same : (f : NamedField) (js : Items) → items_bytes nested_b f js ≡ option_map
      (λ ps. out_of f.number (element_values format.table ps f.kind)) (elements_read nested_r f js)
  unfolding part_values
  items_same f no_items = refl
  items_same f (item j js) =
      ap₂ both (field_same false f j) (items_same f js)
      ∙ both_same (single_out format false f.number f.kind)
      (λ ps. out_of f.number (element_values format.table ps f.kind))
      (λ ps. out_of f.number (element_values format.table ps f.kind)) cons
      (field_read nested_r f j) (elements_read nested_r f js)
      (λ p ps. out_append f.number (part_values format.table p f.kind) (element_values format.table ps f.kind))

  map_some : {A : Type 0} (F G : A → List ℕ) (o : Option A) → ((x : A) → o ≡ Some x → F x ≡ G x) → option_map F o ≡
      option_map G o
  map_some F G None e = refl
  map_some F G (Some x) e = ap (λ (xs : List ℕ). Some xs) (e x refl)

  map_map : {A B C : Type 0} (F : B → C) (G : A → B) (o : Option A) → option_map F (option_map G o) ≡ option_map
      (λ x. F (G x)) o
  map_map F G None = refl
  map_map F G (Some x) = refl

  abbrev run_part : Kind → Part → List ℕ
  run_part k p = flat_map number_bytes (part_values format.table p k)

  abbrev run_of : Kind → Parts → List ℕ
  run_of k ps = flat_map number_bytes (element_values format.table ps k)

  run_varint : (k : Kind) (o : Option ℕ) → option_map (λ m. shortest_varint (written_number k m)) o ≡ option_map
      (run_part k) (option_map Number o)
  unfolding part_values
  run_varint k None = refl
  run_varint k (Some m) = ap (λ (xs : List ℕ). Some xs) (sym (append-nil (shortest_varint (written_number k m))))

  run_number : (k : Kind) (form : NumberForm) (j : Json) → accepts_number k ≡ true → option_map shortest_varint
      (number_read k form j) ≡ option_map (run_part k) (single_read nested_r k form j)
  run_number U32 form j a = run_varint U32 (u32_read form.digits j)
  run_number U64 form j a = run_varint U64 (u64_read form.digits j)
  run_number Boolean form j a = run_varint Boolean (boolean_read j)
  run_number Enumeration form j a = map_map shortest_varint (written_number Enumeration) (enum_read form.values j) ∙
      run_varint Enumeration (enum_read form.values j)
  run_number Text form j a = absurd cc
  run_number ByteString form j a = absurd cc
  run_number (Message s) form j a = absurd cc

  run_same : (f : NamedField) (js : Items) → accepts_number f.kind ≡ true → run_bytes f js ≡ option_map (run_of f.kind)
      (elements_read nested_r f js)
  unfolding part_values
  run_same f no_items a = refl
  run_same f (item j js) a =
      ap₂ both (run_number f.kind f.form j a) (run_same f js a)
      ∙ both_same (run_part f.kind) (run_of f.kind) (run_of f.kind) cons (field_read nested_r f j)
      (elements_read nested_r f js)
      (λ p ps. sym (flat_map-append number_bytes (part_values format.table p f.kind)
      (element_values format.table ps f.kind)))

  abbrev run_record : ℕ → Kind → Parts → List ℕ
  run_record n k ps = out_of n (run_values (element_values format.table ps k))

  -- a packed run is there exactly if it has elements
  first_out : (n : ℕ) (k : Kind) (o : Option ℕ) (rest : Option Parts) (ps : Parts) → option_and_then
      (λ p. option_map (cons p) rest) (option_map Number o) ≡ Some ps → content_record true n (run_of k ps) ≡ run_record
      n k ps
  unfolding part_values
  first_out n k None rest ps h = absurd cc
  first_out n k (Some m) None ps h = absurd cc
  first_out n k (Some m) (Some qs) ps h =
      let q : cons (Number m) qs ≡ ps = cc in
      let first = shortest_varint (written_number k m) in
      let run = first ++ run_of k qs in
      let there : eqb (length run) 0 ≡ false = ne_eqb (length run) 0
      (λ z. omega (arith, varint_there (written_number k m), length-append first (run_of k qs))) in
      rw (← q) (ap (λ (b : Bool). cond b [] (key_bytes n 2 ++ (shortest_varint (length run) ++ run))) there ∙
      length_out false n run)

  run_out : (n : ℕ) (name : List ℕ) (k : Kind) (form : NumberForm) (js : Items) (ps : Parts) → accepts_number k ≡ true →
      elements_read nested_r (record { number = n; name = name; kind = k; form = form }) js ≡ Some ps
      → content_record true n (run_of k ps) ≡ run_record n k ps
  unfolding part_values
  run_out n name k form no_items ps a e = let q : nil ≡ ps = cc in rw (← q) refl
  run_out n name U32 form (item j js) ps a e = first_out n U32 (u32_read form.digits j) _ ps e
  run_out n name U64 form (item j js) ps a e = first_out n U64 (u64_read form.digits j) _ ps e
  run_out n name Boolean form (item j js) ps a e = first_out n Boolean (boolean_read j) _ ps e
  run_out n name Enumeration form (item j js) ps a e = first_out n Enumeration (enum_read form.values j) _ ps e
  run_out n name Text form (item j js) ps a e = absurd cc
  run_out n name ByteString form (item j js) ps a e = absurd cc
  run_out n name (Message s) form (item j js) ps a e = absurd cc

  abbrev list_out : ℕ → Kind → Part → List ℕ
  list_out n k p = out_of n (packed_values k (part_values format.table p k))

  array_same : (f : NamedField) (js : Items) → array_bytes nested_b f js ≡ option_map (list_out f.number f.kind)
      (option_map Elements (elements_read nested_r f js))
  unfolding part_values
  array_same f js = by_test (accepts_number f.kind) refl
    where
      by_test : (b : Bool) → accepts_number f.kind ≡ b → cond b
          (option_map (content_record true f.number) (run_bytes f js)) (items_bytes nested_b f js)
          ≡ option_map (λ p. out_of f.number (cond b (run_values (part_values format.table p f.kind))
          (part_values format.table p f.kind))) (option_map Elements (elements_read nested_r f js))
      by_test true a =
          ap (option_map (content_record true f.number)) (run_same f js a)
          ∙ map_map (content_record true f.number) (run_of f.kind) (elements_read nested_r f js)
          ∙ map_some _ (run_record f.number f.kind) (elements_read nested_r f js)
          (λ ps e. run_out f.number f.name f.kind f.form js ps a e)
          ∙ sym (map_map (λ p. out_of f.number (run_values (part_values format.table p f.kind))) Elements
          (elements_read nested_r f js))
      by_test false a = items_same f js ∙ sym
          (map_map (λ p. out_of f.number (part_values format.table p f.kind)) Elements (elements_read nested_r f js))

  list_same : (f : NamedField) (j : Json) → list_bytes nested_b f j ≡ option_map (list_out f.number f.kind)
      (list_read nested_r f j)
  list_same f null = refl
  list_same f (boolean b) = refl
  list_same f (number s) = refl
  list_same f (string s) = refl
  list_same f (array js) = array_same f js
  list_same f (object ms) = refl

  given_same : (read_b : Json → Option (List ℕ)) (read_r : Json → Option Part) (empty : Part) (F : Part → List ℕ)
      (o : Option (Option Json))
      → F empty ≡ [] → ((j : Json) → read_b j ≡ option_map F (read_r j)) → given_bytes read_b o ≡ option_map F
      (option_and_then (or_absent empty read_r) o)
  given_same read_b read_r empty F None a e = refl
  given_same read_b read_r empty F (Some None) a e = ap (λ (xs : List ℕ). Some xs) (sym a)
  given_same read_b read_r empty F (Some (Some j)) a e = e j

  default_out : (n : ℕ) (k : Kind) → single_out format true n k (default_of k) ≡ []
  unfolding part_values
  default_out n U32 = refl
  default_out n U64 = refl
  default_out n Boolean = refl
  default_out n Enumeration = refl
  default_out n Text = refl
  default_out n ByteString = refl
  default_out n (Message s) = refl

  empty_list : (n : ℕ) (k : Kind) → list_out n k (Elements nil) ≡ []
  unfolding part_values
  empty_list n U32 = refl
  empty_list n U64 = refl
  empty_list n Boolean = refl
  empty_list n Enumeration = refl
  empty_list n Text = refl
  empty_list n ByteString = refl
  empty_list n (Message s) = refl

  -- ---- oneofs

  abbrev both_or_none : Members → ℕ → Part → List NamedField → Type 0
  both_or_none ms n p fs =
      ((oneof_bytes nested_b ms true fs ≡ None) × (oneof_read nested_r ms (Member n p) fs ≡ None)) ⊎
      ((oneof_bytes nested_b ms true fs ≡ Some []) × (oneof_read nested_r ms (Member n p) fs ≡ Some (Member n p)))

  held_stays : (ms : Members) (n : ℕ) (p : Part) (fs : List NamedField) → both_or_none ms n p fs
  held_stays ms n p [] = inr (refl, refl)
  held_stays ms n p (f ∷ fs) = by_given (given f ms) (held_stays ms n p fs)
    where
      by_given : (o : Option (Option Json)) → both_or_none ms n p fs
          → ((option_and_then (λ o. both (or_absent [] (member_bytes nested_b true f) o)
          (oneof_bytes nested_b ms (held_after true o) fs)) o ≡ None)
          × (option_and_then (λ o. option_and_then (λ now. oneof_read nested_r ms now fs)
          (or_absent (Member n p) (member_read nested_r (Member n p) f) o)) o ≡ None))
          ⊎ ((option_and_then (λ o. both (or_absent [] (member_bytes nested_b true f) o)
          (oneof_bytes nested_b ms (held_after true o) fs)) o ≡ Some [])
          × (option_and_then (λ o. option_and_then (λ now. oneof_read nested_r ms now fs)
          (or_absent (Member n p) (member_read nested_r (Member n p) f) o)) o ≡ Some (Member n p)))
      by_given None h = inl (refl, refl)
      by_given (Some None) (inl h) = inl (ap (both (Some [])) h.0, h.1)
      by_given (Some None) (inr h) = inr (ap (both (Some [])) h.0, h.1)
      by_given (Some (Some j)) h = inl (refl, refl)

  both_nothing : (o : Option (List ℕ)) → both (Some []) o ≡ o
  both_nothing None = refl
  both_nothing (Some xs) = refl

  abbrev oneof_out : List (ℕ × Kind) → Part → List ℕ
  oneof_out members p = out_of (member_number p) (part_values format.table p (member_kind members (member_number p)))

  oneof_same : (ms : Members) (members : List (ℕ × Kind)) (fs : List NamedField) → Knows members fs → oneof_bytes
      nested_b ms false fs ≡ option_map (oneof_out members) (oneof_read nested_r ms Absent fs)
  unfolding part_values
  oneof_same ms members [] k = refl
  oneof_same ms members (f ∷ fs) k = by_given (given f ms) (oneof_same ms members fs k.2)
    where
      by_rest : (p : Part) → both_or_none ms f.number p fs
          → both (Some (single_out format false f.number f.kind p)) (oneof_bytes nested_b ms true fs) ≡ option_map
          (oneof_out members) (oneof_read nested_r ms (Member f.number p) fs)
      by_rest p (inl h) = ap (both (Some (single_out format false f.number f.kind p))) h.0 ∙ sym
          (ap (option_map (oneof_out members)) h.1)
      by_rest p (inr h) =
          ap (both (Some (single_out format false f.number f.kind p))) h.0
          ∙ ap (λ (xs : List ℕ). Some xs) (append-nil (single_out format false f.number f.kind p) ∙ ap
          (λ (x : Kind). out_of f.number (part_values format.table p x)) (sym k.0))
          ∙ sym (ap (option_map (oneof_out members)) h.1)

      by_part : (o : Option Part) → both (option_map (single_out format false f.number f.kind) o)
          (oneof_bytes nested_b ms true fs)
          ≡ option_map (oneof_out members) (option_and_then (λ now. oneof_read nested_r ms now fs)
          (option_map (Member f.number) o))
      by_part None = refl
      by_part (Some p) = by_rest p (held_stays ms f.number p fs)

      by_given : (o : Option (Option Json)) → oneof_bytes nested_b ms false fs ≡ option_map (oneof_out members)
          (oneof_read nested_r ms Absent fs)
          → option_and_then (λ o. both (or_absent [] (member_bytes nested_b false f) o)
          (oneof_bytes nested_b ms (held_after false o) fs)) o
          ≡ option_map (oneof_out members) (option_and_then (λ o. option_and_then (λ now. oneof_read nested_r ms now fs)
          (or_absent Absent (member_read nested_r Absent f) o)) o)
      by_given None h = refl
      by_given (Some None) h = both_nothing (oneof_bytes nested_b ms false fs) ∙ h
      by_given (Some (Some j)) h = ap (λ (o : Option (List ℕ)). both o (oneof_bytes nested_b ms true fs))
          (field_same false f j) ∙ by_part (field_read nested_r f j)

  -- ---- rows

  abbrev row_out : NamedRow → Part → List ℕ
  row_out row p = record_list_bytes (row_records (plain_row row) p
      (part_values format.table p (kind_of (plain_row row) p)))

  row_same : (ms : Members) (row : NamedRow) → RowKnows row → row_bytes nested_b ms row ≡ option_map (row_out row)
      (row_read nested_r ms row)
  unfolding part_values
  row_same ms (Plain f) k = given_same (field_bytes nested_b true f) (field_read nested_r f) (default_of f.kind)
      (single_out format true f.number f.kind) (given f ms) (default_out f.number f.kind) (field_same true f)
  row_same ms (Optional f) k = given_same (field_bytes nested_b false f) (field_read nested_r f) Absent
      (single_out format false f.number f.kind) (given f ms) refl (field_same false f)
  row_same ms (Repeated f) k = given_same (list_bytes nested_b f) (list_read nested_r f) (Elements nil)
      (list_out f.number f.kind) (given f ms) (empty_list f.number f.kind) (list_same f)
  row_same ms (OneOf fs) k = oneof_same ms (map (λ f. (f.number, f.kind)) fs) fs k

  abbrev rows_out : List NamedRow → Parts → List ℕ
  rows_out rows ps = record_list_bytes (message_records format.table ps (map plain_row rows))

  rows_same : (ms : Members) (rows : List NamedRow) → RowsKnow rows → rows_bytes nested_b ms rows ≡ option_map
      (rows_out rows) (rows_read nested_r ms rows)
  unfolding part_values
  rows_same ms [] k = refl
  rows_same ms (row ∷ rows) k =
      ap₂ both (row_same ms row k.0) (rows_same ms rows k.1)
      ∙ both_same (row_out row) (rows_out rows) (rows_out (row ∷ rows)) cons (row_read nested_r ms row)
      (rows_read nested_r ms rows)
      (λ p ps. sym (flat_map-append record_bytes (row_records (plain_row row) p
      (part_values format.table p (kind_of (plain_row row) p))) (message_records format.table ps (map plain_row rows))))

  members_same : (rows : List NamedRow) (ms : Members) → RowsKnow rows → members_bytes nested_b rows ms ≡ option_map
      (rows_out rows) (members_read nested_r rows ms)
  members_same rows ms k = by_test (are_known rows ms)
    where
      by_test : (b : Bool) → cond b (rows_bytes nested_b ms rows) None ≡ option_map (rows_out rows)
          (cond b (rows_read nested_r ms rows) None)
      by_test true = rows_same ms rows k
      by_test false = refl

  object_same : (rows : List NamedRow) (j : Json) → RowsKnow rows → object_bytes nested_b rows j ≡ option_map
      (rows_out rows) (object_read nested_r rows j)
  object_same rows null k = refl
  object_same rows (boolean b) k = refl
  object_same rows (number s) k = refl
  object_same rows (string s) k = refl
  object_same rows (array js) k = refl
  object_same rows (object ms) k = members_same rows ms k

-- ---- the rows of the schemas

plain_members : (format : Format) (s : ℕ) (members : List (ℕ × Kind)) → map (λ f. (f.number, f.kind))
    (map (λ m. named_field format s m.0 m.1) members) ≡ members
plain_members format s [] = refl
plain_members format s (m ∷ members) = ap (λ (ms : List (ℕ × Kind)). m ∷ ms) (plain_members format s members)

plain_named : (format : Format) (s : ℕ) (row : Row) → plain_row (named_row format s row) ≡ row
plain_named format s (schema.Plain n k) = refl
plain_named format s (schema.Optional n k) = refl
plain_named format s (schema.Repeated n k) = refl
plain_named format s (schema.OneOf members) = ap schema.OneOf (plain_members format s members)

pub plain_rows : (format : Format) (s : ℕ) (rows : List Row) → map plain_row (map (named_row format s) rows) ≡ rows
plain_rows format s [] = refl
plain_rows format s (row ∷ rows) = ap₂ (λ (r : Row) (rs : List Row). r ∷ rs) (plain_named format s row)
    (plain_rows format s rows)

not_false : (b : Bool) → not b ≡ true → b ≡ false
not_false true e = absurd cc
not_false false e = refl

pub distinct_front : (xs ys : List ℕ) → are_distinct (xs ++ ys) ≡ true → are_distinct xs ≡ true
distinct_front [] ys d = refl
distinct_front (x ∷ xs) ys d =
    let e = and_split _ _ d in
    let other : includes xs x ≡ false = (or_split (includes xs x) (includes ys x)
    (sym (includes-append xs ys x) ∙ not_false (includes (xs ++ ys) x) e.0)).0 in
    let front = distinct_front xs ys e.1 in
    rw (other, front) refl

other_way : (a b : ℕ) → eqb a b ≡ false → eqb b a ≡ false
other_way a b e = ne_eqb b a (λ q. eqb-false a b e (sym q))

knows_more : (format : Format) (s : ℕ) (m : ℕ × Kind) (members : List (ℕ × Kind)) (others : List (ℕ × Kind)) → includes
    (map (λ o. o.0) others) m.0 ≡ false
    → Knows members (map (λ o. named_field format s o.0 o.1) others) → Knows (m ∷ members)
    (map (λ o. named_field format s o.0 o.1) others)
knows_more format s m members [] h k = tt
knows_more format s m members (o ∷ others) h k =
    let e = or_split _ _ h in
    let first = other_way m.0 o.0 e.0 in (
      ap (λ (b : Bool). cond b m.1 (member_kind members o.0)) first ∙ k.0,
      ap
          (λ (b : Bool). b || includes (map (λ o. o.0) members) o.0) first ∙ k.1,
      knows_more format s m members others e.1 k.2,
    )

knows_members : (format : Format) (s : ℕ) (members : List (ℕ × Kind)) → are_distinct (map (λ m. m.0) members) ≡ true
    → Knows members
    (map (λ m. named_field format s m.0 m.1) members)
knows_members format s [] d = tt
knows_members format s (m ∷ members) d =
    let e = and_split _ _ d in
    let own = eq-eqb m.0 m.0 refl in (
      ap (λ (b : Bool). cond b m.1 (member_kind members m.0)) own,
      ap
          (λ (b : Bool). b || includes (map (λ o. o.0) members) m.0) own,
      knows_more format s m members members (not_false _ e.0)
          (knows_members format s members e.1),
    )

row_knows : (format : Format) (s : ℕ) (row : Row) → are_distinct (numbers row) ≡ true
    → RowKnows (named_row format s row)
row_knows format s (schema.Plain n k) d = tt
row_knows format s (schema.Optional n k) d = tt
row_knows format s (schema.Repeated n k) d = tt
row_knows format s (schema.OneOf members) d = subst (λ (ms : List (ℕ × Kind)). Knows ms
    (map (λ m. named_field format s m.0 m.1) members)) (sym (plain_members format s members))
    (knows_members format s members d)

pub rows_know : (format : Format) (s : ℕ) (rows : List Row) → are_distinct (all_numbers rows) ≡ true
    → RowsKnow (map (named_row format s) rows)
rows_know format s [] d = tt
rows_know format s (row ∷ rows) d = (
  row_knows format s row (distinct_front (numbers row) (all_numbers rows) d),
  rows_know format s rows
      (distinct_back (numbers row) (all_numbers rows) d),
)

-- ---- messages

pub message_agrees : (format : Format) (law : IsReadable format) (levels s : ℕ) (j : Json)
    → message_bytes format levels s j ≡ option_map (canonical_payload format.table s)
    (message_read format levels s j)
unfolding message_bytes message_read named_rows
message_agrees format law zero s j = refl
message_agrees format law (suc levels) s j =
    object_same format (message_read format levels) (message_bytes format levels) (message_agrees format law levels)
    (named_rows format s) j
    (rows_know format s (format.table s) (and_split _ _ (schemas_of format law s)).1)
    ∙ ap (λ (rows : List Row). option_map (λ ps. record_list_bytes (message_records format.table ps rows))
    (object_read (message_read format levels) (named_rows format s) j)) (plain_rows format s (format.table s))
