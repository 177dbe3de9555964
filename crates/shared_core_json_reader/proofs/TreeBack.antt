-- The JSON of a value is read as the value.
use Rattle.std.proofs.Common.{◌≡◌, ℕ, zero, suc, ◌≤◌, List, [], ◌∷◌, ◌++◌, map, length, Bool, true, false, cond, not}
use Rattle.std.proofs.Common.{◌&&◌, ◌||◌, Option, Some, None, option_map, option_and_then, refl, sym, ap, ap₂, ◌∙◌}
use Rattle.std.proofs.Common.{append-nil, arith, eqb, eq-eqb}
use Rattle.std.specs.Str.{bytes_eq}
use Rattle.std.proofs.lemmas.Bool.{eqb-true, eqb-false, ne_eqb}
use Rattle.base64.specs.GeneralPurpose.{IsBytes}
use Rattle.json.specs.Json.{Json, Members}
use Rattle.shared_core_wire.specs.Schema.{Kind, Row, U32, U64, Boolean, Enumeration, Text, ByteString, Message}
use Rattle.shared_core_wire.specs.Schema.{includes, member_kind, are_distinct, numbers, all_numbers}
use Rattle.shared_core_wire.specs.Schema as schema
use Rattle.shared_core_wire.specs.Value.{Part, Parts, Absent, Number, Bytes, Nested, Elements, Member, nil, cons}
use Rattle.shared_core_wire.specs.Value.{default_of}
use Rattle.shared_core_wire.specs.Canonical.{kind_of, number_of, is_default, part_levels, levels}
use Rattle.shared_core_wire.specs.Fitting.{is_single, has_shape, NumberFits, BytesFit, PartFits, ElementsFit, Fits}
use Rattle.shared_core_wire.proofs.ReadBack.{or_split, includes-append, distinct_back, distinct_other}
use Rattle.shared_core_wire.proofs.Runs.{and_split}
use Rattle.shared_core_json.specs.Fields.{name_of}
use Rattle.shared_core_json.specs.Form.{is_present, member_if, part_json_in}
use Rattle.shared_core_json.proofs.Meanings.{PartBytes, PartsBytes}
use Rattle.shared_core_json_reader.specs.Rows.{NamedField, NamedRow, Plain, Optional, Repeated, named_field, named_row}
use Rattle.shared_core_json_reader.specs.Rows.{named_rows}
use Rattle.shared_core_json_reader.specs.Reading.{original_name, is_named, names_field, row_names, names_row, are_known}
use Rattle.json_table.specs.Places.{present}
use Rattle.shared_core_json_reader.specs.Reading.{values_named, the_only, given, single_read, field_read}
use Rattle.shared_core_json_reader.specs.Reading.{elements_read, list_read, or_absent, member_read, oneof_read}
use Rattle.shared_core_json_reader.specs.Reading.{row_read, rows_read, object_read, message_read}
use Rattle.shared_core_json_reader.proofs.Agreeing.{distinct_front}
use Rattle.shared_core_json_reader.proofs.NamesApart.{names_apart, same_bytes}
use Rattle.shared_core_json_reader.proofs.ScalarsBack.{u32_back, u64_back, boolean_back, enum_back, text_back}
use Rattle.shared_core_json_reader.proofs.ScalarsBack.{byte_string_back, byte_string_there}
use Rattle.shared_core_json.specs.Form.{Writing, items_json_in, members_json_in, json_with_in, writing}
use Rattle.shared_core_json_reader.proofs.FormatRows.{schemas_of}
use Rattle.shared_core_json_reader.specs.Readable.{IsReadable, names_key}
use Rattle.shared_core_json_reader.specs.Rows.{Format, NumberForm}

-- ---- the members of an object

not_before : (xs ys : List ℕ) (n : ℕ) → are_distinct (xs ++ ys) ≡ true → includes ys n ≡ true → includes xs n ≡ false
not_before xs ys n d h = by_test (includes xs n) refl
  where
    by_test : (b : Bool) → includes xs n ≡ b → b ≡ false
    by_test true e = absurd (let q : includes ys n ≡ false = distinct_other xs ys n d e in cc)
    by_test false e = refl

own_number : (n : ℕ) → includes (n ∷ []) n ≡ true
own_number n = ap (λ (b : Bool). b || false) (eq-eqb n n refl)

-- what is present has a number of its row
number_within : (row : Row) (p : Part) → has_shape row p ≡ true → is_present row p ≡ true → includes (numbers row)
    (number_of row p) ≡ true
number_within (schema.Plain n k) p h g = own_number n
number_within (schema.Optional n k) p h g = own_number n
number_within (schema.Repeated n k) p h g = own_number n
number_within (schema.OneOf members) Absent h g = absurd cc
number_within (schema.OneOf members) (Number m) h g = absurd cc
number_within (schema.OneOf members) (Bytes b) h g = absurd cc
number_within (schema.OneOf members) (Nested ps) h g = absurd cc
number_within (schema.OneOf members) (Elements ps) h g = absurd cc
number_within (schema.OneOf members) (Member n p) h g = (and_split _ _ h).0

-- the JSON of a part of a row of the schema s
abbrev pub row_json : (format : Format) → Bool → ℕ → Row → Part → Json
row_json format texts s row p = part_json_in format.table format.names
    (writing texts (format.names s) (number_of row p)) p (kind_of row p)

-- the value that a part gives the field of a number
abbrev pub mine : (format : Format) → Bool → ℕ → ℕ → Row → Part → List Json
mine format texts s n row p = cond (is_present row p)
    (cond (eqb n (number_of row p)) (row_json format texts s row p ∷ []) []) []

abbrev pub all_mine : (format : Format) → Bool → ℕ → ℕ → Parts → List Row → List Json
all_mine format texts s n nil rows = []
all_mine format texts s n (cons p ps) [] = []
all_mine format texts s n (cons p ps) (row ∷ rows) = mine format texts s n row p ++ all_mine format texts s n ps rows

mine_none : (format : Format) (texts : Bool) (s n : ℕ) (row : Row) (p : Part) → has_shape row p ≡ true
    → includes (numbers row) n ≡ false →
    mine format texts s n row p ≡ []
mine_none format texts s n row p h g = by_test (is_present row p) refl
  where
    other : is_present row p ≡ true → eqb n (number_of row p) ≡ false
    other e = ne_eqb n (number_of row p) (λ q. absurd (let k : includes (numbers row) (number_of row p) ≡ true =
        number_within row p h e in let l : includes (numbers row) n ≡ includes (numbers row) (number_of row p) = ap
        (includes (numbers row)) q in cc))

    by_test : (b : Bool) → is_present row p ≡ b → cond b (cond (eqb n (number_of row p))
        (row_json format texts s row p ∷ []) []) [] ≡ []
    by_test true e = ap (λ (c : Bool). cond c (row_json format texts s row p ∷ []) [])
        (other e)
    by_test false e = refl

all_mine_none : (format : Format) (texts : Bool) (s n : ℕ) (v : Parts) (rows : List Row) → Fits format.table v rows
    → includes (all_numbers rows) n
    ≡ false → all_mine format texts s n v rows ≡ []
unfolding PartFits
all_mine_none format texts s n nil [] f h = refl
all_mine_none format texts s n nil (row ∷ rows) f h = absurd f
all_mine_none format texts s n (cons p ps) [] f h = absurd f
all_mine_none format texts s n (cons p ps) (row ∷ rows) f h =
    let e = or_split (includes (numbers row) n) (includes (all_numbers rows) n)
    (sym (includes-append (numbers row) (all_numbers rows) n) ∙ h) in
    ap₂ (λ (a b : List Json). a ++ b) (mine_none format texts s n row p f.0 e.0)
    (all_mine_none format texts s n ps rows f.2 e.1)

or_true : (b : Bool) → (b || true) ≡ true
or_true true = refl
or_true false = refl

within_row : (row : Row) (rows : List Row) (n : ℕ) → includes (numbers row) n ≡ true → includes
    (all_numbers (row ∷ rows)) n ≡ true
within_row row rows n h = includes-append (numbers row) (all_numbers rows) n ∙ ap
    (λ b. b || includes (all_numbers rows) n) h

within_rest : (row : Row) (rows : List Row) (n : ℕ) → includes (all_numbers rows) n ≡ true → includes
    (all_numbers (row ∷ rows)) n ≡ true
within_rest row rows n h = includes-append (numbers row) (all_numbers rows) n ∙ ap (λ b. includes (numbers row) n || b)
    h ∙ or_true (includes (numbers row) n)

-- the values of a field in the object of a value
values_are : (format : Format) (law : IsReadable format) (texts : Bool) (s n : ℕ) (k : Kind) (v : Parts)
    (rows : List Row) → Fits format.table v rows → includes
    (all_numbers (format.table s)) n ≡ true
    → ((m : ℕ) → includes (all_numbers rows) m ≡ true → includes (all_numbers (format.table s)) m ≡ true)
    → values_named (named_field format s n k) (members_json_in format.table format.names texts (format.names s) v rows)
    ≡ all_mine format texts s n v rows
unfolding PartFits part_json_in
values_are format law texts s n k nil [] f h w = refl
values_are format law texts s n k nil (row ∷ rows) f h w = absurd f
values_are format law texts s n k (cons p ps) [] f h w = absurd f
values_are format law texts s n k (cons p ps) (row ∷ rows) f h w =
    by_test (values_are format law texts s n k ps rows f.2 h (λ m g. w m (within_rest row rows m g))) (is_present row p)
    refl
  where
    others : Members
    others = members_json_in format.table format.names texts (format.names s) ps rows

    key : List ℕ
    key = name_of (format.names s) (number_of row p)

    j : Json
    j = row_json format texts s row p

    by_name : values_named (named_field format s n k) others ≡ all_mine format texts s n ps rows → (b : Bool) → b
        ≡ eqb n
        (number_of row p)
        → cond b (j ∷ values_named (named_field format s n k) others) (values_named (named_field format s n k) others)
        ≡ cond
        (eqb n (number_of row p)) (j ∷ []) [] ++ all_mine format texts s n ps rows
    by_name later true e = ap (λ (js : List Json). j ∷ js) later ∙ ap
        (λ (b : Bool). cond b (j ∷ []) [] ++ all_mine format texts s n ps rows) e
    by_name later false e = later ∙ ap (λ (b : Bool). cond b (j ∷ []) [] ++ all_mine format texts s n ps rows) e

    by_test : values_named (named_field format s n k) others ≡ all_mine format texts s n ps rows → (b : Bool)
        → is_present row p ≡ b
        → values_named (named_field format s n k) (member_if b key j others) ≡ cond b
        (cond (eqb n (number_of row p)) (j ∷ []) []) [] ++ all_mine format texts s n ps rows
    by_test later true e =
        by_name later (is_named (named_field format s n k) key) (names_apart format law s n (number_of row p) h
        (w (number_of row p) (within_row row rows (number_of row p) (number_within row p f.0 e))))
    by_test later false e = later

-- each key is known
names_one : (format : Format) (s : ℕ) (members : List (ℕ × Kind)) (m : ℕ) → includes (map (λ o. o.0) members) m ≡ true
    → names_field
    (map (λ o. named_field format s o.0 o.1) members) (name_of (format.names s) m) ≡ true
names_one format s [] m h = absurd cc
names_one format s (o ∷ members) m h = by_test (λ k. names_one format s members m k) (eqb m o.0) refl h
  where
    key : List ℕ
    key = name_of (format.names s) m

    by_test : (includes (map (λ o. o.0) members) m ≡ true
        → names_field (map (λ o. named_field format s o.0 o.1) members) key ≡
        true) → (b : Bool) → eqb m o.0 ≡ b → (b || includes (map (λ o. o.0) members) m) ≡ true
        → ((bytes_eq key (name_of (format.names s) o.0) || bytes_eq key (original_name (name_of (format.names s) o.0)))
        ||
        names_field (map (λ o. named_field format s o.0 o.1) members) key) ≡ true
    by_test later true e k =
        ap (λ (b : Bool). (b || bytes_eq key (original_name (name_of (format.names s) o.0))) || names_field
        (map (λ o. named_field format s o.0 o.1) members) key)
        (ap (λ (x : ℕ). bytes_eq key (name_of (format.names s) x)) (sym (eqb-true m o.0 e)) ∙ same_bytes key)
    by_test later false e k =
        ap (λ (b : Bool). (bytes_eq key (name_of (format.names s) o.0) || bytes_eq key
        (original_name (name_of (format.names s) o.0))) || b) (later k)
        ∙ or_true (bytes_eq key (name_of (format.names s) o.0) || bytes_eq key
        (original_name (name_of (format.names s) o.0)))

single_name : (format : Format) (s n m : ℕ) → includes (n ∷ []) m ≡ true
    → names_key (name_of (format.names s) n) (name_of (format.names s) m) ≡
    true
single_name format s n m h =
    let q : m ≡ n = by_test (eqb m n) refl h in
    ap (λ (x : ℕ). names_key (name_of (format.names s) n) (name_of (format.names s) x)) q ∙ ap
    (λ (b : Bool). b || bytes_eq (name_of (format.names s) n) (original_name (name_of (format.names s) n)))
    (same_bytes (name_of (format.names s) n))
  where
    by_test : (b : Bool) → eqb m n ≡ b → (b || false) ≡ true → m ≡ n
    by_test true e k = eqb-true m n e
    by_test false e k = absurd cc

row_known : (format : Format) (s : ℕ) (row : Row) (m : ℕ) → includes (numbers row) m ≡ true
    → row_names (named_row format s row)
    (name_of (format.names s) m) ≡ true
row_known format s (schema.Plain n k) m h = single_name format s n m h
row_known format s (schema.Optional n k) m h = single_name format s n m h
row_known format s (schema.Repeated n k) m h = single_name format s n m h
row_known format s (schema.OneOf members) m h = names_one format s members m h

rows_known : (format : Format) (s : ℕ) (rows : List Row) (m : ℕ) → includes (all_numbers rows) m ≡ true → names_row
    (map (named_row format s) rows) (name_of (format.names s) m) ≡ true
rows_known format s [] m h = absurd cc
rows_known format s (row ∷ rows) m h = by_test (λ k. rows_known format s rows m k) (includes (numbers row) m) refl
    (sym (includes-append (numbers row) (all_numbers rows) m) ∙ h)
  where
    key : List ℕ
    key = name_of (format.names s) m

    by_test : (includes (all_numbers rows) m ≡ true → names_row (map (named_row format s) rows) key ≡ true) → (b : Bool)
        →
        includes (numbers row) m ≡ b → (b || includes (all_numbers rows) m) ≡ true →
        (row_names (named_row format s row) key || names_row (map (named_row format s) rows) key) ≡ true
    by_test later true e k = ap (λ (b : Bool). b || names_row (map (named_row format s) rows) key)
        (row_known format s row m e)
    by_test later false e k = ap (λ (b : Bool). row_names (named_row format s row) key || b) (later k) ∙ or_true
        (row_names (named_row format s row) key)

all_known : (format : Format) (texts : Bool) (s : ℕ) (all : List NamedRow) (v : Parts) (rows : List Row)
    → Fits format.table v rows →
    ((m : ℕ) → includes (all_numbers rows) m ≡ true → names_row all (name_of (format.names s) m) ≡ true)
    → are_known all (members_json_in format.table format.names texts (format.names s) v rows) ≡ true
unfolding PartFits part_json_in
all_known format texts s all nil [] f w = refl
all_known format texts s all nil (row ∷ rows) f w = absurd f
all_known format texts s all (cons p ps) [] f w = absurd f
all_known format texts s all (cons p ps) (row ∷ rows) f w = by_test
    (all_known format texts s all ps rows f.2 (λ m g. w m (within_rest row rows m g))) (is_present row p) refl
  where
    others : Members
    others = members_json_in format.table format.names texts (format.names s) ps rows

    by_test : are_known all others ≡ true → (b : Bool) → is_present row p ≡ b → are_known all
        (member_if b (name_of (format.names s) (number_of row p))
        (row_json format texts s row p) others) ≡ true
    by_test later true e = ap₂ (λ (a b : Bool). a && b) (w (number_of row p)
        (within_row row rows (number_of row p) (number_within row p f.0 e))) later
    by_test later false e = later

-- how the values of a field are written by how its numbers are read
abbrev pub written : Bool → NumberForm → Writing
written texts form = record { texts = texts; digits = form.digits }

-- ---- one level

module _ (format : Format) (texts : Bool) (s : ℕ) (ms : Members) (nested : ℕ → Json → Option Parts) (bound : ℕ)
    (back : (t : ℕ) (ps : Parts) → Fits format.table ps (format.table t) → suc (levels ps) ≤ bound → PartsBytes ps
    → nested t
    (json_with_in format.table format.names texts t ps) ≡ Some ps) where
  -- the JSON of a value of the field that has a number
  abbrev one_json : ℕ → Part → Kind → Json
  one_json n p k = part_json_in format.table format.names (writing texts (format.names s) n) p k

  record Back (k : Kind) (form : NumberForm) (p : Part) : Type 0 where
    read : single_read nested k form (part_json_in format.table format.names (written texts form) p k) ≡ Some p
    there : present (part_json_in format.table format.names (written texts form) p k)
        ≡ Some (part_json_in format.table format.names (written texts form) p k)

  number_back : (k : Kind) (form : NumberForm) (n : ℕ) → NumberFits k n → Back k form (Number n)
  unfolding part_json_in
  number_back U32 form n h = record { read = ap (option_map Number) (u32_back form.digits n h); there = refl }
  number_back U64 form n h = record { read = ap (option_map Number) (u64_back form.digits n h); there = refl }
  number_back Boolean form n h = record { read = ap (option_map Number) (boolean_back n h); there = refl }
  number_back Enumeration form n h = record { read = ap (option_map Number) (enum_back form.values n h); there = refl }
  number_back Text form n h = absurd h
  number_back ByteString form n h = absurd h
  number_back (Message t) form n h = absurd h

  content_back : (k : Kind) (form : NumberForm) (b : List ℕ) → BytesFit k b → IsBytes b → Back k form
      (Bytes b)
  unfolding part_json_in
  content_back Text form b h g = record { read = ap (option_map Bytes) (text_back b h); there = refl }
  content_back ByteString form b h g = record {
    read = ap (option_map Bytes) (byte_string_back texts b g);
    there =
        byte_string_there texts b;
  }
  content_back U32 form b h g = absurd h
  content_back U64 form b h g = absurd h
  content_back Boolean form b h g = absurd h
  content_back Enumeration form b h g = absurd h
  content_back (Message t) form b h g = absurd h

  nested_back : (k : Kind) (form : NumberForm) (ps : Parts) → PartFits format.table (Nested ps) k
      → suc (levels ps) ≤
      bound → PartsBytes ps → Back k form (Nested ps)
  unfolding PartFits part_json_in
  nested_back (Message t) form ps h l g = record { read = ap (option_map Nested) (back t ps h l g); there = refl }
  nested_back U32 form ps h l g = absurd h
  nested_back U64 form ps h l g = absurd h
  nested_back Boolean form ps h l g = absurd h
  nested_back Enumeration form ps h l g = absurd h
  nested_back Text form ps h l g = absurd h
  nested_back ByteString form ps h l g = absurd h

  single_back : (k : Kind) (form : NumberForm) (p : Part) → is_single p ≡ true → PartFits format.table p k →
      part_levels p ≤ bound → PartBytes p → Back k form p
  unfolding PartFits part_levels
  single_back k form (Number n) i h l g = number_back k form n h
  single_back k form (Bytes b) i h l g = content_back k form b h g
  single_back k form (Nested ps) i h l g = nested_back k form ps h l g
  single_back k form Absent i h l g = absurd cc
  single_back k form (Elements ps) i h l g = absurd cc
  single_back k form (Member n p) i h l g = absurd cc

  elements_back : (f : NamedField) (ps : Parts) → ElementsFit format.table ps f.kind → levels ps ≤ bound → PartsBytes ps
      →
      elements_read nested f (items_json_in format.table format.names (written texts f.form) ps f.kind) ≡ Some ps
  unfolding PartFits part_levels part_json_in
  elements_back f nil h l g = refl
  elements_back f (cons p ps) h l g =
      let one = single_back f.kind f.form p h.0 h.1 (omega arith) g.0 in
      let more = elements_back f ps h.2 (omega arith) g.1 in
      ap (option_and_then (λ q. option_map (cons q)
      (elements_read nested f (items_json_in format.table format.names (written texts f.form) ps f.kind)))) one.read ∙
      ap (option_map (cons p)) more

  -- ---- rows

  own_mine : (n : ℕ) (b : Bool) (j : Json) → cond b (cond (eqb n n) (j ∷ []) []) [] ≡ cond b (j ∷ []) []
  own_mine n b j = ap (λ (c : Bool). cond b (cond c (j ∷ []) []) []) (eq-eqb n n refl)

  -- what is given where this is the only value, or none is
  abbrev given_one : Bool → Json → Option (Option Json)
  given_one b j = cond b (Some (Some j)) (Some None)

  only_one : (xs : List Json) (b : Bool) (j : Json) → xs ≡ cond b (j ∷ []) [] → present j ≡ Some j → the_only xs ≡
      given_one b j
  only_one xs true j e h = ap the_only e ∙ ap (λ (o : Option Json). Some o) h
  only_one xs false j e h = ap the_only e

  zero_default : (k : Kind) (m : ℕ) → NumberFits k m → m ≡ 0 → default_of k ≡ Number m
  zero_default U32 m h e = ap Number (sym e)
  zero_default U64 m h e = ap Number (sym e)
  zero_default Boolean m h e = ap Number (sym e)
  zero_default Enumeration m h e = ap Number (sym e)
  zero_default Text m h e = absurd h
  zero_default ByteString m h e = absurd h
  zero_default (Message t) m h e = absurd h

  no_bytes : (b : List ℕ) → length b ≡ 0 → [] ≡ b
  no_bytes [] e = refl
  no_bytes (x ∷ xs) e = absurd (omega arith)

  empty_default : (k : Kind) (b : List ℕ) → BytesFit k b → length b ≡ 0 → default_of k ≡ Bytes b
  empty_default Text b h e = ap Bytes (no_bytes b e)
  empty_default ByteString b h e = ap Bytes (no_bytes b e)
  empty_default U32 b h e = absurd h
  empty_default U64 b h e = absurd h
  empty_default Boolean b h e = absurd h
  empty_default Enumeration b h e = absurd h
  empty_default (Message t) b h e = absurd h

  default_back : (k : Kind) (p : Part) → is_single p ≡ true → PartFits format.table p k → is_default p ≡ true
      → default_of k ≡
      p
  unfolding PartFits
  default_back k (Number m) i h e = zero_default k m h (eqb-true m 0 e)
  default_back k (Bytes b) i h e = empty_default k b h (eqb-true (length b) 0 e)
  default_back k (Nested ps) i h e = absurd cc
  default_back k Absent i h e = absurd cc
  default_back k (Elements ps) i h e = absurd cc
  default_back k (Member n p) i h e = absurd cc

  plain_present : (n : ℕ) (k : Kind) (p : Part) → is_single p ≡ true → is_present (schema.Plain n k) p ≡ not
      (is_default p)
  plain_present n k (Number m) i = refl
  plain_present n k (Bytes b) i = refl
  plain_present n k (Nested ps) i = refl
  plain_present n k Absent i = absurd cc
  plain_present n k (Elements ps) i = absurd cc
  plain_present n k (Member m p) i = absurd cc

  plain_back : (f : NamedField) (p : Part) → is_single p ≡ true → PartFits format.table p f.kind
      → Back f.kind f.form p →
      given f ms ≡ given_one (not (is_default p)) (part_json_in format.table format.names
      (written texts f.form) p f.kind)
      → row_read nested ms (Plain f) ≡ Some p
  plain_back f p i h b e = ap (option_and_then (or_absent (default_of f.kind) (field_read nested f))) e ∙ by_test
      (is_default p) refl
    where
      by_test : (d : Bool) → is_default p ≡ d → option_and_then (or_absent (default_of f.kind) (field_read nested f))
          (given_one (not d) (part_json_in format.table format.names (written texts f.form) p f.kind)) ≡ Some p
      by_test true q = ap (λ (x : Part). Some x) (default_back f.kind p i h q)
      by_test false q = b.read

  optional_back : (f : NamedField) (p : Part) → has_shape (schema.Optional f.number f.kind) p ≡ true →
      (is_single p ≡ true → Back f.kind f.form p)
      → given f ms ≡ given_one (is_present (schema.Optional f.number f.kind) p)
      (part_json_in format.table format.names (written texts f.form) p f.kind) → row_read
      nested ms (Optional f) ≡ Some p
  optional_back f Absent h b e = ap (option_and_then (or_absent Absent (field_read nested f))) e
  optional_back f (Number m) h b e = ap (option_and_then (or_absent Absent (field_read nested f))) e ∙ (b refl).read
  optional_back f (Bytes c) h b e = ap (option_and_then (or_absent Absent (field_read nested f))) e ∙ (b refl).read
  optional_back f (Nested ps) h b e = ap (option_and_then (or_absent Absent (field_read nested f))) e ∙ (b refl).read
  optional_back f (Elements ps) h b e = absurd cc
  optional_back f (Member m p) h b e = absurd cc

  list_back : (f : NamedField) (ps : Parts)
      → elements_read nested f (items_json_in format.table format.names (written texts f.form) ps f.kind) ≡ Some ps
      → given f ms ≡ given_one (is_present (schema.Repeated f.number f.kind) (Elements ps))
      (part_json_in format.table format.names (written texts f.form) (Elements ps) f.kind)
      → row_read nested ms (Repeated f)
      ≡ Some (Elements ps)
  unfolding part_json_in
  list_back f nil b e = ap (option_and_then (or_absent (Elements nil) (list_read nested f))) e
  list_back f (cons p ps) b e = ap (option_and_then (or_absent (Elements nil) (list_read nested f))) e ∙ ap
      (option_map Elements) b

  -- ---- oneofs

  abbrev none_given : List (ℕ × Kind) → Type 0
  none_given members = (n : ℕ) (k : Kind) → includes (map (λ m. m.0) members) n ≡ true → values_named
      (named_field format s n k) ms ≡ []

  first_within : (m : ℕ × Kind) (members : List (ℕ × Kind)) → includes (map (λ o. o.0) (m ∷ members)) m.0 ≡ true
  first_within m members = ap (λ (b : Bool). b || includes (map (λ o. o.0) members) m.0) (eq-eqb m.0 m.0 refl)

  later_within : (m : ℕ × Kind) (members : List (ℕ × Kind)) (n : ℕ) → includes (map (λ o. o.0) members) n ≡ true →
      includes (map (λ o. o.0) (m ∷ members)) n ≡ true
  later_within m members n h = ap (λ (b : Bool). eqb n m.0 || b) h ∙ or_true (eqb n m.0)

  oneof_stays : (held : Part) (members : List (ℕ × Kind)) → none_given members → oneof_read nested ms held
      (map (λ m. named_field format s m.0 m.1) members) ≡ Some held
  oneof_stays held [] h = refl
  oneof_stays held (m ∷ members) h =
      let f = named_field format s m.0 m.1 in
      ap (λ (xs : List Json). option_and_then (λ o. option_and_then
      (λ now. oneof_read nested ms now (map (λ m. named_field format s m.0 m.1) members))
      (or_absent held (member_read nested held f) o)) (the_only xs))
      (h m.0 m.1 (first_within m members))
      ∙ oneof_stays held members (λ n k g. h n k (later_within m members n g))

  not_true : (b : Bool) → not b ≡ true → b ≡ false
  not_true true e = absurd cc
  not_true false e = refl

  oneof_back : (q : ℕ) (p : Part) (x : Kind) (members : List (ℕ × Kind)) → are_distinct (map (λ m. m.0) members) ≡ true
      → includes (map (λ m. m.0) members) q ≡ true → member_kind members q ≡ x
      → ((form : NumberForm) → Back x form p)
      → ((n : ℕ) (k : Kind) → includes (map (λ m. m.0) members) n ≡ true → values_named (named_field format s n k) ms
      ≡ cond (eqb n q) (one_json q p x ∷ []) [])
      → oneof_read nested ms Absent (map (λ m. named_field format s m.0 m.1) members) ≡ Some (Member q p)
  oneof_back q p x [] d h y b e = absurd cc
  oneof_back q p x (m ∷ members) d h y b e =
      by_test (λ g z w. oneof_back q p x members (and_split _ _ d).1 g z b w) (eqb q m.0) refl h y
    where
      fields : List NamedField
      fields = map (λ o. named_field format s o.0 o.1) members

      f : NamedField
      f = named_field format s m.0 m.1

      step : List Json → Option Part
      step xs = option_and_then (λ o. option_and_then (λ now. oneof_read nested ms now fields)
          (or_absent Absent (member_read nested Absent f) o)) (the_only xs)

      other : (n : ℕ) → includes (map (λ o. o.0) members) n ≡ true → eqb n m.0 ≡ false
      other n g = ne_eqb n m.0 (λ z. absurd (
          let k : includes (map (λ o. o.0) members) m.0 ≡ false = not_true (includes (map (λ o. o.0) members) m.0)
          (and_split _ _ d).0 in
          let l : includes (map (λ o. o.0) members) n ≡ includes (map (λ o. o.0) members) m.0 = ap
          (includes (map (λ o. o.0) members)) z in
          cc
          ))

      by_test : (includes (map (λ o. o.0) members) q ≡ true → member_kind members q ≡ x
          → ((n : ℕ) (k : Kind) → includes (map (λ o. o.0) members) n ≡ true
          → values_named (named_field format s n k) ms ≡
          cond (eqb n q) (one_json q p x ∷ []) [])
          → oneof_read nested ms Absent fields ≡ Some (Member q p))
          → (t : Bool) → eqb q m.0 ≡ t → (t || includes (map (λ o. o.0) members) q) ≡ true → cond t m.1
          (member_kind members q) ≡ x
          → step (values_named f ms) ≡ Some (Member q p)
      by_test later true z h y =
          let same : q ≡ m.0 = eqb-true q m.0 z in
          let given_here = e m.0 m.1 (first_within m members)
          ∙ ap (λ (b : Bool). cond b (one_json q p x ∷ []) []) (eq-eqb m.0 q (sym same))
          ∙ ap (λ (n : ℕ). one_json n p x ∷ []) same in
          let read : field_read nested f (one_json m.0 p x) ≡ Some p = ap
          (λ (k : Kind). single_read nested k f.form (one_json m.0 p x)) y
          ∙ (b f.form).read in
          ap step given_here
          ∙ ap (λ (o : Option Json). option_and_then (λ o. option_and_then (λ now. oneof_read nested ms now fields)
          (or_absent Absent (member_read nested Absent f) o)) (Some o)) (b f.form).there
          ∙ ap (λ (o : Option Part). option_and_then (λ now. oneof_read nested ms now fields)
          (option_map (Member m.0) o)) read
          ∙ oneof_stays (Member m.0 p) members (λ n k g. e n k (later_within m members n g) ∙ ap
          (λ (b : Bool). cond b (one_json q p x ∷ []) [])
          (ne_eqb n q (λ w. eqb-false n m.0 (other n g) (w ∙ same))))
          ∙ ap (λ (n : ℕ). Some (Member n p)) (sym same)
      by_test later false z h y =
          let none = e m.0 m.1 (first_within m members)
          ∙ ap (λ (b : Bool). cond b (one_json q p x ∷ []) [])
          (ne_eqb m.0 q (λ w. eqb-false q m.0 z (sym w))) in
          ap step none ∙ later h y (λ n k g. e n k (later_within m members n g))

  -- ---- a row, and all of them

  row_back : (row : Row) (p : Part) → has_shape row p ≡ true → PartFits format.table p (kind_of row p)
      → part_levels p ≤ bound
      → PartBytes p → are_distinct (numbers row) ≡ true
      → ((n : ℕ) (k : Kind) → includes (numbers row) n ≡ true → values_named (named_field format s n k) ms
      ≡ mine format texts s n row
      p) → row_read nested ms (named_row format s row) ≡ Some p
  unfolding PartFits part_levels part_json_in
  row_back (schema.Plain n k) p i h l g d e =
      let f = named_field format s n k in
      let b = single_back k f.form p i h l g in
      let shown = ap (λ (c : Bool). cond c (one_json n p k ∷ []) [])
      (plain_present n k p i) in
      plain_back f p i h b (only_one (values_named f ms) (not (is_default p))
      (one_json n p k)
      (e n k (own_number n) ∙ own_mine n (is_present (schema.Plain n k) p)
      (one_json n p k) ∙ shown) b.there)
  row_back (schema.Optional n k) Absent i h l g d e =
      let f = named_field format s n k in
      optional_back f Absent refl (λ j. absurd cc) (ap the_only (e n k (own_number n)))
  row_back (schema.Optional n k) (Number m) i h l g d e =
      let f = named_field format s n k in
      let b = single_back k f.form (Number m) refl h l g in
      optional_back f (Number m) refl (λ j. b) (only_one (values_named f ms) true
      (one_json n (Number m) k)
      (e n k (own_number n) ∙ own_mine n true (one_json n (Number m) k)) b.there)
  row_back (schema.Optional n k) (Bytes c) i h l g d e =
      let f = named_field format s n k in
      let b = single_back k f.form (Bytes c) refl h l g in
      optional_back f (Bytes c) refl (λ j. b) (only_one (values_named f ms) true
      (one_json n (Bytes c) k)
      (e n k (own_number n) ∙ own_mine n true (one_json n (Bytes c) k)) b.there)
  row_back (schema.Optional n k) (Nested ps) i h l g d e =
      let f = named_field format s n k in
      let b = single_back k f.form (Nested ps) refl h l g in
      optional_back f (Nested ps) refl (λ j. b)
      (only_one (values_named f ms) true (one_json n (Nested ps) k)
      (e n k (own_number n) ∙ own_mine n true (one_json n (Nested ps) k)) b.there)
  row_back (schema.Optional n k) (Elements ps) i h l g d e = absurd cc
  row_back (schema.Optional n k) (Member m p) i h l g d e = absurd cc
  row_back (schema.Repeated n k) (Elements nil) i h l g d e =
      let f = named_field format s n k in
      list_back f nil refl (ap the_only (e n k (own_number n)))
  row_back (schema.Repeated n k) (Elements (cons p ps)) i h l g d e =
      let f = named_field format s n k in
      list_back f (cons p ps) (elements_back f (cons p ps) h l g)
      (only_one (values_named f ms) true (one_json n (Elements (cons p ps)) k)
      (e n k (own_number n) ∙ own_mine n true (one_json n (Elements (cons p ps)) k))
      refl)
  row_back (schema.Repeated n k) Absent i h l g d e = absurd cc
  row_back (schema.Repeated n k) (Number m) i h l g d e = absurd cc
  row_back (schema.Repeated n k) (Bytes c) i h l g d e = absurd cc
  row_back (schema.Repeated n k) (Nested ps) i h l g d e = absurd cc
  row_back (schema.Repeated n k) (Member m p) i h l g d e = absurd cc
  row_back (schema.OneOf members) Absent i h l g d e = oneof_stays Absent members e
  row_back (schema.OneOf members) (Member q p) i h l g d e =
      let a = and_split _ _ i in
      oneof_back q p (member_kind members q) members d a.0 refl
      (λ form. single_back (member_kind members q) form p a.1 h l g) e
  row_back (schema.OneOf members) (Number m) i h l g d e = absurd cc
  row_back (schema.OneOf members) (Bytes c) i h l g d e = absurd cc
  row_back (schema.OneOf members) (Nested ps) i h l g d e = absurd cc
  row_back (schema.OneOf members) (Elements ps) i h l g d e = absurd cc

  rows_back : (rows : List Row) (v : Parts) → Fits format.table v rows → levels v ≤ bound → PartsBytes v → are_distinct
      (all_numbers rows) ≡ true
      → ((n : ℕ) (k : Kind) → includes (all_numbers rows) n ≡ true → values_named (named_field format s n k) ms
      ≡ all_mine format
      texts s n v rows) → rows_read nested ms (map (named_row format s) rows) ≡ Some v
  unfolding PartFits part_levels
  rows_back [] nil f l g d e = refl
  rows_back [] (cons p ps) f l g d e = absurd f
  rows_back (row ∷ rows) nil f l g d e = absurd f
  rows_back (row ∷ rows) (cons p ps) f l g d e =
      let one = row_back row p f.0 f.1 (omega arith) g.0 (distinct_front (numbers row) (all_numbers rows) d)
      (λ n k h. e n k (within_row row rows n h) ∙ ap (λ (js : List Json). mine format texts s n row p ++ js)
      (all_mine_none format texts s n ps rows f.2 (distinct_other (numbers row) (all_numbers rows) n d h)) ∙ append-nil
      (mine format texts s n row p)) in
      let more = rows_back rows ps f.2 (omega arith) g.1 (distinct_back (numbers row) (all_numbers rows) d)
      (λ n k h. e n k (within_rest row rows n h) ∙ ap (λ (js : List Json). js ++ all_mine format texts s n ps rows)
      (mine_none format texts s n row p f.0 (not_before (numbers row) (all_numbers rows) n d h))) in
      ap (option_and_then (λ q. option_map (cons q) (rows_read nested ms (map (named_row format s) rows)))) one ∙ ap
      (option_map (cons p)) more

-- ---- messages

level_back : (format : Format) (law : IsReadable format) (texts : Bool) (nested : ℕ → Json → Option Parts) (bound s : ℕ)
    (v : Parts) →
    ((t : ℕ) (ps : Parts) → Fits format.table ps (format.table t) → suc (levels ps) ≤ bound → PartsBytes ps → nested t
    (json_with_in format.table format.names texts t ps) ≡ Some ps)
    → Fits format.table v (format.table s) → levels v ≤ bound → PartsBytes v
    → object_read nested (named_rows format s) (json_with_in format.table format.names texts s v)
    ≡ Some v
unfolding named_rows
level_back format law texts nested bound s v back f l g =
    let rows = format.table s in
    let ms = members_json_in format.table format.names texts (format.names s) v rows in
    let known = all_known format texts s (map (named_row format s) rows) v rows f (rows_known format s rows) in
    ap (λ (b : Bool). cond b (rows_read nested ms (map (named_row format s) rows)) None) known
    ∙ rows_back format texts s ms nested bound back rows v f l g (and_split _ _ (schemas_of format law s)).1
    (λ n k h. values_are format law texts s n k v rows f h (λ m w. w))

pub message_back : (format : Format) (law : IsReadable format) (texts : Bool) (n s : ℕ) (v : Parts)
    → Fits format.table v (format.table s) → levels v ≤ n → PartsBytes v →
    message_read format (suc n) s (json_with_in format.table format.names texts s v) ≡ Some v
unfolding message_read
message_back format law texts zero s v f l g = level_back format law texts (message_read format zero) zero s v
    (λ t ps h k b. absurd (omega arith)) f
    l g
message_back format law texts (suc n) s v f l g = level_back format law texts (message_read format (suc n)) (suc n) s v
    (λ t ps h k b. message_back format law texts n t ps h (omega arith) b) f l g
