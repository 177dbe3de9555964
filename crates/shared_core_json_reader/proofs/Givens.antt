-- What an object gives a field, by the number of the field.
use Rattle.std.proofs.Common.{◌≡◌, ◌<◌, ◌+◌, ℕ, zero, suc, List, [], ◌∷◌, map, drop, get_or, length}
use Rattle.std.proofs.Common.{Bool, true, false}
use Rattle.std.proofs.Common.{cond, ◌&&◌, ◌||◌, Option, Some, None, refl, sym, ap, ap₂, ◌∙◌, eqb, eq-eqb, arith}
use Rattle.std.proofs.Common.{◌≢◌, Result, Ok, Err}
use Rattle.std.proofs.lemmas.List.{drop_more}
use Rattle.std.specs.Option.{is_some, option_or}
use Rattle.std.specs.Result.{IsErrAnd}
use Rattle.shared_core_json_reader.specs.declared.error.Reason.{Reason}
use Rattle.shared_core_json_reader.specs.declared.error.Reason.TheVariants.{OutOfMemory}
use Rattle.shared_core_json_reader.specs.declared.payload.Step.{Step as ProgramStep}
use Rattle.shared_core_json_reader.specs.Appended.{both, row_bytes, rows_bytes, after, Appends}
use Rattle.json.specs.Json.{Json, Members, no_members, member}
use Rattle.json_table.specs.Tails.{last_members}
use Rattle.shared_core_wire.specs.Schema as schema
use Rattle.shared_core_wire.specs.Schema.{Kind, Row, OneOf, includes, numbers, all_numbers}
use Rattle.shared_core_wire.proofs.ReadBack.{includes-append}
use Rattle.shared_core_codec.specs.ProgramRows.{kind_view, field_view}
use Rattle.shared_core_codec.specs.declared.rows.Field.{Field}
use Rattle.json_table.specs.declared.places.Place.{Place}
use Rattle.json_table.specs.declared.places.Place.TheVariants.{Absent, Once, Several}
use Rattle.shared_core_json_reader.specs.Rows.{NamedField, NamedRow, named_field, in_schema, named_row, named_rows}
use Rattle.shared_core_json_reader.specs.Reading.{given, the_only, values_named, names_row, are_known}
use Rattle.json_table.specs.Places.{Says, Say, values_at, first_value, present, unknown_or}
use Rattle.json_table.specs.Places.{first_unknown as first_unplaced}
use Rattle.shared_core_json_reader.specs.Places.{number_of, place_count, IsOf, IsRowOf, ArePlaces}
use Rattle.shared_core_json_reader.specs.Places.{IsAbsent, Lacks}
use Rattle.shared_core_json_reader.specs.declared.members.Places.{Places}
use Rattle.shared_core_json_reader.specs.Appended.{field_bytes, list_bytes, given_bytes}
use Rattle.shared_core_json_reader.specs.FirstError.{field_error, list_error, given_error}
use Rattle.shared_core_json_reader.specs.FirstError.{PathError, trail_view, row_error, rows_error, first_unknown}
use Rattle.shared_core_json_reader.specs.FirstError.{HasError}
use Rattle.shared_core_json_reader.proofs.NamesApart.{values_same, known_same}
use Rattle.shared_core_json_reader.proofs.Levels.{after_both, nothing_after}
use Rattle.shared_core_json_reader.specs.Readable.{IsReadable}
use Rattle.shared_core_json_reader.specs.Rows.{Format}

-- what a place says when all was seen
abbrev pub place_gives : Members → Place → Option (Option Json)
place_gives ms Absent = Some None
place_gives ms (Once n) = Some (present (first_value (last_members n ms)))
place_gives ms Several = None

said : (ms : Members) (p : Place) (all : List Json) → Says ms p [] all → the_only all ≡ place_gives ms p
said ms Absent all h = ap the_only (sym h)
said ms (Once n) all h = ap the_only (sym h.1)
said ms Several [] h = absurd (omega (arith, h))
said ms Several (j ∷ []) h = absurd (omega (arith, h))
said ms Several (j ∷ i ∷ js) h = refl

pub given_at : (format : Format) (law : IsReadable format) (s : ℕ) (f : NamedField) (ms : Members) (places : List Place)
    → IsOf format s f → Say (number_of format s) place_count
    ms no_members places → f.number < place_count → given f ms ≡ place_gives ms (get_or places f.number Absent)
given_at format law s f ms places o h b =
    ap (λ (g : NamedField). the_only (values_named g ms)) o.named
    ∙ ap the_only (values_same format law s f.number f.kind ms o.listed)
    ∙ said ms (get_or places f.number Absent) (values_at (number_of format s) f.number ms) (h f.number b)

-- ---- the fields of a schema

own_first : (n : ℕ) → includes (n ∷ []) n ≡ true
own_first n = ap (λ (b : Bool). b || false) (eq-eqb n n refl)

pub row_field : (format : Format) (s n : ℕ) (k : Kind) (row : Row) → numbers row ≡ n ∷ [] → IsRowOf format s row
    → IsOf format s (named_field format s n k)
row_field format s n k row i h = record {
  named = refl;
  listed = h.listed n (ap (λ (ns : List ℕ). includes ns n) i ∙ own_first n);
}

or_right : (a b : Bool) → b ≡ true → (a || b) ≡ true
or_right true b e = refl
or_right false b e = e

-- a member of a oneof, at an index
member_at : (i : ℕ) (xs ys : List Field) (x : Field) → drop i xs ≡ x ∷ ys → includes
    (map (λ m. m.0) (map field_view xs)) x.number ≡ true
member_at i [] ys x e = absurd (none i e)
  where
    none : (i : ℕ) → drop i [] ≡ x ∷ ys → ⊥
    none zero e = cc
    none (suc i) e = cc
member_at zero (z ∷ xs) ys x e =
    let same : z ≡ x = cc in
    ap (λ (b : Bool). b || includes (map (λ m. m.0) (map field_view xs)) x.number)
    (eq-eqb x.number z.number (ap (λ (f : Field). f.number) (sym same)))
member_at (suc i) (z ∷ xs) ys x e = or_right (eqb x.number z.number)
    (includes (map (λ m. m.0) (map field_view xs)) x.number) (member_at i xs ys x e)

pub oneof_field : (format : Format) (s i : ℕ) (xs ys : List Field) (x : Field)
    → IsRowOf format s (OneOf (map field_view xs)) → drop i xs ≡ x ∷
    ys → IsOf format s (in_schema format s x)
oneof_field format s i xs ys x h e = record { named = refl; listed = h.listed x.number (member_at i xs ys x e) }

-- a row, at an index
no_row : {R : Type 0} (i : ℕ) (ys : List R) (x : R) → drop i [] ≡ x ∷ ys → ⊥
no_row zero ys x e = cc
no_row (suc i) ys x e = cc

row_at : {R : Type 0} (view : R → Row) (i : ℕ) (xs ys : List R) (x : R) → drop i xs ≡ x ∷ ys → (n : ℕ) → includes
    (numbers (view x)) n ≡ true → includes (all_numbers (map view xs)) n ≡ true
row_at view i [] ys x e n h = absurd (no_row i ys x e)
row_at view zero (z ∷ xs) ys x e n h =
    let same : z ≡ x = cc in
    includes-append (numbers (view z)) (all_numbers (map view xs)) n
    ∙ ap (λ (b : Bool). b || includes (all_numbers (map view xs)) n)
    (ap (λ r. includes (numbers (view r)) n) same ∙ h)
row_at view (suc i) (z ∷ xs) ys x e n h =
    includes-append (numbers (view z)) (all_numbers (map view xs)) n
    ∙ or_right (includes (numbers (view z)) n) (includes (all_numbers (map view xs)) n)
    (row_at view i xs ys x e n h)

-- the row at an index, and those after it
pub here_row : {R : Type 0} (xs : List R) (i : ℕ) (x : R) → i < length xs → x ≡ get_or xs i x → drop i xs ≡ x ∷ drop
    (i + 1) xs
here_row xs i x h e = drop_more xs i x h ∙ ap (λ y. y ∷ drop (i + 1) xs) (sym e)

pub row_of : (format : Format) {R : Type 0} (view : R → Row) (s i : ℕ) (xs ys : List R) (x : R) → map view xs
    ≡ format.table s → drop i xs ≡ x ∷
    ys → IsRowOf format s (view x)
row_of format view s i xs ys x t e = record {
  listed = λ n h. ap (λ (rows : List Row). includes (all_numbers rows) n) (sym t) ∙ row_at view i xs ys x e n h;
}

-- ---- rows for which nothing is given

lacks_given : (format : Format) (law : IsReadable format) (n : ℕ) (k : Kind) (ms : Members) (places : Places)
    → ArePlaces format ms places → includes
    (all_numbers (format.table places.schema)) n ≡ true → IsAbsent places n
    → given (named_field format places.schema n k) ms ≡ Some
    None
lacks_given format law n k ms places h i l =
    given_at format law places.schema (named_field format places.schema n k) ms places.numbered
    (record { named = refl; listed = i })
    h.say l.0
    ∙ ap (place_gives ms) l.1

pub lacks_row : (format : Format) (law : IsReadable format) (nested : ℕ → Json → Option (List ℕ)) (ms : Members)
    (places : Places) (row : Row) → ArePlaces format ms places
    → IsRowOf format places.schema row → Lacks places row → row_bytes nested ms (named_row format places.schema row)
    ≡ Some []
lacks_row format law nested ms places (schema.Plain n k) h r l =
    ap (given_bytes (field_bytes nested true (named_field format places.schema n k)))
    (lacks_given format law n k ms places h (r.listed n (own_first n)) l)
lacks_row format law nested ms places (schema.Optional n k) h r l =
    ap (given_bytes (field_bytes nested false (named_field format places.schema n k)))
    (lacks_given format law n k ms places h (r.listed n (own_first n)) l)
lacks_row format law nested ms places (schema.Repeated n k) h r l =
    ap (given_bytes (list_bytes nested (named_field format places.schema n k)))
    (lacks_given format law n k ms places h (r.listed n (own_first n)) l)
lacks_row format law nested ms places (schema.OneOf members) h r l = absurd l

pub lacks_row_error : (format : Format) (law : IsReadable format) (nested : ℕ → Json → Option PathError) (ms : Members)
    (places : Places) (row : Row) → ArePlaces format ms
    places → IsRowOf format places.schema row → Lacks places row
    → row_error nested ms (named_row format places.schema row) ≡ None
lacks_row_error format law nested ms places (schema.Plain n k) h r l =
    let f = named_field format places.schema n k in
    ap (given_error (field_error nested f) f) (lacks_given format law n k ms places h (r.listed n (own_first n)) l)
lacks_row_error format law nested ms places (schema.Optional n k) h r l =
    let f = named_field format places.schema n k in
    ap (given_error (field_error nested f) f) (lacks_given format law n k ms places h (r.listed n (own_first n)) l)
lacks_row_error format law nested ms places (schema.Repeated n k) h r l =
    let f = named_field format places.schema n k in
    ap (given_error (list_error nested f) f) (lacks_given format law n k ms places h (r.listed n (own_first n)) l)
lacks_row_error format law nested ms places (schema.OneOf members) h r l = absurd l

pub lacks_member : (format : Format) (law : IsReadable format) (i : ℕ) (xs ys : List Field) (x : Field) (ms : Members)
    (places : Places) → ArePlaces format ms places →
    IsRowOf format places.schema (OneOf (map field_view xs)) → drop i xs ≡ x ∷ ys → IsAbsent places x.number → given
    (in_schema format places.schema x) ms ≡ Some None
lacks_member format law i xs ys x ms places h r e l = lacks_given format law x.number (kind_view x.kind) ms places h
    (r.listed x.number (member_at i xs ys x e)) l

-- ---- the keys that are known

-- the first key that finds no number is the first one that is not a name of a field
pub same_unknown : (format : Format) (law : IsReadable format) (s : ℕ) (ms : Members)
    → first_unplaced (number_of format s) ms ≡ first_unknown (named_rows format s) ms
same_unknown format law s no_members = refl
same_unknown format law s (member k j ms) =
    by_number (number_of format s k)
    ∙ ap₂ (λ (b : Bool) (later : Option (List ℕ)). cond b later (Some k)) (sym (known_same format law s k))
    (same_unknown format law s ms)
  where
    by_number : (o : Option ℕ) → unknown_or k (first_unplaced (number_of format s) ms) o ≡ cond (is_some o)
        (first_unplaced (number_of format s) ms) (Some k)
    by_number None = refl
    by_number (Some n) = refl

-- ---- objects whose keys are known

pub known_true : (rows : List NamedRow) (ms : Members) → first_unknown rows ms ≡ None → are_known rows ms ≡ true
known_true rows no_members h = refl
known_true rows (member k j ms) h = by_test (names_row rows k) (known_true rows ms) h
  where
    by_test : (b : Bool) → (first_unknown rows ms ≡ None → are_known rows ms ≡ true) → cond b (first_unknown rows ms)
        (Some k) ≡ None → (b && are_known rows ms) ≡ true
    by_test true later h = later h
    by_test false later h = absurd cc

pub known_false : (rows : List NamedRow) (ms : Members) (key : List ℕ) → first_unknown rows ms ≡ Some key → are_known
    rows ms ≡ false
known_false rows no_members key h = absurd cc
known_false rows (member k j ms) key h = by_test (names_row rows k) (known_false rows ms key) h
  where
    by_test : (b : Bool) → (first_unknown rows ms ≡ Some key → are_known rows ms ≡ false) → cond b
        (first_unknown rows ms) (Some k) ≡ Some key → (b && are_known rows ms) ≡ false
    by_test true later h = later h
    by_test false later h = refl

-- ---- a row that has an error

pub stops : {T : Type 0} (r : Result T Reason) (x : Reason) (o : Option (List ℕ)) (old new : List ℕ) → IsErrAnd r
    (λ y. y ≡ x) → (x ≢ OutOfMemory → o ≡ None) → Appends r o old new
stops (Ok y) x o old new a e = absurd a
stops (Err y) x o old new a e = λ n. e (λ z. n (a ∙ z))

pub stops_error : {T : Type 0} (r : Result T Reason) (x : Reason) (error : Option PathError) (trail : List ProgramStep)
    → IsErrAnd r (λ y. y ≡ x) → (x ≢ OutOfMemory → error ≡ Some (x, trail_view trail)) → HasError r error trail
stops_error (Ok y) x error trail a e = absurd a
stops_error (Err y) x error trail a e =
    λ n. e (λ z. n (a ∙ z)) ∙ ap (λ (z : Reason). Some (z, trail_view trail)) (sym a)

pub rows_stop : (format : Format) {R : Type 0} (view : R → Row) (nested : ℕ → Json → Option (List ℕ)) (ms : Members)
    (s : ℕ)
    (xs : List R) (i : ℕ) (x : R) (ys : List R) (out old : List ℕ) (all : Option (List ℕ)) → drop i xs ≡ x ∷ ys → after
    out (rows_bytes nested ms (map (named_row format s) (map view (drop i xs)))) ≡ after old all → row_bytes nested ms
    (named_row format s (view x)) ≡ None → all ≡ None
rows_stop format view nested ms s xs i x ys out old all h e f =
    nothing_after old all (sym (ap (λ zs. after out (rows_bytes nested ms (map (named_row format s) (map view zs))))
    h ∙ ap (λ (o : Option (List ℕ)). after out (both o (rows_bytes nested ms (map (named_row format s) (map view ys)))))
    f)
    ∙ e)

pub rows_error_stop : (format : Format) {R : Type 0} (view : R → Row) (nested : ℕ → Json → Option PathError)
    (ms : Members) (s : ℕ)
    (xs : List R) (i : ℕ) (x : R) (ys : List R) (all : Option PathError) (error : PathError) → drop i xs ≡ x ∷ ys →
    rows_error nested ms (map (named_row format s) (map view (drop i xs))) ≡ all
    → row_error nested ms (named_row format s (view x)) ≡
    Some error → all ≡ Some error
rows_error_stop format view nested ms s xs i x ys all error d h e =
    sym h ∙ ap (λ zs. rows_error nested ms (map (named_row format s) (map view zs))) d
    ∙ ap (λ (o : Option PathError). option_or o (rows_error nested ms (map (named_row format s) (map view ys)))) e

-- one more row
pub rows_turn : (format : Format) {R : Type 0} (view : R → Row) (nested : ℕ → Json → Option (List ℕ)) (ms : Members)
    (s : ℕ) (xs : List R) (i : ℕ) (x : R) (ys : List R) (old new : List ℕ) (all : Option (List ℕ)) → drop i xs ≡ x ∷ ys
    → after old (row_bytes nested ms (named_row format s (view x))) ≡ Some new → after old
    (rows_bytes nested ms (map (named_row format s) (map view (drop i xs)))) ≡ all → after new
    (rows_bytes nested ms (map (named_row format s) (map view ys))) ≡ all
rows_turn format view nested ms s xs i x ys old new all here e h =
    sym (after_both old new (row_bytes nested ms (named_row format s (view x)))
    (rows_bytes nested ms (map (named_row format s) (map view ys))) e)
    ∙ sym (ap (λ zs. after old (rows_bytes nested ms (map (named_row format s) (map view zs)))) here) ∙ h

pub rows_error_turn : (format : Format) {R : Type 0} (view : R → Row) (nested : ℕ → Json → Option PathError)
    (ms : Members) (s : ℕ) (xs : List R) (i : ℕ) (x : R) (ys : List R) (all : Option PathError) → drop i xs ≡ x ∷ ys →
    row_error nested ms (named_row format s (view x)) ≡ None → rows_error nested ms
    (map (named_row format s) (map view (drop i xs))) ≡ all → rows_error nested ms
    (map (named_row format s) (map view ys)) ≡ all
rows_error_turn format view nested ms s xs i x ys all here none h =
    sym (ap (λ (o : Option PathError). option_or o (rows_error nested ms (map (named_row format s) (map view ys))))
    none)
    ∙ sym (ap (λ zs. rows_error nested ms (map (named_row format s) (map view zs))) here) ∙ h
