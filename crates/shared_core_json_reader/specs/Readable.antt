-- Formats by which JSON is read: a key is a name of one field of a schema at most.
use Rattle.std.specs.Prelude.{◌≡◌, ℕ, zero, suc, ◌^◌, Bool, true, false, not, ◌&&◌, ◌||◌, List, [], ◌∷◌, map, nat_lt}
use Rattle.std.specs.Prelude.{◌==◌, if◌then◌else◌, Option, Some, None, refl}
use Rattle.std.specs.List.{list_all}
use Rattle.std.specs.Str.{bytes_eq}
use Rattle.shared_core_wire.specs.Schema.{Row, Table, includes, all_numbers, table_of}
use Rattle.shared_core_codec.specs.Table.{schemas}
use Rattle.shared_core_codec.specs.Tables.{IsTable, protocol_is_table}
use Rattle.shared_core_json.specs.Names.{names}
use Rattle.shared_core_json.specs.Fields.{Names, names_at, name_in}
use Rattle.shared_core_json_reader.specs.EnumValues.{EnumField, enum_fields}
use Rattle.shared_core_json_reader.specs.Rows.{Format, protocol, values_in}
use Rattle.shared_core_json_reader.specs.Reading.{original_name}

-- Whether a key is a name of the field that has this one.
abbrev pub names_key : List ℕ → List ℕ → Bool
names_key name k = bytes_eq k name || bytes_eq k (original_name name)

-- Whether two tests have the same result.
abbrev pub same_test : Bool → Bool → Bool
same_test true b = b
same_test false b = not b

-- Whether a name and another one are apart, or of one field: the other one is not a name of the field of the first, and
-- their original names differ.
abbrev pub are_apart : ℕ × List ℕ → ℕ × List ℕ → Bool
are_apart x y = same_test (names_key x.1 y.1) (x.0 == y.0) && same_test
    (bytes_eq (original_name x.1) (original_name y.1)) (x.0 == y.0)

-- Whether each two of some names are apart.
abbrev pub all_apart : List (ℕ × List ℕ) → Bool
all_apart ns = list_all (λ x. list_all (are_apart x) ns) ns

-- Whether each of some names is what its number finds.
abbrev pub are_found : List (ℕ × List ℕ) → List (ℕ × List ℕ) → Bool
are_found ns xs = list_all (λ x. bytes_eq x.1 (name_in ns x.0)) xs

-- The numbers of some names.
abbrev pub numbers_of : List (ℕ × List ℕ) → List ℕ
numbers_of ns = map (λ x. x.0) ns

-- Whether names are those of the fields that have these numbers, and each two of them are apart.
abbrev pub are_names : List (ℕ × List ℕ) → List ℕ → Bool
are_names ns all = all_apart ns && (are_found ns ns && (list_all (includes (numbers_of ns)) all && list_all
    (includes all) (numbers_of ns)))

-- Whether each number has 32 bits.
abbrev pub are_low : List (List ℕ × ℕ) → Bool
are_low values = list_all (λ v. nat_lt v.1 (2 ^ 32)) values

-- ---- the format of the protocol

both : (b c : Bool) → (b && c) ≡ true → (b ≡ true) × (c ≡ true)
both true c h = (refl, h)
both false c h = absurd cc

-- The index of the first schema whose names are not those of its fields, or not apart, from a number on.
abbrev pub unreadable_from : ℕ → List (List (ℕ × List ℕ)) → List (List Row) → Option ℕ
unreadable_from s [] [] = None
unreadable_from s (ns ∷ nss) [] = Some s
unreadable_from s [] (rows ∷ lists) = Some s
unreadable_from s (ns ∷ nss) (rows ∷ lists) = if are_names ns (all_numbers rows) then unreadable_from (suc s) nss lists
    else Some s

-- The names of each schema of a table are those of its fields, and apart.
abbrev pub AreNamed : Table → Names → Type 0
AreNamed table all_names = (s : ℕ) → are_names (all_names s).names (all_numbers (table s)) ≡ true

-- The same of these names of schemas.
abbrev pub AreNamedBy : Table → List (List (ℕ × List ℕ)) → Type 0
AreNamedBy table names = (s : ℕ) → are_names (names_at names s) (all_numbers (table s)) ≡ true

pub none_unreadable : (i : ℕ) (nss : List (List (ℕ × List ℕ))) (lists : List (List Row)) → unreadable_from i nss lists ≡
    None → AreNamedBy (table_of lists) nss
none_unreadable i [] [] h s = refl
none_unreadable i (ns ∷ nss) [] h s = absurd cc
none_unreadable i [] (rows ∷ lists) h s = absurd cc
none_unreadable i (ns ∷ nss) (rows ∷ lists) h s = by_test (are_names ns (all_numbers rows)) refl h
    (λ g t. none_unreadable (suc i) nss lists g t) s
  where
    by_test : (b : Bool) → are_names ns (all_numbers rows) ≡ b
        → (if b then unreadable_from (suc i) nss lists else Some i) ≡ None
        → (unreadable_from (suc i) nss lists ≡ None → AreNamedBy (table_of lists) nss)
        → AreNamedBy (table_of (rows ∷ lists)) (ns ∷ nss)
    by_test false e g later t = absurd cc
    by_test true e g later zero = e
    by_test true e g later (suc t) = later g t

-- JSON can be read by a format.
pub record IsReadable (d : Format) : Type 0 where
  pub names : AreNamed d.table d.names
  pub rows : IsTable d.table
  pub low : (s n : ℕ) → are_low (d.values s n) ≡ true

low_in : (fields : List EnumField) → list_all (λ f. are_low f.values) fields ≡ true → (s n : ℕ) → are_low
    (values_in fields s n) ≡ true
low_in [] h s n = refl
low_in (f ∷ fs) h s n = by_test (low_in fs (both _ _ h).1 s n) ((s == f.schema) && (n == f.number))
  where
    by_test : are_low (values_in fs s n) ≡ true → (b : Bool) → are_low (if b then f.values else values_in fs s n) ≡ true
    by_test later true = (both _ _ h).0
    by_test later false = later

-- JSON can be read by it.
pub protocol_is_readable : IsReadable protocol
protocol_is_readable = record {
  names = none_unreadable 0 names schemas refl;
  rows = protocol_is_table;
  low = λ s n. low_in enum_fields refl s n;
}
