-- Schemas without a field that no table may have are those of a table.
use Rattle.std.proofs.Common.{◌≡◌, ℕ, suc, List, [], ◌∷◌, ◌++◌, map, Bool, true, false, cond, not, Option, Some}
use Rattle.std.proofs.Common.{None}
use Rattle.std.proofs.Common.{refl, sym, ap, ◌∙◌, length}
use Rattle.std.proofs.lemmas.List.Folds.{list_all-append}
use Rattle.std.specs.List.{list_all}
use Rattle.std.specs.Option.{option_or, option_map}
use Rattle.shared_core_wire.specs.Encoding.{is_field_number}
use Rattle.shared_core_wire.specs.Schema.{Kind, Row, Plain, Optional, Repeated, OneOf, includes, numbers, all_numbers}
use Rattle.shared_core_wire.specs.Schema.{are_distinct}
use Rattle.shared_core_wire.proofs.Runs.{and_split, and_join}
use Rattle.shared_core_wire.proofs.ReadBack.{distinct_back}
use Rattle.shared_core_codec.specs.Tables.{is_message, may_be_empty, are_rows}
use Rattle.shared_core_codec.specs.LoadedRows.{knows_kind, knows_row, knows_rows, are_schemas}
use Rattle.shared_core_codec.specs.TableErrors.{field_fault, members_fault, row_fault, rows_fault}
use Rattle.shared_core_codec.specs.TableErrors.{error_from, table_error}
use Rattle.shared_core_codec.specs.declared.table_error.TableError.{TableError}

or_none : {T : Type 0} → (a b : Option T) → option_or a b ≡ None → (a ≡ None) × (b ≡ None)
or_none None b e = (refl, e)
or_none (Some x) b e = absurd cc

map_none : {T U : Type 0} → (f : T → U) (o : Option T) → option_map f o ≡ None → o ≡ None
map_none f None e = refl
map_none f (Some x) e = absurd cc

none_of : {T : Type 0} → (a b c : Bool) (x y z : T)
    → cond (not a) (Some x) (cond b (Some y) (cond c None (Some z))) ≡ None → (a ≡ true) × ((not b ≡ true) × (c ≡ true))
none_of true false true x y z e = (refl, (refl, refl))
none_of true false false x y z e = absurd cc
none_of true true c x y z e = absurd cc
none_of false b c x y z e = absurd cc

-- the numbers of fields and of all fields after them, and the kinds of the fields
record AreClear (own later : List ℕ) : Type 0 where
  valid : list_all is_field_number (own ++ later) ≡ true
  distinct : are_distinct (own ++ later) ≡ true

one_clear : (count : ℕ) (later : List ℕ) (f : ℕ × Kind) → AreClear [] later → field_fault count later f ≡ None →
    AreClear (f.0 ∷ []) later × (knows_kind count f.1 ≡ true)
one_clear count later f a e =
    let n = none_of (is_field_number f.0) (includes later f.0) (knows_kind count f.1) _ _ _ e in (
      record { valid = and_join _ _ n.0 a.valid; distinct = and_join _ _ n.1.0 a.distinct },
      n.1.1,
    )

members_clear : (count : ℕ) (later : List ℕ) (ms : List (ℕ × Kind)) → AreClear [] later → members_fault count later ms ≡
    None → AreClear (map (λ m. m.0) ms) later × (list_all (λ m. knows_kind count m.1) ms ≡ true)
members_clear count later [] a e = (a, refl)
members_clear count later (m ∷ ms) a e =
    let o = or_none _ _ e in
    let rest = members_clear count later ms a o.1 in
    let n = none_of (is_field_number m.0) (includes (map (λ m. m.0) ms ++ later) m.0) (knows_kind count m.1) _ _ _ o.0
    in (
      record { valid = and_join _ _ n.0 rest.0.valid; distinct = and_join _ _ n.1.0 rest.0.distinct },
      and_join _ _ n.1.1 rest.1,
    )

plain_empty : {T : Type 0} → (b : Bool) (x : T) → cond b (Some x) None ≡ None → not b ≡ true
plain_empty true x e = absurd cc
plain_empty false x e = refl

-- a row and the numbers of all fields after it
record RowClear (count : ℕ) (later : List ℕ) (row : Row) : Type 0 where
  clear : AreClear (numbers row) later
  present : may_be_empty row ≡ true
  known : knows_row count row ≡ true

row_clear : (count : ℕ) (later : List ℕ) (row : Row) → AreClear [] later → row_fault count later row ≡ None → RowClear
    count later row
row_clear count later (Plain n k) a e =
    let o = or_none _ _ e in
    let one = one_clear count later (n, k) a o.0 in
    record { clear = one.0; present = plain_empty (is_message k) _ o.1; known = one.1 }
row_clear count later (Optional n k) a e = let one = one_clear count later (n, k) a e in
    record { clear = one.0; present = refl; known = one.1 }
row_clear count later (Repeated n k) a e = let one = one_clear count later (n, k) a e in
    record { clear = one.0; present = refl; known = one.1 }
row_clear count later (OneOf ms) a e = let all = members_clear count later ms a e in
    record { clear = all.0; present = refl; known = all.1 }

record RowsClear (count : ℕ) (rows : List Row) : Type 0 where
  clear : AreClear [] (all_numbers rows)
  present : list_all may_be_empty rows ≡ true
  known : knows_rows count rows ≡ true

rows_clear : (count : ℕ) (rows : List Row) → rows_fault count rows ≡ None → RowsClear count rows
rows_clear count [] e = record { clear = record { valid = refl; distinct = refl }; present = refl; known = refl }
rows_clear count (row ∷ rows) e =
    let o = or_none _ _ e in
    let later = rows_clear count rows o.1 in
    let first = row_clear count (all_numbers rows) row later.clear o.0 in
    record {
      clear = record { valid = first.clear.valid; distinct = first.clear.distinct };
      present = and_join _ _ first.present later.present;
      known = and_join _ _ first.known later.known;
    }

valid_from : (count s : ℕ) (all : List (List Row)) → error_from count s all ≡ None → list_all are_rows all ≡ true
valid_from count s [] e = refl
valid_from count s (rows ∷ all) e =
    let o = or_none _ _ e in
    let c = rows_clear count rows (map_none _ _ o.0) in
    and_join _ _ (and_join _ _ (and_join _ _ c.clear.valid c.clear.distinct) c.present)
    (valid_from count (suc s) all o.1)

known_from : (count s : ℕ) (all : List (List Row)) → error_from count s all ≡ None → list_all (knows_rows count) all ≡
    true
known_from count s [] e = refl
known_from count s (rows ∷ all) e =
    let o = or_none _ _ e in
    let c = rows_clear count rows (map_none _ _ o.0) in and_join _ _ c.known (known_from count (suc s) all o.1)

pub rows_valid : (all : List (List Row)) → table_error all ≡ None → list_all are_rows all ≡ true
rows_valid all e = valid_from (length all) 0 all e

pub none_valid : (all : List (List Row)) → table_error all ≡ None → true ≡ are_schemas all
none_valid all e = sym (and_join _ _ (valid_from (length all) 0 all e) (known_from (length all) 0 all e))

-- ---- and such schemas have no such field

none_or : {T : Type 0} → (a b : Option T) → a ≡ None → b ≡ None → option_or a b ≡ None
none_or None b e f = f
none_or (Some x) b e f = absurd cc

none_if : {T : Type 0} → (a b c : Bool) (x y z : T) → a ≡ true → not b ≡ true → c ≡ true
    → cond (not a) (Some x) (cond b (Some y) (cond c None (Some z))) ≡ None
none_if true false true x y z e f g = refl
none_if true false false x y z e f g = absurd cc
none_if true true c x y z e f g = absurd cc
none_if false b c x y z e f g = absurd cc

members_none : (count : ℕ) (later : List ℕ) (ms : List (ℕ × Kind))
    → list_all is_field_number (map (λ m. m.0) ms ++ later) ≡ true → are_distinct (map (λ m. m.0) ms ++ later) ≡ true
    → list_all (λ m. knows_kind count m.1) ms ≡ true → members_fault count later ms ≡ None
members_none count later [] v d k = refl
members_none count later (m ∷ ms) v d k =
    let a = and_split _ _ v in
    let b = and_split _ _ d in
    let c = and_split _ _ k in
    none_or _ _ (none_if (is_field_number m.0) (includes (map (λ m. m.0) ms ++ later) m.0) (knows_kind count m.1) _ _ _
    a.0 b.0 c.0) (members_none count later ms a.1 b.1 c.1)

plain_none : {T : Type 0} → (b : Bool) (x : T) → not b ≡ true → cond b (Some x) None ≡ None
plain_none true x e = absurd cc
plain_none false x e = refl

row_none : (count : ℕ) (later : List ℕ) (row : Row) → list_all is_field_number (numbers row ++ later) ≡ true →
    are_distinct (numbers row ++ later) ≡ true → may_be_empty row ≡ true → knows_row count row ≡ true → row_fault count
    later row ≡ None
row_none count later (Plain n k) v d p e = none_or _ _ (none_if (is_field_number n) (includes later n)
    (knows_kind count k) _ _ _ (and_split _ _ v).0 (and_split _ _ d).0 e) (plain_none (is_message k) _ p)
row_none count later (Optional n k) v d p e = none_if (is_field_number n) (includes later n) (knows_kind count k) _ _ _
    (and_split _ _ v).0 (and_split _ _ d).0 e
row_none count later (Repeated n k) v d p e = none_if (is_field_number n) (includes later n) (knows_kind count k) _ _ _
    (and_split _ _ v).0 (and_split _ _ d).0 e
row_none count later (OneOf ms) v d p e = members_none count later ms v d e

rows_none : (count : ℕ) (rows : List Row) → list_all is_field_number (all_numbers rows) ≡ true → are_distinct
    (all_numbers rows) ≡ true → list_all may_be_empty rows ≡ true → knows_rows count rows ≡ true → rows_fault count rows
    ≡ None
rows_none count [] v d p k = refl
rows_none count (row ∷ rows) v d p k =
    let later = and_split _ _ (sym (list_all-append is_field_number (numbers row) (all_numbers rows)) ∙ v) in
    let q = and_split _ _ p in
    let e = and_split _ _ k in
    none_or _ _ (row_none count (all_numbers rows) row v d q.0 e.0) (rows_none count rows later.1
    (distinct_back (numbers row) (all_numbers rows) d) q.1 e.1)

error_none : (count s : ℕ) (all : List (List Row)) → list_all are_rows all ≡ true → list_all (knows_rows count) all ≡
    true
    → error_from count s all ≡ None
error_none count s [] v k = refl
error_none count s (rows ∷ all) v k =
    let a = and_split _ _ v in
    let b = and_split _ _ a.0 in
    let c = and_split _ _ b.0 in
    let e = and_split _ _ k in
    none_or _ _ (ap (option_map _) (rows_none count rows c.0 c.1 b.1 e.0)) (error_none count (suc s) all a.1 e.1)

pub some_invalid : (all : List (List Row)) (e : TableError) → table_error all ≡ Some e → false ≡ are_schemas all
some_invalid all e h = by_valid (are_schemas all) refl
  where
    by_valid : (b : Bool) → are_schemas all ≡ b → false ≡ b
    by_valid true v =
        let a = and_split _ _ v in
        let none : table_error all ≡ None = error_none (length all) 0 all a.0 a.1 in
        absurd (let both : None ≡ Some e = sym none ∙ h in cc)
    by_valid false v = refl
