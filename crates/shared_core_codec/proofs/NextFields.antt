-- The field that may come next in a canonical payload is the one that the record's number finds in the schema.
use Rattle.std.proofs.Common.{◌≡◌, ℕ, List, [], ◌∷◌, Bool, true, false, cond, ◌||◌, Option, Some, None, refl, ap, subst}
use Rattle.std.proofs.Common.{◌∙◌, eqb}
use Rattle.std.proofs.Math.Bool.{or-true}
use Rattle.std.specs.Option.{option_or}
use Rattle.shared_core_wire.specs.Schema.{Table, Kind, Row, Plain, Optional, Repeated, OneOf, numbers, includes}
use Rattle.shared_core_wire.specs.Schema.{are_distinct}
use Rattle.shared_core_wire.specs.Schema.{all_numbers}
use Rattle.shared_core_wire.proofs.Runs.{and_split}
use Rattle.shared_core_wire.proofs.Readers.{some_is}
use Rattle.shared_core_wire.proofs.ReadBack.{includes-append, distinct_back, distinct_other}
use Rattle.shared_core_codec.specs.Table.{table}
use Rattle.shared_core_codec.specs.ProgramRows.{member_numbered, field_in_row, field_numbered}
use Rattle.shared_core_codec.specs.Canonicity.{Next, may_recur, found_or, next_field}
use Rattle.shared_core_codec.proofs.Tables.{is_table}
use Rattle.shared_core_codec.specs.Tables.{IsTable}

-- ---- what has a number is one of the numbers

member_has : (members : List (ℕ × Kind)) (n : ℕ) (f : Kind × Bool) → member_numbered members n ≡ Some f → includes
    (numbers (OneOf members)) n ≡ true
member_has [] n f e = absurd cc
member_has (m ∷ members) n f e = by_test (eqb n m.0) (member_has members n f) e
  where
    by_test : (b : Bool) → (member_numbered members n ≡ Some f → includes (numbers (OneOf members)) n ≡ true)
        → option_or (cond b (Some (m.1, false)) None) (member_numbered members n) ≡ Some f →
        (b || includes (numbers (OneOf members)) n) ≡ true
    by_test true later g = refl
    by_test false later g = later g

one_has : (b : Bool) (x f : Kind × Bool) → cond b (Some x) None ≡ Some f → (b || false) ≡ true
one_has true x f e = refl
one_has false x f e = absurd cc

row_has : (row : Row) (n : ℕ) (f : Kind × Bool) → field_in_row row n ≡ Some f → includes (numbers row) n ≡ true
row_has (Plain m k) n f e = one_has (eqb n m) (k, false) f e
row_has (Optional m k) n f e = one_has (eqb n m) (k, false) f e
row_has (Repeated m k) n f e = one_has (eqb n m) (k, true) f e
row_has (OneOf members) n f e = member_has members n f e

rows_have : (rows : List Row) (n : ℕ) (f : Kind × Bool) → field_numbered rows n ≡ Some f → includes (all_numbers rows) n
    ≡ true
rows_have [] n f e = absurd cc
rows_have (row ∷ rows) n f e = includes-append (numbers row) (all_numbers rows) n ∙ by_row (rows_have rows n f)
    (field_in_row row n) refl e
  where
    by_row : (field_numbered rows n ≡ Some f → includes (all_numbers rows) n ≡ true) → (o : Option (Kind × Bool)) →
        field_in_row row n ≡ o
        → option_or o (field_numbered rows n) ≡ Some f → (includes (numbers row) n || includes (all_numbers rows) n) ≡
        true
    by_row later None i g = ap (λ b. includes (numbers row) n || b) (later g) ∙ or-true (includes (numbers row) n)
    by_row later (Some x) i g = ap (λ b. b || includes (all_numbers rows) n) (row_has row n x i)

-- ---- what later rows find is what all rows find

finds_later : (row : Row) (rows : List Row) (n : ℕ) (f : Kind × Bool) → are_distinct (all_numbers (row ∷ rows)) ≡ true →
    field_numbered rows n ≡ Some f → field_numbered (row ∷ rows) n ≡ Some f
finds_later row rows n f d e = by_row (field_in_row row n) refl
  where
    by_row : (o : Option (Kind × Bool)) → field_in_row row n ≡ o → option_or o (field_numbered rows n) ≡ Some f
    by_row None i = e
    by_row (Some x) i =
        let own : includes (all_numbers rows) n ≡ true = rows_have rows n f e in
        absurd (let other : includes (all_numbers rows) n ≡ false = distinct_other (numbers row) (all_numbers rows) n d
        (row_has row n x i) in cc)

-- Rows that may still come of the rows of a schema: what they find is what those find.
pub record AreLeft (rows left : List Row) : Type 0 where
  pub distinct : are_distinct (all_numbers left) ≡ true
  pub finds : (n : ℕ) (f : Kind × Bool) → field_numbered left n ≡ Some f → field_numbered rows n ≡ Some f

pub all_left_in : (t : Table) → IsTable t → (s : ℕ) → AreLeft (t s) (t s)
all_left_in t valid s = record { distinct = (and_split _ _ (and_split _ _ (valid s)).0).1; finds = λ n f e. e }

pub all_left : (s : ℕ) → AreLeft (table s) (table s)
all_left = all_left_in table is_table

pub later_left : (rows : List Row) (row : Row) (left : List Row) → AreLeft rows (row ∷ left) → AreLeft rows left
later_left rows row left a = record {
  distinct = distinct_back (numbers row) (all_numbers left) a.distinct;
  finds = λ n f e. a.finds n f (finds_later row left n f a.distinct e);
}

pub next_left : (rows left : List Row) (n : ℕ) (next : Next) → AreLeft rows left → next_field left n ≡ Some next →
    (field_numbered rows n ≡ Some next.field) × AreLeft rows next.rows
next_left rows [] n next a e = absurd cc
next_left rows (row ∷ left) n next a e = by_row (next_left rows left n next (later_left rows row left a))
    (field_in_row row n) refl e
  where
    by_recur : (b : Bool) → AreLeft rows (cond b (row ∷ left) left)
    by_recur true = a
    by_recur false = later_left rows row left a

    by_row : (next_field left n ≡ Some next → (field_numbered rows n ≡ Some next.field) × AreLeft rows next.rows) →
        (o : Option (Kind × Bool)) → field_in_row row n ≡ o
        → found_or row left (next_field left n) o ≡ Some next → (field_numbered rows n ≡ Some next.field) × AreLeft rows
        next.rows
    by_row later None i g = later g
    by_row later (Some f) i g =
        let same = some_is _ next g in (
          a.finds n f (ap (λ o. option_or o (field_numbered left n)) i) ∙ ap (λ (x : Next). Some x.field) same,
          subst (λ (x : Next). AreLeft rows x.rows) same (by_recur (may_recur f)),
        )
