-- Rows that are passed over, since they do not have a number.
use Rattle.std.proofs.Common.{◌≡◌, ℕ, zero, suc, ◌∙◌, List, [], ◌∷◌, true, false, refl, sym, take}
use Rattle.std.proofs.Common.{drop}
use Rattle.shared_core_wire.specs.Grammar.{FieldRecord}
use Rattle.shared_core_wire.specs.Schema.{Row, numbers, all_numbers, includes, are_distinct}
use Rattle.shared_core_wire.specs.Acceptance.{NestedAcceptance, accepts_record}
use Rattle.shared_core_wire.proofs.ReadBack.{or_split, includes-append, distinct_back}

-- a row is the first of those that lack a number
pub record Lacks (row : Row) (rows : List Row) (n : ℕ) : Type 0 where
  pub first : includes (numbers row) n ≡ false
  pub later : includes (all_numbers rows) n ≡ false

pub lacks : (row : Row) (rows : List Row) (n : ℕ) → includes (all_numbers (row ∷ rows)) n ≡ false → Lacks row rows n
lacks row rows n h =
    let e = or_split _ _ (sym (includes-append (numbers row) (all_numbers rows) n) ∙ h) in
    record { first = e.0; later = e.1 }

-- the others accept the same records
pub others_accept : (nested : NestedAcceptance) (r : FieldRecord) (count : ℕ) (rows : List Row)
    → includes (all_numbers (take count rows)) r.number ≡ false
    → accepts_record nested (drop count rows) r ≡ accepts_record nested rows r
others_accept nested r zero rows h = refl
others_accept nested r (suc count) [] h = refl
others_accept nested r (suc count) (row ∷ rows) h =
    let l = lacks row (take count rows) r.number h in
    rw l.first (others_accept nested r count rows l.later)

-- no two of the others share a number
pub others_distinct : (count : ℕ) (rows : List Row) → are_distinct (all_numbers rows) ≡ true
    → are_distinct (all_numbers (drop count rows)) ≡ true
others_distinct zero rows h = h
others_distinct (suc count) [] h = h
others_distinct (suc count) (row ∷ rows) h =
    others_distinct count rows (distinct_back (numbers row) (all_numbers rows) h)
