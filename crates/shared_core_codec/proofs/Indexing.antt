-- The index of rows by the numbers of their fields, and what is found by it.
use Rattle.std.proofs.Common.{◌≡◌, ℕ, zero, suc, ◌+◌, ◌<◌, ◌≤◌, ◌∙◌, List, [], ◌∷◌, ◌++◌, map, length, get_or, take}
use Rattle.std.proofs.Common.{Bool, true, false, ◌||◌, refl, sym, ap, arith, eqb, Err, Vec, ⊎_elim, subst}
use Rattle.std.proofs.lemmas.Bool.{eqb-true, cases_lt}
use Rattle.std.proofs.lemmas.Bool.Decides.{nat_tests}
use Rattle.std.proofs.lemmas.Cmp.{ranked}
use Rattle.std.proofs.lemmas.List.{map-append}
use Rattle.std.proofs.lemmas.List.Elements.{All-append, All-cons, All-nil, All-weaker}
use Rattle.std.proofs.lemmas.List.Sorted.{All-permutation, IsPermutation-map, list_any-IsPermutation}
use Rattle.std.specs.List.{All, AllZip, list_all}
use Rattle.std.specs.List.Sorted.{IsBinarySearchResult, IsNonDecreasingBy, IsPermutation}
use Rattle.std.specs.Ordering.{nat_cmp, ordering_index}
use Rattle.std.specs.declared.cmp.Ordering.TheVariants.{Equal}
use Rattle.std.specs.declared.alloc.Global.{Global}
use Rattle.shared_core_wire.specs.Schema.{Row, numbers, all_numbers, includes, are_distinct}
use Rattle.shared_core_wire.proofs.Runs.{and_split}
use Rattle.shared_core_wire.proofs.ReadBack.{includes-append, distinct_back, distinct_other}
use Rattle.shared_core_codec.specs.LoadedRows.{rows_view, schemas_view}
use Rattle.shared_core_codec.specs.RowIndexes.{LackUpTo, places_of, places_from, IsIndex, AreIndexes}
use Rattle.shared_core_codec.specs.RowIndexes.{index_at}
use Rattle.shared_core_codec.specs.Tables.{are_rows}
use Rattle.shared_core_codec.specs.declared.loaded_rows.LoadedRow.{LoadedRow}
use Rattle.shared_core_codec.specs.declared.row_index.NumberPlace.{NumberPlace}

abbrev pub number_of : NumberPlace → ℕ
number_of one = one.number

-- ---- numbers by their places

-- A number of these rows, which begin at a place: no row before its own has it.
record IsPlaced (start : ℕ) (rows : List Row) (one : NumberPlace) : Type 0 where
  count : ℕ
  at : one.place ≡ start + count
  among : includes (all_numbers rows) one.number ≡ true
  first : LackUpTo rows count one.number

either : (a b : Bool) → b ≡ true → (a || b) ≡ true
either true b h = refl
either false b h = h

front : (a b : Bool) → a ≡ true → (a || b) ≡ true
front true b h = refl
front false b h = absurd cc

neither : (a b : Bool) → a ≡ false → b ≡ false → (a || b) ≡ false
neither true b g h = absurd cc
neither false b g h = h

module _ (start : ℕ) (row : Row) (rows : List Row) where
  own : (ns : List ℕ) → ((n : ℕ) → includes ns n ≡ true → includes (numbers row) n ≡ true)
      → All (IsPlaced start (row ∷ rows)) (places_of start ns)
  own [] h = All-nil (IsPlaced start (row ∷ rows))
  own (n ∷ ns) h = All-cons (IsPlaced start (row ∷ rows)) (record { number = n; place = start }) (places_of start ns)
      (record {
        count = 0;
        at = omega arith;
        among = includes-append (numbers row) (all_numbers rows) n
            ∙ front _ _ (h n (front _ _ (eqb_same n)));
        first = (omega arith, refl);
      })
      (own ns (λ m g. h m (either _ _ g)))
    where
      eqb_same : (n : ℕ) → eqb n n ≡ true
      eqb_same n = grind (arith, nat_tests)

  later : are_distinct (all_numbers (row ∷ rows)) ≡ true → (one : NumberPlace) → IsPlaced (start + 1) rows one
      → IsPlaced start (row ∷ rows) one
  later d one h = record {
    count = suc h.count;
    at = omega (arith, h.at);
    among = includes-append (numbers row) (all_numbers rows) one.number ∙ either _ _ h.among;
    first = (
      omega (arith, h.first.0),
      includes-append (numbers row) (all_numbers (take h.count rows)) one.number
          ∙ neither _ _ (by_test (includes (numbers row) one.number) refl) h.first.1,
    );
  }
    where
      by_test : (b : Bool) → includes (numbers row) one.number ≡ b → b ≡ false
      by_test true e = sym h.among ∙ distinct_other (numbers row) (all_numbers rows) one.number d e
      by_test false e = refl

all_placed : (start : ℕ) (rows : List Row) → are_distinct (all_numbers rows) ≡ true
    → All (IsPlaced start rows) (places_from start rows)
all_placed start [] d = All-nil (IsPlaced start [])
all_placed start (row ∷ rows) d =
    All-append (IsPlaced start (row ∷ rows)) (places_of start (numbers row)) (places_from (start + 1) rows)
    (own start row rows (numbers row) (λ n h. h))
    (All-weaker (IsPlaced (start + 1) rows) (IsPlaced start (row ∷ rows)) (later start row rows d)
    (places_from (start + 1) rows)
    (all_placed (start + 1) rows (distinct_back (numbers row) (all_numbers rows) d)))

at_start : (rows : List Row) (one : NumberPlace) → IsPlaced 0 rows one → LackUpTo rows one.place one.number
at_start rows one h = let e : h.count ≡ one.place = omega (arith, h.at) in
    subst (λ k. LackUpTo rows k one.number) e h.first

same_numbers : (start : ℕ) (ns : List ℕ) → map number_of (places_of start ns) ≡ ns
same_numbers start [] = refl
same_numbers start (n ∷ ns) = ap (λ (ms : List ℕ). n ∷ ms) (same_numbers start ns)

numbers_from : (start : ℕ) (rows : List Row) → map number_of (places_from start rows) ≡ all_numbers rows
numbers_from start [] = refl
numbers_from start (row ∷ rows) =
    map-append number_of (places_of start (numbers row)) (places_from (start + 1) rows)
    ∙ rw (same_numbers start (numbers row), numbers_from (start + 1) rows) refl

-- ---- indexes

pub no_index : (rows : List Row) → IsIndex rows []
no_index rows = (
  λ i j d le l. absurd (omega arith),
  (
    All-nil (λ one. LackUpTo rows one.place one.number),
    λ n l h.
        absurd (omega arith),
  ),
)

-- the numbers of rows with their places, in ascending order
pub sorted_index : (rows : List Row) (index : List NumberPlace) → are_distinct (all_numbers rows) ≡ true
    → IsPermutation (places_from 0 rows) index → IsNonDecreasingBy number_of index → IsIndex rows index
sorted_index rows index d moved rising = (
  rising,
  (
    All-permutation (λ one. LackUpTo rows one.place one.number) (places_from 0 rows) index moved
        (All-weaker (IsPlaced 0 rows) (λ one. LackUpTo rows one.place one.number) (at_start rows) (places_from 0 rows)
        (all_placed 0 rows d)),
    λ n l h. ap (λ (ns : List ℕ). includes ns n) (sym (numbers_from 0 rows))
        ∙ (list_any-IsPermutation (eqb n) (map number_of (places_from 0 rows)) (map number_of index)
        (IsPermutation-map number_of (places_from 0 rows) index moved) ∙ h),
  ),
)

-- An index of the rows of a schema of the program.
abbrev pub HasIndex : Vec LoadedRow Global → Vec NumberPlace Global → Type 0
HasIndex rows index = IsIndex (rows_view rows.items) index.items

more_indexes : (schemas : List (Vec LoadedRow Global)) (indexes : List (Vec NumberPlace Global)) (i : ℕ)
    (rows : Vec LoadedRow Global) (index : Vec NumberPlace Global) → i < length schemas → rows ≡ get_or schemas i rows
    → AllZip HasIndex (take i schemas) indexes → HasIndex rows index
    → AllZip HasIndex (take (suc i) schemas) (indexes ++ index ∷ [])
more_indexes [] indexes i rows index l e h own = absurd (omega arith)
more_indexes (one ∷ schemas) [] zero rows index l e h own =
    (subst (λ (v : Vec LoadedRow Global). HasIndex v index) e own, tt)
more_indexes (one ∷ schemas) (other ∷ indexes) zero rows index l e h own = absurd h
more_indexes (one ∷ schemas) [] (suc i) rows index l e h own = absurd h
more_indexes (one ∷ schemas) (other ∷ indexes) (suc i) rows index l e h own =
    (h.0, more_indexes schemas indexes i rows index (omega arith) e h.1 own)

-- the first schemas have an index, and so has the next one
pub next_index : (schemas : List (Vec LoadedRow Global)) (indexes : List (Vec NumberPlace Global)) (i : ℕ)
    (rows : Vec LoadedRow Global) (index : Vec NumberPlace Global) → i < length schemas → rows ≡ get_or schemas i rows
    → AllZip HasIndex (take i schemas) indexes → HasIndex rows index
    → AllZip HasIndex (take (i + 1) schemas) (indexes ++ index ∷ [])
next_index schemas indexes i rows index l e h own =
    let next : suc i ≡ i + 1 = omega arith in
    subst (λ (k : ℕ). AllZip HasIndex (take k schemas) (indexes ++ index ∷ [])) next
    (more_indexes schemas indexes i rows index l e h own)

pub index_is : (indexes : List (Vec NumberPlace Global)) (s : ℕ) (d : Vec NumberPlace Global) → s < length indexes
    → (get_or indexes s d).items ≡ index_at indexes s
index_is [] s d l = absurd (omega arith)
index_is (index ∷ indexes) zero d l = refl
index_is (index ∷ indexes) (suc s) d l = index_is indexes s d (omega arith)

-- the index of each schema
pub all_indexes : (schemas : List (Vec LoadedRow Global)) (indexes : List (Vec NumberPlace Global))
    → AllZip HasIndex schemas indexes
    → AreIndexes (schemas_view schemas) indexes
all_indexes [] [] h s = no_index []
all_indexes [] (index ∷ indexes) h s = absurd h
all_indexes (rows ∷ schemas) [] h s = absurd h
all_indexes (rows ∷ schemas) (index ∷ indexes) h zero = h.0
all_indexes (rows ∷ schemas) (index ∷ indexes) h (suc s) = all_indexes schemas indexes h.1 s

-- each schema of a table has rows of a message
pub rows_at : (schemas : List (Vec LoadedRow Global)) (i : ℕ) (d : Vec LoadedRow Global)
    → list_all are_rows (schemas_view schemas) ≡ true → i < length schemas
    → are_rows (rows_view (get_or schemas i d).items) ≡ true
rows_at [] i d h l = absurd (omega arith)
rows_at (rows ∷ schemas) zero d h l = (and_split _ _ h).0
rows_at (rows ∷ schemas) (suc i) d h l = rows_at schemas i d (and_split _ _ h).1 (omega arith)

-- ---- what a search by halves finds

higher : (a b n : ℕ) → a ≤ b → ordering_index (nat_cmp a n) ≤ ordering_index (nat_cmp b n)
higher a b n le = grind (arith, nat_tests)

nowhere : (index : List NumberPlace) (n : ℕ) → ((i : ℕ) (d : NumberPlace) → i < length index
    → number_of (get_or index i d) ≡ n → ⊥) → includes (map number_of index) n ≡ false
nowhere [] n never = refl
nowhere (one ∷ index) n never = neither _ _ (by_test (eqb n one.number) refl)
    (nowhere index n (λ i d l e. never (suc i) d (omega (arith, l)) e))
  where
    by_test : (b : Bool) → eqb n one.number ≡ b → b ≡ false
    by_test true q = absurd (never 0 one (omega arith) (sym (eqb-true _ _ q)))
    by_test false q = refl

pub absent : (index : List NumberPlace) (n i : ℕ) → IsNonDecreasingBy number_of index
    → IsBinarySearchResult (λ one. nat_cmp one.number n) index (Err i) → includes (map number_of index) n ≡ false
absent index n i rising h =
    let parted = h (λ a b d le lt. higher (number_of (get_or index a d)) (number_of (get_or index b d)) n
    (rising a b d le lt)) in
    nowhere index n (λ j d l e. ⊎_elim
    (λ (lt : j < i). omega (arith, ranked (number_of (get_or index j d)) n _ (sym (parted.0 j d (omega arith) lt)), e))
    (λ (le : i ≤ j). omega (arith, ranked (number_of (get_or index j d)) n _ (sym (parted.1 j d le l)), e))
    (cases_lt j i))

pub found : (rows : List Row) (index : List NumberPlace) (n i : ℕ) (d : NumberPlace) → IsIndex rows index
    → i < length index → nat_cmp (number_of (get_or index i d)) n ≡ Equal
    → LackUpTo rows (get_or index i d).place n
found rows index n i d h l e =
    let same : number_of (get_or index i d) ≡ n = ranked (number_of (get_or index i d)) n _ (sym e) in
    subst (λ m. LackUpTo rows (get_or index i d).place m) same (h.1.0 i d l)
