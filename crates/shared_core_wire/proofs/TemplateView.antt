-- A payload of a schema whose rows are a template's, decoded with the template.
use Rattle.std.proofs.Common.{◌≡◌, ℕ, suc, List, [], ◌∷◌, Bool, true, false, cond, not, ◌&&◌, ◌||◌, refl, sym, ap}
use Rattle.std.proofs.Common.{subst, ◌∙◌, eqb, eq-eqb}
use Rattle.std.proofs.lemmas.Bool.{eqb-true}
use Rattle.std.proofs.Math.Dec.{eqb-suc-suc, eqb-suc-zero, eqb-zero-suc}
use Rattle.std.specs.List.{list_all, list_any}
use Rattle.shared_core_wire.specs.Grammar.{RecordValue, FieldRecord}
use Rattle.shared_core_wire.specs.Schema.{Kind, Row, U32, U64, Boolean, Enumeration, Text, ByteString, Message, Plain}
use Rattle.shared_core_wire.specs.Schema.{Optional, Repeated, OneOf, numbers, includes, member_kind, are_distinct}
use Rattle.shared_core_wire.specs.Schema.{all_numbers, is_schema}
use Rattle.shared_core_wire.specs.Value.{Absent, Member, empty_value, empty_part, default_of}
use Rattle.shared_core_wire.specs.Acceptance.{NestedAcceptance, accepts_value, accepts_in_row, accepts_record}
use Rattle.shared_core_wire.specs.Acceptance.{accepts_records, accepts_message, some_passes}
use Rattle.shared_core_wire.specs.Overlay.{NestedOverlay, last, values, own_records, member_at, all_numbered, last_run}
use Rattle.shared_core_wire.specs.Overlay.{singular_of, singular_over, oneof_over, row_over, rows_over, overlay}
use Rattle.shared_core_wire.specs.Overlay.{message_overlay, or_empty}
use Rattle.shared_core_wire.specs.Template.{ViewLaw, row_index, kind_in_row, kind_at, same_kind, is_oneof, is_repeated}
use Rattle.shared_core_wire.specs.Template.{agree, is_within_template, part_in_row, part_at, are_apart}
use Rattle.shared_core_wire.proofs.Merging.{accepted_payload_records}
use Rattle.shared_core_wire.proofs.Runs.{and_split, and_join, and-false_is, last_run_whole, last_all}
use Rattle.shared_core_wire.proofs.ReadBack.{or_split, not_true, includes-append, distinct_back, distinct_other}

-- ---- kinds

kind_same : (k l : Kind) → same_kind k l ≡ true → k ≡ l
kind_same U32 U32 h = refl
kind_same U64 U64 h = refl
kind_same Boolean Boolean h = refl
kind_same Enumeration Enumeration h = refl
kind_same Text Text h = refl
kind_same ByteString ByteString h = refl
kind_same (Message s) (Message t) h = ap Message (eqb-true s t h)
kind_same _ _ h = absurd cc

-- ---- the row of a number

row_at : List Row → ℕ → Row
row_at [] n = Plain 0 ByteString
row_at (row ∷ rows) n = cond (includes (numbers row) n) row (row_at rows n)

at_number : (p : ℕ → Bool) (ns : List ℕ) (m : ℕ) → list_all p ns ≡ true → includes ns m ≡ true → p m ≡ true
at_number p [] m h g = absurd cc
at_number p (n ∷ ns) m h g = by_first (λ k. at_number p ns m (and_split _ _ h).1 k) (eqb m n) refl g
  where
    by_first : (includes ns m ≡ true → p m ≡ true) → (b : Bool) → eqb m n ≡ b → (b || includes ns m) ≡ true → p m ≡ true
    by_first later true e g = ap p (eqb-true m n e) ∙ (and_split _ _ h).0
    by_first later false e g = later g

-- what a meaning holds at a number
part_over : (table : ℕ → List Row) (overlay_nested : NestedOverlay) (rows : List Row) (rs : List FieldRecord) (n : ℕ) →
    includes (all_numbers rows) n ≡ true
    → part_at rows (rows_over table overlay_nested rows (empty_value rows) rs) n ≡ part_in_row (row_at rows n)
    (row_over table overlay_nested (row_at rows n) (empty_part (row_at rows n)) (own_records (row_at rows n) rs)) n
unfolding row_at
part_over table overlay_nested [] rs n h = absurd cc
part_over table overlay_nested (row ∷ rows) rs n h = by_test (λ g. part_over table overlay_nested rows rs n g)
    (includes (numbers row) n) (sym (includes-append (numbers row) (all_numbers rows) n) ∙ h)
  where
    by_test : (includes (all_numbers rows) n ≡ true → part_at rows
        (rows_over table overlay_nested rows (empty_value rows) rs) n ≡ part_in_row (row_at rows n)
        (row_over table overlay_nested (row_at rows n) (empty_part (row_at rows n)) (own_records (row_at rows n) rs)) n)
        → (b : Bool) → (b || includes (all_numbers rows) n) ≡ true
        → cond b (part_in_row row (row_over table overlay_nested row (empty_part row) (own_records row rs)) n)
        (part_at rows (rows_over table overlay_nested rows (empty_value rows) rs) n) ≡ part_in_row
        (cond b row (row_at rows n)) (row_over table overlay_nested (cond b row (row_at rows n))
        (empty_part (cond b row (row_at rows n))) (own_records (cond b row (row_at rows n)) rs)) n
    by_test later true g = refl
    by_test later false g = later g

-- which numbers are in the row of n
in_row : (rows : List Row) (n m : ℕ) → are_distinct (all_numbers rows) ≡ true → includes (all_numbers rows) n ≡ true →
    includes (numbers (row_at rows n)) m ≡ (includes (all_numbers rows) m && eqb (row_index rows n) (row_index rows m))
unfolding row_at
in_row [] n m d h = absurd cc
in_row (row ∷ rows) n m d h =
    by_test (λ g. in_row rows n m (distinct_back (numbers row) (all_numbers rows) d) g) (includes (numbers row) n)
    (includes (numbers row) m) refl (sym (includes-append (numbers row) (all_numbers rows) n) ∙ h)
    ∙ ap (λ b. b && eqb (row_index (row ∷ rows) n) (row_index (row ∷ rows) m))
    (sym (includes-append (numbers row) (all_numbers rows) m))
  where
    by_test : (includes (all_numbers rows) n ≡ true → includes (numbers (row_at rows n)) m ≡
        (includes (all_numbers rows) m && eqb (row_index rows n) (row_index rows m)))
        → (b c : Bool) → includes (numbers row) m ≡ c → (b || includes (all_numbers rows) n) ≡ true
        → includes (numbers (cond b row (row_at rows n))) m ≡
        ((c || includes (all_numbers rows) m) && eqb (cond b 0 (suc (row_index rows n)))
        (cond c 0 (suc (row_index rows m))))
    by_test later true true e g = e
    by_test later true false e g = e ∙ sym (and-false_is (includes (all_numbers rows) m)
        (eqb 0 (suc (row_index rows m))) (eqb-zero-suc (row_index rows m)))
    by_test later false true e g = later g ∙ ap (λ b. b && eqb (row_index rows n) (row_index rows m))
        (distinct_other (numbers row) (all_numbers rows) m d e) ∙ sym (eqb-suc-zero (row_index rows n))
    by_test later false false e g = later g ∙ ap (λ b. includes (all_numbers rows) m && b)
        (sym (eqb-suc-suc (row_index rows n) (row_index rows m)))

own_same : (row other : Row) (ok : FieldRecord → Bool) (rs : List FieldRecord) →
    ((r : FieldRecord) → ok r ≡ true → includes (numbers row) r.number ≡ includes (numbers other) r.number) → list_all
    ok rs ≡ true → own_records row rs ≡ own_records other rs
own_same row other ok [] f h = refl
own_same row other ok (r ∷ rs) f h =
    let e = and_split (ok r) _ h in
    ap (λ b. cond b (r ∷ own_records row rs) (own_records row rs)) (f r e.0) ∙ ap
    (λ (xs : List FieldRecord). cond (includes (numbers other) r.number) (r ∷ xs) xs)
    (own_same row other ok rs f e.1)

-- ---- the number of a record of the payload

row_at_oneof : (rows : List Row) (n : ℕ) → list_all is_oneof rows ≡ true → includes (all_numbers rows) n ≡ true →
    is_oneof (row_at rows n) ≡ true
unfolding row_at
row_at_oneof [] n h g = absurd cc
row_at_oneof (row ∷ rows) n h g = by_test (λ k. row_at_oneof rows n (and_split _ _ h).1 k) (includes (numbers row) n)
    (sym (includes-append (numbers row) (all_numbers rows) n) ∙ g)
  where
    by_test : (includes (all_numbers rows) n ≡ true → is_oneof (row_at rows n) ≡ true) → (b : Bool) →
        (b || includes (all_numbers rows) n) ≡ true → is_oneof (cond b row (row_at rows n)) ≡ true
    by_test later true k = (and_split _ _ h).0
    by_test later false k = later k

row_at_single : (rows : List Row) (n : ℕ) → list_all (λ row. not (is_repeated row)) rows ≡ true → includes
    (all_numbers rows) n ≡ true → is_repeated (row_at rows n) ≡ false
unfolding row_at
row_at_single [] n h g = absurd cc
row_at_single (row ∷ rows) n h g = by_test (λ k. row_at_single rows n (and_split _ _ h).1 k) (includes (numbers row) n)
    (sym (includes-append (numbers row) (all_numbers rows) n) ∙ g)
  where
    by_test : (includes (all_numbers rows) n ≡ true → is_repeated (row_at rows n) ≡ false) → (b : Bool) →
        (b || includes (all_numbers rows) n) ≡ true → is_repeated (cond b row (row_at rows n)) ≡ false
    by_test later true k = not_true (is_repeated row) (and_split _ _ h).0
    by_test later false k = later k

kind_by_row : (rows : List Row) (n m : ℕ) → are_distinct (all_numbers rows) ≡ true → includes (all_numbers rows) n ≡
    true → includes (numbers (row_at rows n)) m ≡ true → kind_in_row (row_at rows n) m ≡ kind_at rows m
unfolding row_at
kind_by_row [] n m d h g = absurd cc
kind_by_row (row ∷ rows) n m d h g = by_test (λ k j. kind_by_row rows n m
    (distinct_back (numbers row) (all_numbers rows) d) k j) (includes (numbers row) n) (includes (numbers row) m) refl
    (sym (includes-append (numbers row) (all_numbers rows) n) ∙ h) g
  where
    by_test : (includes (all_numbers rows) n ≡ true → includes (numbers (row_at rows n)) m ≡ true → kind_in_row
        (row_at rows n) m ≡ kind_at rows m)
        → (b c : Bool) → includes (numbers row) m ≡ c → (b || includes (all_numbers rows) n) ≡ true → includes
        (numbers (cond b row (row_at rows n))) m ≡ true → kind_in_row (cond b row (row_at rows n)) m ≡ cond c
        (kind_in_row row m) (kind_at rows m)
    by_test later true true e k j = refl
    by_test later true false e k j = absurd (let q : false ≡ true = sym e ∙ j in cc)
    by_test later false false e k j = later k j
    by_test later false true e k j = absurd (let q : false ≡ true = sym
        (in_row rows n m (distinct_back (numbers row) (all_numbers rows) d) k ∙ ap
        (λ b. b && eqb (row_index rows n) (row_index rows m)) (distinct_other (numbers row) (all_numbers rows) m d e)) ∙
        j in cc)

-- ---- one row

singular_of_absent : (table : ℕ → List Row) (overlay_nested : NestedOverlay) (k : Kind) (w : RecordValue)
    (ws : List RecordValue) → singular_of table overlay_nested k Absent w ws ≡ singular_of table overlay_nested k
    (default_of k) w ws
singular_of_absent table overlay_nested U32 w ws = refl
singular_of_absent table overlay_nested U64 w ws = refl
singular_of_absent table overlay_nested Boolean w ws = refl
singular_of_absent table overlay_nested Enumeration w ws = refl
singular_of_absent table overlay_nested Text w ws = refl
singular_of_absent table overlay_nested ByteString w ws = refl
singular_of_absent table overlay_nested (Message s) w ws = refl

last_has : (ns : List ℕ) (x : FieldRecord) (xs : List FieldRecord) → list_all (λ r. includes ns r.number) (x ∷ xs) ≡
    true → includes ns (last x xs).number ≡ true
last_has ns x [] h = (and_split _ _ h).0
last_has ns x (y ∷ xs) h = last_has ns y xs (and_split _ _ h).1

only_one : (n m : ℕ) → includes (n ∷ []) m ≡ true → m ≡ n
only_one n m h = by_test (eqb m n) refl h
  where
    by_test : (b : Bool) → eqb m n ≡ b → (b || false) ≡ true → m ≡ n
    by_test true e g = eqb-true m n e
    by_test false e g = absurd cc

all_one : (n : ℕ) (rs : List FieldRecord) → list_all (λ r. includes (n ∷ []) r.number) rs ≡ true → all_numbered n rs ≡
    true
all_one n [] h = refl
all_one n (r ∷ rs) h = let e = and_split _ _ h in and_join _ _ (eq-eqb r.number n (only_one n r.number e.0))
    (all_one n rs e.1)

-- a oneof over records that are all of one number
one_number : (table : ℕ → List Row) (overlay_nested : NestedOverlay) (ms : List (ℕ × Kind)) (n : ℕ) (k : Kind)
    (x : FieldRecord) (xs : List FieldRecord) → member_kind ms n ≡ k → all_numbered n (x ∷ xs) ≡ true
    → member_at n (oneof_over table overlay_nested ms Absent (x ∷ xs)) ≡ singular_over table overlay_nested k Absent
    (values (x ∷ xs))
one_number table overlay_nested ms n k x xs e a =
    let l : (last x xs).number ≡ n = eqb-true _ n (last_all n x xs a) in
    ap (λ j. member_at n (Member j (singular_over table overlay_nested (member_kind ms j)
    (cond (all_numbered j (x ∷ xs)) Absent Absent) (values (last_run j (x ∷ xs)))))) l
    ∙ ap (λ b. cond b (singular_over table overlay_nested (member_kind ms n)
    (cond (all_numbered n (x ∷ xs)) Absent Absent) (values (last_run n (x ∷ xs)))) Absent) (eq-eqb n n refl)
    ∙ ap (λ b. singular_over table overlay_nested (member_kind ms n) (cond b Absent Absent)
    (values (last_run n (x ∷ xs)))) a
    ∙ ap (λ (rs : List FieldRecord). singular_over table overlay_nested (member_kind ms n) Absent (values rs))
    (last_run_whole n (x ∷ xs) a)
    ∙ ap (λ j. singular_over table overlay_nested j Absent (values (x ∷ xs))) e

row_same : (table : ℕ → List Row) (overlay_nested : NestedOverlay) (row other : Row) (n : ℕ) (rs : List FieldRecord) →
    is_repeated row ≡ false → is_oneof other ≡ true → includes (numbers row) n ≡ true
    → ((m : ℕ) → includes (numbers row) m ≡ true → kind_in_row other m ≡ kind_in_row row m) → list_all
    (λ r. includes (numbers row) r.number) rs ≡ true → list_any (λ r. eqb r.number n) rs ≡ true
    → part_in_row other (row_over table overlay_nested other (empty_part other) rs) n ≡ part_in_row row
    (row_over table overlay_nested row (empty_part row) rs) n
row_same table overlay_nested row (Plain m k) n rs i o h f a s = absurd cc
row_same table overlay_nested row (Optional m k) n rs i o h f a s = absurd cc
row_same table overlay_nested row (Repeated m k) n rs i o h f a s = absurd cc
row_same table overlay_nested row (OneOf ms) n [] i o h f a s = absurd cc
row_same table overlay_nested (Plain m k) (OneOf ms) n (x ∷ xs) i o h f a s =
    rw (only_one m n h) (one_number table overlay_nested ms m k x xs (f m (rw (eq-eqb m m refl) refl))
    (all_one m (x ∷ xs) a) ∙ singular_of_absent table overlay_nested k x.value (values xs))
row_same table overlay_nested (Optional m k) (OneOf ms) n (x ∷ xs) i o h f a s =
    rw (only_one m n h) (one_number table overlay_nested ms m k x xs (f m (rw (eq-eqb m m refl) refl))
    (all_one m (x ∷ xs) a))
row_same table overlay_nested (Repeated m k) (OneOf ms) n (x ∷ xs) i o h f a s = absurd cc
row_same table overlay_nested (OneOf ns) (OneOf ms) n (x ∷ xs) i o h f a s =
    let l = (last x xs).number in
    ap (λ k. member_at n (Member l (singular_over table overlay_nested k (cond (all_numbered l (x ∷ xs)) Absent Absent)
    (values (last_run l (x ∷ xs)))))) (f l (last_has (numbers (OneOf ns)) x xs a))

-- ---- acceptance

row_takes_is : (accepts_nested : NestedAcceptance) (row : Row) (r : FieldRecord) → is_repeated row ≡ false →
    accepts_in_row accepts_nested row r ≡ accepts_value accepts_nested (kind_in_row row r.number) r.value
row_takes_is accepts_nested (Plain n k) r i = refl
row_takes_is accepts_nested (Optional n k) r i = refl
row_takes_is accepts_nested (Repeated n k) r i = absurd cc
row_takes_is accepts_nested (OneOf ms) r i = refl

from_allowed : (accepts_nested : NestedAcceptance) (rows : List Row) (r : FieldRecord) → list_all
    (λ row. not (is_repeated row)) rows ≡ true → includes (all_numbers rows) r.number ≡ true → accepts_record
    accepts_nested rows r ≡ true → accepts_value accepts_nested (kind_at rows r.number) r.value ≡ true
from_allowed accepts_nested [] r i h a = absurd cc
from_allowed accepts_nested (row ∷ rows) r i h a =
    by_test (λ k. from_allowed accepts_nested rows r (and_split _ _ i).1 k (and_split _ _ a).1)
    (includes (numbers row) r.number) (sym (includes-append (numbers row) (all_numbers rows) r.number) ∙ h)
    (and_split _ _ a).0
  where
    by_test : (includes (all_numbers rows) r.number ≡ true → accepts_value accepts_nested (kind_at rows r.number)
        r.value ≡ true) → (b : Bool) → (b || includes (all_numbers rows) r.number) ≡ true → cond b
        (accepts_in_row accepts_nested row r) true ≡ true
        → accepts_value accepts_nested (cond b (kind_in_row row r.number) (kind_at rows r.number)) r.value ≡ true
    by_test later true k e = sym (row_takes_is accepts_nested row r (not_true (is_repeated row) (and_split _ _ i).0)) ∙
        e
    by_test later false k e = later k

none_allowed : (accepts_nested : NestedAcceptance) (rows : List Row) (r : FieldRecord) → includes (all_numbers rows)
    r.number ≡ false → accepts_record accepts_nested rows r ≡ true
none_allowed accepts_nested [] r h = refl
none_allowed accepts_nested (row ∷ rows) r h =
    let e = or_split (includes (numbers row) r.number) (includes (all_numbers rows) r.number)
    (sym (includes-append (numbers row) (all_numbers rows) r.number) ∙ h) in
    and_join _ _ (ap (λ b. cond b (accepts_in_row accepts_nested row r) true) e.0)
    (none_allowed accepts_nested rows r e.1)

oneof_single : (row : Row) → is_oneof row ≡ true → is_repeated row ≡ false
oneof_single (Plain n k) h = refl
oneof_single (Optional n k) h = refl
oneof_single (Repeated n k) h = absurd cc
oneof_single (OneOf ms) h = refl

to_allowed : (accepts_nested : NestedAcceptance) (rows : List Row) (r : FieldRecord) → list_all is_oneof rows ≡ true →
    are_distinct (all_numbers rows) ≡ true → includes (all_numbers rows) r.number ≡ true → accepts_value accepts_nested
    (kind_at rows r.number) r.value ≡ true → accepts_record accepts_nested rows r ≡ true
to_allowed accepts_nested [] r i d h t = refl
to_allowed accepts_nested (row ∷ rows) r i d h t =
    by_test (includes (numbers row) r.number) refl (sym (includes-append (numbers row) (all_numbers rows) r.number) ∙ h)
    t (λ k u. to_allowed accepts_nested rows r (and_split _ _ i).1
    (distinct_back (numbers row) (all_numbers rows) d) k u)
  where
    by_test : (b : Bool) → includes (numbers row) r.number ≡ b → (b || includes (all_numbers rows) r.number) ≡ true →
        accepts_value accepts_nested (cond b (kind_in_row row r.number) (kind_at rows r.number)) r.value ≡ true
        → (includes (all_numbers rows) r.number ≡ true → accepts_value accepts_nested (kind_at rows r.number) r.value ≡
        true → accepts_record accepts_nested rows r ≡ true)
        → (cond b (accepts_in_row accepts_nested row r) true && accepts_record accepts_nested rows r) ≡ true
    by_test true e k u later = and_join _ _ (row_takes_is accepts_nested row r (oneof_single row (and_split _ _ i).0) ∙
        u) (none_allowed accepts_nested rows r (distinct_other (numbers row) (all_numbers rows) r.number d e))
    by_test false e k u later = later k u

-- ---- together

same_is : (b c : Bool) → agree b c ≡ true → b ≡ c
same_is true c h = sym h
same_is false c h = sym (not_true c h)

own_mine : (row : Row) (rs : List FieldRecord) → list_all (λ r. includes (numbers row) r.number) (own_records row rs) ≡
    true
own_mine row [] = refl
own_mine row (r ∷ rs) = by_test (own_mine row rs) (includes (numbers row) r.number) refl
  where
    by_test : list_all (λ x. includes (numbers row) x.number) (own_records row rs) ≡ true → (b : Bool) → includes
        (numbers row) r.number ≡ b → list_all (λ x. includes (numbers row) x.number)
        (cond b (r ∷ own_records row rs) (own_records row rs)) ≡ true
    by_test later true e = and_join _ _ e later
    by_test later false e = later

own_any : (row : Row) (n : ℕ) (rs : List FieldRecord) → includes (numbers row) n ≡ true → list_any (λ r. eqb r.number n)
    rs ≡ true → list_any (λ r. eqb r.number n) (own_records row rs) ≡ true
own_any row n [] h a = a
own_any row n (r ∷ rs) h a = by_test (λ k. own_any row n rs h k) (eqb r.number n) refl a
    (includes (numbers row) r.number) refl
  where
    by_test : (list_any (λ x. eqb x.number n) rs ≡ true → list_any (λ x. eqb x.number n) (own_records row rs) ≡ true) →
        (b : Bool) → eqb r.number n ≡ b → (b || list_any (λ x. eqb x.number n) rs) ≡ true
        → (c : Bool) → includes (numbers row) r.number ≡ c → list_any (λ x. eqb x.number n)
        (cond c (r ∷ own_records row rs) (own_records row rs)) ≡ true
    by_test later true e k true f = ap (λ b. b || list_any (λ x. eqb x.number n) (own_records row rs)) e
    by_test later true e k false f = absurd (let q : false ≡ true = sym f ∙ ap (includes (numbers row))
        (eqb-true r.number n e) ∙ h in cc)
    by_test later false e k true f = ap (λ b. b || list_any (λ x. eqb x.number n) (own_records row rs)) e ∙ later k
    by_test later false e k false f = later k

occurs : (p : ℕ → Bool) (n : ℕ) (rs : List FieldRecord) → list_all (λ r. p r.number) rs ≡ true → list_any
    (λ r. eqb r.number n) rs ≡ true → p n ≡ true
occurs p n [] h a = absurd cc
occurs p n (r ∷ rs) h a = by_test (λ k. occurs p n rs (and_split _ _ h).1 k) (eqb r.number n) refl a
  where
    by_test : (list_any (λ x. eqb x.number n) rs ≡ true → p n ≡ true) → (b : Bool) → eqb r.number n ≡ b →
        (b || list_any (λ x. eqb x.number n) rs) ≡ true → p n ≡ true
    by_test later true e k = ap p (sym (eqb-true r.number n e)) ∙ (and_split _ _ h).0
    by_test later false e k = later k

module _ (T S : List Row) (part : is_within_template T S ≡ true) (dT : are_distinct (all_numbers T) ≡ true)
    (dS : are_distinct (all_numbers S) ≡ true) where
  ok : ℕ → Bool
  ok m = includes (all_numbers S) m || not (includes (all_numbers T) m)

  oneofs : list_all is_oneof T ≡ true
  oneofs = (and_split _ _ (and_split _ _ (and_split _ _ part).0).0).0

  singles : list_all (λ row. not (is_repeated row)) S ≡ true
  singles = (and_split _ _ (and_split _ _ (and_split _ _ part).0).0).1

  known_numbers : (m : ℕ) → includes (all_numbers S) m ≡ true → (includes (all_numbers T) m ≡ true) ×
      (kind_at S m ≡ kind_at T m)
  known_numbers m h =
      let e = and_split _ _ (at_number (λ n. includes (all_numbers T) n && same_kind (kind_at S n) (kind_at T n))
      (all_numbers S) m (and_split _ _ (and_split _ _ part).0).1 h) in
      (e.0, kind_same (kind_at S m) (kind_at T m) e.1)

  same_places : (n m : ℕ) → includes (all_numbers S) n ≡ true → includes (all_numbers S) m ≡ true → eqb (row_index S n)
      (row_index S m) ≡ eqb (row_index T n) (row_index T m)
  same_places n m h g = same_is _ _ (at_number (λ j. agree (eqb (row_index S n) (row_index S j))
      (eqb (row_index T n) (row_index T j))) (all_numbers S) m
      (at_number (λ i. list_all (λ j. agree (eqb (row_index S i) (row_index S j)) (eqb (row_index T i) (row_index T j)))
      (all_numbers S)) (all_numbers S) n (and_split _ _ part).1 h) g)

  both : (m : ℕ) → ok m ≡ true → includes (all_numbers T) m ≡ includes (all_numbers S) m
  unfolding ok
  both m h = by_test (includes (all_numbers S) m) refl h
    where
      by_test : (b : Bool) → includes (all_numbers S) m ≡ b → (b || not (includes (all_numbers T) m)) ≡ true → includes
          (all_numbers T) m ≡ includes (all_numbers S) m
      by_test true e g = (known_numbers m e).0 ∙ sym e
      by_test false e g = not_true _ g ∙ sym e

  same_row : (n m : ℕ) → includes (all_numbers S) n ≡ true → ok m ≡ true → includes (numbers (row_at T n)) m ≡ includes
      (numbers (row_at S n)) m
  same_row n m h g =
      in_row T n m dT (known_numbers n h).0 ∙ ap (λ b. b && eqb (row_index T n) (row_index T m)) (both m g) ∙ by_test
      (includes (all_numbers S) m) refl ∙ sym (in_row S n m dS h)
    where
      by_test : (b : Bool) → includes (all_numbers S) m ≡ b →
          (includes (all_numbers S) m && eqb (row_index T n) (row_index T m)) ≡
          (includes (all_numbers S) m && eqb (row_index S n) (row_index S m))
      by_test true e = ap (λ b. includes (all_numbers S) m && b) (sym (same_places n m h e))
      by_test false e = ap (λ b. b && eqb (row_index T n) (row_index T m)) e ∙ sym
          (ap (λ b. b && eqb (row_index S n) (row_index S m)) e)

  kinds_agree : (n m : ℕ) → includes (all_numbers S) n ≡ true → includes (numbers (row_at S n)) m ≡ true → kind_in_row
      (row_at T n) m ≡ kind_in_row (row_at S n) m
  unfolding ok
  kinds_agree n m h g =
      let in_S : includes (all_numbers S) m ≡ true = (and_split _ _ (sym (in_row S n m dS h) ∙ g)).0 in
      let fine : ok m ≡ true = ap (λ b. b || not (includes (all_numbers T) m)) in_S in
      kind_by_row T n m dT (known_numbers n h).0 (same_row n m h fine ∙ g) ∙ sym (known_numbers m in_S).1 ∙ sym
      (kind_by_row S n m dS h g)

  number_there : (n : ℕ) → includes (all_numbers T) n ≡ true → ok n ≡ true → includes (all_numbers S) n ≡ true
  number_there n h g = sym (both n g) ∙ h

  part_same : (table : ℕ → List Row) (overlay_nested : NestedOverlay) (rs : List FieldRecord) (n : ℕ) → list_all
      (λ r. ok r.number) rs ≡ true → includes (all_numbers T) n ≡ true → list_any (λ r. eqb r.number n) rs ≡ true
      → part_at T (rows_over table overlay_nested T (empty_value T) rs) n ≡ part_at S
      (rows_over table overlay_nested S (empty_value S) rs) n
  part_same table overlay_nested rs n a h o =
      let in_S = number_there n h (occurs ok n rs a o) in
      let mine : includes (numbers (row_at S n)) n ≡ true = in_row S n n dS in_S ∙ and_join _ _ in_S
      (eq-eqb (row_index S n) (row_index S n) refl) in
      part_over table overlay_nested T rs n h
      ∙ ap (λ (xs : List FieldRecord). part_in_row (row_at T n)
      (row_over table overlay_nested (row_at T n) (empty_part (row_at T n)) xs) n)
      (own_same (row_at T n) (row_at S n) (λ r. ok r.number) rs (λ r g. same_row n r.number in_S g) a)
      ∙ row_same table overlay_nested (row_at S n) (row_at T n) n (own_records (row_at S n) rs)
      (row_at_single S n singles in_S) (row_at_oneof T n oneofs h) mine (λ m g. kinds_agree n m in_S g)
      (own_mine (row_at S n) rs) (own_any (row_at S n) n rs mine o)
      ∙ sym (part_over table overlay_nested S rs n in_S)

  record_allowed : (accepts_nested : NestedAcceptance) (r : FieldRecord) → ok r.number ≡ true → accepts_record
      accepts_nested S r ≡ true → accepts_record accepts_nested T r ≡ true
  record_allowed accepts_nested r g a = by_test (includes (all_numbers T) r.number) refl
    where
      by_test : (b : Bool) → includes (all_numbers T) r.number ≡ b → accepts_record accepts_nested T r ≡ true
      by_test false e = none_allowed accepts_nested T r e
      by_test true e =
          let in_S = number_there r.number e g in
          to_allowed accepts_nested T r oneofs dT e (subst (λ k. accepts_value accepts_nested k r.value ≡ true)
          (known_numbers r.number in_S).1 (from_allowed accepts_nested S r singles in_S a))

  all_allowed : (accepts_nested : NestedAcceptance) (rs : List FieldRecord) → list_all (λ r. ok r.number) rs ≡ true →
      list_all (accepts_record accepts_nested S) rs ≡ true → list_all (accepts_record accepts_nested T) rs ≡ true
  all_allowed accepts_nested [] h a = refl
  all_allowed accepts_nested (r ∷ rs) h a = let e = and_split (ok r.number) _ h in let f = and_split
      (accepts_record accepts_nested S r) _ a in and_join _ _ (record_allowed accepts_nested r e.0 f.0)
      (all_allowed accepts_nested rs e.1 f.1)

-- the same of a record list
pub views : (table : ℕ → List Row) (left s t : ℕ) (rs : List FieldRecord) → is_schema (table s) ≡ true → is_schema
    (table t) ≡ true → is_within_template (table s) (table t) ≡ true
    → are_apart (table s) (table t) rs ≡ true → accepts_records table left t rs ≡ true
    → (accepts_records table left s rs ≡ true) × ((n : ℕ) → includes (all_numbers (table s)) n ≡ true → list_any
    (λ r. eqb r.number n) rs ≡ true
    → part_at (table s) (overlay table left s (empty_value (table s)) rs) n ≡ part_at (table t)
    (overlay table left t (empty_value (table t)) rs) n)
unfolding ok
views table left s t rs fs ft part of a =
    let dS = (and_split _ _ ft).1 in
    let dT = (and_split _ _ fs).1 in (
      all_allowed (table s) (table t) part dT dS (accepts_message table left) rs of a,
      λ n h o. part_same (table s)
          (table t) part dT dS table (message_overlay table left) rs n of h o,
    )

pub payload_views : (table : ℕ → List Row) → ViewLaw table
payload_views table left s t payload fs ft part of a =
    let x = accepted_payload_records table left t payload a in
    let v = views table left s t x.0 fs ft part (subst (λ o. are_apart (table s) (table t) (or_empty o) ≡ true) x.1 of)
    x.2 in (
      ap (some_passes (accepts_records table left s)) x.1 ∙ v.0,
      λ n h m.
          ap (λ o. part_at (table s) (overlay table left s (empty_value (table s)) (or_empty o)) n) x.1
          ∙ v.1 n h (subst (λ o. list_any (λ r. eqb r.number n) (or_empty o) ≡ true) x.1 m)
          ∙ sym (ap (λ o. part_at (table t) (overlay table left t (empty_value (table t)) (or_empty o)) n) x.1),
    )
