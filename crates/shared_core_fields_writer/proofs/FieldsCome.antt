-- The fields of a value come in the order that its schema has, each with a part that is written for it.
use Rattle.std.proofs.Common.{◌≡◌, ℕ, ◌<◌, ◌≤◌, List, [], ◌∷◌, ◌++◌, Bool, true, false, cond, not, ◌&&◌}
use Rattle.std.proofs.Common.{Option, Some, None, refl, sym, ap, ◌∙◌, arith}
use Rattle.std.proofs.lemmas.Bool.{ltb-true}
use Rattle.std.proofs.Math.Bool.{and-false}
use Rattle.std.proofs.lemmas.List.Folds.{list_all-append}
use Rattle.shared_core_wire.specs.Encoding.{is_field_number}
use Rattle.shared_core_wire.specs.Schema.{Kind, Row, Plain, Optional, Repeated, OneOf, numbers, includes}
use Rattle.shared_core_wire.specs.Schema.{all_numbers}
use Rattle.shared_core_wire.specs.Acceptance.{accepts_number}
use Rattle.shared_core_wire.specs.Value.{Part, Parts, Absent, Number, Bytes, Nested, Elements, Member, nil, cons}
use Rattle.shared_core_wire.specs.Canonical.{is_default, kind_of, part_levels, levels}
use Rattle.shared_core_wire.specs.Fitting.{is_single, has_shape, NumberFits, BytesFit, PartFits, ElementsFit, Fits}
use Rattle.shared_core_wire.proofs.ReadBack.{distinct_other, not_true}
use Rattle.shared_core_wire.proofs.Runs.{and_split, and_join}
use Rattle.shared_core_codec.specs.Table.{table}
use Rattle.shared_core_codec.specs.RowEncoding.{unpacked}
use Rattle.shared_core_codec.specs.Canonicity.{Next, next_field, found_or, is_plain, may_recur, is_packed}
use Rattle.shared_core_fields.specs.Fields.{FieldPart, list_field, each_field, row_fields, message_fields}
use Rattle.shared_core_fields.proofs.ByValue.{own_kind, row_own, own_number}
use Rattle.shared_core_fields_writer.proofs.Canonical.{Good, good_later, all_good, next_has, widen_one, one_of}
use Rattle.shared_core_fields_writer.proofs.Canonical.{packed_parts}

-- A field of a kind, repeated or not, holds the part as one entry does, or as those of a run do; messages may be nested
-- in it `depth` deep.
abbrev pub Holds : ℕ → Kind × Bool → Part → Type 0
Holds depth f (Number m) = NumberFits f.0 m × (is_packed f ≡ false)
Holds depth f (Bytes bytes) = BytesFit f.0 bytes
Holds depth f (Nested ps) = PartFits table (Nested ps) f.0 × (levels ps < depth)
Holds depth f (Elements (cons p ps)) = (is_packed f ≡ true) × ElementsFit table (cons p ps) f.0
Holds depth f p = ⊥

-- The field may come where these rows are left, and is written.
pub record Turn (depth : ℕ) (left : List Row) (f : FieldPart) (next : Next) : Type 0 where
  pub is : next_field left f.0 ≡ Some next
  pub field : next.field ≡ f.1
  pub low : f.0 < 4294967296
  pub holds : Holds depth f.1 f.2
  pub full : (next.is_plain && is_default f.2) ≡ false
  pub once : is_packed f.1 ≡ true → next_field next.rows f.0 ≡ None

-- The same of each, after those before it.
abbrev pub Comes : ℕ → List Row → List FieldPart → Type 0
Comes depth left [] = Unit {0}
Comes depth left (f ∷ fs) = (next : Next) × Turn depth left f next × Comes depth next.rows fs

-- ---- the rows that are left

-- What comes where some rows are left comes where others are.
abbrev Covers : List Row → List Row → Type 0
Covers left rows = (m : ℕ) (x : Next) → next_field rows m ≡ Some x → next_field left m ≡ Some x

skip : (left : List Row) (row : Row) (rows : List Row) → Good (row ∷ rows) → Covers left (row ∷ rows) → Covers left rows
skip left row rows g c = λ m x e. c m x (widen_one row rows g m x e)

no_next : (rows : List Row) (n : ℕ) → includes (all_numbers rows) n ≡ false → next_field rows n ≡ None
no_next rows n h = by_next (next_field rows n) refl
  where
    by_next : (o : Option Next) → next_field rows n ≡ o → o ≡ None
    by_next None e = refl
    by_next (Some x) e = absurd (let some = next_has rows n x e in cc)

-- ---- kinds

unpacked_one : (k : Kind) → is_packed (k, false) ≡ false
unpacked_one k = and-false (accepts_number k)

unpacked_each : (k : Kind) → unpacked k ≡ true → is_packed (k, true) ≡ false
unpacked_each k u = rw (not_true _ u) refl

packed_once : (f : Kind × Bool) → is_packed f ≡ true → may_recur f ≡ false
packed_once f p = let e = packed_parts f p in rw (e.0, e.1) refl

holds_single : (depth : ℕ) (f : Kind × Bool) (p : Part) → is_packed f ≡ false → is_single p ≡ true → PartFits table p
    f.0 → part_levels p ≤ depth → Holds depth f p
unfolding PartFits levels
holds_single depth f Absent u i h l = absurd cc
holds_single depth f (Number m) u i h l = (h, u)
holds_single depth f (Bytes bytes) u i h l = h
holds_single depth f (Nested ps) u i h l = (h, omega (arith, l))
holds_single depth f (Elements ps) u i h l = absurd cc
holds_single depth f (Member n p) u i h l = absurd cc

-- ---- one field of a row

-- What the first row finds for a number of its own.
abbrev own_next : Row → List Row → ℕ → Next
own_next row rows n = record {
  field = own_kind row n;
  is_plain = is_plain row;
  rows = cond (may_recur (own_kind row n)) (row ∷ rows) rows;
}

own_found : (row : Row) (rows : List Row) (n : ℕ) → includes (numbers row) n ≡ true → next_field (row ∷ rows) n ≡ Some
    (own_next row rows n)
own_found row rows n i = ap (found_or row rows (next_field rows n)) (row_own row n i)

module _ (depth : ℕ) (left : List Row) (row : Row) (rows : List Row) (c : Covers left (row ∷ rows))
    (g : Good (row ∷ rows)) where
  own_low : (n : ℕ) → includes (numbers row) n ≡ true → n < 4294967296
  own_low n i =
      let own = one_of is_field_number (numbers row) n (and_split _ _
      (sym (list_all-append is_field_number (numbers row) (all_numbers rows)) ∙ g.fields)).0 i in
      let low : n < 536870912 = ltb-true _ _ (and_split _ _ own).1 in
      omega (arith, low)

  turn : (n : ℕ) (p : Part) → includes (numbers row) n ≡ true → Holds depth (own_kind row n) p → (is_plain row &&
      is_default p) ≡ false → Turn depth left (n, own_kind row n, p) (own_next row rows n)
  turn n p i h d = record {
    is = c n (own_next row rows n) (own_found row rows n i);
    field = refl;
    low = own_low n i;
    holds = h;
    full = d;
    once = λ u.
        ap (λ b. next_field (cond b (row ∷ rows) rows) n) (packed_once (own_kind row n) u)
        ∙ no_next rows n (distinct_other (numbers row) (all_numbers rows) n g.distinct i);
  }

  -- the fields after those of the row
  module _ (fs : List FieldPart) (later : (l : List Row) → Covers l rows → Comes depth l fs) where
    none_comes : Comes depth left fs
    none_comes = later left (skip left row rows g c)

    after_one : (b : Bool) → Comes depth (cond b (row ∷ rows) rows) fs
    after_one true = later (row ∷ rows) (λ m x e. widen_one row rows g m x e)
    after_one false = later rows (λ m x e. e)

    one_comes : (n : ℕ) (p : Part) → includes (numbers row) n ≡ true → Holds depth (own_kind row n) p → (is_plain row &&
        is_default p) ≡ false → Comes depth left ((n, own_kind row n, p) ∷ fs)
    one_comes n p i h d = (own_next row rows n, turn n p i h d, after_one (may_recur (own_kind row n)))

-- the fields of a plain field, which is left out if it is a default
plain_comes : (depth : ℕ) (left : List Row) (n : ℕ) (k : Kind) (rows : List Row) → Covers left (Plain n k ∷ rows) → Good
    (Plain n k ∷ rows) → (fs : List FieldPart) → ((l : List Row) → Covers l rows → Comes depth l fs) → (p : Part) →
    Holds depth (k, false) p → (b : Bool) → is_default p ≡ b → Comes depth left (cond b [] ((n, (k, false), p) ∷ []) ++
    fs)
plain_comes depth left n k rows c g fs later p h true d = none_comes depth left (Plain n k) rows c g fs later
plain_comes depth left n k rows c g fs later p h false d = one_comes depth left (Plain n k) rows c g fs later n p
    (own_number n) h d

-- the elements of a repeated field
each_comes : (depth : ℕ) (left : List Row) (n : ℕ) (k : Kind) (rows : List Row) → unpacked k ≡ true → Covers left
    (Repeated n k ∷ rows) → Good (Repeated n k ∷ rows) → (fs : List FieldPart) →
    ((l : List Row) → Covers l rows → Comes depth l fs) → (ps : Parts) → ElementsFit table ps k → levels ps ≤ depth →
    Comes depth left (each_field n k ps ++ fs)
unfolding PartFits levels
each_comes depth left n k rows u c g fs later nil h l = none_comes depth left (Repeated n k) rows c g fs later
each_comes depth left n k rows u c g fs later (cons p ps) h l =
    let low_first : part_levels p ≤ depth = omega arith in
    let low_rest : levels ps ≤ depth = omega arith in (
      own_next (Repeated n k) rows n,
      turn depth left (Repeated n k) rows c g n p (own_number n) (holds_single depth (k, true) p (unpacked_each k u) h.0
          h.1 low_first) refl,
      each_comes depth (cond (unpacked k) (Repeated n k ∷ rows) rows) n k rows u
          (λ m x e. ap (λ b. next_field (cond b (Repeated n k ∷ rows) rows) m) u ∙ e) g fs later ps h.2 low_rest,
    )

-- the elements of any repeated field: those of numbers come at once
list_comes : (depth : ℕ) (left : List Row) (n : ℕ) (k : Kind) (rows : List Row) (b : Bool) → accepts_number k ≡ b →
    Covers left (Repeated n k ∷ rows) → Good (Repeated n k ∷ rows) → (fs : List FieldPart) →
    ((l : List Row) → Covers l rows → Comes depth l fs) → (ps : Parts) → ElementsFit table ps k → levels ps ≤ depth →
    Comes depth left (cond b (list_field n k ps) (each_field n k ps) ++ fs)
list_comes depth left n k rows true a c g fs later nil h l = none_comes depth left (Repeated n k) rows c g fs later
list_comes depth left n k rows true a c g fs later (cons p ps) h l =
    one_comes depth left (Repeated n k) rows c g fs later n (Elements (cons p ps)) (own_number n)
    (and_join _ _ a refl, h) refl
list_comes depth left n k rows false a c g fs later ps h l = each_comes depth left n k rows (ap not a) c g fs later ps h
    l

-- ---- rows of the schema

row_comes : (depth : ℕ) (left : List Row) (row : Row) (rows : List Row) → Covers left (row ∷ rows) → Good (row ∷ rows) →
    (fs : List FieldPart) → ((l : List Row) → Covers l rows → Comes depth l fs) → (p : Part) → has_shape row p ≡ true →
    PartFits table p (kind_of row p) → part_levels p ≤ depth → Comes depth left (row_fields row p ++ fs)
unfolding PartFits levels
row_comes depth left (Plain n k) rows c g fs later Absent i h l = absurd cc
row_comes depth left (Plain n k) rows c g fs later (Elements ps) i h l = absurd cc
row_comes depth left (Plain n k) rows c g fs later (Member m p) i h l = absurd cc
row_comes depth left (Plain n k) rows c g fs later (Number m) i h l =
    plain_comes depth left n k rows c g fs later (Number m) (h, unpacked_one k) (is_default (Number m)) refl
row_comes depth left (Plain n k) rows c g fs later (Bytes bytes) i h l =
    plain_comes depth left n k rows c g fs later (Bytes bytes) h (is_default (Bytes bytes)) refl
row_comes depth left (Plain n k) rows c g fs later (Nested ps) i h l =
    plain_comes depth left n k rows c g fs later (Nested ps) (holds_single depth (k, false) (Nested ps) (unpacked_one k)
    i h l) false refl
row_comes depth left (Optional n k) rows c g fs later Absent i h l =
    none_comes depth left (Optional n k) rows c g fs later
row_comes depth left (Optional n k) rows c g fs later (Elements ps) i h l = absurd cc
row_comes depth left (Optional n k) rows c g fs later (Member m p) i h l = absurd cc
row_comes depth left (Optional n k) rows c g fs later (Number m) i h l =
    one_comes depth left (Optional n k) rows c g fs later n (Number m) (own_number n) (h, unpacked_one k) refl
row_comes depth left (Optional n k) rows c g fs later (Bytes bytes) i h l =
    one_comes depth left (Optional n k) rows c g fs later n (Bytes bytes) (own_number n) h refl
row_comes depth left (Optional n k) rows c g fs later (Nested ps) i h l =
    one_comes depth left (Optional n k) rows c g fs later n (Nested ps) (own_number n) (holds_single depth (k, false)
    (Nested ps) (unpacked_one k) i h l) refl
row_comes depth left (Repeated n k) rows c g fs later (Elements ps) i h l =
    list_comes depth left n k rows (accepts_number k) refl c g fs later ps h l
row_comes depth left (Repeated n k) rows c g fs later p i h l = absurd cc
row_comes depth left (OneOf members) rows c g fs later Absent i h l =
    none_comes depth left (OneOf members) rows c g fs later
row_comes depth left (OneOf members) rows c g fs later (Member m p) i h l =
    let e = and_split _ _ i in
    one_comes depth left (OneOf members) rows c g fs later m p e.0 (holds_single depth (own_kind (OneOf members) m) p
    (unpacked_one (own_kind (OneOf members) m).0) e.1 h l) refl
row_comes depth left (OneOf members) rows c g fs later p i h l = absurd cc

fields_come : (depth : ℕ) (v : Parts) (rows left : List Row) → Covers left rows → Good rows → Fits table v rows → levels
    v ≤ depth → Comes depth left (message_fields rows v)
unfolding PartFits levels
fields_come depth nil [] left c g h l = tt
fields_come depth nil (row ∷ rows) left c g h l = absurd h
fields_come depth (cons p ps) [] left c g h l = absurd h
fields_come depth (cons p ps) (row ∷ rows) left c g h l =
    let low_row : part_levels p ≤ depth = omega arith in
    let low_rest : levels ps ≤ depth = omega arith in
    row_comes depth left row rows c g (message_fields rows ps)
    (λ k d. fields_come depth ps rows k d (good_later row rows g) h.2 low_rest) p h.0 h.1 low_row

pub message_comes : (depth s : ℕ) (v : Parts) → Fits table v (table s) → levels v ≤ depth → Comes depth (table s)
    (message_fields (table s) v)
message_comes depth s v h l = fields_come depth v (table s) (table s) (λ m x e. e) (all_good s) h l
