-- What a well-formed payload means fits its schema, is at most one hundred levels deep, and its bytes are the
-- payload's.
use Rattle.std.proofs.Common.{◌≡◌, ℕ, zero, suc, ◌^◌, ◌<◌, ◌≤◌, List, [], ◌∷◌, ◌++◌, Bool, true, false, cond, ◌&&◌}
use Rattle.std.proofs.Common.{Option, Some, None, refl, sym, ap, subst, ◌∙◌, append-nil, arith, eqb, eq-eqb, ltb}
use Rattle.std.proofs.lemmas.Bool.{eqb-true, lt-ltb, ltb-true}
use Rattle.std.proofs.lemmas.Str.{is_utf8-from_IsUtf8, IsUtf8-nil}
use Rattle.std.specs.List.{list_all}
use Rattle.base64.specs.GeneralPurpose.{IsBytes}
use Rattle.base64.proofs.EngineFacts.{front_bytes}
use Rattle.shared_core_wire.specs.Grammar.{RecordValue, Varint, Fixed64, Length, Group, Fixed32, FieldRecord, content}
use Rattle.shared_core_wire.specs.Grammar.{IsVarint, IsSequence, IsRecordBody, IsGroupContent, IsRecordListWithin}
use Rattle.shared_core_wire.specs.Reader.{packed_numbers, record_list}
use Rattle.shared_core_wire.specs.Schema.{Kind, Row, U32, U64, Boolean, Enumeration, Text, ByteString, Message, Plain}
use Rattle.shared_core_wire.specs.Schema.{Optional, Repeated, OneOf, numbers, includes, member_kind}
use Rattle.shared_core_wire.specs.Value.{Part, Parts, Absent, Number, Bytes, Nested, Elements, Member, nil, cons, ◌+++◌}
use Rattle.shared_core_wire.specs.Value.{one_part, default_of, empty_value}
use Rattle.shared_core_wire.specs.Acceptance.{NestedAcceptance, accepts_number, accepts_numbers, accepts_value}
use Rattle.shared_core_wire.specs.Acceptance.{accepts_element, accepts_in_row, row_allows}
use Rattle.shared_core_wire.specs.Acceptance.{accepts_record, some_passes, accepts_message}
use Rattle.shared_core_wire.specs.Overlay.{NestedOverlay, last, values, joined_contents, own_records, all_numbered}
use Rattle.shared_core_wire.specs.Overlay.{last_run, number_part, scalar_part}
use Rattle.shared_core_wire.specs.Overlay.{message_in, number_parts, packed_elements}
use Rattle.shared_core_wire.specs.Overlay.{with_elements, member_at, singular_of, singular_over, number_elements}
use Rattle.shared_core_wire.specs.Overlay.{elements_of, all_elements, row_over, rows_over, or_empty, message_overlay}
use Rattle.shared_core_wire.specs.Canonical.{kind_of, part_levels, levels}
use Rattle.shared_core_wire.specs.Fitting.{is_single, has_shape, PartFits, ElementsFit, Fits}
use Rattle.shared_core_wire.proofs.Merging.{accepts_payload-append}
use Rattle.shared_core_wire.proofs.RecordLists.{records_reads}
use Rattle.shared_core_wire.proofs.Runs.{and_split, and_join}
use Rattle.shared_core_wire.proofs.Sequences.{packed_reads}
use Rattle.shared_core_codec.specs.Table.{table}
use Rattle.shared_core_codec.specs.Payloads.{IsAccepted, payload_meaning}
use Rattle.shared_core_json.proofs.PlainScalars.{is_scalar, plain_scalars, have_scalars}

-- ---- numbers

smalls : (bytes ns : List ℕ) → IsSequence IsVarint bytes ns → list_all (λ n. ltb n (2 ^ 64)) ns ≡ true
smalls bytes [] h = refl
smalls bytes (n ∷ ns) h = and_join _ _ (lt-ltb n (2 ^ 64) h.3.fits) (smalls h.1 ns h.4)

small_numbers : (bytes ns : List ℕ) → packed_numbers bytes ≡ Some ns → list_all (λ n. ltb n (2 ^ 64)) ns ≡ true
small_numbers bytes ns e = smalls bytes ns (packed_reads bytes ns e)

-- ---- what the bytes of a value are

abbrev mutual
  pub PartBytes : Part → Type 0
  PartBytes Absent = Unit {0}
  PartBytes (Number n) = Unit {0}
  PartBytes (Bytes b) = IsBytes b
  PartBytes (Nested ps) = PartsBytes ps
  PartBytes (Elements ps) = PartsBytes ps
  PartBytes (Member n p) = PartBytes p

  pub PartsBytes : Parts → Type 0
  PartsBytes nil = Unit {0}
  PartsBytes (cons p ps) = PartBytes p × PartsBytes ps

-- ---- the values of records that are read

pub back_bytes : (a b : List ℕ) → IsBytes (a ++ b) → IsBytes b
back_bytes [] b h = h
back_bytes (x ∷ a) b h = back_bytes a b (λ i. h (suc i))

abbrev ValueRead : RecordValue → Type 0
ValueRead (Varint n) = n < 2 ^ 64
ValueRead (Fixed64 b) = Unit {0}
ValueRead (Length b) = IsBytes b
ValueRead (Group b) = Unit {0}
ValueRead (Fixed32 b) = Unit {0}

abbrev AllRead : List FieldRecord → Type 0
AllRead [] = Unit {0}
AllRead (r ∷ rs) = ValueRead r.value × AllRead rs

value_read : (C : List ℕ → Type 0) (body : List ℕ) (n : ℕ) (w : RecordValue) → IsRecordBody C body n w → IsBytes body →
    ValueRead w
value_read C body n (Varint m) h b = h.fits
value_read C body n (Fixed64 bs) h b = tt
value_read C body n (Length bs) h b = back_bytes h.0 bs (subst IsBytes h.2 b)
value_read C body n (Group bs) h b = tt
value_read C body n (Fixed32 bs) h b = tt

all_read : (left : ℕ) (bytes : List ℕ) (rs : List FieldRecord) → IsRecordListWithin left bytes rs → IsBytes bytes →
    AllRead rs
all_read left bytes [] h b = tt
all_read left bytes (r ∷ rs) h b =
    let whole = subst IsBytes h.2 b in
    let one = subst IsBytes h.3.parts (front_bytes h.0 h.1 whole) in (
      value_read (IsGroupContent left) h.3.body r.number r.value h.3.valued (back_bytes h.3.key h.3.body one),
      all_read
          left h.1 rs h.4 (back_bytes h.0 h.1 whole),
    )

join_bytes : (a b : List ℕ) → IsBytes a → IsBytes b → IsBytes (a ++ b)
join_bytes [] b h g i = g i
join_bytes (x ∷ a) b h g zero = h 0
join_bytes (x ∷ a) b h g (suc i) = join_bytes a b (λ k. h (suc k)) g i

no_bytes : IsBytes []
no_bytes i = omega arith

-- ---- values of a schema

default_low : (k : Kind) → part_levels (default_of k) ≡ 0
unfolding part_levels
default_low U32 = refl
default_low U64 = refl
default_low Boolean = refl
default_low Enumeration = refl
default_low Text = refl
default_low ByteString = refl
default_low (Message s) = refl

empty_low : (rows : List Row) → levels (empty_value rows) ≡ 0
unfolding part_levels
empty_low [] = refl
empty_low (Plain n k ∷ rows) = omega (arith, default_low k, empty_low rows)
empty_low (Optional n k ∷ rows) = omega (arith, empty_low rows)
empty_low (Repeated n k ∷ rows) = omega (arith, empty_low rows)
empty_low (OneOf members ∷ rows) = omega (arith, empty_low rows)

-- the value of a message that may be nested this deep, itself included
record IsGood (bound s : ℕ) (v : Parts) : Type 0 where
  fits : Fits table v (table s)
  low : suc (levels v) ≤ bound
  bytes : PartsBytes v

module _ (bound : ℕ) where
  -- a single value
  record Single (p : Part) (k : Kind) : Type 0 where
    single : is_single p ≡ true
    fits : PartFits table p k
    low : part_levels p ≤ bound
    bytes : PartBytes p

  -- what a field holds
  record Held (p : Part) (k : Kind) : Type 0 where
    fits : PartFits table p k
    low : part_levels p ≤ bound
    bytes : PartBytes p

  -- elements
  record Listed (ps : Parts) (k : Kind) : Type 0 where
    fits : ElementsFit table ps k
    low : levels ps ≤ bound
    bytes : PartsBytes ps

  -- what a row holds
  record InRow (row : Row) (p : Part) : Type 0 where
    shape : has_shape row p ≡ true
    fits : PartFits table p (kind_of row p)
    low : part_levels p ≤ bound
    bytes : PartBytes p

  -- what rows hold
  record InRows (rows : List Row) (v : Parts) : Type 0 where
    fits : Fits table v rows
    low : levels v ≤ bound
    bytes : PartsBytes v

  absent_held : (k : Kind) → Held Absent k
  unfolding PartFits part_levels
  absent_held k = record { fits = tt; low = omega arith; bytes = tt }

  default_in : (n : ℕ) (k : Kind) → is_scalar k ≡ true → InRow (Plain n k) (default_of k)
  unfolding PartFits part_levels
  default_in n U32 h = record { shape = refl; fits = omega arith; low = omega arith; bytes = tt }
  default_in n U64 h = record { shape = refl; fits = omega arith; low = omega arith; bytes = tt }
  default_in n Boolean h = record { shape = refl; fits = omega arith; low = omega arith; bytes = tt }
  default_in n Enumeration h = record { shape = refl; fits = omega arith; low = omega arith; bytes = tt }
  default_in n Text h = record {
    shape = refl;
    fits = is_utf8-from_IsUtf8 [] IsUtf8-nil;
    low = omega arith;
    bytes =
        no_bytes;
  }
  default_in n ByteString h = record { shape = refl; fits = tt; low = omega arith; bytes = no_bytes }
  default_in n (Message s) h = absurd cc

  one_more : (row : Row) (rows : List Row) (p : Part) (v : Parts) → InRow row p → InRows rows v → InRows (row ∷ rows)
      (cons p v)
  unfolding PartFits part_levels
  one_more row rows p v h g = record {
    fits = (h.shape, h.fits, g.fits);
    low = omega (arith, h.low, g.low);
    bytes =
        (h.bytes, g.bytes);
  }

  empty_in : (rows : List Row) → plain_scalars rows ≡ true → InRows rows (empty_value rows)
  unfolding PartFits part_levels plain_scalars
  empty_in [] h = record { fits = tt; low = omega arith; bytes = tt }
  empty_in (Plain n k ∷ rows) h = let e = and_split _ _ h in one_more (Plain n k) rows (default_of k) (empty_value rows)
      (default_in n k e.0) (empty_in rows e.1)
  empty_in (Optional n k ∷ rows) h = one_more (Optional n k) rows Absent (empty_value rows)
      (record { shape = refl; fits = tt; low = omega arith; bytes = tt }) (empty_in rows h)
  empty_in (Repeated n k ∷ rows) h = one_more (Repeated n k) rows (Elements nil) (empty_value rows)
      (record { shape = refl; fits = tt; low = omega arith; bytes = tt }) (empty_in rows h)
  empty_in (OneOf members ∷ rows) h = one_more (OneOf members) rows Absent (empty_value rows)
      (record { shape = refl; fits = tt; low = omega arith; bytes = tt }) (empty_in rows h)

  optional_shape : (n : ℕ) (k : Kind) (p : Part) → is_single p ≡ true → has_shape (Optional n k) p ≡ true
  optional_shape n k Absent h = refl
  optional_shape n k (Number m) h = h
  optional_shape n k (Bytes b) h = h
  optional_shape n k (Nested ps) h = h
  optional_shape n k (Elements ps) h = h
  optional_shape n k (Member m p) h = h

  -- ---- elements

  one_listed : (p : Part) (k : Kind) → Single p k → Listed (one_part p) k
  unfolding PartFits part_levels
  one_listed p k h = record { fits = (h.single, h.fits, tt); low = omega (arith, h.low); bytes = (h.bytes, tt) }

  joined_listed : (ps qs : Parts) (k : Kind) → Listed ps k → Listed qs k → Listed (ps +++ qs) k
  unfolding PartFits part_levels
  joined_listed nil qs k h g = g
  joined_listed (cons p ps) qs k h g =
      let more = joined_listed ps qs k (record { fits = h.fits.2; low = omega (arith, h.low); bytes = h.bytes.1 }) g in
      record {
        fits = (h.fits.0, h.fits.1, more.fits);
        low = omega (arith, h.low, more.low);
        bytes =
            (h.bytes.0, more.bytes);
      }

  -- ---- scalars

  truth_fits : (b : Bool) → cond b 0 1 < 2
  truth_fits true = omega arith
  truth_fits false = omega arith

  number_single : (k : Kind) (n : ℕ) → accepts_number k ≡ true → n < 2 ^ 64 → Single (number_part k n) k
  unfolding PartFits part_levels
  number_single U32 n a h = record { single = refl; fits = omega arith; low = omega arith; bytes = tt }
  number_single U64 n a h = record { single = refl; fits = h; low = omega arith; bytes = tt }
  number_single Boolean n a h = record { single = refl; fits = truth_fits (eqb n 0); low = omega arith; bytes = tt }
  number_single Enumeration n a h = record { single = refl; fits = omega arith; low = omega arith; bytes = tt }
  number_single Text n a h = absurd cc
  number_single ByteString n a h = absurd cc
  number_single (Message s) n a h = absurd cc

  numbers_listed : (k : Kind) (ns : List ℕ) → accepts_number k ≡ true → list_all (λ n. ltb n (2 ^ 64)) ns ≡ true →
      Listed (number_parts k ns) k
  unfolding PartFits part_levels
  numbers_listed k [] a h = record { fits = tt; low = omega arith; bytes = tt }
  numbers_listed k (n ∷ ns) a h =
      let e = and_split _ _ h in
      let one = number_single k n a (ltb-true _ _ e.0) in
      let more = numbers_listed k ns a e.1 in
      record {
        fits = (one.single, one.fits, more.fits);
        low = omega (arith, one.low, more.low);
        bytes = (one.bytes, more.bytes);
      }

  run_listed : (k : Kind) (o : Option (List ℕ)) → accepts_number k ≡ true → ((ns : List ℕ) → o ≡ Some ns → list_all
      (λ n. ltb n (2 ^ 64)) ns ≡ true) → Listed (packed_elements k o) k
  unfolding PartFits part_levels
  run_listed k None a h = record { fits = tt; low = omega arith; bytes = tt }
  run_listed k (Some ns) a h = numbers_listed k ns a (h ns refl)

  module _ (nested : NestedOverlay) (accepts : NestedAcceptance)
      (some : (s : ℕ) (b : List ℕ) → accepts s b ≡ true → 1 ≤ bound)
      (joined : (s : ℕ) (a b : List ℕ) → accepts s a ≡ true → accepts s b ≡ true → accepts s (a ++ b) ≡ true)
      (good : (s : ℕ) (v : Parts) (b : List ℕ) → accepts s b ≡ true → IsBytes b → IsGood bound s v → IsGood bound s
      (nested s v b)) where
    bytes_single : (k : Kind) (b : List ℕ) → is_scalar k ≡ true → accepts_value accepts k (Length b) ≡ true → IsBytes b
        → Single (Bytes b) k
    unfolding PartFits part_levels
    bytes_single Text b i a h = record { single = refl; fits = a; low = omega arith; bytes = h }
    bytes_single ByteString b i a h = record { single = refl; fits = tt; low = omega arith; bytes = h }
    bytes_single U32 b i a h = absurd cc
    bytes_single U64 b i a h = absurd cc
    bytes_single Boolean b i a h = absurd cc
    bytes_single Enumeration b i a h = absurd cc
    bytes_single (Message s) b i a h = absurd cc

    scalar_single : (k : Kind) (w : RecordValue) → is_scalar k ≡ true → accepts_value accepts k w ≡ true → ValueRead w →
        Single (scalar_part k w) k
    scalar_single k (Varint n) i a h = number_single k n a h
    scalar_single k (Length b) i a h = bytes_single k b i a h
    scalar_single k (Fixed64 b) i a h = absurd cc
    scalar_single k (Group b) i a h = absurd cc
    scalar_single k (Fixed32 b) i a h = absurd cc

    -- ---- messages

    empty_good : (s : ℕ) → 1 ≤ bound → IsGood bound s (empty_value (table s))
    empty_good s h = let e = empty_in (table s) (have_scalars s) in record
        { fits = e.fits; low = omega (arith, empty_low (table s), h); bytes = e.bytes }

    held_good : (s : ℕ) (p : Part) → 1 ≤ bound → Held p (Message s) → IsGood bound s
        (message_in (empty_value (table s)) p)
    unfolding PartFits part_levels
    held_good s Absent o h = empty_good s o
    held_good s (Number n) o h = empty_good s o
    held_good s (Bytes b) o h = empty_good s o
    held_good s (Nested ps) o h = record { fits = h.fits; low = h.low; bytes = h.bytes }
    held_good s (Elements ps) o h = empty_good s o
    held_good s (Member n p) o h = empty_good s o

    good_single : (s : ℕ) (v : Parts) → IsGood bound s v → Single (Nested v) (Message s)
    unfolding PartFits part_levels
    good_single s v h = record { single = refl; fits = h.fits; low = h.low; bytes = h.bytes }

    -- ---- occurrences

    abbrev Taken : Kind → List RecordValue → Type 0
    Taken k [] = Unit {0}
    Taken k (w ∷ ws) = (accepts_value accepts k w ≡ true) × ValueRead w × Taken k ws

    last_taken : (k : Kind) (w : RecordValue) (ws : List RecordValue) → Taken k (w ∷ ws) →
        (accepts_value accepts k (last w ws) ≡ true) × ValueRead (last w ws)
    last_taken k w [] t = (t.0, t.1)
    last_taken k w (v ∷ ws) t = last_taken k v ws t.2

    content_taken : (s : ℕ) (w : RecordValue) → accepts_value accepts (Message s) w ≡ true → ValueRead w →
        (accepts s (content w) ≡ true) × IsBytes (content w)
    content_taken s (Varint n) a h = absurd cc
    content_taken s (Fixed64 b) a h = absurd cc
    content_taken s (Length b) a h = (a, h)
    content_taken s (Group b) a h = absurd cc
    content_taken s (Fixed32 b) a h = absurd cc

    contents_taken : (s : ℕ) (w : RecordValue) (ws : List RecordValue) → Taken (Message s) (w ∷ ws) →
        (accepts s (joined_contents (w ∷ ws)) ≡ true) × IsBytes (joined_contents (w ∷ ws))
    contents_taken s w [] t =
        let c = content_taken s w t.0 t.1 in
        (ap (accepts s) (append-nil (content w)) ∙ c.0, subst IsBytes (sym (append-nil (content w))) c.1)
    contents_taken s w (v ∷ ws) t =
        let c = content_taken s w t.0 t.1 in
        let more = contents_taken s v ws t.2 in (
          joined s (content w) (joined_contents (v ∷ ws)) c.0 more.0,
          join_bytes (content w) (joined_contents (v ∷ ws))
              c.1 more.1,
        )

    last_single : (k : Kind) (w : RecordValue) (ws : List RecordValue) → is_scalar k ≡ true → Taken k (w ∷ ws) → Single
        (scalar_part k (last w ws)) k
    last_single k w ws i t = let l = last_taken k w ws t in scalar_single k (last w ws) i l.0 l.1

    singular_single : (k : Kind) (p : Part) (w : RecordValue) (ws : List RecordValue) → Held p k → Taken k (w ∷ ws) →
        Single (singular_of table nested k p w ws) k
    singular_single U32 p w ws h t = last_single U32 w ws refl t
    singular_single U64 p w ws h t = last_single U64 w ws refl t
    singular_single Boolean p w ws h t = last_single Boolean w ws refl t
    singular_single Enumeration p w ws h t = last_single Enumeration w ws refl t
    singular_single Text p w ws h t = last_single Text w ws refl t
    singular_single ByteString p w ws h t = last_single ByteString w ws refl t
    singular_single (Message s) p w ws h t =
        let c = contents_taken s w ws t in
        good_single s _ (good s (message_in (empty_value (table s)) p) (joined_contents (w ∷ ws)) c.0 c.1
        (held_good s p (some s (joined_contents (w ∷ ws)) c.0) h))

    -- ---- elements of occurrences

    number_listed : (k : Kind) (w : RecordValue) → accepts_number k ≡ true → accepts_numbers w ≡ true → ValueRead w →
        Listed (number_elements k w) k
    number_listed k (Varint n) n_is a h = one_listed _ k (number_single k n n_is h)
    number_listed k (Length b) n_is a h = run_listed k (packed_numbers b) n_is (λ ns e. small_numbers b ns e)
    number_listed k (Fixed64 b) n_is a h = absurd cc
    number_listed k (Group b) n_is a h = absurd cc
    number_listed k (Fixed32 b) n_is a h = absurd cc

    element_listed : (k : Kind) (w : RecordValue) → accepts_element accepts k w ≡ true → ValueRead w → Listed
        (elements_of table nested k w) k
    element_listed U32 w a h = number_listed U32 w refl a h
    element_listed U64 w a h = number_listed U64 w refl a h
    element_listed Boolean w a h = number_listed Boolean w refl a h
    element_listed Enumeration w a h = number_listed Enumeration w refl a h
    element_listed (Message s) (Length b) a h = one_listed _ (Message s)
        (good_single s _ (good s (empty_value (table s)) b a h (empty_good s (some s b a))))
    element_listed (Message s) (Varint n) a h = absurd cc
    element_listed (Message s) (Fixed64 b) a h = absurd cc
    element_listed (Message s) (Group b) a h = absurd cc
    element_listed (Message s) (Fixed32 b) a h = absurd cc
    element_listed Text w a h = one_listed _ Text (scalar_single Text w refl a h)
    element_listed ByteString w a h = one_listed _ ByteString (scalar_single ByteString w refl a h)

    abbrev TakenEach : Kind → List RecordValue → Type 0
    TakenEach k [] = Unit {0}
    TakenEach k (w ∷ ws) = (accepts_element accepts k w ≡ true) × ValueRead w × TakenEach k ws

    elements_listed : (k : Kind) (ws : List RecordValue) → TakenEach k ws → Listed (all_elements table nested k ws) k
    unfolding PartFits part_levels
    elements_listed k [] t = record { fits = tt; low = omega arith; bytes = tt }
    elements_listed k (w ∷ ws) t = joined_listed (elements_of table nested k w) (all_elements table nested k ws) k
        (element_listed k w t.0 t.1) (elements_listed k ws t.2)

    -- ---- the records of a row

    abbrev RowTakes : Row → List FieldRecord → Type 0
    RowTakes row [] = Unit {0}
    RowTakes row (r ∷ rs) = (includes (numbers row) r.number ≡ true) × (accepts_in_row accepts row r ≡ true) × ValueRead
        r.value × RowTakes row rs

    own_taken : (row : Row) (rs : List FieldRecord) → list_all (λ r. row_allows accepts r row) rs ≡ true → AllRead rs →
        RowTakes row (own_records row rs)
    own_taken row [] a h = tt
    own_taken row (r ∷ rs) a h = let e = and_split _ _ a in by_test (own_taken row rs e.1 h.1)
        (includes (numbers row) r.number) refl e.0
      where
        by_test : RowTakes row (own_records row rs) → (b : Bool) → includes (numbers row) r.number ≡ b → cond b
            (accepts_in_row accepts row r) true ≡ true
            → RowTakes row (cond b (r ∷ own_records row rs) (own_records row rs))
        by_test later true i g = (i, g, h.0, later)
        by_test later false i g = later

    plain_taken : (n : ℕ) (k : Kind) (rs : List FieldRecord) → RowTakes (Plain n k) rs → Taken k (values rs)
    plain_taken n k [] t = tt
    plain_taken n k (r ∷ rs) t = (t.1, t.2, plain_taken n k rs t.3)

    optional_taken : (n : ℕ) (k : Kind) (rs : List FieldRecord) → RowTakes (Optional n k) rs → Taken k (values rs)
    optional_taken n k [] t = tt
    optional_taken n k (r ∷ rs) t = (t.1, t.2, optional_taken n k rs t.3)

    repeated_taken : (n : ℕ) (k : Kind) (rs : List FieldRecord) → RowTakes (Repeated n k) rs → TakenEach k (values rs)
    repeated_taken n k [] t = tt
    repeated_taken n k (r ∷ rs) t = (t.1, t.2, repeated_taken n k rs t.3)

    -- those of a oneof that have one number
    numbered_taken : (members : List (ℕ × Kind)) (n : ℕ) (rs : List FieldRecord) → all_numbered n rs ≡ true → RowTakes
        (OneOf members) rs → Taken (member_kind members n) (values rs)
    numbered_taken members n [] a t = tt
    numbered_taken members n (r ∷ rs) a t =
        let e = and_split _ _ a in (
          ap (λ (m : ℕ). accepts_value accepts (member_kind members m) r.value) (sym (eqb-true r.number n e.0)) ∙ t.1,
          t.2,
          numbered_taken members n rs e.1 t.3,
        )

    run_taken : (members : List (ℕ × Kind)) (n : ℕ) (rs : List FieldRecord) → RowTakes (OneOf members) rs → Taken
        (member_kind members n) (values (last_run n rs))
    run_taken members n [] t = tt
    run_taken members n (r ∷ rs) t = by_test (run_taken members n rs t.3) (all_numbered n (r ∷ rs)) refl
      where
        by_test : Taken (member_kind members n) (values (last_run n rs)) → (b : Bool) → all_numbered n (r ∷ rs) ≡ b →
            Taken (member_kind members n) (values (cond b (r ∷ rs) (last_run n rs)))
        by_test later true e = numbered_taken members n (r ∷ rs) e t
        by_test later false e = later

    -- the run of the last number is not empty
    record Starts (rs : List FieldRecord) : Type 0 where
      first : FieldRecord
      others : List FieldRecord
      is : rs ≡ first ∷ others

    run_starts : (n : ℕ) (r : FieldRecord) (rs : List FieldRecord) → (last r rs).number ≡ n → Starts
        (last_run n (r ∷ rs))
    run_starts n r [] e = record {
      first = r;
      others = [];
      is = ap (λ (b : Bool). cond (b && true) (r ∷ []) [])
          (eq-eqb r.number n e);
    }
    run_starts n r (q ∷ rs) e = by_test (run_starts n q rs e) (all_numbered n (r ∷ q ∷ rs))
      where
        by_test : Starts (last_run n (q ∷ rs)) → (b : Bool) → Starts (cond b (r ∷ q ∷ rs) (last_run n (q ∷ rs)))
        by_test later true = record { first = r; others = q ∷ rs; is = refl }
        by_test later false = later

    last_included : (row : Row) (r : FieldRecord) (rs : List FieldRecord) → RowTakes row (r ∷ rs) → includes
        (numbers row) (last r rs).number ≡ true
    last_included row r [] t = t.0
    last_included row r (q ∷ rs) t = last_included row q rs t.3

    -- what a oneof holds before
    member_held : (members : List (ℕ × Kind)) (n : ℕ) (p : Part) → InRow (OneOf members) p → Held (member_at n p)
        (member_kind members n)
    unfolding PartFits part_levels
    member_held members n Absent h = absent_held (member_kind members n)
    member_held members n (Number m) h = absurd (let s : false ≡ true = h.shape in cc)
    member_held members n (Bytes b) h = absurd (let s : false ≡ true = h.shape in cc)
    member_held members n (Nested ps) h = absurd (let s : false ≡ true = h.shape in cc)
    member_held members n (Elements ps) h = absurd (let s : false ≡ true = h.shape in cc)
    member_held members n (Member m p) h = by_test (eqb m n) refl
      where
        by_test : (b : Bool) → eqb m n ≡ b → Held (cond b p Absent) (member_kind members n)
        by_test true e = record {
          fits = subst (λ (i : ℕ). PartFits table p (member_kind members i)) (eqb-true m n e)
              h.fits;
          low = h.low;
          bytes = h.bytes;
        }
        by_test false e = absent_held (member_kind members n)

    before_held : (members : List (ℕ × Kind)) (n : ℕ) (p : Part) (b : Bool) → InRow (OneOf members) p → Held
        (cond b (member_at n p) Absent) (member_kind members n)
    before_held members n p true h = member_held members n p h
    before_held members n p false h = absent_held (member_kind members n)

    over_single : (k : Kind) (p : Part) (rs : List FieldRecord) → Held p k → Starts rs → Taken k (values rs) → Single
        (singular_over table nested k p (values rs)) k
    over_single k p rs h starts t =
        subst (λ (qs : List FieldRecord). Single (singular_over table nested k p (values qs)) k) (sym starts.is)
        (singular_single k p starts.first.value (values starts.others) h
        (subst (λ (qs : List FieldRecord). Taken k (values qs)) starts.is t))

    member_in : (members : List (ℕ × Kind)) (n : ℕ) (p : Part) → includes (numbers (OneOf members)) n ≡ true → Single p
        (member_kind members n) → InRow (OneOf members) (Member n p)
    unfolding PartFits part_levels
    member_in members n p i h = record { shape = and_join _ _ i h.single; fits = h.fits; low = h.low; bytes = h.bytes }

    -- ---- rows

    single_held : (p : Part) (k : Kind) → PartFits table p k → part_levels p ≤ bound → PartBytes p → Held p k
    single_held p k f l b = record { fits = f; low = l; bytes = b }

    repeated_in : (n : ℕ) (k : Kind) (p : Part) (qs : Parts) → InRow (Repeated n k) p → Listed qs k → InRow
        (Repeated n k) (with_elements p qs)
    unfolding PartFits part_levels
    repeated_in n k (Elements ps) qs h g =
        let all = joined_listed ps qs k (record { fits = h.fits; low = h.low; bytes = h.bytes }) g in
        record { shape = refl; fits = all.fits; low = all.low; bytes = all.bytes }
    repeated_in n k Absent qs h g = h
    repeated_in n k (Number m) qs h g = h
    repeated_in n k (Bytes b) qs h g = h
    repeated_in n k (Nested ps) qs h g = h
    repeated_in n k (Member m p) qs h g = h

    row_in : (row : Row) (p : Part) (rs : List FieldRecord) → InRow row p → RowTakes row rs → InRow row
        (row_over table nested row p rs)
    row_in (Plain n k) p [] h t = h
    row_in (Plain n k) p (r ∷ rs) h t =
        let s = singular_single k p r.value (values rs) (single_held p k h.fits h.low h.bytes)
        (plain_taken n k (r ∷ rs) t) in
        record { shape = s.single; fits = s.fits; low = s.low; bytes = s.bytes }
    row_in (Optional n k) p [] h t = h
    row_in (Optional n k) p (r ∷ rs) h t =
        let s = singular_single k p r.value (values rs) (single_held p k h.fits h.low h.bytes)
        (optional_taken n k (r ∷ rs) t) in
        record { shape = optional_shape n k _ s.single; fits = s.fits; low = s.low; bytes = s.bytes }
    row_in (Repeated n k) p [] h t = h
    row_in (Repeated n k) p (r ∷ rs) h t = repeated_in n k p (all_elements table nested k (values (r ∷ rs))) h
        (elements_listed k (values (r ∷ rs)) (repeated_taken n k (r ∷ rs) t))
    row_in (OneOf members) p [] h t = h
    row_in (OneOf members) p (r ∷ rs) h t =
        let n = (last r rs).number in
        let before = before_held members n p (all_numbered n (r ∷ rs)) h in
        member_in members n _ (last_included (OneOf members) r rs t)
        (over_single (member_kind members n) _ (last_run n (r ∷ rs)) before (run_starts n r rs refl)
        (run_taken members n (r ∷ rs) t))

    first_allowed : (row : Row) (rows : List Row) (rs : List FieldRecord) → list_all
        (accepts_record accepts (row ∷ rows)) rs ≡ true → list_all (λ r. row_allows accepts r row) rs ≡ true
    first_allowed row rows [] a = refl
    first_allowed row rows (r ∷ rs) a = let e = and_split _ _ a in and_join _ _ (and_split _ _ e.0).0
        (first_allowed row rows rs e.1)

    others_allowed : (row : Row) (rows : List Row) (rs : List FieldRecord) → list_all
        (accepts_record accepts (row ∷ rows)) rs ≡ true → list_all (accepts_record accepts rows) rs ≡ true
    others_allowed row rows [] a = refl
    others_allowed row rows (r ∷ rs) a = let e = and_split _ _ a in and_join _ _ (and_split _ _ e.0).1
        (others_allowed row rows rs e.1)

    rows_in : (rows : List Row) (v : Parts) (rs : List FieldRecord) → InRows rows v → list_all
        (accepts_record accepts rows) rs ≡ true → AllRead rs → InRows rows (rows_over table nested rows v rs)
    unfolding PartFits part_levels
    rows_in [] v rs h a t = h
    rows_in (row ∷ rows) nil rs h a t = h
    rows_in (row ∷ rows) (cons p ps) rs h a t =
        let one : InRow row p = record {
          shape = h.fits.0;
          fits = h.fits.1;
          low = omega (arith, h.low);
          bytes =
              h.bytes.0;
        } in
        let more : InRows rows ps = record { fits = h.fits.2; low = omega (arith, h.low); bytes = h.bytes.1 } in
        one_more row rows _ _ (row_in row p (own_records row rs) one (own_taken row rs (first_allowed row rows rs a) t))
        (rows_in rows ps rs more (others_allowed row rows rs a) t)

    -- the records of bytes
    bytes_in : (left s : ℕ) (v : Parts) (b : List ℕ) → InRows (table s) v → some_passes
        (list_all (accepts_record accepts (table s))) (record_list left b) ≡ true → IsBytes b
        → InRows (table s) (rows_over table nested (table s) v (or_empty (record_list left b)))
    bytes_in left s v b h a i = by_list (record_list left b) refl a
      where
        by_list : (o : Option (List FieldRecord)) → record_list left b ≡ o → some_passes
            (list_all (accepts_record accepts (table s))) o ≡ true → InRows (table s)
            (rows_over table nested (table s) v (or_empty o))
        by_list None e g = absurd cc
        by_list (Some rs) e g = rows_in (table s) v rs h g (all_read left b rs (records_reads left b rs e) i)

-- ---- messages, at any depth

some_left : (left s : ℕ) (b : List ℕ) → accepts_message table left s b ≡ true → 1 ≤ left
unfolding accepts_message
some_left zero s b a = absurd cc
some_left (suc left) s b a = omega arith

join_accepted : (left s : ℕ) (a b : List ℕ) → accepts_message table left s a ≡ true → accepts_message table left s b ≡
    true → accepts_message table left s (a ++ b) ≡ true
unfolding accepts_message
join_accepted zero s a b g h = absurd cc
join_accepted (suc left) s a b g h = accepts_payload-append table left s a b g h

message_good : (left s : ℕ) (v : Parts) (b : List ℕ) → accepts_message table left s b ≡ true → IsBytes b → IsGood left s
    v → IsGood left s (message_overlay table left s v b)
unfolding accepts_message message_overlay
message_good zero s v b a i h = absurd cc
message_good (suc left) s v b a i h =
    let rows : InRows left (table s) v = record { fits = h.fits; low = omega (arith, h.low); bytes = h.bytes } in
    let all = bytes_in left (message_overlay table left) (accepts_message table left) (some_left left)
    (join_accepted left) (message_good left) left s v b rows a i in
    record { fits = all.fits; low = omega (arith, all.low); bytes = all.bytes }

-- what a well-formed payload means
pub record MeansWell (s : ℕ) (v : Parts) : Type 0 where
  pub fits : Fits table v (table s)
  pub low : levels v ≤ 100
  pub bytes : PartsBytes v

pub accepted_means : (s : ℕ) (payload : List ℕ) → IsAccepted s payload → IsBytes payload → MeansWell s
    (payload_meaning s payload)
accepted_means s payload a i =
    let all = bytes_in 100 (message_overlay table 100) (accepts_message table 100) (some_left 100) (join_accepted 100)
    (message_good 100) 100 s (empty_value (table s)) payload (empty_in 100 (table s) (have_scalars s)) a i in
    record { fits = all.fits; low = all.low; bytes = all.bytes }
