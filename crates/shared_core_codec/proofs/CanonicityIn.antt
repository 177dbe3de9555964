-- A payload that passes the check of canonical payloads is the canonical payload of a value, for any table of schemas.
use Rattle.std.proofs.Common.{◌≡◌, ℕ, zero, suc, ◌+◌, ◌-◌, ◌*◌, ◌/◌, ◌%◌, ◌^◌, ◌<◌, ◌≤◌, List, [], ◌∷◌, ◌++◌, map}
use Rattle.std.proofs.Common.{length, get_or, Bool, true, false, cond, not, ◌&&◌, ◌||◌, Option, Some, None, Result}
use Rattle.std.proofs.Common.{refl, sym, ap, subst, ◌∙◌, length-append, arith, eqb, eq-eqb, ltb, inl, inr}
use Rattle.std.proofs.lemmas.Bool.{eqb-true, ne_eqb, lt-ltb, le-ltb, ltb-true, ltb-false, cases_lt}
use Rattle.std.proofs.lemmas.List.Folds.{list_all-append}
use Rattle.std.proofs.Math.Bool.{and-false}
use Rattle.std.specs.Prelude.{flat_map, is_some}
use Rattle.std.specs.List.{list_all}
use Rattle.std.specs.Str.{is_utf8, chars}
use Rattle.std.specs.Option.{option_or}
use lib.Utf8.{encode}
use Rattle.shared_core_wire.specs.Grammar.{RecordValue, Varint, Fixed64, Length, Group, Fixed32, FieldRecord, IsBase128}
use Rattle.shared_core_wire.specs.Grammar.{IsVarint, IsKey, IsRecordBody, IsGroupContent, IsRecordWithin}
use Rattle.shared_core_wire.specs.Grammar.{IsRecordListWithin, IsSequence, wire_type}
use Rattle.shared_core_wire.specs.Reader.{◌>>=◌, varint_at, sequence_past, record_at, record_list}
use Rattle.shared_core_wire.specs.ReadRecords.{PlacedRecord, records_past, read_records}
use Rattle.shared_core_wire.specs.declared.error.WireError.{WireError}
use Rattle.shared_core_wire.specs.Encoding.{shortest_varint, key_bytes, record_bytes, record_list_bytes}
use Rattle.shared_core_wire.specs.Schema.{Kind, Row, U32, U64, Boolean, Enumeration, Text, ByteString, Message, Plain}
use Rattle.shared_core_wire.specs.Schema.{Table, Optional, Repeated, OneOf, numbers, includes, member_kind, is_schema}
use Rattle.shared_core_wire.specs.Value.{Part, Parts, Absent, Number, Bytes, Nested, Elements, Member, nil, cons}
use Rattle.shared_core_wire.specs.Canonical.{written_number, is_default, number_bytes, run_values, packed_values}
use Rattle.shared_core_wire.specs.Canonical.{kind_of, row_records, part_values, element_values, message_records}
use Rattle.shared_core_wire.specs.Canonical.{canonical_payload, part_levels, levels}
use Rattle.shared_core_wire.specs.Fitting.{is_single, has_shape, NumberFits, PartFits, ElementsFit, Fits}
use Rattle.shared_core_wire.specs.Acceptance.{NestedAcceptance, some_passes, accepts_payload, accepts_number}
use Rattle.shared_core_wire.proofs.Shortest.{shortest_small, shortest_large, fewest}
use Rattle.shared_core_wire.proofs.Runs.{and_split, and_join}
use Rattle.shared_core_wire.proofs.Readers.{BeginsWith, varint_again, bind_some, passed, not_stopped, some_is}
use Rattle.shared_core_wire.proofs.Readers.{varint_reads, varint_pos}
use Rattle.shared_core_wire.proofs.RecordLists.{records_reads}
use Rattle.shared_core_wire.proofs.Sequences.{IsReader, all_reads, all_more, all_stop, all_nil}
use Rattle.shared_core_codec.specs.Tables.{IsTable, is_message, may_be_empty}
use Rattle.shared_core_wire.proofs.ReadBackLevels.{canonical_back}
use Rattle.shared_core_wire.specs.Overlay.{meaning}
use Rattle.shared_core_codec.specs.ProgramRows.{field_in_row, member_numbered}
use Rattle.shared_core_codec.specs.RowEncoding.{unpacked}
use Rattle.shared_core_codec.specs.Canonicity.{IsCanonicalIn, is_written_number, is_written_value, is_written_run}
use Rattle.shared_core_codec.specs.Canonicity.{written_varint_at, is_written_list}
use Rattle.shared_core_codec.specs.Canonicity.{is_default_value, is_plain, is_written_field}
use Rattle.shared_core_codec.specs.Canonicity.{may_recur, found_or, next_field, rows_after_field, rows_after}
use Rattle.shared_core_codec.specs.Canonicity.{written_size, Coming, coming_after, all_come, all_come_read}
use Rattle.shared_core_codec.specs.Canonicity.{is_canonical_message_in, is_canonical_payload_in}

-- ---- bytes

-- Whether all numbers are below 256, as bytes of the program are.
abbrev pub are_bytes : List ℕ → Bool
are_bytes bytes = list_all (λ b. ltb b 256) bytes

pub are_bytes_of : (bytes : List ℕ) → ((i : ℕ) → get_or bytes i 0 < 256) → are_bytes bytes ≡ true
are_bytes_of [] h = refl
are_bytes_of (b ∷ bs) h = and_join _ _ (lt-ltb b 256 (h 0)) (are_bytes_of bs (λ i. h (suc i)))

bytes_split : (a b : List ℕ) → are_bytes (a ++ b) ≡ true → (are_bytes a ≡ true) × (are_bytes b ≡ true)
bytes_split a b h = and_split _ _ (sym (list_all-append (λ (x : ℕ). ltb x 256) a b) ∙ h)

tight_large : (b c : ℕ) (bs : List ℕ) (n high : ℕ) → b < 256 → 128 ≤ b → n ≡ b % 128 + 128 * high → 128 ≤ n → length
    (b ∷ c ∷ bs) ≤ length (shortest_varint n)
    → (length (c ∷ bs) ≤ length (shortest_varint high) → c ∷ bs ≡ shortest_varint high) → b ∷ c ∷ bs ≡ shortest_varint n
tight_large b c bs n high byte le e large short later =
    let up : n / 128 ≡ high = omega (arith, e, byte) in
    let low : n % 128 + 128 ≡ b = omega (arith, e, le, byte) in
    let whole : shortest_varint n ≡ b ∷ shortest_varint high = shortest_large n large ∙ ap
    (λ (m : ℕ). (n % 128 + 128) ∷ shortest_varint m) up ∙ ap (λ (m : ℕ). m ∷ shortest_varint high) low in
    let long : length (shortest_varint n) ≡ length (b ∷ shortest_varint high) = ap length whole in
    let tail : length (c ∷ bs) ≤ length (shortest_varint high) = omega (arith, short, long) in
    ap (λ (t : List ℕ). b ∷ t) (later tail) ∙ sym whole

tight_more : (b c : ℕ) (bs : List ℕ) (n high : ℕ) → b < 256 → 128 ≤ b → n ≡ b % 128 + 128 * high → length (b ∷ c ∷ bs) ≤
    length (shortest_varint n)
    → (length (c ∷ bs) ≤ length (shortest_varint high) → c ∷ bs ≡ shortest_varint high) → b ∷ c ∷ bs ≡ shortest_varint n
tight_more b c bs n high byte le e short later =
    elim (cases_lt n 128) [
      | inl small ↦ absurd (let l : length (shortest_varint n) ≡ 1 = ap length (shortest_small n small) in omega
          (arith, short, l))
      | inr large ↦ tight_large b c bs n high byte le e large short later
    ]

-- a varint of as few bytes as the shortest one is the shortest one
varint_tight : (bytes : List ℕ) (n : ℕ) → are_bytes bytes ≡ true → IsBase128 bytes n → length bytes ≤ length
    (shortest_varint n) → bytes ≡ shortest_varint n
varint_tight [] n a h e = absurd h
varint_tight (b ∷ []) n a h e = rw (shortest_small n (omega (arith, h.0, h.1)), h.1) refl
varint_tight (b ∷ c ∷ bs) n a h e = tight_more b c bs n h.1 (ltb-true b 256
    (and_split (ltb b 256) (are_bytes (c ∷ bs)) a).0) h.0 h.2 e
    (varint_tight (c ∷ bs) h.1 (and_split (ltb b 256) (are_bytes (c ∷ bs)) a).1 h.3)

-- ---- what was read

-- Values that can be read: a number has 64 bits, and content is bytes.
abbrev readable : RecordValue → Bool
readable (Varint n) = ltb n (2 ^ 64)
readable (Length bytes) = are_bytes bytes
readable w = true

unfoldable pub total_size : List FieldRecord → ℕ
total_size [] = 0
total_size (r ∷ rs) = written_size r + total_size rs

-- bytes that a record was read from
record ReadOne (first : List ℕ) (r : FieldRecord) : Type 0 where
  can : readable r.value ≡ true
  least : written_size r ≤ length first
  tight : length first ≤ written_size r → first ≡ record_bytes r

read_varint : (n m : ℕ) (key body : List ℕ) → are_bytes (key ++ body) ≡ true → IsBase128 key (8 * n + 0) → IsVarint body
    m → ReadOne (key ++ body) (record { number = n; value = Varint m })
read_varint n m key body a k v =
    let s = bytes_split key body a in
    let long = length-append key body in
    let whole = length-append (key_bytes n 0) (shortest_varint m) in
    let f = fewest (8 * n + 0) key k in
    let g = fewest m body v.encoding in
    record {
      can = lt-ltb m (2 ^ 64) v.fits;
      least = omega (arith, long, whole, f, g);
      tight = λ e.
          let p = varint_tight key (8 * n + 0) s.0 k (omega (arith, long, whole, f, g, e)) in
          let q = varint_tight body m s.1 v.encoding (omega (arith, long, whole, f, g, e)) in
          rw (p, q) refl;
    }

read_length : (n : ℕ) (bs key len : List ℕ) → are_bytes (key ++ (len ++ bs)) ≡ true → IsBase128 key (8 * n + 2) →
    IsVarint len (length bs) → ReadOne (key ++ (len ++ bs)) (record { number = n; value = Length bs })
read_length n bs key len a k v =
    let s = bytes_split key (len ++ bs) a in
    let t = bytes_split len bs s.1 in
    let long = length-append key (len ++ bs) in
    let more = length-append len bs in
    let whole = length-append (key_bytes n 2) (shortest_varint (length bs) ++ bs) in
    let part = length-append (shortest_varint (length bs)) bs in
    let f = fewest (8 * n + 2) key k in
    let g = fewest (length bs) len v.encoding in
    record {
      can = t.1;
      least = omega (arith, long, more, whole, part, f, g);
      tight = λ e.
          let p = varint_tight key (8 * n + 2) s.0 k (omega (arith, long, more, whole, part, f, g, e)) in
          let q = varint_tight len (length bs) t.0 v.encoding (omega (arith, long, more, whole, part, f, g, e)) in
          ap (λ (x : List ℕ). x ++ (len ++ bs)) p ∙ ap (λ (x : List ℕ). key_bytes n 2 ++ (x ++ bs)) q;
    }

-- a record that is never written
read_other : (r : FieldRecord) (key body : List ℕ) → readable r.value ≡ true → written_size r ≡ 0 → 0 < length key →
    ReadOne (key ++ body) r
read_other r key body c z h =
    let long = length-append key body in
    record { can = c; least = omega (arith, z); tight = λ e. absurd (omega (arith, long, z, h, e)) }

read_value : (n : ℕ) (v : RecordValue) (key body : List ℕ) → are_bytes (key ++ body) ≡ true → IsKey key n (wire_type v)
    → IsRecordBody (IsGroupContent 0) body n v → ReadOne (key ++ body) (record { number = n; value = v })
read_value n (Varint m) key body a k b = read_varint n m key body a k.encoding.encoding b
read_value n (Fixed64 bs) key body a k b = read_other (record { number = n; value = Fixed64 bs }) key body refl refl
    (varint_pos key _ k.encoding)
read_value n (Length bs) key body a k b =
    let g = read_length n bs key b.0 (ap (λ (x : List ℕ). are_bytes (key ++ x)) (sym b.2) ∙ a) k.encoding.encoding b.1
    in
    subst (λ (x : List ℕ). ReadOne (key ++ x) (record { number = n; value = Length bs })) (sym b.2) g
read_value n (Group bs) key body a k b = read_other (record { number = n; value = Group bs }) key body refl refl
    (varint_pos key _ k.encoding)
read_value n (Fixed32 bs) key body a k b = read_other (record { number = n; value = Fixed32 bs }) key body refl refl
    (varint_pos key _ k.encoding)

read_one : (first : List ℕ) (r : FieldRecord) → are_bytes first ≡ true → IsRecordWithin 0 first r → ReadOne first r
read_one first r a h =
    subst (λ (x : List ℕ). ReadOne x r) (sym h.parts) (read_value r.number r.value h.key h.body
    (ap are_bytes (sym h.parts) ∙ a) h.keyed h.valued)

-- bytes that a record list was read from
record ReadList (bytes : List ℕ) (rs : List FieldRecord) : Type 0 where
  can : list_all (λ r. readable r.value) rs ≡ true
  least : total_size rs ≤ length bytes
  tight : length bytes ≤ total_size rs → bytes ≡ record_list_bytes rs

read_list : (rs : List FieldRecord) (bytes : List ℕ) → are_bytes bytes ≡ true → IsRecordListWithin 0 bytes rs → ReadList
    bytes rs
unfolding total_size
read_list [] bytes a h = record { can = refl; least = omega arith; tight = λ e. h }
read_list (r ∷ rs) bytes a h =
    let s = bytes_split h.0 h.1 (ap are_bytes (sym h.2) ∙ a) in
    let x = read_one h.0 r s.0 h.3 in
    let xs = read_list rs h.1 s.1 h.4 in
    let long : length bytes ≡ length h.0 + length h.1 = ap length h.2 ∙ length-append h.0 h.1 in
    record {
      can = and_join _ _ x.can xs.can;
      least = omega (arith, long, x.least, xs.least);
      tight = λ e.
          let p = x.tight (omega (arith, long, x.least, xs.least, e)) in
          let q = xs.tight (omega (arith, long, x.least, xs.least, e)) in
          h.2 ∙ ap (λ (t : List ℕ). t ++ h.1) p ∙ ap (λ (t : List ℕ). record_bytes r ++ t) q;
    }

-- ---- packed runs

pub record IsWritten (k : Kind) (text : List ℕ) (n : ℕ) : Type 0 where
  pub is : IsVarint text n
  pub tight : length text ≤ length (shortest_varint n)
  pub written : is_written_number k n ≡ true

written_again : (k : Kind) (text rest : List ℕ) (n : ℕ) → IsWritten k text n → written_varint_at k (text ++ rest) ≡ Some
    (n, rest)
unfolding written_varint_at
written_again k text rest n h =
    let f = fewest n text h.is.encoding in
    let long : length (shortest_varint n) + length rest ≡ length (text ++ rest) = omega
    (arith, f, h.tight, length-append text rest) in
    rw (varint_again text rest n h.is, h.written, eq-eqb _ _ long) refl

written_reads : (k : Kind) (bytes : List ℕ) (x : ℕ × List ℕ) → written_varint_at k bytes ≡ Some x → BeginsWith
    (IsWritten k) bytes x
unfolding written_varint_at
written_reads k bytes x e =
    let v = bind_some (varint_at bytes) (λ y. cond (is_written_number k y.0 && eqb
    (length (shortest_varint y.0) + length y.1) (length bytes)) (Some y) None) x e in
    let w = passed (is_written_number k v.0.0 && eqb (length (shortest_varint v.0.0) + length v.0.1) (length bytes))
    (Some v.0) x v.2 in
    let t = varint_reads bytes v.0 v.1 in
    let s = and_split _ _ w.0 in
    let long = eqb-true _ _ s.1 in
    subst (BeginsWith (IsWritten k) bytes) (some_is v.0 x w.1) (record {
      text = t.text;
      parts = t.parts;
      is = record {
        is = t.is;
        tight = omega (arith, long, ap length t.parts, length-append t.text v.0.1);
        written = s.0;
      };
    })

pub reader_written : (k : Kind) → IsReader (IsWritten k) (written_varint_at k)
reader_written k = record {
  again = written_again k;
  reads = written_reads k;
  long = λ text n h. varint_pos text n h.is;
}

pub record WrittenTurn (k : Kind) (bytes rest : List ℕ) : Type 0 where
  pub shorter : length rest < length bytes
  pub same : is_some (sequence_past (written_varint_at k) 0 bytes) ≡ is_some
      (sequence_past (written_varint_at k) 0 rest)

some_more : (n : ℕ) (o : Option (List ℕ)) → is_some (o >>= λ xs. Some (n ∷ xs)) ≡ is_some o
some_more n None = refl
some_more n (Some xs) = refl

pub written_turn : (k : Kind) (bytes : List ℕ) (n : ℕ) (rest : List ℕ) → written_varint_at k bytes ≡ Some (n, rest) →
    WrittenTurn k bytes rest
written_turn k bytes n rest e =
    let f = written_reads k bytes (n, rest) e in
    let long = varint_pos f.text n f.is.is in
    record {
      shorter = omega (arith, ap length f.parts, length-append f.text rest);
      same = rw (all_more (written_varint_at k) bytes f.text rest n e f.parts long)
          (some_more n (sequence_past (written_varint_at k) 0 rest));
    }

pub written_stop : (k : Kind) (bytes : List ℕ) → 0 < length bytes → written_varint_at k bytes ≡ None → is_some
    (sequence_past (written_varint_at k) 0 bytes) ≡ false
written_stop k bytes h e = rw (all_stop (written_varint_at k) bytes h e) refl

pub written_end : (k : Kind) (bytes : List ℕ) → bytes ≡ [] → is_some (sequence_past (written_varint_at k) 0 bytes) ≡
    true
written_end k bytes e = rw (e, all_nil (written_varint_at k)) refl

pub none_written : (k : Kind) (run : List ℕ) → is_some (sequence_past (written_varint_at k) 0 run) ≡ false → false ≡
    is_written_run k run
none_written k run e = rw e (sym (and-false (not (eqb (length run) 0))))

pub some_written : (k : Kind) (run : List ℕ) → eqb (length run) 0 ≡ false → is_some
    (sequence_past (written_varint_at k) 0 run) ≡ true → true ≡ is_written_run k run
some_written k run h e = rw (e, h) refl

module _ (table : Table) where
  packed_some : (k : Kind) (ws : List RecordValue) (run : List ℕ) → accepts_number k ≡ true → flat_map number_bytes ws ≡
      run → eqb (length run) 0 ≡ false → packed_values k ws ≡ Length run ∷ []
  packed_some k [] run a e h = absurd
      (let f : eqb 0 0 ≡ false = ap (λ (t : List ℕ). eqb (length t) 0) e ∙ h in cc)
  packed_some k (w ∷ ws) run a e h = rw a (ap (λ (t : List ℕ). Length t ∷ []) e)

  packed_none : (k : Kind) → packed_values k [] ≡ []
  packed_none k = by_kind (accepts_number k)
    where
      by_kind : (b : Bool) → cond b (run_values []) [] ≡ []
      by_kind true = refl
      by_kind false = refl

  not_false : (b : Bool) → not b ≡ true → b ≡ false
  not_false true h = absurd cc
  not_false false h = refl

  some_run : (o : Option (List ℕ)) → is_some o ≡ true → (ns : List ℕ) × (o ≡ Some ns)
  some_run None h = absurd cc
  some_run (Some ns) h = (ns, refl)

  no_text : is_utf8 [] ≡ true
  unfolding is_utf8 chars encode
  no_text = refl

  -- ---- one level

  -- the value of a nested message, whose nesting depth is below `left`
  pub record Deep (left s : ℕ) (bytes : List ℕ) : Type 0 where
    pub v : Parts
    pub fits : Fits table v (table s)
    pub low : suc (levels v) ≤ left
    pub is : bytes ≡ canonical_payload table s v

  -- the value of a payload
  pub record Canon (left s : ℕ) (bytes : List ℕ) : Type 0 where
    pub v : Parts
    pub fits : Fits table v (table s)
    pub low : levels v ≤ left
    pub is : bytes ≡ canonical_payload table s v

  module _ (nested : NestedAcceptance) (left : ℕ) (nested_sound : (t : ℕ) (b : List ℕ) → are_bytes b ≡ true → nested t b
      ≡
      true → Deep left t b) where
    -- the part that is written as a value
    record Single (k : Kind) (w : RecordValue) : Type 0 where
      p : Part
      single : is_single p ≡ true
      fits : PartFits table p k
      low : part_levels p ≤ left
      is : part_values table p k ≡ w ∷ []
      default : is_message k ≡ false → is_default p ≡ is_default_value w

    single_number : (k : Kind) (n m : ℕ) → NumberFits k m → written_number k m ≡ n → eqb m 0 ≡ eqb n 0 → Single k
        (Varint n)
    unfolding PartFits part_values part_levels
    single_number k n m f e d = record {
      p = Number m;
      single = refl;
      fits = f;
      low = omega arith;
      is = ap (λ x. Varint x ∷ []) e;
      default = λ g. d;
    }

    single_enum : (n : ℕ) → n < 2 ^ 64 → (ltb n 2147483648 || ltb 18446744071562067967 n) ≡ true → Single Enumeration
        (Varint n)
    single_enum n r h =
        elim (cases_lt n 2147483648) [
          | inl small ↦ single_number Enumeration n n (omega arith) (rw (lt-ltb n 2147483648 small) refl) refl
          | inr large ↦
              let big : ltb 18446744071562067967 n ≡ true = rw (le-ltb n 2147483648 large) at h in
              let above = ltb-true _ _ big in
              let m : ℕ = n - 18446744069414584320 in
              let high : ltb (n - 18446744069414584320) 2147483648 ≡ false = le-ltb _ _ (omega (arith, above)) in
              single_number Enumeration n (n - 18446744069414584320) (omega (arith, above, r))
              (rw high (omega (arith, above))) (ne_eqb _ _ (λ z. omega (arith, above, z)) ∙ sym
              (ne_eqb n 0 (λ z. omega (arith, above, z))))
        ]

    single_bytes : (k : Kind) (b : List ℕ) → PartFits table (Bytes b) k → Single k (Length b)
    unfolding part_values part_levels
    single_bytes k b f = record {
      p = Bytes b;
      single = refl;
      fits = f;
      low = omega arith;
      is = refl;
      default = λ g. refl;
    }

    single_text : (b : List ℕ) → is_utf8 b ≡ true → Single Text (Length b)
    unfolding PartFits
    single_text b h = single_bytes Text b h

    single_string : (b : List ℕ) → Single ByteString (Length b)
    unfolding PartFits
    single_string b = single_bytes ByteString b tt

    single_message : (s : ℕ) (b : List ℕ) → Deep left s b → Single (Message s) (Length b)
    unfolding PartFits part_values part_levels
    single_message s b d = record {
      p = Nested d.v;
      single = refl;
      fits = d.fits;
      low = d.low;
      is = ap (λ (x : List ℕ). Length x ∷ []) (sym d.is);
      default = λ g. absurd cc;
    }

    written_single : (k : Kind) (w : RecordValue) → readable w ≡ true → is_written_value nested k w ≡ true → Single k w
    written_single U32 (Varint n) r h = single_number U32 n n (ltb-true _ _ h) refl refl
    written_single U64 (Varint n) r h = single_number U64 n n (ltb-true _ _ r) refl refl
    written_single Boolean (Varint n) r h = single_number Boolean n n (ltb-true _ _ h) refl refl
    written_single Enumeration (Varint n) r h = single_enum n (ltb-true _ _ r) h
    written_single Text (Length b) r h = single_text b h
    written_single ByteString (Length b) r h = single_string b
    written_single (Message s) (Length b) r h = single_message s b (nested_sound s b r h)
    written_single k w r h = absurd cc

    -- ---- packed runs

    -- a packed run is written for these elements
    record WrittenRun (k : Kind) (run : List ℕ) : Type 0 where
      ps : Parts
      fits : ElementsFit table ps k
      low : levels ps ≤ left
      bytes : flat_map number_bytes (element_values table ps k) ≡ run

    written_run : (k : Kind) (ns run : List ℕ) → are_bytes run ≡ true → IsSequence (IsWritten k) run ns → WrittenRun k
        run
    unfolding PartFits part_values levels
    written_run k [] run a h = record { ps = nil; fits = tt; low = omega arith; bytes = sym h }
    written_run k (n ∷ ns) run a h =
        let s = bytes_split h.0 h.1 (ap are_bytes (sym h.2) ∙ a) in
        let xs = written_run k ns h.1 s.1 h.4 in
        let first = varint_tight h.0 n s.0 h.3.is.encoding h.3.tight in
        let x = written_single k (Varint n) (lt-ltb _ _ h.3.is.fits) h.3.written in
        record {
          ps = cons x.p xs.ps;
          fits = (x.single, x.fits, xs.fits);
          low = omega (arith, x.low, xs.low);
          bytes = rw x.is (ap (λ (t : List ℕ). shortest_varint n ++ t) xs.bytes ∙ ap (λ (t : List ℕ). t ++ h.1)
              (sym first) ∙ sym h.2);
        }

    run_read : (k : Kind) (run : List ℕ) → are_bytes run ≡ true → is_some (sequence_past (written_varint_at k) 0 run) ≡
        true → WrittenRun k run
    run_read k run a h =
        let o = some_run (sequence_past (written_varint_at k) 0 run) h in
        written_run k o.0 run a (all_reads (IsWritten k) (written_varint_at k) (reader_written k) run o.0 o.1)

    -- ---- rows

    record Value (rows : List Row) (rs : List FieldRecord) : Type 0 where
      v : Parts
      fits : Fits table v rows
      low : levels v ≤ left
      is : rs ≡ message_records table v rows

    -- a row in front, whose part is written as these records
    front : (row : Row) (rows : List Row) (p : Part) (own rs : List FieldRecord) → has_shape row p ≡ true → PartFits
        table
        p (kind_of row p) → part_levels p ≤ left
        → own ≡ row_records row p (part_values table p (kind_of row p)) → Value rows rs → Value (row ∷ rows) (own ++ rs)
    unfolding PartFits part_values levels
    front row rows p own rs s f l e x = record {
      v = cons p x.v;
      fits = (s, f, x.fits);
      low = omega (arith, l, x.low);
      is = ap (λ (t : List FieldRecord). t ++ rs) e ∙ ap (λ (t : List FieldRecord). row_records row p
          (part_values table p (kind_of row p)) ++ t) x.is;
    }

    skip : (row : Row) (rows : List Row) (rs : List FieldRecord) → may_be_empty row ≡ true → Value rows rs → Value
        (row ∷ rows) rs
    unfolding PartFits part_values levels
    skip (Plain n U32) rows rs h x = front (Plain n U32) rows (Number 0) [] rs refl (omega arith) (omega arith) refl x
    skip (Plain n U64) rows rs h x = front (Plain n U64) rows (Number 0) [] rs refl (omega arith) (omega arith) refl x
    skip (Plain n Boolean) rows rs h x = front (Plain n Boolean) rows (Number 0) [] rs refl (omega arith) (omega arith)
        refl x
    skip (Plain n Enumeration) rows rs h x = front (Plain n Enumeration) rows (Number 0) [] rs refl (omega arith)
        (omega arith) refl x
    skip (Plain n Text) rows rs h x = front (Plain n Text) rows (Bytes []) [] rs refl no_text (omega arith) refl x
    skip (Plain n ByteString) rows rs h x = front (Plain n ByteString) rows (Bytes []) [] rs refl tt (omega arith) refl
        x
    skip (Plain n (Message s)) rows rs h x = absurd cc
    skip (Optional n k) rows rs h x = front (Optional n k) rows Absent [] rs refl tt (omega arith) refl x
    skip (Repeated n k) rows rs h x = front (Repeated n k) rows (Elements nil) [] rs refl tt (omega arith)
        (ap (map (λ w. record { number = n; value = w })) (sym (packed_none k))) x
    skip (OneOf members) rows rs h x = front (OneOf members) rows Absent [] rs refl tt (omega arith) refl x

    none : (rows : List Row) → list_all may_be_empty rows ≡ true → Value rows []
    unfolding PartFits part_values levels
    none [] h = record { v = nil; fits = tt; low = omega arith; is = refl }
    none (row ∷ rows) h = let e = and_split _ _ h in skip row rows [] e.0 (none rows e.1)

    with_number : ℕ → RecordValue → FieldRecord
    with_number n w = record { number = n; value = w }

    single_shape : (n : ℕ) (k : Kind) (p : Part) → is_single p ≡ true → has_shape (Optional n k) p ≡ true
    single_shape n k Absent h = refl
    single_shape n k (Number m) h = refl
    single_shape n k (Bytes b) h = refl
    single_shape n k (Nested ps) h = refl
    single_shape n k (Elements ps) h = absurd cc
    single_shape n k (Member m p) h = absurd cc

    put_plain : (n : ℕ) (k : Kind) (w : RecordValue) (rows : List Row) (rs : List FieldRecord) → is_message k ≡ false →
        is_default_value w ≡ false → Single k w → Value rows rs
        → Value (Plain n k ∷ rows) (with_number n w ∷ rs)
    unfolding with_number
    put_plain n k w rows rs m d x y =
        front (Plain n k) rows x.p (with_number n w ∷ []) rs x.single x.fits x.low (rw (x.default m ∙ d, x.is) refl) y

    put_optional : (n : ℕ) (k : Kind) (w : RecordValue) (rows : List Row) (rs : List FieldRecord) → Single k w → Value
        rows rs → Value (Optional n k ∷ rows) (with_number n w ∷ rs)
    unfolding with_number
    put_optional n k w rows rs x y =
        front (Optional n k) rows x.p (with_number n w ∷ []) rs (single_shape n k x.p x.single) x.fits x.low
        (rw x.is refl) y

    put_member : (members : List (ℕ × Kind)) (n : ℕ) (w : RecordValue) (rows : List Row) (rs : List FieldRecord) →
        includes (numbers (OneOf members)) n ≡ true → Single (member_kind members n) w → Value rows rs
        → Value (OneOf members ∷ rows) (with_number n w ∷ rs)
    unfolding with_number PartFits part_values levels
    put_member members n w rows rs h x y =
        front (OneOf members) rows (Member n x.p) (with_number n w ∷ []) rs (and_join _ _ h x.single) x.fits x.low
        (rw x.is refl) y

    put_run : (n : ℕ) (k : Kind) (run : List ℕ) (rows : List Row) (rs : List FieldRecord) → accepts_number k ≡ true →
        eqb (length run) 0 ≡ false → WrittenRun k run → Value rows rs → Value (Repeated n k ∷ rows)
        (with_number n (Length run) ∷ rs)
    unfolding with_number PartFits part_values levels
    put_run n k run rows rs a h x y =
        front (Repeated n k) rows (Elements x.ps) (with_number n (Length run) ∷ []) rs refl x.fits
        (omega (arith, x.low))
        (ap (map (λ w. record { number = n; value = w })) (sym
        (packed_some k (element_values table x.ps k) run a x.bytes h))) y

    -- values of an unpacked kind are written one by one
    as_they_are : (k : Kind) (ws : List RecordValue) → unpacked k ≡ true → packed_values k ws ≡ ws
    as_they_are k ws h = rw (not_false _ h) refl

    put_element : (n : ℕ) (k : Kind) (w : RecordValue) (rows : List Row) (rs : List FieldRecord) → unpacked k ≡ true →
        Single k w
        → (v : Parts) → Fits table v (Repeated n k ∷ rows) → levels v ≤ left → rs ≡ message_records table v
        (Repeated n k ∷ rows) → Value (Repeated n k ∷ rows) (with_number n w ∷ rs)
    unfolding with_number PartFits part_values levels
    put_element n k w rows rs u x nil f l e = absurd f
    put_element n k w rows rs u x (cons (Elements qs) ps) f l e = record {
      v = cons (Elements (cons x.p qs)) ps;
      fits = (refl, (x.single, x.fits, f.1), f.2);
      low = omega (arith, x.low, l);
      is =
          let old : map (λ z. with_number n z) (packed_values k (element_values table qs k)) ≡ map (λ z. with_number n
          z)
          (element_values table qs k) = ap (map (λ z. with_number n z)) (as_they_are k (element_values table qs k) u)
          in
          let new = ap (map (λ z. with_number n z)) (as_they_are k (part_values table x.p k ++ element_values table qs
          k)
          u) in
          ap (λ (t : List FieldRecord). with_number n w ∷ t) (e ∙ ap
          (λ (t : List FieldRecord). t ++ message_records table ps rows) old)
          ∙ ap (λ (t : List RecordValue). map (λ z. with_number n z) (t ++ element_values table qs k) ++ message_records
          table ps rows) (sym x.is)
          ∙ ap (λ (t : List FieldRecord). t ++ message_records table ps rows) (sym new);
    }
    put_element n k w rows rs u x (cons p ps) f l e = absurd (cc f.0)

    put_repeated : (n : ℕ) (k : Kind) (w : RecordValue) (rows next : List Row) (rs : List FieldRecord) (b : Bool) →
        accepts_number k ≡ b → readable w ≡ true → cond b (is_written_list k w) (is_written_value nested k w) ≡ true
        → (not b ≡ true → next ≡ Repeated n k ∷ rows) → (not b ≡ false → next ≡ rows) → Value next rs → Value
        (Repeated n k ∷ rows) (with_number n w ∷ rs)
    put_repeated n k (Length run) rows next rs true a r h more last x =
        let e = and_split _ _ h in
        put_run n k run rows rs a (not_false _ e.0) (run_read k run r e.1)
        (subst (λ (t : List Row). Value t rs) (last refl) x)
    put_repeated n k w rows next rs true a r h more last x = absurd cc
    put_repeated n k w rows next rs false a r h more last x =
        let y = subst (λ (t : List Row). Value t rs) (more refl) x in
        put_element n k w rows rs (ap not a) (written_single k w r h) y.v y.fits y.low y.is

    -- ---- a record of a row

    member_found : (members : List (ℕ × Kind)) (n : ℕ) (f : Kind × Bool) → member_numbered members n ≡ Some f →
        (includes (numbers (OneOf members)) n ≡ true) × ((member_kind members n, false) ≡ f)
    member_found [] n f e = absurd cc
    member_found (m ∷ members) n f e = by_test (eqb n m.0) (member_found members n f) e
      where
        by_test : (b : Bool) → (member_numbered members n ≡ Some f → (includes (numbers (OneOf members)) n ≡ true) ×
            ((member_kind members n, false) ≡ f))
            → option_or (cond b (Some (m.1, false)) None) (member_numbered members n) ≡ Some f
            → ((b || includes (numbers (OneOf members)) n) ≡ true) × ((cond b m.1 (member_kind members n), false) ≡ f)
        by_test true later g = (refl, some_is (m.1, false) f g)
        by_test false later g = later g

    row_sound : (row : Row) (rows next : List Row) (n : ℕ) (w : RecordValue) (rs : List FieldRecord) (f : Kind × Bool) →
        may_be_empty row ≡ true → readable w ≡ true
        → field_in_row row n ≡ Some f → is_written_field nested (is_plain row) f w ≡ true → cond (may_recur f)
        (row ∷ rows) rows ≡ next → Value next rs → Value (row ∷ rows) (with_number n w ∷ rs)
    row_sound (Plain m k) rows next n w rs f h r e g q x =
        let t = passed (eqb n m) (Some (k, false)) f e in
        let same : (k, false) ≡ f = some_is (k, false) f t.1 in
        let number : n ≡ m = eqb-true n m t.0 in
        let written = and_split (is_written_value nested k w) _ (ap (λ z. is_written_field nested true z w) same ∙ g) in
        let rest = ap (λ z. cond (may_recur z) (Plain m k ∷ rows) rows) same ∙ q in
        subst (λ z. Value (Plain m k ∷ rows) (with_number z w ∷ rs)) (sym number)
        (put_plain m k w rows rs (not_false _ h) (not_false _ written.1) (written_single k w r written.0)
        (subst (λ (z : List Row). Value z rs) (sym rest) x))
    row_sound (Optional m k) rows next n w rs f h r e g q x =
        let t = passed (eqb n m) (Some (k, false)) f e in
        let same : (k, false) ≡ f = some_is (k, false) f t.1 in
        let number : n ≡ m = eqb-true n m t.0 in
        let written = and_split (is_written_value nested k w) _ (ap (λ z. is_written_field nested false z w) same ∙ g)
        in
        let rest = ap (λ z. cond (may_recur z) (Optional m k ∷ rows) rows) same ∙ q in
        subst (λ z. Value (Optional m k ∷ rows) (with_number z w ∷ rs)) (sym number)
        (put_optional m k w rows rs (written_single k w r written.0) (subst (λ (z : List Row). Value z rs) (sym rest)
        x))
    row_sound (Repeated m k) rows next n w rs f h r e g q x =
        let t = passed (eqb n m) (Some (k, true)) f e in
        let same : (k, true) ≡ f = some_is (k, true) f t.1 in
        let number : n ≡ m = eqb-true n m t.0 in
        let written = ap (λ z. is_written_field nested false z w) same ∙ g in
        let rest : cond (unpacked k) (Repeated m k ∷ rows) rows ≡ next = ap
        (λ z. cond (may_recur z) (Repeated m k ∷ rows) rows) same ∙ q in
        subst (λ z. Value (Repeated m k ∷ rows) (with_number z w ∷ rs)) (sym number)
        (put_repeated m k w rows next rs (accepts_number k) refl r written (λ u. sym rest ∙ ap (λ b. cond b (Repeated m
        k ∷ rows) rows) u)
        (λ u. sym rest ∙ ap (λ b. cond b (Repeated m k ∷ rows) rows) u) x)
    row_sound (OneOf members) rows next n w rs f h r e g q x =
        let t = member_found members n f e in
        let k = member_kind members n in
        let written = and_split (is_written_value nested k w) _ (ap (λ z. is_written_field nested false z w) t.1 ∙ g) in
        let rest = ap (λ z. cond (may_recur z) (OneOf members ∷ rows) rows) t.1 ∙ q in
        put_member members n w rows rs t.0 (written_single k w r written.0)
        (subst (λ (z : List Row). Value z rs) (sym rest) x)

    found_sound : (row : Row) (rows next : List Row) (r : FieldRecord) (rs : List FieldRecord) → may_be_empty row ≡ true
        →
        readable r.value ≡ true
        → (rows_after nested rows r ≡ Some next → Value rows (r ∷ rs))
        → (o : Option (Kind × Bool)) → field_in_row row r.number ≡ o →
        (found_or row rows (next_field rows r.number) o >>= rows_after_field nested r.value) ≡ Some next → Value next
        rs → Value (row ∷ rows) (r ∷ rs)
    unfolding with_number
    found_sound row rows next r rs h c later None i g x = skip row rows (r ∷ rs) h (later g)
    found_sound row rows next r rs h c later (Some f) i g x =
        let t = passed (is_written_field nested (is_plain row) f r.value) (Some (cond (may_recur f) (row ∷ rows) rows))
        next g in
        row_sound row rows next r.number r.value rs f h c i t.0 (some_is _ next t.1) x

    recur_empty : (row : Row) (rows next : List Row) → list_all may_be_empty (row ∷ rows) ≡ true → (b : Bool) → cond b
        (row ∷ rows) rows ≡ next → list_all may_be_empty next ≡ true
    recur_empty row rows next h true q = ap (list_all may_be_empty) (sym q) ∙ h
    recur_empty row rows next h false q = ap (list_all may_be_empty) (sym q) ∙ (and_split _ _ h).1

    found_empty : (row : Row) (rows next : List Row) (r : FieldRecord) → list_all may_be_empty (row ∷ rows) ≡ true →
        (rows_after nested rows r ≡ Some next → list_all may_be_empty next ≡ true)
        → (o : Option (Kind × Bool)) → (found_or row rows (next_field rows r.number) o >>= rows_after_field nested
        r.value) ≡ Some next → list_all may_be_empty next ≡ true
    found_empty row rows next r h later None g = later g
    found_empty row rows next r h later (Some f) g =
        let t = passed (is_written_field nested (is_plain row) f r.value) (Some (cond (may_recur f) (row ∷ rows) rows))
        next g in
        recur_empty row rows next h (may_recur f) (some_is _ next t.1)

    after_sound : (rows : List Row) (r : FieldRecord) (next : List Row) (rs : List FieldRecord) → list_all may_be_empty
        rows ≡ true → readable r.value ≡ true
        → rows_after nested rows r ≡ Some next → Value next rs → Value rows (r ∷ rs)
    unfolding with_number
    after_sound [] r next rs h c e x = absurd cc
    after_sound (row ∷ rows) r next rs h c e x =
        let s = and_split _ _ h in
        found_sound row rows next r rs s.0 c (λ g. after_sound rows r next rs s.1 c g x) (field_in_row row r.number)
        refl
        e x

    after_empty : (rows : List Row) (r : FieldRecord) (next : List Row) → list_all may_be_empty rows ≡ true → rows_after
        nested rows r ≡ Some next → list_all may_be_empty next ≡ true
    after_empty [] r next h e = absurd cc
    after_empty (row ∷ rows) r next h e =
        found_empty row rows next r h (λ g. after_empty rows r next (and_split _ _ h).1 g) (field_in_row row r.number) e

    record Come (rows : List Row) (room : ℕ) (rs : List FieldRecord) : Type 0 where
      value : Value rows rs
      size : room ≡ total_size rs

    come_sound : (rs : List FieldRecord) (rows : List Row) (room : ℕ) → list_all may_be_empty rows ≡ true → list_all
        (λ r. readable r.value) rs ≡ true → all_come nested (rows, room) rs ≡ true → Come rows room rs
    unfolding total_size
    come_sound [] rows room h c e = record { value = none rows h; size = eqb-true room 0 e }
    come_sound (r ∷ rs) rows room h c e = by_next (come_sound rs) (coming_after nested (rows, room) r) refl e
      where
        by_next : ((rows : List Row) (room : ℕ) → list_all may_be_empty rows ≡ true → list_all (λ r. readable r.value)
            rs
            ≡ true → all_come nested (rows, room) rs ≡ true → Come rows room rs)
            → (o : Option Coming) → coming_after nested (rows, room) r ≡ o →
            (elim o [ None ↦ false | Some next ↦ all_come nested next rs ]) ≡ true → Come rows room (r ∷ rs)
        by_next later None i g = absurd cc
        by_next later (Some next) i g =
            let s = and_split _ _ c in
            let t = bind_some (rows_after nested rows r) (λ (z : List Row). cond (ltb room (written_size r)) None
            (Some (z, room - written_size r))) next i in
            let u = not_stopped (ltb room (written_size r)) (Some (t.0, room - written_size r)) next t.2 in
            let same : (t.0, room - written_size r) ≡ next = some_is _ next u.1 in
            let x = later t.0 (room - written_size r) (after_empty rows r t.0 h t.1) s.1
            (ap (λ z. all_come nested z rs) same ∙ g) in
            record {
              value = after_sound rows r t.0 rs h s.0 t.1 x.value;
              size = omega (arith, ltb-false _ _ u.0, x.size);
            }

    level_sound : (s : ℕ) (bytes : List ℕ) → list_all may_be_empty (table s) ≡ true → are_bytes bytes ≡ true →
        some_passes
        (all_come nested (table s, length bytes)) (record_list 0 bytes) ≡ true → Canon left s bytes
    level_sound s bytes h a e = by_list (record_list 0 bytes) refl e
      where
        by_list : (o : Option (List FieldRecord)) → record_list 0 bytes ≡ o → some_passes
            (all_come nested (table s, length bytes)) o ≡ true → Canon left s bytes
        by_list None i g = absurd cc
        by_list (Some rs) i g =
            let r = read_list rs bytes a (records_reads 0 bytes rs i) in
            let x = come_sound rs (table s) (length bytes) h r.can g in
            record {
              v = x.value.v;
              fits = x.value.fits;
              low = x.value.low;
              is = r.tight (omega (arith, x.size)) ∙ ap record_list_bytes x.value.is;
            }

  -- ---- at any nesting depth

  module _ (valid : IsTable table) where
    pub schemas : (s : ℕ) → is_schema (table s) ≡ true
    schemas s = (and_split _ _ (valid s)).0

    pub rows_may_be_empty : (s : ℕ) → list_all may_be_empty (table s) ≡ true
    rows_may_be_empty s = (and_split _ _ (valid s)).1

    deeper : (left s : ℕ) (bytes : List ℕ) → Canon left s bytes → Deep (suc left) s bytes
    deeper left s bytes x = record { v = x.v; fits = x.fits; low = omega (arith, x.low); is = x.is }

    pub payload_sound : (left s : ℕ) (bytes : List ℕ) → are_bytes bytes ≡ true → is_canonical_payload_in table left s
        bytes ≡ true →
        Canon left s bytes
    unfolding is_canonical_message_in
    payload_sound zero s bytes a e = level_sound (is_canonical_message_in table zero) zero (λ t b c f. absurd cc) s
        bytes
        (rows_may_be_empty s) a e
    payload_sound (suc left) s bytes a e =
        level_sound (is_canonical_message_in table (suc left)) (suc left) (λ t b c f. deeper left t b (payload_sound
        left t b c f)) s
        bytes (rows_may_be_empty s) a e

    pub sound : (s : ℕ) (bytes : List ℕ) → ((i : ℕ) → get_or bytes i 0 < 256) → length bytes < 2 ^ 32 →
        is_canonical_payload_in
        table 100 s bytes ≡ true → IsCanonicalIn table s bytes
    sound s bytes b z e =
        let x = payload_sound 100 s bytes (are_bytes_of bytes b) e in
        let back = canonical_back table schemas 100 s x.v x.fits x.low (omega (arith, ap length x.is, z)) in
        let means : x.v ≡ meaning table 100 s bytes = sym back.1 ∙ ap (meaning table 100 s) (sym x.is) in
        record {
          short = z;
          accepted = ap (accepts_payload table 100 s) x.is ∙ back.0;
          fits = subst (λ v. Fits table v (table s)) means x.fits;
          low = subst (λ v. levels v ≤ 100) means x.low;
          canonical = x.is ∙ ap (canonical_payload table s) means;
        }

  -- ---- the items of a payload

  module _ (one : List ℕ → Option (FieldRecord × List ℕ)) (nested : NestedAcceptance) (end : ℕ) where
    come_over : (s : Coming) (r : FieldRecord) (items : List (Result PlacedRecord WireError))
        (rs : Option (List FieldRecord)) (o : Option Coming) → coming_after nested s r ≡ o
        → ((next : Coming) → all_come_read nested next items ≡ some_passes (all_come nested next) rs)
        → (elim o [ None ↦ false | Some next ↦ all_come_read nested next items ]) ≡ some_passes (all_come nested s)
        (rs >>= λ xs. Some (r ∷ xs))
    come_over s r items None None e later = refl
    come_over s r items None (Some next) e later = later next
    come_over s r items (Some xs) None e later = rw (e, all_come) refl
    come_over s r items (Some xs) (Some next) e later = rw (e, all_come) (later next)

    come_first : (b : ℕ) (bs : List ℕ) (found : Option (FieldRecord × List ℕ)) (s : Coming) → one (b ∷ bs) ≡ found
        → ((past : ℕ) (next : Coming) → all_come_read nested next (records_past one end past bs) ≡ some_passes
        (all_come nested next) (sequence_past one past bs))
        → all_come_read nested s (records_past one end 0 (b ∷ bs)) ≡ some_passes (all_come nested s)
        (sequence_past one 0 (b ∷ bs))
    unfolding records_past sequence_past
    come_first b bs None s e later = rw (e, records_past, sequence_past) refl
    come_first b bs (Some r) s e later =
        rw (e, records_past, sequence_past) (come_over s r.0 (records_past one end (length bs - length r.1) bs)
        (sequence_past one (length bs - length r.1) bs) (coming_after nested s r.0) refl
        (later (length bs - length r.1)))

    pub come_past : (bytes : List ℕ) (past : ℕ) (s : Coming) → all_come_read nested s (records_past one end past bytes)
        ≡
        some_passes (all_come nested s) (sequence_past one past bytes)
    unfolding records_past sequence_past
    come_past [] past s = refl
    come_past (b ∷ bs) (suc past) s = come_past bs past s
    come_past (b ∷ bs) zero s = come_first b bs (one (b ∷ bs)) s refl (come_past bs)

  pub all_come_is : (left s : ℕ) (bytes : List ℕ) → all_come_read (is_canonical_message_in table left) (
    table s,
    length
        bytes,
  )
      (read_records 0 bytes) ≡ is_canonical_payload_in table left s bytes
  unfolding read_records record_list
  all_come_is left s bytes = come_past (record_at 0) (is_canonical_message_in table left) (length bytes) bytes 0
      (table s, length bytes)

  -- ---- one level down

  pub canonical_zero : (s : ℕ) (bytes : List ℕ) → is_canonical_message_in table 0 s bytes ≡ false
  unfolding is_canonical_message_in
  canonical_zero s bytes = refl

  pub canonical_below : (below left s : ℕ) (bytes : List ℕ) → below + 1 ≡ left → is_canonical_message_in table left s
      bytes ≡
      is_canonical_payload_in table below s bytes
  unfolding is_canonical_message_in
  canonical_below below zero s bytes h = absurd (omega (arith, h))
  canonical_below below (suc left) s bytes h = let e : left ≡ below = omega (arith, h) in ap
      (λ l. is_canonical_payload_in table l s bytes) e
