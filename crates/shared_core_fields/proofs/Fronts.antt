-- What the bytes of a canonical payload begin with: a record that may come next.
use Rattle.std.proofs.Common.{◌*◌, ◌/◌, ◌%◌, ◌≤◌, cond, ltb, inl, inr, eq-eqb}
use Rattle.std.proofs.lemmas.Bool.{ltb-false}
use Rattle.std.proofs.lemmas.List.{take_all, length-append, length-take, length-drop}
use Rattle.std.proofs.Common.{◌≡◌, ℕ, ◌+◌, ◌-◌, ◌<◌, List, [], ◌∷◌, ◌++◌, length, Bool, true, false, ◌&&◌, Option, Some}
use Rattle.std.proofs.Common.{None, Ok, refl, sym, ap, ◌∙◌, arith, append_assoc, subst}
use Rattle.std.specs.Prelude.{is_some, get_or, take, drop, ◌==◌, option_map}
use Rattle.shared_core_wire.specs.Grammar.{RecordValue, Varint, Fixed64, Length, Group, Fixed32, FieldRecord, content}
use Rattle.shared_core_wire.specs.Grammar.{IsRecordWithin}
use Rattle.shared_core_wire.specs.Reader.{◌>>=◌, varint_at, varint_within, bytes_at, key_at, record_at}
use Rattle.shared_core_wire.specs.ReadRecords.{records_past}
use Rattle.shared_core_wire.specs.Schema.{Table, Kind, Row}
use Rattle.shared_core_wire.specs.Acceptance.{accepts_number}
use Rattle.shared_core_wire.proofs.Readers.{BeginsWith, some_is, varint_again, bytes_again, key_again, key_reads}
use Rattle.shared_core_wire.proofs.Readers.{key_pos}
use Rattle.shared_core_wire.proofs.VarintLoop.{varint_one}
use Rattle.shared_core_wire.specs.Value.{Part}
use Rattle.shared_core_wire.proofs.ReadRecords.{cases_option, place, step, read_stop, read_encoded}
use Rattle.shared_core_wire.proofs.Runs.{and_split}
use Rattle.shared_core_codec.specs.Canonicity.{Next, next_field, is_written_value, is_written_list}
use Rattle.shared_core_fields.specs.Coming.{is_nested_in, is_short, is_typed_in, are_coming_in}
use Rattle.shared_core_fields.specs.KnownValues.{front_at, is_known_in, typed_parts_in, value_after}
use Rattle.shared_core_fields.specs.Fields.{record_part_in}
use Rattle.shared_core_fields.specs.Views.{content_offset}

-- ---- varints

pub varint_there : (bytes : List ℕ) → is_some (varint_at bytes) ≡ true → 0 < length bytes
unfolding varint_at varint_within
varint_there [] h = absurd cc
varint_there (b ∷ bs) h = omega arith

-- ---- keys

-- The varint of a key.
abbrev key_number : ℕ × ℕ × List ℕ → ℕ × List ℕ
key_number x = (8 * x.0 + x.1, x.2)

varint_of : (bytes : List ℕ) (x : ℕ × ℕ × List ℕ) → key_at bytes ≡ Some x → varint_at bytes ≡ Some (key_number x)
varint_of bytes x e =
    let t = key_reads bytes x e in
    ap varint_at t.parts ∙ varint_again t.text x.2 (8 * x.0 + x.1) t.is.encoding

pub key_varint : (bytes : List ℕ) → is_some (key_at bytes) ≡ true → is_some (varint_at bytes) ≡ true
key_varint bytes h = elim (cases_option (key_at bytes)) [
  | inl none ↦ absurd (let n = ap is_some none in cc)
  | inr w ↦ ap is_some (varint_of bytes w.0 w.1)
]

pub key_from : (bytes rest : List ℕ) (k n : ℕ) → is_some (key_at bytes) ≡ true → varint_at bytes ≡ Some (k, rest) → n ≡
    k / 8 % 4294967296 → key_at bytes ≡ Some (n, k % 8, rest)
key_from bytes rest k n h v e = elim (cases_option (key_at bytes)) [
  | inl none ↦ absurd (let n = ap is_some none in cc)
  | inr w ↦
      let t = key_reads bytes w.0 w.1 in
      let same : key_number w.0 ≡ (k, rest) = some_is (key_number w.0) (k, rest) (sym (varint_of bytes w.0 w.1) ∙ v) in
      let key : 8 * w.0.0 + w.0.1 ≡ k = ap (λ (p : ℕ × List ℕ). p.0) same in
      let last : w.0.2 ≡ rest = ap (λ (p : ℕ × List ℕ). p.1) same in
      let number : w.0.0 ≡ n = omega (arith, key, e, t.is.typed, t.is.fits) in
      let wire : w.0.1 ≡ k % 8 = omega (arith, key, t.is.typed) in
      w.1 ∙ ap (λ (m : ℕ). Some (m, w.0.1, w.0.2)) number ∙ ap (λ (m : ℕ). Some (n, m, w.0.2)) wire
      ∙ ap (λ (r : List ℕ). Some (n, k % 8, r)) last
]

-- ---- a key and the varint after it

-- The varint after a key.
abbrev with_varint : ℕ → ℕ → ℕ × List ℕ → Option (ℕ × ℕ × ℕ × List ℕ)
with_varint n wire x = Some (n, wire, x.0, x.1)

abbrev with_key : ℕ × ℕ × List ℕ → Option (ℕ × ℕ × ℕ × List ℕ)
with_key k = varint_at k.2 >>= with_varint k.0 k.1

pub front_from : (bytes body rest : List ℕ) (n wire m : ℕ) → key_at bytes ≡ Some (n, wire, body) → varint_at body ≡ Some
    (m, rest) → front_at bytes ≡ Some (n, wire, m, rest)
front_from bytes body rest n wire m k v =
    ap (λ (o : Option (ℕ × ℕ × List ℕ)). o >>= with_key) k
    ∙ ap (λ (o : Option (ℕ × List ℕ)). o >>= with_varint n wire) v

pub front_key : (bytes : List ℕ) → is_some (front_at bytes) ≡ true → is_some (key_at bytes) ≡ true
front_key bytes h = by_key (key_at bytes) h
  where
    by_key : (o : Option (ℕ × ℕ × List ℕ)) → is_some (o >>= with_key) ≡ true → is_some o ≡ true
    by_key None g = absurd cc
    by_key (Some k) g = refl

pub front_varint : (bytes body : List ℕ) (n wire : ℕ) → is_some (front_at bytes) ≡ true → key_at bytes ≡ Some
    (n, wire, body) → is_some (varint_at body) ≡ true
front_varint bytes body n wire h k =
    by_varint (varint_at body) (sym (ap (λ (o : Option (ℕ × ℕ × List ℕ)). is_some (o >>= with_key)) k) ∙ h)
  where
    by_varint : (o : Option (ℕ × List ℕ)) → is_some (o >>= with_varint n wire) ≡ true → is_some o ≡ true
    by_varint None g = absurd cc
    by_varint (Some x) g = refl

pub front_there : (bytes : List ℕ) → is_some (front_at bytes) ≡ true → 2 ≤ length bytes
front_there bytes h = elim (cases_option (key_at bytes)) [
  | inl none ↦ absurd (let n = ap is_some none in let k = front_key bytes h in cc)
  | inr w ↦
      let t = key_reads bytes w.0 w.1 in
      let some = varint_there w.0.2 (front_varint bytes w.0.2 w.0.0 w.0.1 h w.1) in
      omega (arith, ap length t.parts, length-append t.text w.0.2, key_pos t.text w.0.0 w.0.1 t.is, some)
]

pub front_bytes : (bytes rest : List ℕ) (b m n v : ℕ) → is_some (front_at bytes) ≡ true → b ≡ get_or bytes 0 0 → m ≡
    get_or bytes 1 0 → b < 128 → m < 128 → n ≡ b / 8 → v ≡ m → rest ≡ take (length bytes - 2) (drop 2 bytes) → front_at
    bytes ≡ Some (n, b % 8, v, rest)
front_bytes [] rest b m n v h first second low small number is last =
    absurd (omega (arith, front_there [] h))
front_bytes (x ∷ []) rest b m n v h first second low small number is last =
    absurd (omega (arith, front_there (x ∷ []) h))
front_bytes (x ∷ y ∷ bs) rest b m n v h first second low small number is last =
    let bytes = x ∷ y ∷ bs in
    let two : length bytes - 2 ≡ length bs = omega arith in
    let all : bs ≡ rest = sym (last ∙ ap (λ (n : ℕ). take n bs) two ∙ take_all (length bs) bs (omega arith)) in
    let key_byte : varint_at bytes ≡ Some (b, y ∷ bs) = varint_one x (y ∷ bs) (omega (arith, first, low)) ∙ ap
    (λ (z : ℕ). Some (z, y ∷ bs)) (sym first) in
    let next_byte : varint_at (y ∷ bs) ≡ Some (v, bs) = varint_one y bs (omega (arith, second, small)) ∙ ap
    (λ (z : ℕ). Some (z, bs)) (sym (is ∙ second)) in
    let key = key_from bytes (y ∷ bs) b n (front_key bytes h) key_byte (omega (arith, number, low)) in
    front_from bytes (y ∷ bs) bs n (b % 8) v key next_byte
    ∙ ap (λ (z : List ℕ). Some (n, b % 8, v, z)) all

-- ---- values

-- Length-delimited bytes, as a value.
abbrev as_length : List ℕ × List ℕ → Option (RecordValue × List ℕ)
as_length x = Some (Length x.0, x.1)

module _ (table : Table) where
  -- A value that is length-delimited: what a field of a kind says of it.
  pub record Delimited (f : Kind × Bool) (wire n : ℕ) (bytes : List ℕ) : Type 0 where
    pub enough : n ≤ length bytes
    pub value : value_after wire (n, bytes) ≡ Some (Length (take n bytes), drop n bytes)
    pub short : is_short (Length (take n bytes)) ≡ true
    pub typed : is_typed_in table f (Length (take n bytes)) ≡ true

  of_length : (f : Kind × Bool) (wire n : ℕ) (bytes : List ℕ) → (wire == 2) ≡ true → is_known_in table f
      (value_after wire (n, bytes)) ≡ true → Delimited f wire n bytes
  unfolding bytes_at
  of_length f wire n bytes two h = by_size (ltb (length bytes) n) refl
      (sym (ap (λ (b : Bool). is_known_in table f (cond b (bytes_at n bytes >>= as_length) (Some (Varint n, bytes))))
      two) ∙ h)
    where
      by_size : (b : Bool) → ltb (length bytes) n ≡ b → is_known_in table f (cond b None (Some (
        take n bytes,
        drop n
            bytes,
      )) >>=
          as_length) ≡ true → Delimited f wire n bytes
      by_size true e g = absurd cc
      by_size false e g =
          let t = and_split _ _ g in
          record {
            enough = ltb-false _ _ e;
            value = ap (λ (b : Bool). cond b (bytes_at n bytes >>= as_length) (Some (Varint n, bytes))) two
                ∙ ap (λ (b : Bool). cond b None (Some (take n bytes, drop n bytes)) >>= as_length) e;
            short = t.0;
            typed = t.1;
          }

  pub delimited : (f : Kind × Bool) (wire n : ℕ) (bytes : List ℕ) → wire ≡ 2
      → is_known_in table f (value_after wire (n, bytes)) ≡
      true → Delimited f wire n bytes
  delimited f wire n bytes w h = of_length f wire n bytes (eq-eqb wire 2 w) h

  pub delimited_by_kind : (f : Kind × Bool) (wire n : ℕ) (bytes : List ℕ) → is_typed_in table f (Varint n) ≡ false
      → is_known_in table f
      (value_after wire (n, bytes)) ≡ true → Delimited f wire n bytes
  delimited_by_kind f wire n bytes none h = by_wire (wire == 2) refl
    where
      by_wire : (b : Bool) → (wire == 2) ≡ b → Delimited f wire n bytes
      by_wire true e = of_length f wire n bytes e h
      by_wire false e =
          let number : is_known_in table f (Some (Varint n, bytes)) ≡ true = sym (ap (λ (b : Bool). is_known_in table f
          (cond b (bytes_at n bytes >>= as_length) (Some (Varint n, bytes)))) e) ∙ h in
          let t = and_split (is_short (Varint n)) (is_typed_in table f (Varint n)) number in
          absurd (let typed = t.1 in cc)

pub offset_is : (wire n end : ℕ) (bytes rest : List ℕ) (w : RecordValue) → value_after wire (n, bytes) ≡ Some (w, rest)
    → cond (wire == 2) (end - length bytes) 0 ≡ content_offset w (end - length rest)
unfolding bytes_at
offset_is wire n end bytes rest w v = by_wire (wire == 2) v
  where
    by_size : (b : Bool) → ltb (length bytes) n ≡ b → (cond b None (Some (take n bytes, drop n bytes)) >>= as_length) ≡
        Some (w, rest) → end - length bytes ≡ content_offset w (end - length rest)
    by_size true e g = absurd cc
    by_size false e g =
        let read : RecordValue × List ℕ = (Length (take n bytes), drop n bytes) in
        let given : RecordValue × List ℕ = (w, rest) in
        let same : read ≡ given = some_is read given g in
        let long = ltb-false _ _ e in
        let here : end - length bytes ≡ end - length (drop n bytes) - length (take n bytes) = omega
        (arith, long, length-take n bytes, length-drop n bytes) in
        here ∙ ap (λ (p : RecordValue × List ℕ). content_offset p.0 (end - length p.1)) same

    by_wire : (b : Bool) → cond b (bytes_at n bytes >>= as_length) (Some (Varint n, bytes)) ≡ Some (w, rest) → cond b
        (end - length bytes) 0 ≡ content_offset w (end - length rest)
    by_wire true g = by_size (ltb (length bytes) n) refl g
    by_wire false g =
        let read : RecordValue × List ℕ = (Varint n, bytes) in
        let given : RecordValue × List ℕ = (w, rest) in
        let same : read ≡ given = some_is read given g in
        ap (λ (p : RecordValue × List ℕ). content_offset p.0 (end - length p.1)) same

-- ---- the record at the front

abbrev record_of : ℕ → RecordValue → FieldRecord
record_of n w = record { number = n; value = w }

-- The parts of a record whose value is a varint or length-delimited.
record Known (bytes : List ℕ) (r : FieldRecord) (rest : List ℕ) : Type 0 where
  body : List ℕ
  wire : ℕ
  first : ℕ
  after : List ℕ
  key : key_at bytes ≡ Some (r.number, wire, body)
  varint : varint_at body ≡ Some (first, after)
  value : value_after wire (first, after) ≡ Some (r.value, rest)

front_parts : (bytes key body rest : List ℕ) → bytes ≡ (key ++ body) ++ rest → bytes ≡ key ++ (body ++ rest)
front_parts bytes key body rest e = e ∙ append_assoc key body rest

module _ (table : Table) where
  untyped : (w : RecordValue) → ((k : Kind) → is_written_value (is_nested_in table) k w ≡ false)
      → ((k : Kind) → is_written_list k w ≡ false) → (k : Kind) (repeated : Bool) → is_typed_in table (k, repeated) w ≡
      false
  untyped w v u k false = v k
  untyped w v u k true = by_kind (accepts_number k)
    where
      by_kind : (b : Bool) → cond b (is_written_list k w) (is_written_value (is_nested_in table) k w) ≡ false
      by_kind true = u k
      by_kind false = v k

  known_of : (f : Kind × Bool) (n : ℕ) (w : RecordValue) (bytes rest : List ℕ) → is_typed_in table f w ≡ true
      → BeginsWith
      (IsRecordWithin 0) bytes (record_of n w, rest) → Known bytes (record_of n w) rest
  known_of f n (Varint m) bytes rest h b =
      let parts = front_parts bytes b.is.key b.is.body rest (b.parts ∙ ap (λ (t : List ℕ). t ++ rest) b.is.parts) in
      record {
        body = b.is.body ++ rest;
        wire = 0;
        first = m;
        after = rest;
        key = ap key_at parts ∙ key_again b.is.key (b.is.body ++ rest) n 0 b.is.keyed;
        varint = varint_again b.is.body rest m b.is.valued;
        value = refl;
      }
  known_of f n (Length bs) bytes rest h b =
      let parts = front_parts bytes b.is.key b.is.body rest (b.parts ∙ ap (λ (t : List ℕ). t ++ rest) b.is.parts) in
      let len = b.is.valued in
      let same : b.is.body ++ rest ≡ len.0 ++ (bs ++ rest) = ap (λ (t : List ℕ). t ++ rest) len.2
      ∙ append_assoc len.0 bs
      rest in
      record {
        body = b.is.body ++ rest;
        wire = 2;
        first = length bs;
        after = bs ++ rest;
        key = ap key_at parts ∙ key_again b.is.key (b.is.body ++ rest) n 2 b.is.keyed;
        varint = ap varint_at same ∙ varint_again len.0 (bs ++ rest) (length bs) len.1;
        value = ap (λ (o : Option (List ℕ × List ℕ)). o >>= as_length) (bytes_again bs rest (length bs) refl);
      }
  known_of (k, b) n (Fixed64 bs) bytes rest h t =
      absurd (let none = untyped (Fixed64 bs) (λ j. refl) (λ j. refl) k b in cc)
  known_of (k, b) n (Group bs) bytes rest h t =
      absurd (let none = untyped (Group bs) (λ j. refl) (λ j. refl) k b in cc)
  known_of (k, b) n (Fixed32 bs) bytes rest h t =
      absurd (let none = untyped (Fixed32 bs) (λ j. refl) (λ j. refl) k b in cc)

  -- What a payload begins with if the records of these rows are left: a record of one of them.
  pub record Front (rows : List Row) (end : ℕ) (bytes : List ℕ) : Type 0 where
    pub number : ℕ
    pub wire : ℕ
    pub first : ℕ
    pub body : List ℕ
    pub value : RecordValue
    pub rest : List ℕ
    pub next : Next
    pub front_is : front_at bytes ≡ Some (number, wire, first, body)
    pub value_is : value_after wire (first, body) ≡ Some (value, rest)
    pub next_is : next_field rows number ≡ Some next
    pub short : is_short value ≡ true
    pub typed : is_typed_in table next.field value ≡ true
    pub shorter : length rest < length bytes
    pub items : records_past (record_at 0) end 0 bytes
        ≡ Ok (place end bytes (record_of number value) rest) ∷ records_past (record_at 0) end 0 rest
    pub coming : are_coming_in table next.rows (records_past (record_at 0) end 0 rest) ≡ true

  pub front : (rows : List Row) (end : ℕ) (bytes : List ℕ) → 0 < length bytes
      → are_coming_in table rows (records_past (record_at 0) end 0 bytes) ≡ true → Front rows end bytes
  front rows end bytes some h = by_record (record_at 0 bytes) refl
    where
      by_next : (x : FieldRecord × List ℕ) → record_at 0 bytes ≡ Some x → (o : Option Next)
          → next_field rows x.0.number ≡ o → (elim o [
            | None ↦ false
            | Some next ↦ (is_short x.0.value && is_typed_in table next.field x.0.value)
                && are_coming_in table next.rows (records_past (record_at 0) end 0 x.1)
          ]) ≡ true → Front rows end bytes
      by_next x e None is g = absurd cc
      by_next x e (Some next) is g =
          let s = step 0 end bytes x.0 x.1 e in
          let t = and_split _ _ g in
          let u = and_split _ _ t.0 in
          let k = known_of next.field x.0.number x.0.value bytes x.1 u.1 (read_encoded 0 bytes x e) in
          record {
            number = x.0.number;
            wire = k.wire;
            first = k.first;
            body = k.after;
            value = x.0.value;
            rest = x.1;
            next = next;
            front_is = front_from bytes k.body k.after x.0.number k.wire k.first k.key k.varint;
            value_is = k.value;
            next_is = is;
            short = u.0;
            typed = u.1;
            shorter = s.shorter;
            items = s.more;
            coming = t.1;
          }

      by_record : (o : Option (FieldRecord × List ℕ)) → record_at 0 bytes ≡ o → Front rows end bytes
      by_record None e =
          absurd (let stop = ap (are_coming_in table rows) (read_stop (record_at 0) end bytes some e) in cc)
      by_record (Some x) e =
          let s = step 0 end bytes x.0 x.1 e in
          by_next x e (next_field rows x.0.number) refl (sym (ap (are_coming_in table rows) s.more) ∙ h)

  -- The same by what the program has read: a value of a kind, its part and its bytes, and the bytes after it.
  pub record Turn (rows : List Row) (end : ℕ) (bytes : List ℕ) (n : ℕ) (next : Next) (k : Kind) (p : Part)
      (bs rest : List ℕ) (wire first : ℕ) (body : List ℕ) : Type 0 where
    pub value : RecordValue
    pub value_is : value_after wire (first, body) ≡ Some (value, rest)
    pub kind : next.field.0 ≡ k
    pub part : record_part_in table next.field value ≡ p
    pub content_is : content value ≡ bs
    pub shorter : length rest < length bytes
    pub items : records_past (record_at 0) end 0 bytes
        ≡ Ok (place end bytes (record_of n value) rest) ∷ records_past (record_at 0) end 0 rest
    pub coming : are_coming_in table next.rows (records_past (record_at 0) end 0 rest) ≡ true

  module _ (rows : List Row) (end : ℕ) (bytes : List ℕ) (f : Front rows end bytes) (n wire first : ℕ) (body : List ℕ)
      (k : front_at bytes ≡ Some (n, wire, first, body)) where
    abbrev front_read : ℕ × ℕ × ℕ × List ℕ
    front_read = (f.number, f.wire, f.first, f.body)

    abbrev program_read : ℕ × ℕ × ℕ × List ℕ
    program_read = (n, wire, first, body)

    same_front : front_read ≡ program_read
    same_front = some_is front_read program_read (sym f.front_is ∙ k)

    next_there : next_field rows n ≡ Some f.next
    next_there = ap (λ (p : ℕ × ℕ × ℕ × List ℕ). next_field rows p.0) (sym same_front) ∙ f.next_is

    value_there : value_after wire (first, body) ≡ Some (f.value, f.rest)
    value_there = ap (λ (p : ℕ × ℕ × ℕ × List ℕ). value_after p.1 (p.2, p.3)) (sym same_front) ∙ f.value_is

    pub front_next : is_some (next_field rows n) ≡ true
    front_next = ap is_some next_there

    pub front_known : (next : Next) → Some next ≡ next_field rows n
        → is_known_in table next.field (value_after wire (first, body))
        ≡ true
    front_known next x =
        let is : f.next ≡ next = some_is f.next next (sym next_there ∙ sym x) in
        ap (is_known_in table next.field) value_there
        ∙ ap (λ (b : Bool). b && is_typed_in table next.field f.value) f.short
        ∙ ap (λ (m : Next). is_typed_in table m.field f.value) (sym is) ∙ f.typed

    pub turn : (next : Next) (kind : Kind) (p : Part) (bs rest : List ℕ) → Some next ≡ next_field rows n → option_map
        (typed_parts_in table next.field) (value_after wire (first, body)) ≡ Some (kind, p, bs, rest)
        → Turn rows end bytes n next
        kind p bs rest wire first body
    turn next kind p bs rest x v =
        let number : f.number ≡ n = ap (λ (p : ℕ × ℕ × ℕ × List ℕ). p.0) same_front in
        let is : f.next ≡ next = some_is f.next next (sym next_there ∙ sym x) in
        let read : Kind × Part × List ℕ × List ℕ = (
          next.field.0,
          record_part_in table next.field f.value,
          content
              f.value,
          f.rest,
        )
        in
        let given : Kind × Part × List ℕ × List ℕ = (kind, p, bs, rest) in
        let same : read ≡ given = some_is read given (sym (ap (option_map (typed_parts_in table next.field))
        value_there) ∙ v) in
        let last : f.rest ≡ rest = ap (λ (q : Kind × Part × List ℕ × List ℕ). q.3) same in
        record {
          value = f.value;
          value_is = value_there ∙ ap (λ (r : List ℕ). Some (f.value, r)) last;
          kind = ap (λ (q : Kind × Part × List ℕ × List ℕ). q.0) same;
          part = ap (λ (q : Kind × Part × List ℕ × List ℕ). q.1) same;
          content_is = ap (λ (q : Kind × Part × List ℕ × List ℕ). q.2) same;
          shorter = subst (λ (r : List ℕ). length r < length bytes) last f.shorter;
          items = f.items
              ∙ ap (λ (m : ℕ). Ok (place end bytes (record_of m f.value) f.rest) ∷ records_past (record_at 0) end 0
              f.rest) number
              ∙ ap (λ (r : List ℕ). Ok (place end bytes (record_of n f.value) r) ∷ records_past (record_at 0) end 0 r)
              last;
          coming = ap (λ (m : Next). are_coming_in table m.rows (records_past (record_at 0) end 0 rest)) (sym is)
              ∙ ap (λ (r : List ℕ). are_coming_in table f.next.rows (records_past (record_at 0) end 0 r)) (sym last)
              ∙ f.coming;
        }
