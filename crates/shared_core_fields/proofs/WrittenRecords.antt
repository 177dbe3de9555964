-- Records as they are written: each has as few bytes as can be, and where one has more, the payload is not canonical.
use Rattle.std.proofs.Common.{take, drop, get_or, ◌/◌, ◌%◌}
use Rattle.std.proofs.Common.{◌≡◌, ℕ, zero, suc, ◌+◌, ◌-◌, ◌*◌, ◌<◌, ◌≤◌, inl, inr, List, [], ◌∷◌, ◌++◌, length}
use Rattle.std.proofs.Common.{Bool, true, false, cond, Option, Some, None, Result, Ok, refl, sym, ap, ◌∙◌, subst}
use Rattle.std.proofs.Common.{arith, append_assoc, eqb, eq-eqb, ne_eqb, ltb}
use Rattle.std.specs.Prelude.{option_map}
use Rattle.std.proofs.lemmas.Bool.{cases_lt, le-ltb, eqb-true, eqb-false}
use Rattle.std.proofs.lemmas.List.{get_or_append_left, length-append, length-take, take-append-drop}
use Rattle.shared_core_wire.specs.Grammar.{RecordValue, Varint, Fixed64, Length, Group, Fixed32, FieldRecord, IsKey}
use Rattle.shared_core_wire.specs.Grammar.{IsBase128, IsVarint, IsGroupContent, IsRecordBody, wire_type, content}
use Rattle.shared_core_wire.specs.Encoding.{shortest_varint, key_bytes}
use Rattle.shared_core_wire.specs.Reader.{◌>>=◌, varint_at, record_at}
use Rattle.shared_core_wire.specs.ReadRecords.{PlacedRecord, records_past}
use Rattle.shared_core_wire.specs.Schema.{Row}
use Rattle.shared_core_wire.specs.Acceptance.{NestedAcceptance}
use Rattle.shared_core_wire.specs.declared.error.WireError.{WireError}
use Rattle.shared_core_wire.proofs.Readers.{bind_some, not_stopped, passed, some_is, varint_pos, varint_reads}
use Rattle.shared_core_wire.proofs.ReadRecords.{cases_option, place, step, read_nil, read_stop, read_encoded}
use Rattle.shared_core_wire.proofs.ReadRecords.{read_again}
use Rattle.shared_core_wire.proofs.Shortest.{fewest, shortest_large, shortest_small}
use Rattle.shared_core_wire.proofs.VarintLoop.{varint_one}
use Rattle.shared_core_fields.proofs.SingleBytes.{byte_key, byte_key_size}
use Rattle.shared_core_codec.specs.Canonicity.{Coming, coming_after, rows_after, all_come_read, written_size}
use Rattle.shared_core_fields.specs.WrittenRecords.{IsWrittenVarint, written_record_at}
use Rattle.shared_core_fields.proofs.Checked.{with_room, number_size, content_size}

abbrev pub numbered : ℕ → RecordValue → FieldRecord
numbered n w = record { number = n; value = w }

-- ---- how many bytes

least_size : (n : ℕ) (w : RecordValue) (key body : List ℕ) → IsKey key n (wire_type w) → IsRecordBody (IsGroupContent 0)
    body n w → written_size (numbered n w) ≤ length key + length body
least_size n (Varint m) key body k b = omega (
  arith,
  fewest (8 * n + 0) key k.encoding.encoding,
  fewest m body b.encoding,
  length-append (key_bytes n 0)
      (shortest_varint m),
)
least_size n (Length bs) key body k b = omega (
  arith,
  fewest (8 * n + 2) key k.encoding.encoding,
  fewest (length bs) b.0 b.1.encoding,
  ap length b.2,
  length-append b.0 bs,
  length-append (key_bytes n 2) (shortest_varint (length bs) ++ bs),
  length-append (shortest_varint (length bs)) bs,
)
least_size n (Fixed64 bs) key body k b = omega arith
least_size n (Group bs) key body k b = omega arith
least_size n (Fixed32 bs) key body k b = omega arith

read_least : (bytes : List ℕ) (x : FieldRecord × List ℕ) → record_at 0 bytes ≡ Some x → written_size x.0 + length x.1 ≤
    length bytes
read_least bytes x e =
    let f = read_encoded 0 bytes x e in
    omega (
      arith,
      least_size x.0.number x.0.value f.is.key f.is.body f.is.keyed f.is.valued,
      ap length f.parts,
      length-append f.text x.1,
      ap length f.is.parts,
      length-append f.is.key f.is.body,
    )

-- ---- a record as it is written

-- Whether a record and the bytes after it are as many as these.
abbrev is_tight : List ℕ → FieldRecord × List ℕ → Bool
is_tight bytes x = eqb (written_size x.0 + length x.1) (length bytes)

pub record IsWritten (bytes : List ℕ) (r : FieldRecord) (rest : List ℕ) : Type 0 where
  pub read : record_at 0 bytes ≡ Some (r, rest)
  pub size : written_size r + length rest ≡ length bytes
  pub shorter : length rest < length bytes

pub is_written : (bytes : List ℕ) (r : FieldRecord) (rest : List ℕ) → written_record_at bytes ≡ Some (r, rest) →
    IsWritten bytes r rest
unfolding written_record_at
is_written bytes r rest h =
    let x : FieldRecord × List ℕ = (r, rest) in
    let v = bind_some (record_at 0 bytes) (λ x. cond (is_tight bytes x) (Some x) None) x h in
    let w = passed (is_tight bytes v.0) (Some v.0) x v.2 in
    let same : v.0 ≡ x = some_is v.0 x w.1 in
    let read : record_at 0 bytes ≡ Some x = v.1 ∙ ap (λ (z : FieldRecord × List ℕ). Some z) same in
    record {
      read = read;
      size = subst (λ (z : FieldRecord × List ℕ). written_size z.0 + length z.1 ≡ length bytes) same
          (eqb-true _ _ w.0);
      shorter = (step 0 0 bytes r rest read).shorter;
    }

pub written_is : (bytes : List ℕ) (r : FieldRecord) (rest : List ℕ) → record_at 0 bytes ≡ Some (r, rest) → written_size
    r + length rest ≡ length bytes → written_record_at bytes ≡ Some (r, rest)
unfolding written_record_at
written_is bytes r rest e size =
    let x : FieldRecord × List ℕ = (r, rest) in
    ap (λ (o : Option (FieldRecord × List ℕ)). o >>= λ x. cond (is_tight bytes x) (Some x) None) e
    ∙ ap (λ (b : Bool). cond b (Some x) None) (eq-eqb _ _ size)

pub one_written : (bytes rest : List ℕ) (b n : ℕ) → bytes ≡ b ∷ rest → b < 128 → n ≡ b → IsWrittenVarint bytes n rest
one_written bytes rest b n first small is = record {
  read = ap varint_at first ∙ varint_one b rest small ∙ ap (λ (x : ℕ). Some (x, rest)) (sym is);
  size = omega (arith, ap length first, ap length (shortest_small n (omega (arith, small, is))));
}

-- The last byte of a varint is that of the bytes after its first one.
last_later : (b c : ℕ) (bs : List ℕ) → get_or (b ∷ c ∷ bs) (length (b ∷ c ∷ bs) - 1) 0 ≡ get_or (c ∷ bs)
    (length (c ∷ bs) - 1) 0
last_later b c bs =
    let last : length (b ∷ c ∷ bs) - 1 ≡ suc (length (c ∷ bs) - 1) = omega arith in
    ap (λ (i : ℕ). get_or (b ∷ c ∷ bs) i 0) last

some_number : (text : List ℕ) (n : ℕ) → IsBase128 text n → 0 < get_or text (length text - 1) 0 → 0 < n
some_number [] n h some = absurd h
some_number (b ∷ []) n h some = omega (arith, h.1, some)
some_number (b ∷ c ∷ bs) n h some =
    omega (arith, h.2, some_number (c ∷ bs) h.1 h.3 (omega (arith, some, last_later b c bs)))

-- No byte could be left out, unless the last one is 0.
none_over : (text : List ℕ) (n : ℕ) → IsBase128 text n → 0 < get_or text (length text - 1) 0 → length
    (shortest_varint n) ≡ length text
none_over [] n h some = absurd h
none_over (b ∷ []) n h some = ap length (shortest_small n (omega (arith, h.0, h.1)))
none_over (b ∷ c ∷ bs) n h some =
    let last : 0 < get_or (c ∷ bs) (length (c ∷ bs) - 1) 0 = omega (arith, some, last_later b c bs) in
    let big : 128 ≤ n = omega (arith, h.2, some_number (c ∷ bs) h.1 h.3 last) in
    let high : n / 128 ≡ h.1 = omega (arith, h.2) in
    omega (
      arith,
      ap length (shortest_large n big),
      ap (λ (x : ℕ). length (shortest_varint x)) high,
      none_over (c ∷ bs) h.1 h.3 last,
    )

pub varint_shorter : (bytes rest : List ℕ) (n : ℕ) → varint_at bytes ≡ Some (n, rest) → length rest < length bytes
varint_shorter bytes rest n read =
    let t = varint_reads bytes (n, rest) read in
    omega (arith, ap length t.parts, length-append t.text rest, varint_pos t.text n t.is)

pub last_written : (bytes rest : List ℕ) (n : ℕ) → varint_at bytes ≡ Some (n, rest) → 0 < get_or bytes
    (length bytes - length rest - 1) 0 → IsWrittenVarint bytes n rest
last_written bytes rest n read some =
    let t = varint_reads bytes (n, rest) read in
    let long : length bytes ≡ length t.text + length rest = ap length t.parts ∙ length-append t.text rest in
    let last : length bytes - length rest - 1 ≡ length t.text - 1 = omega (arith, long) in
    let within : length t.text - 1 < length t.text = omega (arith, varint_pos t.text n t.is) in
    let same : get_or bytes (length bytes - length rest - 1) 0 ≡ get_or t.text (length t.text - 1) 0 = ap
    (λ (i : ℕ). get_or bytes i 0) last ∙ ap (λ (bs : List ℕ). get_or bs (length t.text - 1) 0) t.parts
    ∙ get_or_append_left t.text rest 0 (length t.text - 1) within in
    record {
      read = read;
      size = omega (arith, long, none_over t.text n t.is.encoding (omega (arith, some, same)));
    }

-- A record whose key is one byte, and the varint after it.
key_first : (bytes tail text rest : List ℕ) (b : ℕ) → bytes ≡ b ∷ tail → tail ≡ text ++ rest → bytes ≡ b ∷ (text ++
    rest)
key_first bytes tail text rest b first parts = first ∙ ap (λ (t : List ℕ). b ∷ t) parts

pub short_number : (bytes tail rest : List ℕ) (b m n v : ℕ) → bytes ≡ b ∷ tail → IsWrittenVarint tail m rest → 8 ≤ b →
    b < 128 → b % 8 ≡ 0 → n ≡ b / 8 → v ≡ m → written_record_at bytes ≡ Some (numbered n (Varint v), rest)
short_number bytes tail rest b m n v first h low high w number is =
    let t = varint_reads tail (m, rest) h.read in
    let read : record_at 0 bytes ≡ Some (numbered (b / 8) (Varint m), rest) = ap (record_at 0)
    (key_first bytes tail t.text rest b first t.parts)
    ∙ read_again 0 (numbered (b / 8) (Varint m)) (b ∷ t.text) rest (record {
      key = b ∷ [];
      body = t.text;
      parts = refl;
      keyed = byte_key b 0 low high w;
      valued = t.is;
    }) in
    let size : written_size (numbered (b / 8) (Varint m)) + length rest ≡ length bytes = omega (
      arith,
      ap length first,
      h.size,
      length-append (key_bytes (b / 8) 0) (shortest_varint m),
      byte_key_size b 0 high w,
    ) in
    written_is bytes (numbered (b / 8) (Varint m)) rest read size
    ∙ ap (λ (x : ℕ). Some (numbered x (Varint m), rest)) (sym number)
    ∙ ap (λ (x : ℕ). Some (numbered n (Varint x), rest)) (sym is)

pub short_content : (bytes tail more content rest : List ℕ) (b m n len : ℕ) → bytes ≡ b ∷ tail → IsWrittenVarint tail m
    more → 8 ≤ b → b < 128 → b % 8 ≡ 2 → n ≡ b / 8 → len ≡ m → len ≤ length more → content ≡ take len more → rest ≡ drop
    len more → written_record_at bytes ≡ Some (numbered n (Length content), rest)
short_content bytes tail more content rest b m n len first h low high w number is long front back =
    let t = varint_reads tail (m, more) h.read in
    let parts : more ≡ content ++ rest = sym (take-append-drop len more) ∙ ap (λ (t : List ℕ). t ++ drop len more)
    (sym front) ∙ ap (λ (t : List ℕ). content ++ t) (sym back) in
    let size : length content ≡ m = omega (arith, ap length front, length-take len more, long, is) in
    let all : length more ≡ length content + length rest = ap length parts ∙ length-append content rest in
    let whole : bytes ≡ b ∷ ((t.text ++ content) ++ rest) = key_first bytes tail t.text more b first t.parts
    ∙ ap (λ (x : List ℕ). b ∷ (t.text ++ x)) parts
    ∙ ap (λ (x : List ℕ). b ∷ x) (sym (append_assoc t.text content rest)) in
    let read : record_at 0 bytes ≡ Some (numbered (b / 8) (Length content), rest) = ap (record_at 0) whole
    ∙ read_again 0 (numbered (b / 8) (Length content)) (b ∷ (t.text ++ content)) rest (record {
      key = b ∷ [];
      body = t.text ++ content;
      parts = refl;
      keyed = byte_key b 2 low high w;
      valued = (t.text, subst (IsVarint t.text) (sym size) t.is, refl);
    }) in
    let least : written_size (numbered (b / 8) (Length content)) + length rest ≡ length bytes = omega (
      arith,
      ap length first,
      h.size,
      all,
      length-append (key_bytes (b / 8) 2) (shortest_varint (length content) ++ content),
      length-append (shortest_varint (length content)) content,
      byte_key_size b 2 high w,
      ap (λ (x : ℕ). length (shortest_varint x)) size,
    ) in
    written_is bytes (numbered (b / 8) (Length content)) rest read least
    ∙ ap (λ (x : ℕ). Some (numbered x (Length content), rest)) (sym number)

pub content_within : (bytes : List ℕ) (n : ℕ) (w : RecordValue) (rest : List ℕ) → IsWritten bytes (numbered n w) rest →
    1 + length (content w) + length rest ≤ length bytes
content_within bytes n (Varint m) rest h = omega (arith, h.size, number_size n m (Varint m) refl)
content_within bytes n (Length bs) rest h = omega (arith, h.size, content_size n bs (Length bs) refl)
content_within bytes n (Fixed64 bs) rest h = absurd (omega (arith, h.size, h.shorter))
content_within bytes n (Group bs) rest h = absurd (omega (arith, h.size, h.shorter))
content_within bytes n (Fixed32 bs) rest h = absurd (omega (arith, h.size, h.shorter))

-- ---- what comes after it

pub comes_so : (nested : NestedAcceptance) (rows : List Row) (bytes rest : List ℕ) (r : FieldRecord) → written_size r +
    length rest ≡ length bytes → coming_after nested (rows, length bytes) r ≡ option_map (with_room (length rest))
    (rows_after nested rows r)
comes_so nested rows bytes rest r size = by_rows (rows_after nested rows r)
  where
    some : ltb (length bytes) (written_size r) ≡ false
    some = le-ltb _ _ (omega (arith, size))

    left : length bytes - written_size r ≡ length rest
    left = omega (arith, size)

    by_rows : (o : Option (List Row)) → (o >>= λ (z : List Row). cond (ltb (length bytes) (written_size r)) None
        (Some (z, length bytes - written_size r))) ≡ option_map (with_room (length rest)) o
    by_rows None = refl
    by_rows (Some z) = ap (λ (b : Bool). cond b None (Some (z, length bytes - written_size r))) some
        ∙ ap (λ (m : ℕ). Some (with_room m z)) left

room_over : (nested : NestedAcceptance) (rows : List Row) (room : ℕ) (r : PlacedRecord)
    (items : List (Result PlacedRecord WireError))
    → ((rs : List Row) → all_come_read nested (rs, room - written_size r.field_record) items ≡ false)
    → all_come_read nested (rows, room) (Ok r ∷ items) ≡ false
room_over nested rows room r items none = by_coming (coming_after nested (rows, room) r.field_record) refl
  where
    size : ℕ
    size = written_size r.field_record

    by_coming : (o : Option Coming) → coming_after nested (rows, room) r.field_record ≡ o →
        (elim o [ None ↦ false | Some next ↦ all_come_read nested next items ]) ≡ false
    by_coming None i = refl
    by_coming (Some next) i =
        let t = bind_some (rows_after nested rows r.field_record) (λ (z : List Row). cond (ltb room size) None
        (Some (z, room - size))) next i in
        let u = not_stopped (ltb room size) (Some (t.0, room - size)) next t.2 in
        let same : with_room (room - size) t.0 ≡ next = some_is _ next u.1 in
        ap (λ (z : Coming). all_come_read nested z items) (sym same) ∙ none t.0

-- More room than bytes is never filled.
loose : (nested : NestedAcceptance) (most end : ℕ) (rows : List Row) (room : ℕ) (bytes : List ℕ) → length bytes ≤ most →
    length bytes < room → all_come_read nested (rows, room) (records_past (record_at 0) end 0 bytes) ≡ false
loose nested most end rows room [] le more =
    ap (all_come_read nested (rows, room)) (read_nil (record_at 0) end) ∙ ne_eqb room 0 (λ e. absurd (omega
    (arith, e, more)))
loose nested zero end rows room (b ∷ bs) le more = absurd (omega (arith, le))
loose nested (suc most) end rows room (b ∷ bs) le more = elim (cases_option (record_at 0 (b ∷ bs))) [
  | inl none ↦ ap (all_come_read nested (rows, room)) (read_stop (record_at 0) end (b ∷ bs) (omega arith) none)
  | inr w ↦
      let s = step 0 end (b ∷ bs) w.0.0 w.0.1 w.1 in
      let least = read_least (b ∷ bs) w.0 w.1 in
      ap (all_come_read nested (rows, room)) s.more
      ∙ room_over nested rows room (place end (b ∷ bs) w.0.0 w.0.1) (records_past (record_at 0) end 0 w.0.1)
      (λ rs. loose nested most end rs (room - written_size w.0.0) w.0.1 (omega (arith, le, s.shorter))
      (omega (arith, least, more)))
]

stopped : {A : Type 0} (b : Bool) (x : A) → cond b (Some x) None ≡ None → b ≡ false
stopped true x e = absurd cc
stopped false x e = refl

strictly : (a b : ℕ) → a ≤ b → eqb a b ≡ false → a < b
strictly a b le e = elim (cases_lt a b) [
  | inl less ↦ less
  | inr more ↦ absurd (eqb-false a b e (omega (arith, le, more)))
]

pub none_comes : (nested : NestedAcceptance) (end : ℕ) (rows : List Row) (bytes : List ℕ) → 0 < length bytes →
    written_record_at bytes ≡ None → all_come_read nested (rows, length bytes) (records_past (record_at 0) end 0 bytes)
    ≡ false
unfolding written_record_at
none_comes nested end rows bytes some h = elim (cases_option (record_at 0 bytes)) [
  | inl none ↦ ap (all_come_read nested (rows, length bytes)) (read_stop (record_at 0) end bytes some none)
  | inr w ↦
      let s = step 0 end bytes w.0.0 w.0.1 w.1 in
      let least = read_least bytes w.0 w.1 in
      let not : is_tight bytes w.0 ≡ false = stopped (is_tight bytes w.0) w.0
      (sym (ap (λ (o : Option (FieldRecord × List ℕ)). o >>= λ x. cond (is_tight bytes x) (Some x) None) w.1) ∙ h) in
      let fewer : written_size w.0.0 + length w.0.1 < length bytes = strictly _ _ least not in
      ap (all_come_read nested (rows, length bytes)) s.more
      ∙ room_over nested rows (length bytes) (place end bytes w.0.0 w.0.1) (records_past (record_at 0) end 0 w.0.1)
      (λ rs. loose nested (length w.0.1) end rs (length bytes - written_size w.0.0) w.0.1 (omega arith)
      (omega (arith, fewer)))
]

pub ends_canonical : (nested : NestedAcceptance) (end : ℕ) (rows : List Row) (bytes : List ℕ) → length bytes ≡ 0 →
    all_come_read nested (rows, length bytes) (records_past (record_at 0) end 0 bytes) ≡ true
ends_canonical nested end rows [] e = ap (all_come_read nested (rows, 0)) (read_nil (record_at 0) end)
ends_canonical nested end rows (b ∷ bs) e = absurd (omega (arith, e))
