-- What a table gives are bytes.
use Rattle.std.proofs.Common.{◌≡◌, ℕ, zero, suc, ◌+◌, ◌*◌, ◌<◌, ◌≤◌, ◌/◌, List, [], ◌∷◌, ◌++◌, Bool, true, false}
use Rattle.std.proofs.Common.{cond, length}
use Rattle.std.proofs.Common.{Option, None, Result, Ok, Err, refl, subst, arith, inl, inr, take, drop, get_or, ltb}
use Rattle.std.proofs.lemmas.Bool.{cases_lt}
use Rattle.std.specs.Str.{is_utf8}
use Rattle.shared_core_wire.specs.Encoding.{shortest_varint, key_bytes}
use Rattle.shared_core_wire.specs.Schema.{Kind, Row, U32, U64, Boolean, Enumeration, Text, ByteString, Message}
use Rattle.shared_core_wire.proofs.Shortest.{shortest_small, shortest_large}
use Rattle.shared_core_codec.specs.Table.{table}
use Rattle.shared_core_codec.specs.RowEncoding.{length_record}
use Rattle.shared_core_codec.specs.Canonicity.{Next, is_packed}
use Rattle.shared_core_fields.specs.declared.table.FieldEntry.{FieldEntry}
use Rattle.shared_core_wire.specs.WrittenRecords.{number_record, content_record}
use Rattle.shared_core_fields_writer.specs.declared.error.Reason.{Reason}
use Rattle.shared_core_fields_writer.specs.declared.error.Reason.TheVariants.{NotUtf8, WrongLevel}
use Rattle.shared_core_fields_writer.specs.Given.{Given, Number, Content, Opens, given, value_given}
use Rattle.shared_core_fields_writer.specs.Given.{text_given, bytes_given, field_next}
use Rattle.shared_core_fields_writer.specs.Walk.{Walked, onto, nested_onto, More, Nothing, walk, varints}
use Rattle.shared_core_fields_writer.specs.Walk.{Inward, Onward, value_walk, message_walk, number_walk, field_walk}
use Rattle.shared_core_fields_writer.specs.Walk.{more_walk, entries_payload, is_within, is_more, run_kind}
use Rattle.shared_core_fields_writer.proofs.Canonical.{short_is}

abbrev Bytes : List ℕ → Type 0
Bytes [] = Unit {0}
Bytes (x ∷ xs) = (x < 256) × Bytes xs

-- ---- lists of bytes

both : (xs ys : List ℕ) → Bytes xs → Bytes ys → Bytes (xs ++ ys)
both [] ys h g = g
both (x ∷ xs) ys h g = (h.0, both xs ys h.1 g)

taken : (n : ℕ) (xs : List ℕ) → Bytes xs → Bytes (take n xs)
taken zero xs h = tt
taken (suc n) [] h = tt
taken (suc n) (x ∷ xs) h = (h.0, taken n xs h.1)

dropped : (n : ℕ) (xs : List ℕ) → Bytes xs → Bytes (drop n xs)
dropped zero xs h = h
dropped (suc n) [] h = tt
dropped (suc n) (x ∷ xs) h = dropped n xs h.1

from_each : (xs : List ℕ) → ((i : ℕ) → get_or xs i 0 < 256) → Bytes xs
from_each [] h = tt
from_each (x ∷ xs) h = (h 0, from_each xs (λ i. h (suc i)))

to_each : (xs : List ℕ) → Bytes xs → (i d : ℕ) → i < length xs → get_or xs i d < 256
to_each [] h i d l = absurd (omega (arith, l))
to_each (x ∷ xs) h zero d l = h.0
to_each (x ∷ xs) h (suc i) d l = to_each xs h.1 i d (omega (arith, l))

-- ---- records

varint_within : (most n : ℕ) → n ≤ most → Bytes (shortest_varint n)
varint_within zero n le = rw (shortest_small n (omega arith)) (omega arith, tt)
varint_within (suc most) n le =
    elim (cases_lt n 128) [
      | inl lt ↦ rw (shortest_small n lt) (omega arith, tt)
      | inr big ↦ rw (shortest_large n big) (omega arith, varint_within most (n / 128) (omega arith))
    ]

varint : (n : ℕ) → Bytes (shortest_varint n)
varint n = varint_within n n (omega arith)

key : (n wire : ℕ) → Bytes (key_bytes n wire)
key n wire = varint (8 * n + wire)

run : (ns : List ℕ) → Bytes (varints ns)
run [] = tt
run (n ∷ ns) = both (shortest_varint n) (varints ns) (varint n) (run ns)

of_length : (n : ℕ) (xs : List ℕ) → Bytes xs → Bytes (length_record n xs)
of_length n xs h = both (key_bytes n 2) (shortest_varint (length xs) ++ xs) (key n 2)
    (both (shortest_varint (length xs)) xs (varint (length xs)) h)

either : (b : Bool) (xs : List ℕ) → Bytes xs → Bytes (cond b [] xs)
either true xs h = tt
either false xs h = h

-- ---- what entries give

given_or : (b : Bool) (v : Result Given Reason) (r : Reason) → ((c : List ℕ) → v ≡ Ok (Content c) → Bytes c) → (c : List
    ℕ) → cond b v (Err r) ≡ Ok (Content c) → Bytes c
given_or true v r h c e = h c e
given_or false v r h c e = absurd cc

this : (xs : List ℕ) → Bytes xs → (c : List ℕ) → ◌≡◌ {A = Result Given Reason} (Ok (Content xs)) (Ok (Content c)) →
    Bytes c
this xs h c e =
    let same : xs ≡ c = cc in
    subst (λ (ys : List ℕ). Bytes ys) same h

text : (b : Bool) (xs : List ℕ) (r : Reason) → Bytes xs → (c : List ℕ) → text_given (cond b (Ok xs) (Err r)) ≡ Ok
    (Content c) → Bytes c
text true xs r h c e = given_or (is_utf8 xs) (Ok (Content xs)) NotUtf8 (this xs h) c e
text false xs r h c e = absurd cc

plain : (b : Bool) (xs : List ℕ) (r : Reason) → Bytes xs → (c : List ℕ) → bytes_given (cond b (Ok xs) (Err r)) ≡ Ok
    (Content c) → Bytes c
plain true xs r h c e = this xs h c e
plain false xs r h c e = absurd cc

no_number : (n : ℕ) (c : List ℕ) → ◌≡◌ {A = Result Given Reason} (Ok (Number n)) (Ok (Content c)) → Bytes c
no_number n c e = absurd cc

no_message : (n : ℕ) (c : List ℕ) → ◌≡◌ {A = Result Given Reason} (Ok (Opens n)) (Ok (Content c)) → Bytes c
no_message n c e = absurd cc

module _ (bytes : List ℕ) (h : Bytes bytes) where
  of_kind : (k : Kind) (e : FieldEntry) (c : List ℕ) → value_given bytes k e ≡ Ok (Content c) → Bytes c
  of_kind U32 e c g = given_or _ _ _ (no_number e.value) c g
  of_kind U64 e c g = given_or _ _ _ (no_number e.value) c g
  of_kind Boolean e c g = given_or _ _ _ (no_number e.value) c g
  of_kind Enumeration e c g = given_or _ _ _ (no_number e.value) c g
  of_kind Text e c g =
      text _ (take e.length (drop e.offset bytes)) _ (taken e.length (drop e.offset bytes) (dropped e.offset bytes h)) c
      g
  of_kind ByteString e c g =
      plain _ (take e.length (drop e.offset bytes)) _ (taken e.length (drop e.offset bytes) (dropped e.offset bytes h))
      c g
  of_kind (Message s) e c g = given_or _ _ _ (no_message s) c g

  of_entry : (k : Kind) (e : FieldEntry) (c : List ℕ) → given bytes k e ≡ Ok (Content c) → Bytes c
  of_entry k e c g = given_or _ (value_given bytes k e) _ (of_kind k e) c g

-- ---- the walk

record Gives (w : Walked) : Type 0 where
  pub all : (out : List ℕ) → w ≡ Ok out → Bytes out

good : (xs : List ℕ) → Bytes xs → Gives (Ok xs)
good xs h = record {
  all =
      λ out e.
      let same : xs ≡ out = cc in
      subst (λ (ys : List ℕ). Bytes ys) same h;
}

bad : (e : Reason × ℕ) → Gives (Err e)
bad e = record { all = λ out f. absurd cc }

choice : (b : Bool) (v w : Walked) → Gives v → Gives w → Gives (cond b v w)
choice true v w g h = g
choice false v w g h = h

after : (xs : List ℕ) (w : Walked) → Bytes xs → Gives w → Gives (onto xs w)
after xs (Ok ys) h g = good (xs ++ ys) (both xs ys h (g.all ys refl))
after xs (Err e) h g = bad e

within : (n : ℕ) (v w : Walked) → Gives v → Gives w → Gives (nested_onto n v w)
within n (Ok ys) w g h = after (length_record n ys) w (of_length n ys (g.all ys refl)) h
within n (Err e) w g h = bad e

module _ (inward : Inward) (onward : Onward) (next : Next) (n count : ℕ)
    (inner : (t below : ℕ) → Gives (inward t below))
    (outer : (rows : List Row) (m : Option ℕ) (more : More) → Gives (onward rows m more)) where
  of_message : (t depth : ℕ) → Gives (message_walk inward onward next n count t depth)
  of_message t zero = bad _
  of_message t (suc below) = within n (inward t below) _ (inner t below) (outer _ _ _)

  of_number : (value : ℕ) (numbers : List ℕ) (b : Bool) → Gives (number_walk onward next n value numbers b)
  of_number value numbers true = after (length_record n (varints (value ∷ numbers))) _
      (of_length n (varints (value ∷ numbers)) (run (value ∷ numbers))) (outer _ _ _)
  of_number value numbers false = after (number_record next.is_plain n value) _
      (either _ (key_bytes n 0 ++ shortest_varint value) (both (key_bytes n 0) (shortest_varint value) (key n 0)
      (varint value))) (outer _ _ _)

  of_value : (depth : ℕ) (numbers : List ℕ) (g : Result Given Reason) → ((c : List ℕ) → g ≡ Ok (Content c) → Bytes c) →
      Gives (value_walk inward onward next depth n count numbers g)
  of_value depth numbers (Err reason) h = bad _
  of_value depth numbers (Ok (Number value)) h = of_number value numbers (is_packed next.field)
  of_value depth numbers (Ok (Content c)) h = after (content_record next.is_plain n c) _
      (either _ (length_record n c) (of_length n c (h c refl))) (outer _ _ _)
  of_value depth numbers (Ok (Opens t)) h = of_message t depth

of_field : (bytes : List ℕ) → Bytes bytes → (inward : Inward) (onward : Onward) (level depth : ℕ) (e : FieldEntry)
    (es : List FieldEntry) → ((t below : ℕ) → Gives (inward t below)) → ((rows : List Row) (m : Option ℕ) (more : More)
    → Gives (onward rows m more)) → (f : Result Next Reason) → Gives (field_walk bytes inward onward level depth e es f)
of_field bytes h inward onward level depth e es i o (Err reason) = bad _
of_field bytes h inward onward level depth e es i o (Ok next) =
    of_value inward onward next e.number _ i o depth _ (given bytes next.field.0 e) (of_entry bytes h next.field.0 e)

of_more : (count : ℕ) (w : Walked) → Gives w → (g : Result Given Reason) → Gives (more_walk count w g)
of_more count w h (Err reason) = bad _
of_more count w h (Ok x) = h

walked : (bytes : List ℕ) → Bytes bytes → (s : ℕ) (left : List Row) (last : Option ℕ) (more : More) (level depth : ℕ)
    (es : List FieldEntry) → Gives (walk bytes s left last more level depth es)
unfolding walk
walked bytes h s left last more level depth [] = good [] tt
walked bytes h s left last more level depth (e ∷ es) =
    let count : ℕ = length {A = FieldEntry} (e ∷ es) in
    choice (ltb e.level level) (Ok []) _ (good [] tt)
    (choice (ltb level e.level) _ _
    (choice (is_within more) _ _ (walked bytes h s left last more level depth es) (bad (WrongLevel, count)))
    (choice (is_more more last e.number) _ _
    (of_more count _ (walked bytes h s left last more level depth es) (given bytes (run_kind more) e))
    (of_field bytes h _ _ level depth e es
    (λ t below. walked bytes h t (table t) None Nothing (suc level) below es)
    (λ rows m next. walked bytes h s rows m next level depth es) (field_next (table s) left last e.number))))

pub payload_bytes : (s : ℕ) (es : List FieldEntry) (bytes out : List ℕ) → entries_payload s es bytes ≡ Ok out →
    ((i : ℕ) → get_or bytes i 0 < 256) → (i d : ℕ) → i < length out → get_or out i d < 256
unfolding entries_payload
payload_bytes s es bytes out e h =
    to_each out ((walked bytes (from_each bytes h) s (table s) None Nothing 0 100 es).all out
    (short_is (walk bytes s (table s) None Nothing 0 100 es) out e).is)
