-- What is written of the records of rows is the canonical payload of what they mean.
use Rattle.std.proofs.Common.{◌≡◌, ℕ, ◌+◌, ◌-◌, ◌%◌, ◌^◌, ◌≤◌, List, [], ◌∷◌, ◌++◌, map, length, Bool}
use Rattle.std.proofs.Common.{true}
use Rattle.std.proofs.Common.{false, cond, eqb, refl, sym, ap, ◌∙◌}
use Rattle.std.proofs.Common.{append-nil, arith}
use Rattle.std.proofs.lemmas.List.{map-append}
use Rattle.std.proofs.lemmas.List.Concat.{flat_map-append}
use Rattle.shared_core_wire.specs.Encoding.{shortest_varint, key_bytes, record_bytes, record_list_bytes}
use Rattle.shared_core_wire.specs.Grammar.{RecordValue, Varint, Fixed64, Length, Group, Fixed32, FieldRecord}
use Rattle.shared_core_wire.specs.Schema.{Kind, Table, U32, U64, Boolean, Enumeration, Text, ByteString, Message}
use Rattle.shared_core_wire.specs.Value.{Part, Absent, Bytes, Nested}
use Rattle.shared_core_wire.specs.Value.{empty_value, default_of}
use Rattle.shared_core_wire.specs.Acceptance.{accepts_value}
use Rattle.shared_core_wire.specs.Acceptance.{accepts_number, accepts_message}
use Rattle.shared_core_wire.specs.Overlay.{last, values, joined_contents}
use Rattle.shared_core_wire.specs.Overlay.{number_part, scalar_part}
use Rattle.shared_core_wire.specs.Overlay.{singular_of}
use Rattle.shared_core_wire.specs.Overlay.{message_overlay}
use Rattle.shared_core_wire.specs.Canonical.{is_default}
use Rattle.shared_core_wire.specs.Canonical.{part_values}
use Rattle.shared_core_wire.specs.Canonical.{written_number}
use Rattle.shared_core_wire.specs.Acceptance.{NestedAcceptance}
use Rattle.shared_core_canonical.specs.Rows.{NestedBytes}
use Rattle.std.proofs.lemmas.Bool.{ne_eqb}
use Rattle.std.proofs.Math.Dec.{ltb}
use Rattle.std.proofs.lemmas.Bool.{ltb-false}
use Rattle.shared_core_wire.specs.WrittenRecords.{number_record, content_record}
use Rattle.shared_core_canonical.specs.Rows.{nested_bytes, rewritten_number, scalar_record}
use Rattle.shared_core_canonical.specs.Rows.{LastValue}
use Rattle.shared_core_canonical.specs.Rows.{last_record}
use Rattle.shared_core_canonical.proofs.Lasts.{last_value}

-- ---- records of one number

numbered : ℕ → List RecordValue → List FieldRecord
numbered n ws = map (λ w. record { number = n; value = w }) ws

unfoldable pub bytes_of : ℕ → List RecordValue → List ℕ
bytes_of n ws = record_list_bytes (map (λ w. record { number = n; value = w }) ws)

pub bytes_join : (n : ℕ) (ws vs : List RecordValue) → bytes_of n (ws ++ vs) ≡ bytes_of n ws ++ bytes_of n vs
unfolding bytes_of
bytes_join n ws vs =
    ap record_list_bytes (map-append (λ (w : RecordValue). record { number = n; value = w }) ws vs)
    ∙ flat_map-append record_bytes (map (λ w. record { number = n; value = w }) ws)
    (map (λ w. record { number = n; value = w }) vs)

number_bytes_are : (n v : ℕ) → bytes_of n (Varint v ∷ []) ≡ number_record false n v
unfolding bytes_of
number_bytes_are n v = append-nil _

pub content_bytes_are : (n : ℕ) (b : List ℕ) → bytes_of n (Length b ∷ []) ≡ content_record false n b
unfolding bytes_of
content_bytes_are n b = append-nil _

-- ---- a value that is not a message

abbrev pub is_scalar : Kind → Bool
is_scalar U32 = true
is_scalar U64 = true
is_scalar Boolean = true
is_scalar Enumeration = true
is_scalar Text = true
is_scalar ByteString = true
is_scalar (Message s) = false

-- the value of a number
pub number_values : (table : Table) (k : Kind) (v : ℕ) → accepts_number k ≡ true → part_values table (number_part k v) k
    ≡ Varint (rewritten_number k v) ∷ []
unfolding part_values
number_values table U32 v a = refl
number_values table U64 v a = refl
number_values table Boolean v a = refl
number_values table Enumeration v a = refl
number_values table Text v a = absurd cc
number_values table ByteString v a = absurd cc
number_values table (Message s) v a = absurd cc

module _ (table : Table) (left : ℕ) where
  bytes_written : (k : Kind) (b : List ℕ) → part_values table (Bytes b) k ≡ Length b ∷ []
  unfolding part_values
  bytes_written k b = refl

  -- a scalar, also if it is a default
  pub scalar_is : (n : ℕ) (k : Kind) (w : RecordValue) → is_scalar k ≡ true → accepts_value (accepts_message table
      left) k w ≡ true → bytes_of n (part_values table (scalar_part k w) k) ≡ scalar_record false n k w
  scalar_is n k (Varint v) s h = ap (bytes_of n) (number_values table k v h) ∙ number_bytes_are n (rewritten_number k v)
  scalar_is n k (Fixed64 b) s h = absurd cc
  scalar_is n k (Length b) s h = ap (bytes_of n) (bytes_written k b) ∙ content_bytes_are n b
  scalar_is n k (Group b) s h = absurd cc
  scalar_is n k (Fixed32 b) s h = absurd cc

  pub nested_written : (s : ℕ) (b : List ℕ) → part_values table
      (Nested (message_overlay table left s (empty_value (table s)) b)) (Message s) ≡ Length (nested_bytes table left s
      b)
      ∷ []
  unfolding part_values nested_bytes
  nested_written s b = refl

-- ---- a plain field, whose default is left out

plain_number : (n m : ℕ) (b : Bool) → bytes_of n (cond b [] (Varint m ∷ [])) ≡ cond b []
    (key_bytes n 0 ++ shortest_varint m)
unfolding bytes_of
plain_number n m true = refl
plain_number n m false = append-nil _

plain_content : (n : ℕ) (c : List ℕ) (b : Bool) → bytes_of n (cond b [] (Length c ∷ [])) ≡ cond b []
    (key_bytes n 2 ++ (shortest_varint (length c) ++ c))
unfolding bytes_of
plain_content n c true = refl
plain_content n c false = append-nil _

signed_default : (m : ℕ) → eqb (written_number Enumeration m) 0 ≡ eqb m 0
signed_default m = by_test (ltb m (2 ^ 31)) refl
  where
    by_test : (b : Bool) → ltb m (2 ^ 31) ≡ b → eqb (cond b m (m + (2 ^ 64 - 2 ^ 32))) 0 ≡ eqb m 0
    by_test true e = refl
    by_test false e =
        let large : 2 ^ 31 ≤ m = ltb-false m (2 ^ 31) e in
        let high : eqb (m + (2 ^ 64 - 2 ^ 32)) 0 ≡ false = ne_eqb (m + (2 ^ 64 - 2 ^ 32)) 0 (λ z. omega (arith, z)) in
        let low : eqb m 0 ≡ false = ne_eqb m 0 (λ z. omega (arith, z, large)) in
        high ∙ sym low

module _ (table : Table) (left : ℕ) where
  plain_values : (n : ℕ) (k : Kind) (w : RecordValue) → is_scalar k ≡ true → accepts_value (accepts_message table left)
      k w ≡ true → bytes_of n (cond (is_default (scalar_part k w)) [] (part_values table (scalar_part k w) k)) ≡
      scalar_record true n k w
  unfolding part_values
  plain_values n U32 (Varint v) s h = plain_number n (v % 2 ^ 32) (eqb (v % 2 ^ 32) 0)
  plain_values n U64 (Varint v) s h = plain_number n v (eqb v 0)
  plain_values n Boolean (Varint v) s h = plain_number n (rewritten_number Boolean v) (eqb (rewritten_number Boolean v)
      0)
  plain_values n Enumeration (Varint v) s h =
      plain_number n (written_number Enumeration (v % 2 ^ 32)) (eqb (v % 2 ^ 32) 0)
      ∙ ap (λ (b : Bool). cond b [] (key_bytes n 0 ++ shortest_varint (written_number Enumeration (v % 2 ^ 32))))
      (sym (signed_default (v % 2 ^ 32)))
  plain_values n Text (Varint v) s h = absurd cc
  plain_values n ByteString (Varint v) s h = absurd cc
  plain_values n (Message t) (Varint v) s h = absurd cc
  plain_values n U32 (Length c) s h = absurd cc
  plain_values n U64 (Length c) s h = absurd cc
  plain_values n Boolean (Length c) s h = absurd cc
  plain_values n Enumeration (Length c) s h = absurd cc
  plain_values n Text (Length c) s h = plain_content n c (eqb (length c) 0)
  plain_values n ByteString (Length c) s h = plain_content n c (eqb (length c) 0)
  plain_values n (Message t) (Length c) s h = absurd cc
  plain_values n k (Fixed64 c) s h = absurd cc
  plain_values n k (Group c) s h = absurd cc
  plain_values n k (Fixed32 c) s h = absurd cc

-- ---- the last record of a row that is not repeated

scalar_single : (table : Table) (left : ℕ) (k : Kind) (p : Part) (w : RecordValue) (ws : List RecordValue) → is_scalar k
    ≡ true → singular_of table (message_overlay table left) k p w ws ≡ scalar_part k (last w ws)
scalar_single table left U32 p w ws s = refl
scalar_single table left U64 p w ws s = refl
scalar_single table left Boolean p w ws s = refl
scalar_single table left Enumeration p w ws s = refl
scalar_single table left Text p w ws s = refl
scalar_single table left ByteString p w ws s = refl
scalar_single table left (Message t) p w ws s = absurd cc

scalar_last : (nested : NestedBytes) (plain : Bool) (l : LastValue) (k : Kind) → is_scalar k ≡ true → last_record nested
    plain l k ≡ scalar_record plain l.number k l.value
scalar_last nested plain l U32 s = refl
scalar_last nested plain l U64 s = refl
scalar_last nested plain l Boolean s = refl
scalar_last nested plain l Enumeration s = refl
scalar_last nested plain l Text s = refl
scalar_last nested plain l ByteString s = refl
scalar_last nested plain l (Message t) s = absurd cc

-- a run of records of the number at the end, and what the program has of it
pub record IsRunOf (accepts : NestedAcceptance) (n : ℕ) (k : Kind) (y : FieldRecord) (ys : List FieldRecord) (l :
    LastValue) : Type 0 where
  pub number : l.number ≡ n
  pub kind : k ≡ l.kind
  pub value : (last y ys).value ≡ l.value
  pub joined : joined_contents (values (y ∷ ys)) ≡ l.joined
  pub accepted : accepts_value accepts l.kind l.value ≡ true

module _ (table : Table) (left : ℕ) (n : ℕ) (k : Kind) (y : FieldRecord) (ys : List FieldRecord) (l : LastValue)
    (is : IsRunOf (accepts_message table left) n k y ys l) where
  held : Part
  held = singular_of table (message_overlay table left) k Absent y.value (values ys)

  scalar_held : is_scalar k ≡ true → held ≡ scalar_part k l.value
  unfolding held
  scalar_held s = scalar_single table left k Absent y.value (values ys) s ∙ ap (scalar_part k)
      (last_value y ys ∙ is.value)

  accepted_here : accepts_value (accepts_message table left) k l.value ≡ true
  accepted_here = ap (λ (x : Kind). accepts_value (accepts_message table left) x l.value) is.kind ∙ is.accepted

  same_record : (plain : Bool) → is_scalar k ≡ true → scalar_record plain n k l.value ≡ last_record
      (nested_bytes table left) plain l l.kind
  same_record plain s =
      ap (λ (m : ℕ). scalar_record plain m k l.value) (sym is.number)
      ∙ sym (scalar_last (nested_bytes table left) plain l k s)
      ∙ ap (last_record (nested_bytes table left) plain l) is.kind

message_record : (table : Table) (left n s : ℕ) (y : FieldRecord) (ys : List FieldRecord) (l : LastValue) (plain : Bool)
    → IsRunOf (accepts_message table left) n (Message s) y ys l → bytes_of n (part_values table
    (Nested (message_overlay table left s (empty_value (table s)) (joined_contents (values (y ∷ ys))))) (Message s)) ≡
    last_record (nested_bytes table left) plain l l.kind
message_record table left n s y ys l plain is =
    ap (bytes_of n) (nested_written table left s (joined_contents (values (y ∷ ys))))
    ∙ content_bytes_are n (nested_bytes table left s (joined_contents (values (y ∷ ys))))
    ∙ ap (λ (b : List ℕ). content_record false n (nested_bytes table left s b)) is.joined
    ∙ ap (λ (m : ℕ). content_record false m (nested_bytes table left s l.joined)) (sym is.number)
    ∙ ap (last_record (nested_bytes table left) plain l) is.kind

scalar_optional : (table : Table) (left n : ℕ) (k : Kind) (y : FieldRecord) (ys : List FieldRecord) (l : LastValue)
    → is_scalar k ≡ true → IsRunOf (accepts_message table left) n k y ys l → bytes_of n (part_values table
    (singular_of table (message_overlay table left) k Absent y.value (values ys)) k) ≡ last_record
    (nested_bytes table left) false l l.kind
unfolding held
scalar_optional table left n k y ys l s is =
    ap (λ (p : Part). bytes_of n (part_values table p k)) (scalar_held table left n k y ys l is s)
    ∙ scalar_is table left n k l.value s (accepted_here table left n k y ys l is)
    ∙ same_record table left n k y ys l is false s

pub optional_written : (table : Table) (left n : ℕ) (k : Kind) (y : FieldRecord) (ys : List FieldRecord) (l : LastValue)
    → IsRunOf (accepts_message table left) n k y ys l → bytes_of n (part_values table
    (singular_of table (message_overlay table left) k Absent y.value (values ys)) k) ≡ last_record
    (nested_bytes table left) false l l.kind
optional_written table left n U32 y ys l is = scalar_optional table left n U32 y ys l refl is
optional_written table left n U64 y ys l is = scalar_optional table left n U64 y ys l refl is
optional_written table left n Boolean y ys l is = scalar_optional table left n Boolean y ys l refl is
optional_written table left n Enumeration y ys l is = scalar_optional table left n Enumeration y ys l refl is
optional_written table left n Text y ys l is = scalar_optional table left n Text y ys l refl is
optional_written table left n ByteString y ys l is = scalar_optional table left n ByteString y ys l refl is
optional_written table left n (Message s) y ys l is = message_record table left n s y ys l false is

unfoldable pub plain_held : Table → ℕ → Kind → FieldRecord → List FieldRecord → Part
plain_held table left k y ys = singular_of table (message_overlay table left) k (default_of k) y.value (values ys)

scalar_plain : (table : Table) (left n : ℕ) (k : Kind) (y : FieldRecord) (ys : List FieldRecord) (l : LastValue)
    → is_scalar k ≡ true → IsRunOf (accepts_message table left) n k y ys l → bytes_of n (cond
    (is_default (plain_held table left k y ys)) [] (part_values table (plain_held table left k y ys) k)) ≡ last_record
    (nested_bytes table left) true l l.kind
unfolding plain_held
scalar_plain table left n k y ys l s is =
    ap (λ (p : Part). bytes_of n (cond (is_default p) [] (part_values table p k)))
    (scalar_single table left k (default_of k) y.value (values ys) s ∙ ap (scalar_part k) (last_value y ys ∙ is.value))
    ∙ plain_values table left n k l.value s (accepted_here table left n k y ys l is)
    ∙ same_record table left n k y ys l is true s

pub plain_written : (table : Table) (left n : ℕ) (k : Kind) (y : FieldRecord) (ys : List FieldRecord) (l : LastValue)
    → IsRunOf (accepts_message table left) n k y ys l → bytes_of n (cond (is_default (plain_held table left k y ys)) []
    (part_values table (plain_held table left k y ys) k)) ≡ last_record (nested_bytes table left) true l l.kind
unfolding plain_held
plain_written table left n U32 y ys l is = scalar_plain table left n U32 y ys l refl is
plain_written table left n U64 y ys l is = scalar_plain table left n U64 y ys l refl is
plain_written table left n Boolean y ys l is = scalar_plain table left n Boolean y ys l refl is
plain_written table left n Enumeration y ys l is = scalar_plain table left n Enumeration y ys l refl is
plain_written table left n Text y ys l is = scalar_plain table left n Text y ys l refl is
plain_written table left n ByteString y ys l is = scalar_plain table left n ByteString y ys l refl is
plain_written table left n (Message s) y ys l is = message_record table left n s y ys l true is
