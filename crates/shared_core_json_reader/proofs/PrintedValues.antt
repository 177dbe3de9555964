-- The JSON of a value can be printed, and its text is read as the value's canonical payload.
use Rattle.std.proofs.Common.{◌≡◌, ℕ, zero, suc, ◌-◌, ◌*◌, ◌/◌, ◌%◌, ◌^◌, ◌<◌, ◌≤◌, List, [], ◌∷◌, Bool, true, false}
use Rattle.std.proofs.Common.{cond, ◌&&◌, ltb}
use Rattle.std.proofs.Common.{eqb, IsUtf8, refl, negsuc, arith}
use Rattle.std.proofs.lemmas.Bool.{ltb-true, ltb-false}
use Rattle.std.proofs.lemmas.Fmt.{IsAscii-decimal, IsAscii-signed}
use Rattle.std.proofs.lemmas.Str.{IsUtf8-nil, IsUtf8-from_ascii, IsUtf8-from_is_utf8}
use Rattle.std.specs.Prelude.{codes, decimal}
use Rattle.std.specs.Str.{is_utf8}
use Rattle.base64.specs.GeneralPurpose.{encode_of}
use Rattle.base64.specs.Engines.{standard}
use Rattle.base64.proofs.EngineFacts.{IsAscii-encode_of}
use Rattle.json.specs.Json.{Json, object, string, number, Members, member, no_members}
use Rattle.json.proofs.Printed.Utf8.{are_ascii, IsUtf8-are_ascii}
use Rattle.json.proofs.Printed.Decimals.{IsNumber-decimal, IsNumber-signed_decimal}
use Rattle.shared_core_wire.specs.Schema.{Kind, Row, U32, U64, Boolean, Enumeration, Text, ByteString, Message}
use Rattle.shared_core_wire.specs.Value.{Part, Parts, Absent, Number, Bytes, Nested, Elements, Member, nil, cons}
use Rattle.shared_core_wire.specs.Canonical.{kind_of, number_of}
use Rattle.shared_core_wire.specs.Fitting.{NumberFits, BytesFit, PartFits, ElementsFit, Fits}
use Rattle.shared_core_wire.proofs.Runs.{and_split}
use Rattle.shared_core_json_reader.specs.Rows.{Format, protocol}
use Rattle.shared_core_json.specs.Names.{names}
use Rattle.shared_core_json.specs.Fields.{SchemaNames, names_at, names_of, name_in, name_of}
use Rattle.shared_core_json.specs.Form.{Writing, is_present, member_if, digits_of, number_json, byte_string_json}
use Rattle.shared_core_json.specs.Form.{bytes_json, part_json_in, items_json_in, members_json_in, json_with}
use Rattle.shared_core_json.specs.Form.{json_with_in, writing}
use Rattle.shared_core_json.specs.declared.digits.Digits.{Digits}
use Rattle.shared_core_json.specs.declared.digits.Digits.TheVariants.{Unsigned, Signed, ZigZag}
use Rattle.shared_core_json_reader.proofs.Printed.{visible_decimal, MayPrint, ItemsMay, MembersMay}

-- ---- numbers and bytes

utf8_decimal : (n : ℕ) → n < 2 ^ 64 → IsUtf8 (decimal n)
utf8_decimal n h = IsUtf8-from_ascii (decimal n) (IsAscii-decimal n h)

utf8_negative : (n : ℕ) → n < 2 ^ 63 → IsUtf8 (45 ∷ decimal (suc n))
utf8_negative n h = IsUtf8-from_ascii (45 ∷ decimal (suc n)) (IsAscii-signed (negsuc n) (omega arith))

plain_number : (n : ℕ) → n < 2 ^ 64 → MayPrint (number (decimal n))
plain_number n h = (IsNumber-decimal n h, visible_decimal n (omega arith))

negative_number : (n : ℕ) → n < 2 ^ 63 → MayPrint (number (45 ∷ decimal (suc n)))
negative_number n h =
    (IsNumber-signed_decimal (negsuc n) (omega arith), visible_decimal (suc n) (omega arith))

-- what holds of decimals, and of those with a minus, holds of the digits of a number
digits_are : (P : List ℕ → Type 0) → ((m : ℕ) → m < 2 ^ 64 → P (decimal m))
    → ((m : ℕ) → m < 2 ^ 63 → P (45 ∷ decimal (suc m))) → (d : Digits) (half n : ℕ) → half ≤ 2 ^ 63 → n < 2 * half
    → P (digits_of d half n)
digits_are P plain minus Unsigned half n l h = plain n (omega arith)
digits_are P plain minus Signed half n l h = by_sign (ltb n half) refl
  where
    negative : (m : ℕ) → m ≡ 2 * half - n → half ≤ n → P (45 ∷ decimal m)
    negative zero e g = absurd (omega (arith, e))
    negative (suc m) e g = minus m (omega (arith, e))

    by_sign : (b : Bool) → ltb n half ≡ b → P (cond b (decimal n) (45 ∷ decimal (2 * half - n)))
    by_sign true e = plain n (omega (arith, ltb-true n half e))
    by_sign false e = negative (2 * half - n) refl (ltb-false n half e)
digits_are P plain minus ZigZag half n l h = by_sign (eqb (n % 2) 0)
  where
    by_sign : (b : Bool) → P (cond b (decimal (n / 2)) (45 ∷ decimal (suc (n / 2))))
    by_sign true = plain (n / 2) (omega arith)
    by_sign false = minus (n / 2) (omega arith)

number_may : (d : Digits) (k : Kind) (n : ℕ) → NumberFits k n → MayPrint (number_json d k n)
number_may d U32 n h = digits_are (λ s. MayPrint (number s)) plain_number negative_number d (2 ^ 31) n (omega arith)
    (omega arith)
number_may d U64 n h = digits_are IsUtf8 utf8_decimal utf8_negative d (2 ^ 63) n (omega arith) (omega arith)
number_may d Boolean n h = tt
number_may d Enumeration n h = digits_are (λ s. MayPrint (number s)) plain_number negative_number Signed (2 ^ 31) n
    (omega arith) (omega arith)
number_may d Text n h = absurd h
number_may d ByteString n h = absurd h
number_may d (Message s) n h = absurd h

-- bytes in base64 or as a text
pub byte_string_may : (texts : Bool) (b : List ℕ) → MayPrint (byte_string_json texts b)
byte_string_may false b = IsUtf8-from_ascii (encode_of standard b) (IsAscii-encode_of standard b)
byte_string_may true b = by_test (is_utf8 b) refl
  where
    by_test : (t : Bool) → is_utf8 b ≡ t → MayPrint (cond t (object (member (codes "text") (string b) no_members))
        (string (encode_of standard b)))
    by_test true e = (IsUtf8-are_ascii (codes "text") refl, IsUtf8-from_is_utf8 b e, tt)
    by_test false e = IsUtf8-from_ascii (encode_of standard b) (IsAscii-encode_of standard b)

bytes_may : (texts : Bool) (k : Kind) (b : List ℕ) → BytesFit k b → MayPrint (bytes_json texts k b)
bytes_may texts Text b h = IsUtf8-from_is_utf8 b h
bytes_may texts ByteString b h = byte_string_may texts b
bytes_may texts U32 b h = absurd h
bytes_may texts U64 b h = absurd h
bytes_may texts Boolean b h = absurd h
bytes_may texts Enumeration b h = absurd h
bytes_may texts (Message s) b h = absurd h

-- ---- names

names_ascii : List (ℕ × List ℕ) → Bool
names_ascii [] = true
names_ascii (n ∷ ns) = are_ascii n.1 && names_ascii ns

all_ascii : List (List (ℕ × List ℕ)) → Bool
all_ascii [] = true
all_ascii (ns ∷ nss) = names_ascii ns && all_ascii nss

ascii_at : (nss : List (List (ℕ × List ℕ))) (s : ℕ) → all_ascii nss ≡ true → names_ascii (names_at nss s) ≡ true
unfolding all_ascii names_ascii
ascii_at [] s h = refl
ascii_at (ns ∷ nss) zero h = (and_split _ _ h).0
ascii_at (ns ∷ nss) (suc s) h = ascii_at nss s (and_split _ _ h).1

are_all_ascii : all_ascii names ≡ true
unfolding all_ascii names_ascii
are_all_ascii = refl

name_utf8 : (ns : List (ℕ × List ℕ)) (n : ℕ) → names_ascii ns ≡ true → IsUtf8 (name_in ns n)
unfolding names_ascii
name_utf8 [] n h = IsUtf8-nil
name_utf8 (name ∷ ns) n h = let e = and_split (are_ascii name.1) (names_ascii ns) h in by_test (name_utf8 ns n e.1) e.0
    (eqb n name.0)
  where
    by_test : IsUtf8 (name_in ns n) → are_ascii name.1 ≡ true → (b : Bool) → IsUtf8 (cond b name.1 (name_in ns n))
    by_test later one true = IsUtf8-are_ascii name.1 one
    by_test later one false = later

-- the names of the protocol's fields are UTF-8
pub names_utf8 : (s n : ℕ) → IsUtf8 (name_of (names_of s) n)
names_utf8 s n = name_utf8 (names_at names s) n (ascii_at names s are_all_ascii)

-- ---- values

member_may : (b : Bool) (name : List ℕ) (j : Json) (others : Members) → IsUtf8 name → MayPrint j → MembersMay others →
    MembersMay (member_if b name j others)
member_may true name j others u h g = (u, h, g)
member_may false name j others u h g = g

module _ (format : Format) (utf8 : (s n : ℕ) → IsUtf8 (name_of (format.names s) n)) where
  mutual
    unfolding PartFits part_json_in

    part_may : (w : Writing) (p : Part) (k : Kind) → PartFits format.table p k
        → MayPrint (part_json_in format.table format.names w p k)
    part_may w Absent k f = tt
    part_may w (Number n) k f = number_may w.digits k n f
    part_may w (Bytes b) k f = bytes_may w.texts k b f
    part_may w (Nested ps) (Message t) f = members_may w.texts (format.names t) ps (format.table t)
        (utf8 t) f
    part_may w (Nested ps) U32 f = absurd f
    part_may w (Nested ps) U64 f = absurd f
    part_may w (Nested ps) Boolean f = absurd f
    part_may w (Nested ps) Enumeration f = absurd f
    part_may w (Nested ps) Text f = absurd f
    part_may w (Nested ps) ByteString f = absurd f
    part_may w (Elements ps) k f = items_may w ps k f
    part_may w (Member n p) k f = part_may w p k f

    items_may : (w : Writing) (ps : Parts) (k : Kind) → ElementsFit format.table ps k
        → ItemsMay (items_json_in format.table format.names w ps k)
    items_may w nil k f = tt
    items_may w (cons p ps) k f = (part_may w p k f.1, items_may w ps k f.2)

    members_may : (texts : Bool) (ns : SchemaNames) (v : Parts) (rows : List Row)
        → ((n : ℕ) → IsUtf8 (name_of ns n)) → Fits
        format.table v rows → MembersMay (members_json_in format.table format.names texts ns v rows)
    members_may texts ns nil rows a f = tt
    members_may texts ns (cons p ps) [] a f = absurd f
    members_may texts ns (cons p ps) (row ∷ rows) a f =
        member_may (is_present row p) (name_of ns (number_of row p))
        (part_json_in format.table format.names (writing texts ns (number_of row p)) p (kind_of row p))
        (members_json_in format.table format.names texts ns ps rows) (a (number_of row p))
        (part_may (writing texts ns (number_of row p)) p (kind_of row p) f.1)
        (members_may texts ns ps rows a f.2)

  pub value_may_in : (texts : Bool) (s : ℕ) (v : Parts) → Fits format.table v (format.table s) → MayPrint
      (json_with_in format.table format.names texts s v)
  value_may_in texts s v f = members_may texts (format.names s) v (format.table s) (utf8 s) f

pub value_may : (texts : Bool) (s : ℕ) (v : Parts) → Fits protocol.table v (protocol.table s) → MayPrint
    (json_with texts s v)
value_may texts s v f = value_may_in protocol names_utf8 texts s v f
