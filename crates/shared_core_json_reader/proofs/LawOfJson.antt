-- The JSON of a value, as tokens, is read as the value's canonical payload.
use Rattle.std.proofs.Common.{◌≡◌, ℕ, ◌+◌, ◌*◌, ◌≤◌, max, List, [], ◌∷◌, ◌++◌, length, Bool, true, false, cond}
use Rattle.std.proofs.Common.{◌&&◌, Some, option_map, option_and_then, IsUtf8, refl, sym, ap, subst, ◌∙◌, append-nil}
use Rattle.std.proofs.Common.{arith}
use Rattle.std.proofs.lemmas.Bool.{eqb-true}
use Rattle.std.proofs.lemmas.Str.{is_utf8-from_IsUtf8}
use Rattle.std.proofs.lemmas.List.Concat.{flat_map-append}
use Rattle.std.specs.Prelude.{codes}
use Rattle.std.specs.Str.{is_utf8}
use Rattle.base64.specs.GeneralPurpose.{encode_of, IsBytes}
use Rattle.base64.specs.Engines.{standard}
use Rattle.base64.proofs.EngineFacts.{front_bytes}
use Rattle.json.specs.Json.{Json, Members, if_last, value, object, string, member, no_members}
use Rattle.json.specs.Lex.{tokens}
use Rattle.json.specs.Tree.{json_tokens, depth, items_depth, members_depth}
use Rattle.json.proofs.Printed.Trees.{value-json_tokens}
use Rattle.shared_core_wire.specs.Grammar.{RecordValue, Varint, Fixed64, Length, Group, Fixed32}
use Rattle.shared_core_wire.specs.Encoding.{shortest_varint, key_bytes, record_bytes, record_list_bytes}
use Rattle.shared_core_wire.specs.Schema.{Kind, Row, U32, U64, Boolean, Enumeration, Text, ByteString, Message}
use Rattle.shared_core_wire.specs.Schema as schema
use Rattle.shared_core_wire.specs.Value.{Part, Parts, Absent, Number, Bytes, Nested, Elements, Member, nil, cons}
use Rattle.shared_core_wire.specs.Canonical.{kind_of, number_of, is_default, run_values, row_records, part_values}
use Rattle.shared_core_wire.specs.Canonical.{element_values}
use Rattle.shared_core_wire.specs.Canonical.{message_records, canonical_payload, part_levels, levels}
use Rattle.shared_core_wire.specs.Acceptance.{accepts_number}
use Rattle.shared_core_wire.specs.Fitting.{is_single, has_shape, PartFits, ElementsFit, Fits}
use Rattle.shared_core_wire.proofs.Numbers.{no_bytes, no_message}
use Rattle.shared_core_wire.proofs.Runs.{and_split}
use Rattle.shared_core_json.specs.Fields.{SchemaNames, name_of}
use Rattle.shared_core_json.specs.Form.{is_present, member_if, number_json, byte_string_json, bytes_json}
use Rattle.shared_core_json.specs.Form.{Writing, part_json_in, writing}
use Rattle.shared_core_json.specs.declared.digits.Digits.{Digits}
use Rattle.shared_core_json_reader.specs.Laws.{JsonIsReadBack}
use Rattle.shared_core_json_reader.specs.Reading.{only_value}
use Rattle.shared_core_json_reader.proofs.Agreeing.{out_of}
use Rattle.shared_core_json.proofs.Meanings.{PartBytes, PartsBytes, back_bytes}
use Rattle.shared_core_json_reader.proofs.TreeBack.{message_back}
use Rattle.shared_core_json_reader.proofs.Whole.{IsText, of_tokens, text_of_value}
use Rattle.shared_core_json.specs.Form.{items_json_in, members_json_in, json_with_in}
use Rattle.shared_core_json_reader.specs.Readable.{IsReadable, protocol_is_readable}
use Rattle.shared_core_json_reader.specs.Reading.{text_payload_in}
use Rattle.shared_core_json_reader.specs.Rows.{Format, protocol}

-- ---- how deep the JSON of a value is

number_depth : (d : Digits) (k : Kind) (n : ℕ) → depth (number_json d k n) ≡ 0
number_depth d U32 n = refl
number_depth d U64 n = refl
number_depth d Boolean n = refl
number_depth d Enumeration n = refl
number_depth d Text n = refl
number_depth d ByteString n = refl
number_depth d (Message s) n = refl

pub byte_string_depth : (texts : Bool) (b : List ℕ) → depth (byte_string_json texts b) ≤ 1
byte_string_depth texts b = by_test (texts && is_utf8 b)
  where
    by_test : (t : Bool) → depth (cond t (object (member (codes "text") (string b) no_members))
        (string (encode_of standard b))) ≤ 1
    by_test true = omega arith
    by_test false = omega arith

bytes_depth : (texts : Bool) (k : Kind) (b : List ℕ) → depth (bytes_json texts k b) ≤ 1
bytes_depth texts U32 b = omega arith
bytes_depth texts U64 b = omega arith
bytes_depth texts Boolean b = omega arith
bytes_depth texts Enumeration b = omega arith
bytes_depth texts Text b = omega arith
bytes_depth texts ByteString b = byte_string_depth texts b
bytes_depth texts (Message s) b = omega arith

-- what a oneof holds is a single value
abbrev HoldsSingle : Part → Type 0
HoldsSingle Absent = Unit {0}
HoldsSingle (Number n) = Unit {0}
HoldsSingle (Bytes b) = Unit {0}
HoldsSingle (Nested ps) = Unit {0}
HoldsSingle (Elements ps) = Unit {0}
HoldsSingle (Member n p) = is_single p ≡ true

single_holds : (p : Part) → is_single p ≡ true → HoldsSingle p
single_holds Absent h = tt
single_holds (Number n) h = tt
single_holds (Bytes b) h = tt
single_holds (Nested ps) h = tt
single_holds (Elements ps) h = tt
single_holds (Member n p) h = absurd cc

shape_holds : (row : Row) (p : Part) → has_shape row p ≡ true → HoldsSingle p
shape_holds row Absent h = tt
shape_holds row (Number n) h = tt
shape_holds row (Bytes b) h = tt
shape_holds row (Nested ps) h = tt
shape_holds row (Elements ps) h = tt
shape_holds (schema.Plain n k) (Member m p) h = absurd cc
shape_holds (schema.Optional n k) (Member m p) h = absurd cc
shape_holds (schema.Repeated n k) (Member m p) h = absurd cc
shape_holds (schema.OneOf members) (Member m p) h = (and_split _ _ h).1

record Low (format : Format) (w : Writing) (p : Part) (k : Kind) : Type 0 where
  low : depth (part_json_in format.table format.names w p k) ≤ 2 * part_levels p + 2
  lower : is_single p ≡ true → depth (part_json_in format.table format.names w p k) ≤ 2 * part_levels p + 1

member_low : (b : Bool) (name : List ℕ) (j : Json) (others : Members) (bound : ℕ) → depth j ≤ bound → members_depth
    others ≤ bound → members_depth (member_if b name j others) ≤ bound
member_low true name j others bound h g = omega arith
member_low false name j others bound h g = g

mutual
  unfolding PartFits part_levels part_json_in

  part_low : (format : Format) (w : Writing) (p : Part) (k : Kind) → PartFits format.table p k → HoldsSingle p
      → Low format w p k
  part_low format w Absent k f h = record { low = omega arith; lower = λ e. omega arith }
  part_low format w (Number n) k f h = record {
    low = omega (arith, number_depth w.digits k n);
    lower = λ e. omega
        (arith, number_depth w.digits k n);
  }
  part_low format w (Bytes b) k f h = record {
    low = omega (arith, bytes_depth w.texts k b);
    lower = λ e. omega
        (arith, bytes_depth w.texts k b);
  }
  part_low format w (Nested ps) (Message t) f h = let m = members_low format w.texts (format.names t) ps
      (format.table t) f in record
      { low = omega (arith, m); lower = λ e. omega (arith, m) }
  part_low format w (Nested ps) U32 f h = absurd f
  part_low format w (Nested ps) U64 f h = absurd f
  part_low format w (Nested ps) Boolean f h = absurd f
  part_low format w (Nested ps) Enumeration f h = absurd f
  part_low format w (Nested ps) Text f h = absurd f
  part_low format w (Nested ps) ByteString f h = absurd f
  part_low format w (Elements ps) k f h = let m = items_low format w ps k f in record
      { low = omega (arith, m); lower = λ e. absurd cc }
  part_low format w (Member n p) k f h = let m = part_low format w p k f (single_holds p h) in record
      { low = m.low; lower = λ e. absurd cc }

  items_low : (format : Format) (w : Writing) (ps : Parts) (k : Kind) → ElementsFit format.table ps k
      → items_depth (items_json_in format.table format.names w ps k) ≤ 2
      * levels ps + 1
  items_low format w nil k f = omega arith
  items_low format w (cons p ps) k f = let one = (part_low format w p k f.1 (single_holds p f.0)).lower f.0 in
      omega
      (arith, one, items_low format w ps k f.2)

  members_low : (format : Format) (texts : Bool) (ns : SchemaNames) (v : Parts) (rows : List Row)
      → Fits format.table v rows →
      members_depth (members_json_in format.table format.names texts ns v rows) ≤ 2 * levels v + 2
  members_low format texts ns nil rows f = omega arith
  members_low format texts ns (cons p ps) [] f = absurd f
  members_low format texts ns (cons p ps) (row ∷ rows) f =
      let one = (part_low format (writing texts ns (number_of row p)) p (kind_of row p) f.1
      (shape_holds row p f.0)).low in
      member_low (is_present row p) (name_of ns (number_of row p))
      (part_json_in format.table format.names (writing texts ns (number_of row p)) p (kind_of row p))
      (members_json_in format.table format.names texts ns ps rows) (2 * max (part_levels p) (levels ps) + 2)
      (omega (arith, one))
      (omega (arith, members_low format texts ns ps rows f.2))

-- ---- the bytes of a value are those of its payload

empty_bytes : (b : List ℕ) → length b ≡ 0 → IsBytes b
empty_bytes [] e i = omega arith
empty_bytes (x ∷ b) e i = absurd (omega arith)

abbrev WsBytes : List RecordValue → Type 0
WsBytes [] = Unit {0}
WsBytes (Varint n ∷ ws) = WsBytes ws
WsBytes (Fixed64 b ∷ ws) = WsBytes ws
WsBytes (Length b ∷ ws) = IsBytes b × WsBytes ws
WsBytes (Group b ∷ ws) = WsBytes ws
WsBytes (Fixed32 b ∷ ws) = WsBytes ws

ws_bytes : (n : ℕ) (ws : List RecordValue) → IsBytes (out_of n ws) → WsBytes ws
ws_bytes n [] h = tt
ws_bytes n (Varint m ∷ ws) h = ws_bytes n ws (back_bytes (record_bytes (record { number = n; value = Varint m }))
    (out_of n ws) h)
ws_bytes n (Fixed64 b ∷ ws) h = ws_bytes n ws (back_bytes (record_bytes (record { number = n; value = Fixed64 b }))
    (out_of n ws) h)
ws_bytes n (Length b ∷ ws) h = (
  back_bytes (shortest_varint (length b)) b (back_bytes (key_bytes n 2) (shortest_varint (length b) ++ b)
      (front_bytes (record_bytes (record { number = n; value = Length b })) (out_of n ws) h)),
  ws_bytes n ws (back_bytes (record_bytes (record { number = n; value = Length b })) (out_of n ws) h),
)
ws_bytes n (Group b ∷ ws) h = ws_bytes n ws (back_bytes (record_bytes (record { number = n; value = Group b }))
    (out_of n ws) h)
ws_bytes n (Fixed32 b ∷ ws) h = ws_bytes n ws (back_bytes (record_bytes (record { number = n; value = Fixed32 b }))
    (out_of n ws) h)

ws_front : (us ws : List RecordValue) → WsBytes (us ++ ws) → WsBytes us
ws_front [] ws h = tt
ws_front (Varint m ∷ us) ws h = ws_front us ws h
ws_front (Fixed64 b ∷ us) ws h = ws_front us ws h
ws_front (Length b ∷ us) ws h = (h.0, ws_front us ws h.1)
ws_front (Group b ∷ us) ws h = ws_front us ws h
ws_front (Fixed32 b ∷ us) ws h = ws_front us ws h

ws_back : (us ws : List RecordValue) → WsBytes (us ++ ws) → WsBytes ws
ws_back [] ws h = h
ws_back (Varint m ∷ us) ws h = ws_back us ws h
ws_back (Fixed64 b ∷ us) ws h = ws_back us ws h
ws_back (Length b ∷ us) ws h = ws_back us ws h.1
ws_back (Group b ∷ us) ws h = ws_back us ws h
ws_back (Fixed32 b ∷ us) ws h = ws_back us ws h

default_bytes : (p : Part) → is_default p ≡ true → PartBytes p
default_bytes Absent e = absurd cc
default_bytes (Number n) e = tt
default_bytes (Bytes b) e = empty_bytes b (eqb-true (length b) 0 e)
default_bytes (Nested ps) e = absurd cc
default_bytes (Elements ps) e = absurd cc
default_bytes (Member n p) e = absurd cc

number_elements : (format : Format) (k : Kind) (ps : Parts) → accepts_number k ≡ true → ElementsFit format.table ps k →
    PartsBytes ps
unfolding PartFits
number_elements format k nil a f = tt
number_elements format k (cons (Number n) ps) a f = (tt, number_elements format k ps a f.2)
number_elements format k (cons Absent ps) a f = absurd (cc f.0)
number_elements format k (cons (Bytes b) ps) a f = absurd (no_bytes k b a f.1)
number_elements format k (cons (Nested qs) ps) a f = absurd (no_message format.table k qs a f.1)
number_elements format k (cons (Elements qs) ps) a f = absurd (cc f.0)
number_elements format k (cons (Member n q) ps) a f = absurd (cc f.0)

run_bytes : (format : Format) (n : ℕ) (k : Kind) (p : Part) → accepts_number k ≡ true → has_shape (schema.Repeated n k)
    p ≡ true → PartFits format.table p k → PartBytes p
unfolding PartFits
run_bytes format n k (Elements ps) a h f = number_elements format k ps a f
run_bytes format n k Absent a h f = absurd cc
run_bytes format n k (Number m) a h f = absurd cc
run_bytes format n k (Bytes b) a h f = absurd cc
run_bytes format n k (Nested ps) a h f = absurd cc
run_bytes format n k (Member m p) a h f = absurd cc

plain_bytes : (p : Part) (n : ℕ) (ws : List RecordValue) (b : Bool) → is_default p ≡ b → IsBytes
    (out_of n (cond b [] ws)) → (WsBytes ws → PartBytes p) → PartBytes p
plain_bytes p n ws true e h hold = default_bytes p e
plain_bytes p n ws false e h hold = hold (ws_bytes n ws h)

row_bytes : (format : Format) (row : Row) (p : Part) (ws : List RecordValue) → has_shape row p ≡ true
    → PartFits format.table p (kind_of row p) →
    IsBytes (record_list_bytes (row_records row p ws)) → (WsBytes ws → PartBytes p) → PartBytes p
row_bytes format (schema.Plain n k) p ws i f h hold = plain_bytes p n ws (is_default p) refl h hold
row_bytes format (schema.Optional n k) p ws i f h hold = hold (ws_bytes n ws h)
row_bytes format (schema.Repeated n k) p ws i f h hold = by_test (accepts_number k) refl h
  where
    by_test : (b : Bool) → accepts_number k ≡ b → IsBytes (out_of n (cond b (run_values ws) ws)) → PartBytes p
    by_test true a g = run_bytes format n k p a i f
    by_test false a g = hold (ws_bytes n ws g)
row_bytes format (schema.OneOf members) p ws i f h hold = hold (ws_bytes _ ws h)

mutual
  unfolding PartFits part_values

  part_bytes : (format : Format) (p : Part) (k : Kind) → PartFits format.table p k
      → WsBytes (part_values format.table p k) → PartBytes p
  part_bytes format Absent k f h = tt
  part_bytes format (Number n) k f h = tt
  part_bytes format (Bytes b) k f h = h.0
  part_bytes format (Nested ps) (Message t) f h = message_bytes_of format ps (format.table t) f h.0
  part_bytes format (Nested ps) U32 f h = absurd f
  part_bytes format (Nested ps) U64 f h = absurd f
  part_bytes format (Nested ps) Boolean f h = absurd f
  part_bytes format (Nested ps) Enumeration f h = absurd f
  part_bytes format (Nested ps) Text f h = absurd f
  part_bytes format (Nested ps) ByteString f h = absurd f
  part_bytes format (Elements ps) k f h = elements_bytes format ps k f h
  part_bytes format (Member n p) k f h = part_bytes format p k f h

  elements_bytes : (format : Format) (ps : Parts) (k : Kind) → ElementsFit format.table ps k
      → WsBytes (element_values format.table ps k) → PartsBytes
      ps
  elements_bytes format nil k f h = tt
  elements_bytes format (cons p ps) k f h = (
    part_bytes format p k f.1 (ws_front (part_values format.table p k) (element_values format.table ps k) h),
    elements_bytes format ps k f.2
        (ws_back (part_values format.table p k) (element_values format.table ps k) h),
  )

  pub message_bytes_of : (format : Format) (v : Parts) (rows : List Row) → Fits format.table v rows → IsBytes
      (record_list_bytes (message_records format.table v rows)) → PartsBytes v
  message_bytes_of format nil rows f h = tt
  message_bytes_of format (cons p ps) [] f h = absurd f
  message_bytes_of format (cons p ps) (row ∷ rows) f h =
      let ws = part_values format.table p (kind_of row p) in
      let split = subst IsBytes (flat_map-append record_bytes (row_records row p ws)
      (message_records format.table ps rows)) h
      in (
        row_bytes format row p ws f.0 f.1 (front_bytes (record_list_bytes (row_records row p ws))
            (record_list_bytes (message_records format.table ps rows)) split) (part_bytes format p (kind_of row p) f.1),
        message_bytes_of format ps rows f.2 (back_bytes (record_list_bytes (row_records row p ws))
            (record_list_bytes (message_records format.table ps rows)) split),
      )

-- ---- the law

pub whole_value : (j : Json) → depth j ≤ 1000 → only_value (json_tokens j) ≡ Some j
unfolding only_value
whole_value j h = ap (option_and_then (λ p. if_last p.0 p.1))
    (ap (value 1000) (sym (append-nil (json_tokens j))) ∙ value-json_tokens j 1000 [] h)

pub value_low : (format : Format) (texts : Bool) (s : ℕ) (v : Parts) → Fits format.table v (format.table s)
    → depth (json_with_in format.table format.names texts s v) ≤ 2 * levels v
    + 3
value_low format texts s v fits = omega (arith, members_low format texts (format.names s) v (format.table s) fits)

-- a value whose bytes are bytes, whatever its encoding
pub value_back : (format : Format) (law : IsReadable format) (texts : Bool) (s : ℕ) (v : Parts) (text : List ℕ)
    → Fits format.table v (format.table s) → levels v ≤ 100 →
    PartsBytes v → IsUtf8 text → tokens text ≡ json_tokens (json_with_in format.table format.names texts s v)
    → text_payload_in format s text ≡ Some (canonical_payload format.table s v)
value_back format law texts s v text fits low held utf8 lexed =
    let deep : depth (json_with_in format.table format.names texts s v) ≤ 1000 = omega
    (arith, value_low format texts s v fits) in
    let is : IsText text (json_tokens (json_with_in format.table format.names texts s v)) = record
    { utf8 = is_utf8-from_IsUtf8 text utf8; lexed = sym lexed } in
    text_of_value format s text (json_with_in format.table format.names texts s v)
    (of_tokens text (json_tokens (json_with_in format.table format.names texts s v))
    (Some (json_with_in format.table format.names texts s v)) is
    (whole_value (json_with_in format.table format.names texts s v) deep))
    ∙ ap (option_map (canonical_payload format.table s)) (message_back format law texts 100 s v fits low held)

pub json_back : (texts : Bool) (s : ℕ) → JsonIsReadBack texts s
json_back texts s v bytes text encoding small low utf8 lexed =
    let held = message_bytes_of protocol v (protocol.table s) encoding.fits (subst IsBytes encoding.canonical small) in
    value_back protocol protocol_is_readable texts s v text encoding.fits low held utf8 lexed
    ∙ ap (λ (b : List ℕ). Some b) (sym encoding.canonical)
