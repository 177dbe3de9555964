-- A small table of schemas, on which hand-checked payloads test the definitions.
use Rattle.std.specs.Prelude.{◌≡◌, ℕ, zero, suc, true, false, List, [], ◌∷◌, ◌++◌, length, ◌+◌, ◌-◌, ◌*◌, nat_lt}
use Rattle.std.specs.Prelude.{if◌then◌else◌}
use Rattle.shared_core_wire.specs.Encoding.{shortest_varint}
use Rattle.shared_core_wire.specs.Schema.{Table, table_of, Row, U32, U64, Enumeration, Text, ByteString, Message, Plain}
use Rattle.shared_core_wire.specs.Schema.{Optional, Repeated, OneOf}
use Rattle.shared_core_wire.specs.Value.{Part, Parts, Number, Bytes, Elements, nil, cons, one_part}
use Rattle.shared_core_wire.specs.Acceptance.{accepts_payload}
use Rattle.shared_core_wire.specs.Overlay.{overlay_payload, meaning}
use Rattle.shared_core_wire.specs.Canonical.{canonical_payload}

-- ---- schemas

-- A message without fields.
abbrev pub void : ℕ
void = 0

-- Content.
abbrev pub value : ℕ
value = 1

-- A code, a text and metadata.
abbrev pub failure : ℕ
failure = 2

-- A pair of texts.
abbrev pub failure_metadata : ℕ
failure_metadata = 3

-- A tree, with numbers, texts and an enum at each node.
abbrev pub future : ℕ
future = 4

-- A message with a tree.
abbrev pub suspension : ℕ
suspension = 5

-- A message with lists.
abbrev pub lists : ℕ
lists = 6

-- A number, and a oneof of three messages.
abbrev pub completion : ℕ
completion = 7

-- A oneof of scalars, and one of messages.
abbrev pub signal : ℕ
signal = 8

-- A text.
abbrev pub clear : ℕ
clear = 9

-- A u64 and a u32.
abbrev pub sleep : ℕ
sleep = 10

-- An enum, and an optional text.
abbrev pub options : ℕ
options = 11

-- A message field.
abbrev pub input : ℕ
input = 12

-- Three texts.
abbrev pub workflow : ℕ
workflow = 13

-- A oneof of a text and a message, a number and a text.
abbrev pub attach : ℕ
attach = 14

-- A list of byte strings.
abbrev pub keys : ℕ
keys = 15

-- A number, and a message field of a number past 15.
abbrev pub keys_completion : ℕ
keys_completion = 16

-- A number, and a text of a number past 15.
abbrev pub text_completion : ℕ
text_completion = 17

-- A template of which completions and signals are schemas.
abbrev pub template : ℕ
template = 18

-- All of these schemas.
abbrev pub schemas : List (List Row)
schemas =
    []
    ∷ (Plain 1 ByteString ∷ [])
    ∷ (Plain 1 U32 ∷ Plain 2 Text ∷ Repeated 3 (Message failure_metadata) ∷ [])
    ∷ (Plain 1 Text ∷ Plain 2 Text ∷ [])
    ∷ (Repeated 1 U32 ∷ Repeated 2 U32 ∷ Repeated 3 Text ∷ Repeated 4 (Message future) ∷ Plain 5 Enumeration ∷ [])
    ∷ (Optional 4 (Message future) ∷ [])
    ∷ (Repeated 1 U32 ∷ Repeated 2 U32 ∷ Repeated 3 Text ∷ [])
    ∷ (Plain 1 U32 ∷ OneOf ((4, Message void) ∷ (5, Message value) ∷ (6, Message failure) ∷ []) ∷ [])
    ∷ (OneOf ((2, U32) ∷ (3, Text) ∷ []) ∷ OneOf ((4, Message void) ∷ (5, Message value) ∷ (6, Message failure) ∷ []) ∷
    [])
    ∷ (Plain 12 Text ∷ [])
    ∷ (Plain 1 U64 ∷ Plain 11 U32 ∷ Plain 12 Text ∷ [])
    ∷ (Plain 9 Enumeration ∷ Optional 10 Text ∷ [])
    ∷ (Plain 12 Text ∷ Optional 14 (Message value) ∷ [])
    ∷ (Plain 1 Text ∷ Plain 2 Text ∷ Optional 3 Text ∷ [])
    ∷ (OneOf ((1, Text) ∷ (4, Message workflow) ∷ []) ∷ Plain 11 U32 ∷ Plain 12 Text ∷ [])
    ∷ (Repeated 1 ByteString ∷ [])
    ∷ (Plain 1 U32 ∷ Optional 17 (Message keys) ∷ [])
    ∷ (Plain 1 U32 ∷ Plain 16 Text ∷ [])
    ∷ (OneOf ((1, U32) ∷ (2, U32) ∷ (3, Text) ∷ []) ∷ OneOf ((4, Message void) ∷ (5, Message value) ∷
    (6, Message failure) ∷ (16, Text) ∷ (17, Message keys) ∷ []) ∷ [])
    ∷ []

-- The table of these schemas.
abbrev pub examples : Table
examples = table_of schemas

-- ---- values

-- A failure without metadata.
abbrev pub a_failure : ℕ → List ℕ → Parts
a_failure code text = cons (Number code) (cons (Bytes text) (one_part (Elements nil)))

-- Two parts.
abbrev pub two : Part → Part → Parts
two p q = cons p (one_part q)

-- Numbers as elements.
abbrev pub numbers_of : List ℕ → Parts
numbers_of [] = nil
numbers_of (n ∷ ns) = cons (Number n) (numbers_of ns)

-- A future with these completions, signals, names and nested futures.
abbrev pub a_future : List ℕ → List ℕ → Parts → Parts → Parts
a_future completions signals names nested = cons (Elements (numbers_of completions))
    (cons (Elements (numbers_of signals)) (cons (Elements names) (two (Elements nested) (Number 0))))

-- Lists of completions only.
abbrev pub completions_alone : List ℕ → Parts
completions_alone completions = cons (Elements (numbers_of completions)) (two (Elements nil) (Elements nil))

-- ---- statements about a payload

-- The payload is accepted for the schema, and means this value.
abbrev pub Means : ℕ → List ℕ → Parts → Type 0
Means s payload v = (accepts_payload examples 100 s payload ≡ true) × (meaning examples 100 s payload ≡ v)

-- The payload is accepted for the schema.
abbrev pub IsAccepted : ℕ → List ℕ → Type 0
IsAccepted s payload = accepts_payload examples 100 s payload ≡ true

-- The payload isn't accepted for the schema.
abbrev pub IsMalformed : ℕ → List ℕ → Type 0
IsMalformed s payload = accepts_payload examples 100 s payload ≡ false

-- Merging the payload into the first value gives the second.
abbrev pub Merges : ℕ → Parts → List ℕ → Parts → Type 0
Merges s v payload w = overlay_payload examples 100 s v payload ≡ w

-- This is the canonical payload of the value.
abbrev pub IsWrittenAs : ℕ → Parts → List ℕ → Type 0
IsWrittenAs s v payload = canonical_payload examples s v ≡ payload

-- ---- payloads

-- The value of a hexadecimal digit, by its character's code.
abbrev pub digit : ℕ → ℕ
digit c = if nat_lt c 58 then c - 48 else c - 55

-- The bytes that a text writes in hexadecimal, each pair of digits followed by a space or by the end.
abbrev pub hex : List ℕ → List ℕ
hex [] = []
hex (a ∷ []) = []
hex (a ∷ b ∷ []) = (digit a * 16 + digit b) ∷ []
hex (a ∷ b ∷ space ∷ cs) = (digit a * 16 + digit b) ∷ hex cs

-- A byte, n times.
abbrev pub repeated_byte : ℕ → ℕ → List ℕ
repeated_byte zero b = []
repeated_byte (suc n) b = b ∷ repeated_byte n b

-- n messages, each in field 4 of the one before; the last one has this content.
abbrev pub nested_messages : ℕ → List ℕ → List ℕ
nested_messages zero innermost = innermost
nested_messages (suc n) innermost = 34 ∷ (shortest_varint (length (nested_messages n innermost)) ++ nested_messages n
    innermost)

-- n groups of number 9, each in the one before.
abbrev pub nested_groups : ℕ → List ℕ
nested_groups n = repeated_byte n 75 ++ repeated_byte n 76
