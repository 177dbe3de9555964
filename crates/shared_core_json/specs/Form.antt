-- The JSON form of a value of a message, by proto3's JSON mapping, and with bytes as texts: for any table of schemas
-- with names, and for the messages of the protocol.
use Rattle.std.specs.Prelude.{ℕ, suc, ◌-◌, ◌*◌, ◌/◌, ◌%◌, ◌^◌, Bool, true, false, not, ◌&&◌, List, [], ◌∷◌, ◌++◌}
use Rattle.std.specs.Prelude.{codes, decimal, nat_lt, ◌==◌, if◌then◌else◌}
use Rattle.std.specs.Str.{is_utf8}
use Rattle.base64.specs.GeneralPurpose.{encode_of}
use Rattle.base64.specs.Engines.{standard}
use Rattle.json.specs.Json.{Json, null, boolean, number, string, array, object, Items, no_items, item, Members}
use Rattle.json.specs.Json.{no_members, member}
use Rattle.json.specs.Tree.{json_tokens}
use Rattle.json.specs.Print.{print}
use Rattle.shared_core_wire.specs.Schema.{Table, Kind, Row, U32, U64, Boolean, Enumeration, ByteString, Message, Plain}
use Rattle.shared_core_wire.specs.Schema.{Optional, Repeated, OneOf}
use Rattle.shared_core_wire.specs.Value.{Part, Parts, Absent, Number, Bytes, Nested, Elements, Member, nil, cons}
use Rattle.shared_core_wire.specs.Canonical.{number_of, kind_of, rows_of_kind, is_default}
use Rattle.shared_core_codec.specs.Table.{table as protocol}
use Rattle.shared_core_json.specs.Fields.{Names, SchemaNames, names_of, name_of}
use Rattle.shared_core_json.specs.declared.digits.Digits.{Digits}
use Rattle.shared_core_json.specs.declared.digits.Digits.TheVariants.{Unsigned, Signed, ZigZag}

-- The digits of a number by two's complement, where `half` is the least one below zero.
abbrev pub signed_digits : ℕ → ℕ → List ℕ
signed_digits half n = if nat_lt n half then decimal n else (codes "-" ++ decimal (2 * half - n))

-- The digits of a number by zigzag: an even one is its half, an odd one is below zero.
abbrev pub zigzag_digits : ℕ → List ℕ
zigzag_digits n = if n % 2 == 0 then decimal (n / 2) else (codes "-" ++ decimal (suc (n / 2)))

-- The digits of a number, where `half` is the least one below zero by two's complement.
abbrev pub digits_of : Digits → ℕ → ℕ → List ℕ
digits_of Unsigned half n = decimal n
digits_of Signed half n = signed_digits half n
digits_of ZigZag half n = zigzag_digits n

-- The digits of an enum's number, whose low 32 bits are an i32.
abbrev pub enum_digits : ℕ → List ℕ
enum_digits n = signed_digits (2 ^ 31) n

-- A number by how it is written: 64 bits as a string, a bool as such, an enum by its signed number.
abbrev pub number_json : Digits → Kind → ℕ → Json
number_json d U32 n = number (digits_of d (2 ^ 31) n)
number_json d U64 n = string (digits_of d (2 ^ 63) n)
number_json d Boolean n = boolean (not (n == 0))
number_json d Enumeration n = number (enum_digits n)
number_json d k n = number (decimal n)

-- How the values of a field are written: whether bytes may be texts, and the digits of numbers.
pub record Writing : Type 0 where
  pub texts : Bool
  pub digits : Digits

-- How the values of the field of a schema are written that has a number.
abbrev pub writing : Bool → SchemaNames → ℕ → Writing
writing texts names n = record { texts = texts; digits = names.digits n }

-- Bytes of any kind: in standard base64 with padding; if texts are wanted, those that are UTF-8 as an object with the
-- one member `text`.
abbrev pub byte_string_json : Bool → List ℕ → Json
byte_string_json texts bytes =
    if texts && is_utf8 bytes then object (member (codes "text") (string bytes) no_members) else string
    (encode_of standard bytes)

-- Length-delimited bytes: a text unchanged, others as bytes of any kind.
abbrev pub bytes_json : Bool → Kind → List ℕ → Json
bytes_json texts ByteString bytes = byte_string_json texts bytes
bytes_json texts k bytes = string bytes

-- Whether a row has a member in the object: not if it is absent, a list without elements, or a plain default.
abbrev pub is_present : Row → Part → Bool
is_present row Absent = false
is_present row (Elements nil) = false
is_present (Plain n k) p = not (is_default p)
is_present (Optional n k) p = true
is_present (Repeated n k) p = true
is_present (OneOf members) p = true

-- A member before others, if it is present.
abbrev pub member_if : Bool → List ℕ → Json → Members → Members
member_if present name json others = if present then member name json others else others

-- The names of the fields of a kind's message.
abbrev pub names_of_kind : Names → Kind → SchemaNames
names_of_kind all_names (Message s) = all_names s
names_of_kind all_names k = record { names = []; digits = λ n. Unsigned }

-- ---- for the schemas of a table, whose fields have these names

module _ (table : Table) (all_names : Names) where
  unfoldable mutual
    -- The JSON of a part: a number, bytes, a message as an object, the elements of a repeated field as an array, the
    -- member of a oneof.
    pub part_json_in : Writing → Part → Kind → Json
    part_json_in w Absent k = null
    part_json_in w (Number n) k = number_json w.digits k n
    part_json_in w (Bytes bytes) k = bytes_json w.texts k bytes
    part_json_in w (Nested ps) k = object
        (members_json_in w.texts (names_of_kind all_names k) ps (rows_of_kind table k))
    part_json_in w (Elements ps) k = array (items_json_in w ps k)
    part_json_in w (Member n p) k = part_json_in w p k

    -- The elements of a repeated field, in order.
    pub items_json_in : Writing → Parts → Kind → Items
    items_json_in w nil k = no_items
    items_json_in w (cons p ps) k = item (part_json_in w p k) (items_json_in w ps k)

    -- The members of a message's object: one for each present row, in the order of the schema, each by the name of its
    -- field.
    pub members_json_in : Bool → SchemaNames → Parts → List Row → Members
    members_json_in texts names nil rows = no_members
    members_json_in texts names (cons p ps) [] = no_members
    members_json_in texts names (cons p ps) (row ∷ rows) =
        member_if (is_present row p) (name_of names (number_of row p))
        (part_json_in (writing texts names (number_of row p)) p (kind_of row p)) (members_json_in texts names ps rows)

  -- The JSON of a value of the schema s, with texts or without.
  abbrev pub json_with_in : Bool → ℕ → Parts → Json
  json_with_in texts s v = object (members_json_in texts (all_names s) v (table s))

-- ---- for the schemas of the protocol

-- The JSON of a value of the schema s, with texts or without.
abbrev pub json_with : Bool → ℕ → Parts → Json
json_with = json_with_in protocol names_of

-- The JSON of a value of the schema s, by proto3's JSON mapping: without texts.
abbrev pub value_json : ℕ → Parts → Json
value_json s v = json_with false s v

-- Its text: without spaces, with the escapes \" \\ \b \f \n \r \t, \u00xx for the other control characters, and all
-- else unescaped.
abbrev pub json_text : ℕ → Parts → List ℕ
json_text s v = print (json_tokens (value_json s v))
