-- The grammar of payloads: which bytes encode a varint, a key, a record, or a sequence of such items.
use Rattle.std.specs.Prelude.{◌≡◌, ℕ, zero, suc, ◌+◌, ◌-◌, ◌*◌, ◌%◌, ◌^◌, ◌<◌, ◌≤◌, List, [], ◌∷◌, ◌++◌, length}

-- ---- varints

-- The bytes are the number in groups of seven bits, the least significant first: a byte below 128 is the last one, and
-- its value is itself; a byte from 128 on counts by its low seven bits, and the bytes after it count 128 times what
-- they encode.
abbrev pub IsBase128 : List ℕ → ℕ → Type 0
IsBase128 [] n = ⊥
IsBase128 (b ∷ []) n = (b < 128) × (n ≡ b)
IsBase128 (b ∷ c ∷ bs) n = (128 ≤ b) × (high : ℕ) × (n ≡ b % 128 + 128 * high) × IsBase128 (c ∷ bs) high

-- A varint is one to ten such bytes, of a number of 64 bits (so a tenth byte is 0 or 1); it may have more bytes than
-- necessary.
pub record IsVarint (bytes : List ℕ) (n : ℕ) : Type 0 where
  pub encoding : IsBase128 bytes n
  pub short : length bytes ≤ 10
  pub fits : n < 2 ^ 64

-- ---- sequences

-- The bytes are encodings, by Encodes, of these items, one after the other.
abbrev pub IsSequence : {A : Type 0} → (List ℕ → A → Type 0) → List ℕ → List A → Type 0
IsSequence Encodes bytes [] = bytes ≡ []
IsSequence Encodes bytes (x ∷ xs) = (first : List ℕ) × (others : List ℕ) × (bytes ≡ first ++ others)
    × Encodes first x × IsSequence Encodes others xs

-- ---- records

-- The value of a record: a number, eight bytes, length-delimited bytes, the bytes between a group's start and its end,
-- or four bytes.
pub data RecordValue : Type 0 where
  Varint : ℕ → RecordValue
  Fixed64 : List ℕ → RecordValue
  Length : List ℕ → RecordValue
  Group : List ℕ → RecordValue
  Fixed32 : List ℕ → RecordValue

-- Length-delimited bytes; of any other value, no bytes.
abbrev pub content : RecordValue → List ℕ
content (Length bytes) = bytes
content w = []

-- A record is a field number and a value.
pub record FieldRecord : Type 0 where
  pub number : ℕ
  pub value : RecordValue

-- The wire type in the key of a value; type 4 is a group's end, and there are no others.
abbrev pub wire_type : RecordValue → ℕ
wire_type (Varint n) = 0
wire_type (Fixed64 bs) = 1
wire_type (Length bs) = 2
wire_type (Group bs) = 3
wire_type (Fixed32 bs) = 5

-- A key is a field number, at least 1, and a wire type, as one varint of at most 32 bits.
pub record IsKey (bytes : List ℕ) (number wire : ℕ) : Type 0 where
  pub encoding : IsVarint bytes (8 * number + wire)
  pub numbered : 0 < number
  pub typed : wire < 8
  pub fits : 8 * number + wire < 2 ^ 32

-- The bytes after the key of a record with this number encode this value; IsContent defines what a group may contain.
abbrev pub IsRecordBody : (List ℕ → Type 0) → List ℕ → ℕ → RecordValue → Type 0
IsRecordBody IsContent bytes number (Varint n) = IsVarint bytes n
IsRecordBody IsContent bytes number (Fixed64 bs) = (bytes ≡ bs) × (length bs ≡ 8)
IsRecordBody IsContent bytes number (Length bs) = (len : List ℕ) × IsVarint len (length bs) × (bytes ≡ len ++ bs)
IsRecordBody IsContent bytes number (Group bs) = (end : List ℕ) × IsKey end number 4 × IsContent bs ×
    (bytes ≡ bs ++ end)
IsRecordBody IsContent bytes number (Fixed32 bs) = (bytes ≡ bs) × (length bs ≡ 4)

-- The bytes encode this record: its key, and after it its value.
pub record IsFieldRecord (IsContent : List ℕ → Type 0) (bytes : List ℕ) (r : FieldRecord) : Type 0 where
  pub key : List ℕ
  pub body : List ℕ
  pub parts : bytes ≡ key ++ body
  pub keyed : IsKey key r.number (wire_type r.value)
  pub valued : IsRecordBody IsContent body r.number r.value

-- ---- nesting depth

-- The bytes may be the content of a group that allows `left` levels of nesting: they are records that allow one level
-- less.
unfoldable pub IsGroupContent : ℕ → List ℕ → Type 0
IsGroupContent zero bytes = ⊥
IsGroupContent (suc left) bytes = (rs : List FieldRecord) × IsSequence (IsFieldRecord (IsGroupContent left)) bytes rs

-- The bytes encode this record, which allows `left` levels of nesting.
abbrev pub IsRecordWithin : ℕ → List ℕ → FieldRecord → Type 0
IsRecordWithin left = IsFieldRecord (IsGroupContent left)

-- The bytes encode these records, which allow `left` levels of nesting.
abbrev pub IsRecordListWithin : ℕ → List ℕ → List FieldRecord → Type 0
IsRecordListWithin left = IsSequence (IsRecordWithin left)

-- The bytes encode this record at a nesting depth: a payload's records are at depth 0, a group's one deeper, and depth
-- 100 is the greatest.
abbrev pub IsRecord : ℕ → List ℕ → FieldRecord → Type 0
IsRecord level = IsRecordWithin (100 - level)

-- The bytes encode these records at a nesting depth.
abbrev pub IsRecordList : ℕ → List ℕ → List FieldRecord → Type 0
IsRecordList level = IsRecordListWithin (100 - level)
