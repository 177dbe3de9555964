-- The grammar as functions: each returns what some bytes begin with, and the bytes after it, or None.
use Rattle.std.specs.Prelude.{◌≡◌, ℕ, zero, suc, ◌+◌, ◌-◌, ◌*◌, ◌/◌, ◌%◌, ◌^◌, List, [], ◌∷◌, length, take, drop}
use Rattle.std.specs.Prelude.{Option, Some, None, nat_lt, ◌==◌, if◌then◌else◌}
use Rattle.shared_core_wire.specs.Grammar.{RecordValue, Varint, Fixed64, Length, Group, Fixed32, FieldRecord}

infixl 10 ◌>>=◌
-- Passes what was found on to f; None stays None.
abbrev pub ◌>>=◌ : {A B : Type 0} → Option A → (A → Option B) → Option B
(Some x) >>= f = f x
None >>= f = None

-- What a function returned, mapped by view, is what reading gives.
abbrev pub Gives : {X Y : Type 0} → (X → Y) → Option X → Option Y → Type 0
Gives view (Some x) read = read ≡ Some (view x)
Gives view None read = read ≡ None

-- ---- varints and keys

-- A number in groups of seven bits, in at most the given number of bytes.
unfoldable pub varint_within : ℕ → List ℕ → Option (ℕ × List ℕ)
varint_within zero bytes = None
varint_within (suc most) [] = None
varint_within (suc most) (b ∷ bs) = if nat_lt b 128 then Some (b, bs) else
    (varint_within most bs >>= λ x. Some (b % 128 + 128 * x.0, x.1))

-- A varint: such a number of 64 bits, in at most ten bytes.
unfoldable pub varint_at : List ℕ → Option (ℕ × List ℕ)
varint_at bytes = do
  n ← varint_within 10 bytes
  if nat_lt n.0 (2 ^ 64) then Some n else None

-- A key: its number, its wire type, and the bytes after it.
unfoldable pub key_at : List ℕ → Option (ℕ × ℕ × List ℕ)
key_at bytes = do
  key ← varint_at bytes
  if nat_lt key.0 8 then None else (if nat_lt 4294967295 key.0 then None else Some (key.0 / 8, key.0 % 8, key.1))

-- The first len bytes.
unfoldable pub bytes_at : ℕ → List ℕ → Option (List ℕ × List ℕ)
bytes_at len bytes = if nat_lt (length bytes) len then None else Some (take len bytes, drop len bytes)

-- ---- records

-- The value after a key, where group reads the content of a group.
unfoldable pub value_with : (ℕ → List ℕ → Option (List ℕ × List ℕ)) → ℕ → ℕ → List ℕ → Option (RecordValue × List ℕ)
value_with group number wire bytes =
    if wire == 0 then (varint_at bytes >>= λ n. Some (Varint n.0, n.1))
    else (if wire == 1 then (bytes_at 8 bytes >>= λ x. Some (Fixed64 x.0, x.1))
    else (if wire == 2 then (varint_at bytes >>= λ n. bytes_at n.0 n.1 >>= λ x. Some (Length x.0, x.1))
    else (if wire == 3 then (group number bytes >>= λ x. Some (Group x.0, x.1))
    else (if wire == 5 then (bytes_at 4 bytes >>= λ x. Some (Fixed32 x.0, x.1))
    else None))))

-- A record, where group reads the content of a group.
unfoldable pub record_with : (ℕ → List ℕ → Option (List ℕ × List ℕ)) → List ℕ → Option (FieldRecord × List ℕ)
record_with group bytes = do
  key ← key_at bytes
  value ← value_with group key.0 key.1 key.2
  Some (record { number = key.0; value = value.0 }, value.1)

-- From within a group, where the next `past` bytes are skipped: the bytes from the group's end key on, and those after
-- that key.
unfoldable pub group_end_at : (List ℕ → Option (FieldRecord × List ℕ)) → ℕ → ℕ → List ℕ → Option (List ℕ × List ℕ)
group_end_at one number past [] = None
group_end_at one number (suc past) (b ∷ bs) = group_end_at one number past bs
group_end_at one number zero (b ∷ bs) = do
  key ← key_at (b ∷ bs)
  if key.1 == 4
      then (if key.0 == number then Some (b ∷ bs, key.2) else None)
      else (one (b ∷ bs) >>= λ r. group_end_at one number (length bs - length r.1) bs)

-- The content of a group that allows `left` levels of nesting.
unfoldable pub group_content_at : ℕ → ℕ → List ℕ → Option (List ℕ × List ℕ)
group_content_at zero number bytes = None
group_content_at (suc left) number bytes = do
  end ← group_end_at (record_with (group_content_at left)) number 0 bytes
  Some (take (length bytes - length end.0) bytes, end.1)

-- The value after a key, of a record that allows `left` levels of nesting.
abbrev pub value_at : ℕ → ℕ → ℕ → List ℕ → Option (RecordValue × List ℕ)
value_at left = value_with (group_content_at left)

-- A record that allows `left` levels of nesting.
unfoldable pub record_at : ℕ → List ℕ → Option (FieldRecord × List ℕ)
record_at left = record_with (group_content_at left)

-- ---- whole sequences

-- All the items that the bytes encode, where the next `past` bytes are skipped first.
unfoldable pub sequence_past : {A : Type 0} → (List ℕ → Option (A × List ℕ)) → ℕ → List ℕ → Option (List A)
sequence_past one past [] = Some []
sequence_past one (suc past) (b ∷ bs) = sequence_past one past bs
sequence_past one zero (b ∷ bs) = one (b ∷ bs) >>= λ x. sequence_past one (length bs - length x.1) bs >>= λ xs. Some
    (x.0 ∷ xs)

-- The numbers of a packed run, which are varints that fill the bytes exactly.
unfoldable pub packed_numbers : List ℕ → Option (List ℕ)
packed_numbers bytes = sequence_past varint_at 0 bytes

-- The record list of a payload, whose records allow `left` levels of nesting.
unfoldable pub record_list : ℕ → List ℕ → Option (List FieldRecord)
record_list left bytes = sequence_past (record_at left) 0 bytes
