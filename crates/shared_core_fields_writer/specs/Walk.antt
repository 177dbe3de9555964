-- The records of the entries of a message, level by level, up to the first entry that may not come.
use Rattle.std.specs.Prelude.{◌≡◌, ◌≤◌, ℕ, zero, suc, Bool, true, false, ◌&&◌, List, [], ◌∷◌, ◌++◌, length, take, drop}
use Rattle.std.specs.Prelude.{nat_lt, nat_eq, flat_map, if◌then◌else◌, Option, Some, None, Result, Ok, Err, MatchResult}
use Rattle.shared_core_wire.specs.Encoding.{shortest_varint}
use Rattle.shared_core_wire.specs.Schema.{Kind, Row, U32}
use Rattle.shared_core_wire.specs.WrittenRecords.{number_record, content_record}
use Rattle.shared_core_fields_writer.specs.Room.{Wrote}
use Rattle.shared_core_codec.specs.Table.{table}
use Rattle.shared_core_codec.specs.RowEncoding.{length_record}
use Rattle.shared_core_codec.specs.Canonicity.{Next, is_packed}
use Rattle.shared_core_fields_writer.specs.declared.walk.Source.{Source}
use Rattle.shared_core_fields.specs.declared.table.FieldEntry.{FieldEntry}
use Rattle.shared_core_fields_writer.specs.declared.error.Reason.{Reason}
use Rattle.shared_core_fields_writer.specs.declared.error.Reason.TheVariants.{WrongLevel, TooDeep, TooLong}
use Rattle.shared_core_fields_writer.specs.Given.{Given, Number, Content, Opens, given, field_next}

-- The bytes that entries give, or why one of them may not come and how many there are from it on.
abbrev pub Walked : Type 0
Walked = Result (List ℕ) (Reason × ℕ)

-- These bytes, and those of what comes after them.
abbrev pub onto : List ℕ → Walked → Walked
onto bytes (Ok more) = Ok (bytes ++ more)
onto bytes (Err e) = Err e

-- The bytes of a message and of what comes after them: of a field of the number n.
abbrev pub nested_onto : ℕ → Walked → Walked → Walked
nested_onto n (Ok bytes) after = onto (length_record n bytes) after
nested_onto n (Err e) after = Err e

-- What the last field may have more entries for: nothing, the fields within it, or further numbers of a run of a kind.
pub data More : Type 0 where
  Nothing : More
  Within : More
  Numbers : Kind → More

-- The last field is a message, within which deeper entries are.
abbrev pub is_within : More → Bool
is_within Nothing = false
is_within Within = true
is_within (Numbers k) = false

-- An entry of the number n is one more number of the last field's run.
abbrev pub is_more : More → Option ℕ → ℕ → Bool
is_more (Numbers k) (Some m) n = nat_eq n m
is_more more last n = false

-- The kind of the further numbers; of what has none, any.
abbrev pub run_kind : More → Kind
run_kind (Numbers k) = k
run_kind more = U32

-- The numbers of the entries of a run.
abbrev pub run_numbers : ℕ → ℕ → List FieldEntry → List ℕ
run_numbers level n [] = []
run_numbers level n (e ∷ es) = if nat_eq e.level level && nat_eq e.number n then e.value ∷ run_numbers level n es else
    []

-- The varints of numbers.
abbrev pub varints : List ℕ → List ℕ
varints ns = flat_map shortest_varint ns

-- The entries after those that are at a level or deeper.
abbrev pub rest_of : ℕ → List FieldEntry → List FieldEntry
rest_of level [] = []
rest_of level (e ∷ es) = if nat_lt e.level level then e ∷ es else rest_of level es

-- What the entries after one give that are at its level, by the rows that may come next, the last field, and what more
-- entries that may have.
abbrev pub Onward : Type 0
Onward = List Row → Option ℕ → More → Walked

-- What the entries after one give that are within it, by its schema and how deep messages may be nested in it.
abbrev pub Inward : Type 0
Inward = ℕ → ℕ → Walked

-- What a message of the schema t gives, of the field number n, and the entries after it; `count` are left with its own.
abbrev pub message_walk : Inward → Onward → Next → ℕ → ℕ → ℕ → ℕ → Walked
message_walk inward onward next n count t zero = Err (TooDeep, count)
message_walk inward onward next n count t (suc below) =
    nested_onto n (inward t below) (onward next.rows (Some n) Within)

-- The same of a number, with the further numbers of its run, if it is of a packed field.
abbrev pub number_walk : Onward → Next → ℕ → ℕ → List ℕ → Bool → Walked
number_walk onward next n value run true =
    onto (length_record n (varints (value ∷ run))) (onward next.rows (Some n) (Numbers next.field.0))
number_walk onward next n value run false =
    onto (number_record next.is_plain n value) (onward next.rows (Some n) Nothing)

-- The same of what an entry gives.
abbrev pub value_walk : Inward → Onward → Next → ℕ → ℕ → ℕ → List ℕ → Result Given Reason → Walked
value_walk inward onward next depth n count run (Err reason) = Err (reason, count)
value_walk inward onward next depth n count run (Ok (Number value)) =
    number_walk onward next n value run (is_packed next.field)
value_walk inward onward next depth n count run (Ok (Content content)) =
    onto (content_record next.is_plain n content) (onward next.rows (Some n) Nothing)
value_walk inward onward next depth n count run (Ok (Opens t)) = message_walk inward onward next n count t depth

-- The same of an entry, for the field that may come next.
abbrev pub field_walk : List ℕ → Inward → Onward → ℕ → ℕ → FieldEntry → List FieldEntry → Result Next Reason → Walked
field_walk bytes inward onward level depth e es (Err reason) = Err (reason, length (e ∷ es))
field_walk bytes inward onward level depth e es (Ok next) =
    value_walk inward onward next depth e.number (length (e ∷ es)) (run_numbers level e.number es)
    (given bytes next.field.0 e)

-- The same of one more number of a run, whose record is there.
abbrev pub more_walk : ℕ → Walked → Result Given Reason → Walked
more_walk count onward (Err reason) = Err (reason, count)
more_walk count onward (Ok g) = onward

-- What the entries of a message of the schema s give, which are at a level; `left` are the rows that may come next,
-- after the field `last`, which may have more entries, and messages may be nested `depth` deep. The entries point to
-- these bytes.
unfoldable pub walk : List ℕ → ℕ → List Row → Option ℕ → More → ℕ → ℕ → List FieldEntry → Walked
walk bytes s left last more level depth [] = Ok []
walk bytes s left last more level depth (e ∷ es) =
    if nat_lt e.level level then Ok []
    else if nat_lt level e.level then
    (if is_within more then walk bytes s left last more level depth es else Err (WrongLevel, length (e ∷ es)))
    else if is_more more last e.number then
    more_walk (length (e ∷ es)) (walk bytes s left last more level depth es) (given bytes (run_kind more) e)
    else
    field_walk bytes (λ t below. walk bytes t (table t) None Nothing (suc level) below es)
    (λ rows n more. walk bytes s rows n more level depth es) level depth e es
    (field_next (table s) left last e.number)

-- What entries give, if it is short enough for a payload.
abbrev pub short_enough : Walked → Walked
short_enough (Ok bytes) = if nat_lt (length bytes) 4294967296 then Ok bytes else Err (TooLong, 0)
short_enough (Err e) = Err e

-- The payload of the schema s that a table gives whose entries point to these bytes; or why it has none: the reason,
-- and how many entries are left from the first one on that may not come.
unfoldable pub entries_payload : ℕ → List FieldEntry → List ℕ → Walked
entries_payload s es bytes = short_enough (walk bytes s (table s) None Nothing 0 100 es)

-- The entries of a source from an index on.
abbrev pub entries_from : Source → ℕ → List FieldEntry
entries_from source at = drop at source.entries.now

-- How a function ended that writes these bytes into a slice, from an index up to another one: with them, or with this
-- error; these entries are left.
abbrev pub Writes : {T : Type 0} → Result T Reason → Walked → List ℕ → ℕ → List ℕ → ℕ → List FieldEntry → Type 0
Writes result walked old from new to left =
    MatchResult result (λ _. (bytes : List ℕ) × (walked ≡ Ok bytes) × Wrote old from new to bytes)
    (λ reason. walked ≡ Err (reason, length left))

-- The same of a function that writes their length before them.
abbrev pub Nests : {T : Type 0} → Result T Reason → Walked → List ℕ → ℕ → List ℕ → ℕ → List FieldEntry → Type 0
Nests result walked old from new to left =
    MatchResult result
    (λ _. (bytes : List ℕ) × (walked ≡ Ok bytes) × Wrote old from new to (shortest_varint (length bytes) ++ bytes))
    (λ reason. walked ≡ Err (reason, length left))

-- The same of a function that writes some of these bytes, so that those of what is left come after them.
abbrev pub Goes : {T : Type 0} → Result T Reason → Walked → Walked → List ℕ → ℕ → List ℕ → ℕ → List FieldEntry → Type 0
Goes result walked next old from new to left =
    MatchResult result (λ _. (bytes : List ℕ) × (walked ≡ onto bytes next) × Wrote old from new to bytes)
    (λ reason. walked ≡ Err (reason, length left))

-- How a function ended that iterates over entries which give nothing more, or that it ended with this error.
abbrev pub Continues : {T : Type 0} → Result T Reason → Walked → Walked → List FieldEntry → Type 0
Continues result walked next left =
    MatchResult result (λ _. walked ≡ next) (λ reason. walked ≡ Err (reason, length left))

-- The same of the entry of a field of the number n, in a message of any schema where the field may come next.
abbrev pub GoesOn : {T : Type 0} → Result T Reason → List ℕ → ℕ → Next → More → ℕ → ℕ → List ℕ → ℕ → List ℕ → ℕ → List
    FieldEntry
    → List FieldEntry → Type 0
GoesOn result bytes n next more level depth old from new to before left =
    (s : ℕ) (rows : List Row) (last : Option ℕ) → field_next (table s) rows last n ≡ Ok next
    → Goes result (walk bytes s rows last more level depth before)
    (walk bytes s next.rows (Some n) Nothing level depth left) old from new to left

-- A table gives this payload, which has this length and is at the front of a slice, if that is as long.
pub record Fills (s : ℕ) (es : List FieldEntry) (bytes new : List ℕ) (size : ℕ) (payload : List ℕ) : Type 0 where
  pub gives : entries_payload s es bytes ≡ Ok payload
  pub has : size ≡ length payload
  pub written : size ≤ length new → take size new ≡ payload
