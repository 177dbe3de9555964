-- The words of a filter, as a text in lower case says them.
use Rattle.std.specs.Prelude.{◌≡◌, ◌≢◌, ℕ, zero, suc, Bool, true, false, not, ◌&&◌, ◌==◌, if◌then◌else◌, eqb, codes}
use Rattle.std.specs.Prelude.{is_none, List, [], ◌∷◌, ◌++◌, length, drop, Option, Some, None, Result, Ok, Err, ◌⊎◌}
use Rattle.std.specs.Prelude.{string_bytes}
use Rattle.std.specs.Bool.{MatchBool}
use Rattle.std.specs.Str.{bytes_eq}
use Rattle.std.specs.List.{starts_with, before_first, after_first}
use denote.Ref.{Bor}
use Rattle.show_lines.specs.Ranges.{range_said}
use Rattle.show_lines.specs.declared.filter.FieldName.{FieldName}
use Rattle.show_lines.specs.declared.filter.FieldName.TheVariants as name
use Rattle.show_lines.specs.declared.filter.Filter.{Filter}
use Rattle.show_lines.specs.declared.filter.FilterError.{FilterError}
use Rattle.show_lines.specs.declared.filter.FilterError.TheVariants as error
use Rattle.show_lines.specs.declared.filter.State.{State}
use Rattle.show_lines.specs.declared.filter.State.TheVariants as state
use Rattle.show_lines.specs.declared.filter.Test.{Test}
use Rattle.show_lines.specs.declared.filter.Test.TheVariants as test
use Rattle.show_lines.specs.declared.filter.Word.{Word}
use Rattle.show_lines.specs.declared.filter.Written.{Written}

-- ---- how words are written

-- A word as it is written.
pub record Said : Type 0 where
  pub is_without : Bool
  pub field : Option FieldName
  pub is_phrase : Bool
  pub text : List ℕ

-- A word of the program, as it is written.
abbrev pub said_of : Written → Said
said_of written = record {
  is_without = written.is_without;
  field = written.field;
  is_phrase = written.is_phrase;
  text = written.text.now;
}

-- A text without a mark that it may begin with.
abbrev pub without_mark : List ℕ → List ℕ → List ℕ
without_mark mark text = if starts_with eqb text mark then drop (length mark) text else text

-- The fields, as words begin with them.
abbrev pub fields : List (List ℕ × FieldName)
fields =
    (codes "type:", name.Type) ∷ (codes "name:", name.Name) ∷ (codes "is:", name.Is) ∷ (codes "cmd:", name.Command)
    ∷ (codes "item:", name.Item) ∷ (codes "id:", name.Id) ∷ (codes "size:", name.Size) ∷ (codes "offset:", name.Offset)
    ∷ []

-- A field, as the program's table has it.
abbrev pub named_field : Bor (List ℕ) × FieldName → List ℕ × FieldName
named_field field = (field.0.now, field.1)

-- The first of these fields that a text begins with, and what is after it.
abbrev pub field_said : List (List ℕ × FieldName) → List ℕ → Option FieldName × List ℕ
field_said [] text = (None, text)
field_said (field ∷ others) text =
    if starts_with eqb text field.0
    then (Some field.1, drop (length field.0) text)
    else field_said others text

-- The byte that ends a word: a quote (34) of a phrase, and otherwise a space (32).
abbrev pub end_of : Bool → ℕ
end_of is_phrase = if is_phrase then 34 else 32

-- A word by its text, which begins here, and what is after it.
abbrev pub text_said : Bool → Option FieldName → Bool → List ℕ → Said × List ℕ
text_said is_without field is_phrase text = (
  record {
    is_without = is_without;
    field = field;
    is_phrase = is_phrase;
    text = before_first (λ (byte : ℕ). byte == end_of is_phrase) text;
  },
  after_first (λ (byte : ℕ). byte == end_of is_phrase) text,
)

-- A word by its field and what is after that: a phrase begins with a quote.
abbrev pub fielded_said : Bool → Option FieldName × List ℕ → Said × List ℕ
fielded_said is_without (field, text) =
    text_said is_without field (starts_with eqb text (codes "\"")) (without_mark (codes "\"") text)

-- The word that a text begins with, and what is after it.
abbrev pub first_said : List ℕ → Said × List ℕ
first_said text =
    fielded_said (starts_with eqb text (codes "-")) (field_said fields (without_mark (codes "-") text))

-- ---- what they ask

-- The name of a state.
abbrev pub state_name : State → List ℕ
state_name state.Failure = codes "failure"
state_name state.Malformed = codes "malformed"
state_name state.Command = codes "command"
state_name state.Notification = codes "notification"
state_name state.Core = codes "core"
state_name state.Custom = codes "custom"
state_name state.Unknown = codes "unknown"
state_name state.Skipped = codes "skipped"
state_name state.Rest = codes "rest"

-- What a word of a field, or of none, asks.
abbrev pub Asks : Option FieldName → List ℕ → Test → Type 0
Asks None text (test.Anywhere word) = string_bytes word ≡ text
Asks (Some name.Type) text (test.Type word) = string_bytes word ≡ text
Asks (Some name.Name) text (test.Name word) = string_bytes word ≡ text
Asks (Some name.Is) text (test.Is s) = state_name s ≡ text
Asks (Some name.Command) text (test.OfCommand range) = range_said text ≡ Some range
Asks (Some name.Item) text (test.OfItem range) = range_said text ≡ Some range
Asks (Some name.Id) text (test.OfId range) = range_said text ≡ Some range
Asks (Some name.Size) text (test.OfSize range) = range_said text ≡ Some range
Asks (Some name.Offset) text (test.OfOffset range) = range_said text ≡ Some range
Asks field text t = ⊥

-- A field is followed by no number.
abbrev pub LacksNumber : List ℕ → List ℕ → FilterError → Type 0
LacksNumber field text (error.NoNumber before) = (before.now ≡ field) × (range_said text ≡ None)
LacksNumber field text e = ⊥

-- No state has this name.
abbrev pub LacksState : List ℕ → FilterError → Type 0
LacksState text (error.NoState name) = (string_bytes name ≡ text) × ((s : State) → state_name s ≢ text)
LacksState text e = ⊥

-- Why a word of a field asks nothing.
abbrev pub AsksNothing : Option FieldName → List ℕ → FilterError → Type 0
AsksNothing (Some name.Is) text e = LacksState text e
AsksNothing (Some name.Command) text e = LacksNumber (codes "cmd:") text e
AsksNothing (Some name.Item) text e = LacksNumber (codes "item:") text e
AsksNothing (Some name.Id) text e = LacksNumber (codes "id:") text e
AsksNothing (Some name.Size) text e = LacksNumber (codes "size:") text e
AsksNothing (Some name.Offset) text e = LacksNumber (codes "offset:") text e
AsksNothing field text e = ⊥

-- ---- all words

-- A word without a field whose text is empty, and no phrase, says nothing.
abbrev pub says_nothing : Said → Bool
says_nothing said = is_none said.field && (not said.is_phrase && (length said.text == 0))

-- Whether a field is that of states.
abbrev pub is_state : Option FieldName → Bool
is_state (Some name.Is) = true
is_state field = false

-- Whether it is the word `is:open`, which is of the whole journal.
abbrev pub says_open : Said → Bool
says_open said = is_state said.field && bytes_eq said.text (codes "open")

-- What it adds to the words before it, and to whether one of them is `is:open`.
abbrev pub Adds : Said → List Word → Bool → List Word → Bool → Type 0
Adds said words opens more now =
    MatchBool (says_nothing said) ((more ≡ words) × (now ≡ opens))
    (MatchBool (says_open said) ((said.is_without ≡ false) × (more ≡ words) × (now ≡ true))
    ((word : Word) × (word.is_without ≡ said.is_without) × Asks said.field said.text word.test
    × (more ≡ words ++ word ∷ []) × (now ≡ opens)))

-- Why it adds nothing and ends the reading.
abbrev pub Refuses : Said → FilterError → Type 0
Refuses said e =
    MatchBool (says_nothing said) ⊥
    (MatchBool (says_open said) ((said.is_without ≡ true) × (e ≡ error.NotOpen)) (AsksNothing said.field said.text e))

-- The words are those, and one of them is `is:open` or not.
abbrev pub IsFilter : List Word → Bool → Result Filter FilterError → Type 0
IsFilter words opens (Ok filter) = (filter.words.items ≡ words) × (filter.«open» ≡ opens)
IsFilter words opens (Err e) = ⊥

-- The error is that of a word.
abbrev pub IsRefused : Said → Result Filter FilterError → Type 0
IsRefused said (Ok filter) = ⊥
IsRefused said (Err e) = Refuses said e

-- What reading a text gives after these words: the error of its first word, or what that adds, and what reading the
-- text after it gives. The first number is at least that of the bytes of the text, and each word has one at least.
abbrev pub Reads : ℕ → List ℕ → List Word → Bool → Result Filter FilterError → Type 0
Reads zero text words opens result = IsFilter words opens result
Reads (suc n) [] words opens result = IsFilter words opens result
Reads (suc n) (byte ∷ bytes) words opens result =
    IsRefused (first_said (byte ∷ bytes)).0 result
    ⊎ ((more : List Word) × (now : Bool) × Adds (first_said (byte ∷ bytes)).0 words opens more now
    × Reads n (first_said (byte ∷ bytes)).1 more now result)
