-- What a call appends, and why a line is rejected.
use Rattle.std.specs.Prelude.{◌≡◌, ◌≢◌, ℕ, ◌-◌, Bool, false, not, ◌&&◌, ◌||◌, List, [], ◌∷◌, ◌++◌, length, slice_get}
use Rattle.std.specs.Prelude.{◌==◌, if◌then◌else◌, Option, Some, None, Result, Ok, Err, MatchOption, MatchResult}
use Rattle.std.specs.Prelude.{codes, option_and_then}
use Rattle.json.specs.Json.{Json}
use Rattle.json.specs.Find.{as_str}
use Rattle.shared_core_json_reader.specs.declared.error.Reason.{Reason}
use Rattle.shared_core_json_reader.specs.Reading.{json_of_text}
use Rattle.shared_core_json_reader.specs.FirstError.{IsPlace, value_error_in}
use Rattle.shared_core_json_reader.specs.Rows.{Format}
use Rattle.make_lines.specs.declared.error.LineError.{LineError}
use Rattle.make_lines.specs.declared.error.LineReason.{LineReason}
use Rattle.make_lines.specs.declared.error.LineReason.TheVariants.{CutOff, UnknownType}
use Rattle.make_lines.specs.declared.error.LineReason.TheVariants.{Json as Wrong}
use Rattle.make_lines.specs.declared.reject.Fault.{Fault}
use Rattle.make_lines.specs.declared.reject.ItemFault.{ItemFault}
use Rattle.make_lines.specs.declared.reject.ItemFault.TheVariants.{Line, Message}
use Rattle.make_lines.specs.Errors.{LineFault, lack, fault_of, at, inside, not_json}
use Rattle.make_lines.specs.Making.{Making}
use Rattle.make_lines.specs.Members.{given}
use Rattle.make_lines.specs.Places.{name_at}
use Rattle.make_lines.specs.Lines.{is_space, line_said, line_made}

-- Unless an allocation failed, this is the fault.
abbrev pub HasFault : Option LineFault → LineError → Type 0
HasFault fault error = error.reason ≢ lack → fault ≡ Some (fault_of error)

-- The name that no type has, if that is the reason: what a line has as its type.
abbrev pub untyped : LineReason → Json → Option (List ℕ)
untyped UnknownType j = option_and_then as_str (given (codes "type") j)
untyped reason j = None

-- What a fault says of a line.
abbrev pub said_of : Json → Fault → LineFault
said_of j fault =
    record { reason = fault.reason; offset = None; path = name_at fault.place; name = untyped fault.reason j }

-- Unless an allocation failed, what is read of a line has this fault.
abbrev pub Rejects : {A : Type 0} → Json → Result A LineFault → Fault → Type 0
Rejects j read fault = fault.reason ≢ lack → read ≡ Err (said_of j fault)

-- The same, whichever the line is.
abbrev pub RejectsAnywhere : {A : Type 0} → Result A LineFault → Fault → Type 0
RejectsAnywhere read fault = (j : Json) → Rejects j read fault

-- The first error of the message of a line, as one of the schema s.
abbrev pub message_error : Format → ℕ → Json → Option (Reason × List ℕ)
message_error format s j = option_and_then (value_error_in format s) (given (codes "message") j)

-- The reason of the fault of an item.
abbrev pub reason_of : ItemFault → LineReason
reason_of (Line fault) = fault.reason
reason_of (Message s reason) = Wrong reason

-- The fault of an item says this of a line: of a value inside the message with the path to it.
abbrev pub IsSaid : Format → Json → ItemFault → LineFault → Type 0
IsSaid format j (Line fault) said = said ≡ said_of j fault
IsSaid format j (Message s reason) said =
    (path : List ℕ) × (message_error format s j ≡ Some (reason, path)) × (said ≡ inside (codes "message") reason path)

-- What is read of a line has the fault that this fault of its item says.
abbrev pub HasItemFault : {A : Type 0} → Format → Json → Result A LineFault → ItemFault → Type 0
HasItemFault format j read fault = (said : LineFault) × (read ≡ Err said) × IsSaid format j fault said

-- The same, unless an allocation failed.
abbrev pub RejectsItem : {A : Type 0} → Format → Json → Result A LineFault → ItemFault → Type 0
RejectsItem format j read fault = reason_of fault ≢ lack → HasItemFault format j read fault

-- A call appends these bytes, if they are read; otherwise it fails with their fault, and nothing is appended. It may
-- also fail because an allocation fails.
abbrev pub Appends : {T : Type 0} → Result T LineError → Result (List ℕ) LineFault → List ℕ → List ℕ → Type 0
Appends r read old new = MatchResult r (λ _. (bytes : List ℕ) × (read ≡ Ok bytes) × (new ≡ old ++ bytes))
    (λ error. error.reason ≢ lack → (read ≡ Err (fault_of error)) × (new ≡ old))

-- The same, for a fault of a line.
abbrev pub AppendsOf : {T : Type 0} → Json → Result T Fault → Result (List ℕ) LineFault → List ℕ → List ℕ → Type 0
AppendsOf j r read old new = MatchResult r (λ _. (bytes : List ℕ) × (read ≡ Ok bytes) × (new ≡ old ++ bytes))
    (λ fault. fault.reason ≢ lack → (read ≡ Err (said_of j fault)) × (new ≡ old))

-- The same, whichever the line is.
abbrev pub AppendsAnywhere : {T : Type 0} → Result T Fault → Result (List ℕ) LineFault → List ℕ → List ℕ → Type 0
AppendsAnywhere r read old new = (j : Json) → AppendsOf j r read old new

-- The same, for the fault of an item.
abbrev pub AppendsItem : {T : Type 0} → Format → Json → Result T ItemFault → Result (List ℕ) LineFault → List ℕ → List
    ℕ → Type 0
AppendsItem format j r read old new = MatchResult r (λ _. (bytes : List ℕ) × (read ≡ Ok bytes) × (new ≡ old ++ bytes))
    (λ fault. reason_of fault ≢ lack → HasItemFault format j read fault × (new ≡ old))

-- Whether a line begins an object.
abbrev pub begins_object : List ℕ → Bool
begins_object [] = false
begins_object (b ∷ bs) = if is_space b then begins_object bs else b == 123

-- Whether a byte closes an object or an array.
abbrev pub closes : Option ℕ → Bool
closes None = false
closes (Some b) = (b == 125) || (b == 93)

-- Whether a line that stops being JSON at an offset ends within an object: it begins one, the offset is at its end, and
-- it does not close what is not open.
abbrev pub is_cut_off : List ℕ → ℕ → Bool
is_cut_off text offset = (begins_object text && (offset == length text)) && not
    (closes (slice_get text (length text - 1)))

-- The fault of a line that stops being JSON at this offset.
abbrev pub text_fault : List ℕ → ℕ → LineFault
text_fault text offset = if is_cut_off text offset then at [] CutOff else not_json offset

-- A line is rejected for where it stops being JSON, or for the fault of its value.
abbrev pub IsFaultOf : Making → List ℕ → LineError → Type 0
IsFaultOf by text error =
    MatchOption (json_of_text text) ((offset : ℕ) × IsPlace text (Some offset) ×
    (fault_of error ≡ text_fault text offset))
    (λ j. line_said by j ≡ Err (fault_of error))

-- A line means nothing, and this error has the reason.
pub record IsRejected (by : Making) (text : List ℕ) (error : LineError) : Type 0 where
  pub nothing : line_made by text ≡ None
  pub fault : IsFaultOf by text error

-- A line's bytes are appended, if it means any; otherwise it is rejected, and nothing is appended. Appending may also
-- fail because an allocation fails.
abbrev pub AppendsLine : {T : Type 0} → Making → List ℕ → Result T LineError → List ℕ → List ℕ → Type 0
AppendsLine by text r old new =
    MatchResult r (λ _. (bytes : List ℕ) × (line_made by text ≡ Some bytes) × (new ≡ old ++ bytes))
    (λ error. error.reason ≢ lack → IsRejected by text error × (new ≡ old))
