-- Why a line is rejected, and the texts of errors.
use Rattle.std.specs.Prelude.{ℕ, List, [], ◌++◌, length, codes, decimal, ◌==◌, if◌then◌else◌, Option, Some, None}
use Rattle.std.specs.Prelude.{option_map}
use Rattle.std.specs.String.{string_bytes}
use Rattle.shared_core_json_reader.specs.declared.error.Reason.{Reason}
use Rattle.shared_core_json_reader.specs.declared.error.Reason.TheVariants.{NotJson, OutOfMemory as NoMemory}
use Rattle.shared_core_json_reader.specs.Errors as json
use Rattle.make_lines.specs.declared.error.LineReason.{LineReason}
use Rattle.make_lines.specs.declared.error.LineReason.TheVariants.{Json, CutOff, NoType, UnknownType, OtherType}
use Rattle.make_lines.specs.declared.error.LineReason.TheVariants.{NoPayload, SeveralPayloads, NoSchema, NoFlag}
use Rattle.make_lines.specs.declared.error.LineReason.TheVariants.{HeaderLength, OtherCode, OtherFlag, NoSuchPayload}
use Rattle.make_lines.specs.declared.error.LineReason.TheVariants.{CodeOfType, TooLong, ItemInRest, NoBytes}
use Rattle.make_lines.specs.declared.error.LineError.{LineError}
use Rattle.make_lines.specs.declared.error.MakeError.{MakeError}
use Rattle.make_lines.specs.declared.error.MakeError.TheVariants.{Input, Output, OutOfMemory, Line}

-- Why a line is rejected: the reason, the offset at which it stops being JSON, the path to the rejected value, and the
-- name that no type has.
pub record LineFault : Type 0 where
  pub reason : LineReason
  pub offset : Option ℕ
  pub path : List ℕ
  pub name : Option (List ℕ)

-- What an error says.
abbrev pub fault_of : LineError → LineFault
fault_of error =
    record {
      reason = error.reason;
      offset = error.offset;
      path = string_bytes error.path;
      name = option_map
          string_bytes error.name;
    }

-- The reason of a failed allocation.
abbrev pub lack : LineReason
lack = Json NoMemory

-- ---- faults

-- The fault of the value of a member, or of the line if the name is empty.
abbrev pub at : List ℕ → LineReason → LineFault
at member reason = record { reason = reason; offset = None; path = member; name = None }

-- The path to what a path inside a member leads to; each of them may be empty.
abbrev pub path_inside : List ℕ → List ℕ → List ℕ
path_inside member inside = if length member == 0 then inside else
    (if length inside == 0 then member else member ++ (codes "." ++ inside))

-- The fault of a value inside a member.
abbrev pub inside : List ℕ → Reason → List ℕ → LineFault
inside member reason path = at (path_inside member path) (Json reason)

-- The fault of a name that no type has.
abbrev pub no_type_named : List ℕ → LineFault
no_type_named name = record { reason = UnknownType; offset = None; path = codes "type"; name = Some name }

-- The fault of a line that stops being JSON at an offset.
abbrev pub not_json : ℕ → LineFault
not_json offset = record { reason = Json NotJson; offset = Some offset; path = []; name = None }

-- ---- texts

-- The text of a reason.
abbrev pub reason_text : LineReason → List ℕ
reason_text (Json reason) = json.reason_text reason
reason_text CutOff = codes "the line ends within an object; one object a line: jq -c"
reason_text NoType = codes "neither a type nor a code"
reason_text UnknownType = codes "no named type has the name"
reason_text OtherType = codes "not the name of the code's type"
reason_text NoPayload = codes "no message and no bytes"
reason_text SeveralPayloads = codes "more than one payload"
reason_text NoSchema = codes "no messages have this code"
reason_text NoFlag = codes "the type has no such flag"
reason_text HeaderLength = codes "not eight bytes"
reason_text OtherCode = codes "its code is not that of the line"
reason_text OtherFlag = codes "its flag is not that of the line"
reason_text NoSuchPayload = codes "it announces a payload, and none is there"
reason_text CodeOfType = codes "the code is that of a type"
reason_text TooLong = codes "the payload is too long for a header"
reason_text ItemInRest = codes "the rest is no item"
reason_text NoBytes = codes "a rest without its bytes"

-- A text with a name after it, if there is one.
abbrev pub named : List ℕ → Option (List ℕ) → List ℕ
named text None = text
named text (Some name) = text ++ (codes " '" ++ (name ++ codes "'"))

-- The text of a fault: its reason and its name, with the offset after them or the path before them.
abbrev pub fault_text : LineFault → List ℕ
fault_text fault = json.placed_text fault.offset fault.path (named (reason_text fault.reason) fault.name)

-- The text of an error of the making of a stream.
abbrev pub error_text : MakeError → List ℕ
error_text Input = codes "input failed"
error_text Output = codes "output failed"
error_text OutOfMemory = codes "out of memory"
error_text (Line number error) = decimal number ++ (codes ": " ++ fault_text (fault_of error))
