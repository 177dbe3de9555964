-- The texts of the errors of reading JSON.
use Rattle.std.specs.Prelude.{ℕ, List, ◌++◌, length, codes, decimal, ◌==◌, if◌then◌else◌, Option, Some, None}
use Rattle.std.specs.String.{string_bytes}
use Rattle.shared_core_json_reader.specs.declared.error.JsonReadError.{JsonReadError}
use Rattle.shared_core_json_reader.specs.declared.error.Reason.{Reason}
use Rattle.shared_core_json_reader.specs.declared.error.Reason.TheVariants.{NotJson, UnknownMember, RepeatedMember}
use Rattle.shared_core_json_reader.specs.declared.error.Reason.TheVariants.{SeveralMembers, WrongKind, UnknownName}
use Rattle.shared_core_json_reader.specs.declared.error.Reason.TheVariants.{OutOfRange, NotBase64, TooDeep, OutOfMemory}

-- The text of a reason.
abbrev pub reason_text : Reason → List ℕ
reason_text NotJson = codes "not JSON"
reason_text UnknownMember = codes "unknown member"
reason_text RepeatedMember = codes "repeated member"
reason_text SeveralMembers = codes "several members of a oneof"
reason_text WrongKind = codes "wrong kind of value"
reason_text UnknownName = codes "neither a name of its enum nor a number"
reason_text OutOfRange = codes "out of range"
reason_text NotBase64 = codes "not base64"
reason_text TooDeep = codes "too deep"
reason_text OutOfMemory = codes "out of memory"

-- A text about what a path leads to, with the path before it, unless that is empty.
abbrev pub on_path : List ℕ → List ℕ → List ℕ
on_path path text = if length path == 0 then text else path ++ (codes ": " ++ text)

-- A text about a text at an offset, or about what a path leads to if there is no offset.
abbrev pub placed_text : Option ℕ → List ℕ → List ℕ → List ℕ
placed_text (Some n) path text = text ++ (codes " at byte " ++ decimal n)
placed_text None path text = on_path path text

-- The text of an error.
abbrev pub error_text : JsonReadError → List ℕ
error_text error = placed_text error.offset (string_bytes error.path) (reason_text error.reason)
