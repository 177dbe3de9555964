-- The texts of the errors of writing a payload from a table.
use Rattle.std.specs.Prelude.{List, ℕ, ◌++◌, codes, decimal}
use Rattle.shared_core_fields_writer.specs.declared.error.FieldsError.{FieldsError}
use Rattle.shared_core_fields_writer.specs.declared.error.Reason.{Reason}
use Rattle.shared_core_fields_writer.specs.declared.error.Reason.TheVariants.{UnknownField, OutOfOrder, SeveralMembers}
use Rattle.shared_core_fields_writer.specs.declared.error.Reason.TheVariants.{WrongKind, OutOfRange, NotUtf8}
use Rattle.shared_core_fields_writer.specs.declared.error.Reason.TheVariants.{OutOfBounds, WrongLevel, TooDeep, TooLong}

-- The text of a reason.
abbrev pub reason_text : Reason → List ℕ
reason_text UnknownField = codes "unknown field"
reason_text OutOfOrder = codes "out of order"
reason_text SeveralMembers = codes "several members of a oneof"
reason_text WrongKind = codes "wrong kind of value"
reason_text OutOfRange = codes "out of range"
reason_text NotUtf8 = codes "not UTF-8"
reason_text OutOfBounds = codes "out of bounds"
reason_text WrongLevel = codes "wrong level"
reason_text TooDeep = codes "too deep"
reason_text TooLong = codes "too long"

-- The text of an error.
abbrev pub error_text : FieldsError → List ℕ
error_text error = codes "entry " ++ (decimal error.index ++ (codes ": " ++ reason_text error.reason))
