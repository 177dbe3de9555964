-- The first field of some schemas that no table may have, and why.
use Rattle.std.specs.Prelude.{ℕ, suc, not, List, [], ◌∷◌, ◌++◌, map, length, Option, Some}
use Rattle.std.specs.Prelude.{None}
use Rattle.std.specs.Prelude.{if◌then◌else◌, codes, decimal}
use Rattle.std.specs.Option.{option_or, option_map}
use Rattle.shared_core_wire.specs.Encoding.{is_field_number}
use Rattle.shared_core_wire.specs.Schema.{Kind, Row, Plain, Optional, Repeated, OneOf, includes, all_numbers}
use Rattle.shared_core_codec.specs.Tables.{is_message}
use Rattle.shared_core_codec.specs.LoadedRows.{knows_kind}
use Rattle.shared_core_codec.specs.declared.table_error.TableFault.{TableFault}
use Rattle.shared_core_codec.specs.declared.table_error.TableFault.TheVariants as fault
use Rattle.shared_core_codec.specs.declared.table_error.TableError.{TableError}

-- The number of a field and why a table of `count` schemas may not have it, where `later` are the numbers of the fields
-- after it.
abbrev pub field_fault : ℕ → List ℕ → ℕ × Kind → Option (ℕ × TableFault)
field_fault count later f =
    if not (is_field_number f.0) then Some (f.0, fault.NumberOutOfRange)
    else (if includes later f.0 then Some (f.0, fault.NumberTwice)
    else (if knows_kind count f.1 then None else Some (f.0, fault.UnknownSchema)))

-- The same of a plain field, which is not a message.
abbrev pub plain_fault : ℕ → List ℕ → ℕ × Kind → Option (ℕ × TableFault)
plain_fault count later f = option_or (field_fault count later f)
    (if is_message f.1 then Some (f.0, fault.PlainMessage) else None)

-- The same of the first such member of a oneof.
abbrev pub members_fault : ℕ → List ℕ → List (ℕ × Kind) → Option (ℕ × TableFault)
members_fault count later [] = None
members_fault count later (m ∷ members) =
    option_or (field_fault count (map (λ m. m.0) members ++ later) m) (members_fault count later members)

-- The same of the first such field of a row.
abbrev pub row_fault : ℕ → List ℕ → Row → Option (ℕ × TableFault)
row_fault count later (Plain n k) = plain_fault count later (n, k)
row_fault count later (Optional n k) = field_fault count later (n, k)
row_fault count later (Repeated n k) = field_fault count later (n, k)
row_fault count later (OneOf members) = members_fault count later members

-- The same of the first such field of some rows.
abbrev pub rows_fault : ℕ → List Row → Option (ℕ × TableFault)
rows_fault count [] = None
rows_fault count (row ∷ rows) = option_or (row_fault count (all_numbers rows) row) (rows_fault count rows)

-- The first such field of schemas that follow the first `s` ones.
abbrev pub error_from : ℕ → ℕ → List (List Row) → Option TableError
error_from count s [] = None
error_from count s (rows ∷ schemas) = option_or
    (option_map (λ f. record { schema = s; number = f.0; fault = f.1 }) (rows_fault count rows))
    (error_from count (suc s) schemas)

-- The first such field of all schemas of a table.
abbrev pub table_error : List (List Row) → Option TableError
table_error schemas = error_from (length schemas) 0 schemas

-- ---- texts

-- The text of a fault.
abbrev pub fault_text : TableFault → List ℕ
fault_text fault.NumberOutOfRange = codes "number out of range"
fault_text fault.NumberTwice = codes "number of a later field"
fault_text fault.UnknownSchema = codes "unknown schema"
fault_text fault.PlainMessage = codes "message without presence"

-- The text of an error.
abbrev pub error_text : TableError → List ℕ
error_text error = codes "schema " ++ (decimal error.schema ++ (codes ", field " ++ (decimal error.number ++ (codes ": "
    ++ fault_text error.fault))))
