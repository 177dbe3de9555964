-- Commands that are compared without their completion ids.
use Rattle.std.specs.Prelude.{◌≡◌, ℕ, Bool, true, false, List, [], ◌∷◌, nat_eq, if◌then◌else◌}
use Rattle.shared_core_wire.specs.Value.{Parts}
use Rattle.shared_core_codec.specs.Table.{table}
use Rattle.shared_core_compare.specs.Commands.{CommandFields}
use Rattle.shared_core_compare.specs.Erasure.{erased, erased_parts}
use Rattle.replay_bench.specs.declared.journals.Ignored.{Ignored}
use Rattle.replay_bench.specs.IdTable.{id_fields}

-- The numbers that a schema has in such a list, or none.
abbrev pub numbers_in : List (ℕ × List ℕ) → ℕ → List ℕ
numbers_in [] s = []
numbers_in (entry ∷ entries) s = if nat_eq s entry.0 then entry.1 else numbers_in entries s

-- The fields of a command of a schema that are completion ids, by their numbers: those that are compared.
abbrev pub id_numbers : ℕ → List ℕ
id_numbers s = numbers_in id_fields s

-- What is erased of a command where its completion ids are.
abbrev pub ids_erased : ℕ → CommandFields
ids_erased s = record { not_compared = id_numbers s; payloads = []; printed = [] }

-- A command of a schema with its completion ids as if they were absent.
abbrev pub without_ids : ℕ → Parts → Parts
without_ids s command = erased_parts (ids_erased s) false (table s) command

-- A command of a schema, without its completion ids if these are ignored.
abbrev pub seen : Bool → ℕ → Parts → Parts
seen ids s command = if ids then without_ids s command else command

-- A command of a schema with everything erased that is not compared.
abbrev pub erased_but : Ignored → ℕ → Parts → Parts
erased_but ignore s command = erased s ignore.payloads (seen ignore.ids s command)

-- Two commands of a schema are the same, except for what is ignored.
abbrev pub AreSameBut : Ignored → ℕ → Parts → Parts → Type 0
AreSameBut ignore s a b = erased_but ignore s a ≡ erased_but ignore s b

-- Payloads are ignored, or nothing is.
abbrev pub only_payloads : Bool → Ignored
only_payloads payloads = record { payloads = payloads; ids = false }

-- Ids are ignored, and payloads too or not.
abbrev pub with_ids_ignored : Bool → Ignored
with_ids_ignored payloads = record { payloads = payloads; ids = true }
