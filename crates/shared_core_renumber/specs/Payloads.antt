-- Payloads at other field numbers.
use Rattle.std.specs.Prelude.{◌≡◌, ◌≤◌, ◌^◌, ℕ, true, List, length}
use Rattle.shared_core_renumber.specs.declared.entries.Renumbering.{Renumbering}
use Rattle.shared_core_renumber.specs.Allowed.{payload_allows}
use Rattle.shared_core_renumber.specs.Written.{payload_bytes}

-- A payload of a schema can be written at the numbers of a table, at most one hundred levels deep.
abbrev pub IsRenumberable : List Renumbering → ℕ → List ℕ → Type 0
IsRenumberable es s payload = payload_allows es 100 s payload ≡ true

-- The bytes are a payload at the numbers of a table.
abbrev pub IsRenumbered : List Renumbering → ℕ → List ℕ → List ℕ → Type 0
IsRenumbered es s payload bytes = bytes ≡ payload_bytes es 100 s payload

-- A payload can be written, and what is written has more bytes than 32 bits can count.
abbrev pub IsRenumberedTooLong : List Renumbering → ℕ → List ℕ → Type 0
IsRenumberedTooLong es s payload = IsRenumberable es s payload × (2 ^ 32 ≤ length (payload_bytes es 100 s payload))
