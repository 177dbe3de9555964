-- The numbers that values hold.
use Rattle.std.specs.Prelude.{ℕ, ◌%◌, ◌^◌, ◌==◌, if◌then◌else◌}
use Rattle.shared_core_wire.specs.Schema.{Kind, U32, U64, Boolean, Enumeration}

-- The number that a value of the kind holds, for one that was read.
abbrev pub number_value : Kind → ℕ → ℕ
number_value U32 n = n % 2 ^ 32
number_value U64 n = n
number_value Boolean n = if n == 0 then 0 else 1
number_value Enumeration n = n % 2 ^ 32
number_value k n = n
