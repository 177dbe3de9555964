-- How the fields of a struct are parts of a value.
use Rattle.std.specs.Prelude.{Bool, true, false}
use Rattle.shared_core_wire.specs.Value.{Part, Absent}

-- The part of a field that may be absent, by whether it is there.
abbrev pub present_part : Bool → Part → Part
present_part true p = p
present_part false p = Absent
