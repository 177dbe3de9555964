-- What the values of the program mean in the definitions.
use Rattle.shared_core_wire.specs.Grammar.{RecordValue, Varint, Fixed64, Length, Group, Fixed32}
use Rattle.shared_core_wire.specs.declared.record.WireValue.{WireValue}
use Rattle.shared_core_wire.specs.declared.record.WireValue.TheVariants as wire

-- The value of a record, without where its bytes are in memory.
abbrev pub value_of : WireValue → RecordValue
value_of (wire.Varint n) = Varint n
value_of (wire.Fixed64 bs) = Fixed64 bs.now
value_of (wire.Length bs) = Length bs.now
value_of (wire.Group bs) = Group bs.now
value_of (wire.Fixed32 bs) = Fixed32 bs.now
