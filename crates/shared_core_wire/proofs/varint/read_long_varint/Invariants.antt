use Rattle.std.proofs.Common.{◌≡◌, ◌-◌, ◌<◌, ◌^◌}
use Rattle.shared_core_wire.specs.Reader.{varint_within}
use Rattle.shared_core_wire.proofs.VarintLoop.{with_low}
use Rattle.shared_core_wire.proofs.varint.read_long_varint.Given as goal

abbrev pub invariant-loop : goal.invariant-loop
invariant-loop l = record {
  below : l.number < l.scale;
  power : l.scale ≡ 128 ^ l.counter;
  read : with_low l.number l.scale (varint_within (10 - l.counter) l.rest) ≡ varint_within 10 l.bytes;
}
