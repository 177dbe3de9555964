use Rattle.std.proofs.Common.{◌≡◌, ◌-◌, ◌+◌, ◌≤◌, ◌∷◌, ℕ, List, length, ap, inl, arith}
use Rattle.shared_core_wire.specs.Encoding.{shortest_varint, key_bytes}
use Rattle.shared_core_codec.specs.RowEncoding.{length_record}
use Rattle.shared_core_wire.proofs.Shortest.{shortest_small}
use Rattle.shared_core_fields_writer.proofs.Rooms.{wrote_both}
use Rattle.shared_core_fields_writer.specs.Walk.{onto, varints, run_numbers, entries_from}
use Rattle.shared_core_fields_writer.proofs.Stepping.{some_bytes, put_nested}
use Rattle.shared_core_fields_writer.proofs.walk.write_run.Goals as goal

pub write_length-at-requires-clause-room : goal.write_length-at-requires-clause-room
write_length-at-requires-clause-room c =
    let one : length (shortest_varint 0) ≡ 1 = ap length (shortest_small 0 (omega arith)) in
    omega (arith, one, c.write_varint-start.ensures.written.count)

pub write_length-at-requires-clause-few : goal.write_length-at-requires-clause-few
write_length-at-requires-clause-few c =
    let one : length (shortest_varint 0) ≡ 1 = ap length (shortest_small 0 (omega arith)) in
    omega (
      arith,
      one,
      c.write_varint-start.ensures.written.count,
      some_bytes (c.write_numbers.new.at.byte - c.write_varint-start.result),
    )

pub returns-clause-written : goal.returns-clause-written
returns-clause-written c s rows depth =
    let rest : List ℕ = varints (run_numbers c.args.level c.args.field.number (entries_from c.args.source.now
    (c.args.at.now.entry + 1))) in
    let content : List ℕ = varints (c.args.value ∷ run_numbers c.args.level c.args.field.number (entries_from
    c.args.source.now (c.args.at.now.entry + 1))) in
    let one : length (shortest_varint 0) ≡ 1 = ap length (shortest_small 0 (omega arith)) in
    let end = c.write_numbers.new.at.byte in
    let few : c.write_varint-start.result - c.write_key-place.result ≤ length (shortest_varint
    (end - c.write_varint-start.result)) = omega
    (arith, one, c.write_varint-start.ensures.written.count, some_bytes (end - c.write_varint-start.result)) in (
      length_record c.args.field.number content,
      ap (onto (length_record c.args.field.number content)) (c.in_ok-write_numbers.ensures.walked s rows depth),
      wrote_both c.args.out.now c.write_key-place.new.out c.write_length-at.new.out c.args.at.now.byte
          c.write_key-place.result c.write_length-at.result (key_bytes c.args.field.number 2) _
          c.write_key-place.ensures
          (put_nested c.write_key-place.new.out c.write_varint-start.new.out c.write_numbers.new.out
          c.write_length-at.new.out c.write_key-place.result c.write_varint-start.result end c.write_length-at.result
          (shortest_varint 0) content c.write_varint-start.ensures.written
          (wrote_both c.write_varint-start.new.out c.write_varint-at.new.out c.write_numbers.new.out
          c.write_varint-start.result c.write_varint-at.result end (shortest_varint c.args.value) rest
          c.write_varint-at.ensures.written c.in_ok-write_numbers.ensures.numbers) c.write_length-at.ensures few
          (some_bytes 0) (inl one) (omega arith)),
    )
