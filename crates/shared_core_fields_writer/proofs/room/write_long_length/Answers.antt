use Rattle.std.proofs.Common.{◌≡◌, ◌∙◌, ◌+◌, ◌-◌, ℕ, length, drop, subst, arith}
use Rattle.shared_core_wire.specs.Encoding.{shortest_varint}
use Rattle.shared_core_wire.specs.WrittenRecords.{at_most_64_bits}
use Rattle.shared_core_fields_writer.specs.Room.{Wrote}
use Rattle.shared_core_fields_writer.proofs.Rooms.{wrote_moved, wrote_counted}
use Rattle.shared_core_fields_writer.proofs.room.write_long_length.Goals as goal
use Rattle.shared_core_fields_writer.proofs.room.write_long_length.Goals.{then-last-out, else-last-out}

pub returns : goal.returns
returns c =
    let moved : ℕ = c.saturating_add-moved.result in
    let last : ℕ = c.saturating_add-last.result in
    let mid = c.if-last-out.out in
    let new = c.write_varint.new.out in
    let first : moved ≡ at_most_64_bits (c.args.at + length (shortest_varint (c.args.end - c.args.start))) = omega
    (arith, c.varint_len.ensures.len, c.saturating_add-moved.ensures) in
    let second : last ≡ at_most_64_bits (moved + (c.args.end - c.args.start)) = omega
    (arith, c.saturating_add-last.ensures) in
    let there : c.write_varint.result ≡ moved = omega (arith, first, c.write_varint.ensures.written.count) in
    let wrote : Wrote mid c.args.at new moved (shortest_varint (c.args.end - c.args.start)) = subst
    (λ (j : ℕ). Wrote mid c.args.at new j (shortest_varint (c.args.end - c.args.start))) there
    c.write_varint.ensures.written in
    let after : drop moved new ≡ drop moved mid = subst (λ (j : ℕ). drop j new ≡ drop j mid) there
    c.write_varint.ensures.after in
    elim c.if-last-out.branch [
      | then-last-out w ↦
          wrote_moved c.args.out.now mid new c.args.at c.args.start c.args.end moved last c.requires.after
          c.requires.few first second wrote after (omega arith) w.if-last-out.true
          (w.out-is ∙ w.move_bytes.ensures.after)
      | else-last-out w ↦
          wrote_counted c.args.out.now mid new c.args.at c.args.start c.args.end moved last c.requires.after
          c.requires.few first second wrote after w.if-last-out.false w.out-is
    ]
