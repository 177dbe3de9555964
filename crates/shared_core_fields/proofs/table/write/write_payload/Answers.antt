use Rattle.std.proofs.Common.{List, ap, subst, arith, length}
use Rattle.shared_core_codec.proofs.Canonicity.{sound}
use Rattle.shared_core_fields.specs.Rows.{TableRow, WritesRows}
use Rattle.shared_core_fields.proofs.FewRows.{whole_rows}
use Rattle.shared_core_fields.proofs.table.write.write_payload.Goals as goal

pub write_within-requires-clause-few : goal.write_within-requires-clause-few
write_within-requires-clause-few c =
    let canonical = sound c.args.schema c.args.bytes.now (λ i. omega (arith, c.type_inv.bytes i)) c.requires.short
    c.requires.canonical in
    let all = whole_rows c.args.schema c.args.bytes.now canonical in
    let as_many = ap length all.0 in
    omega (arith, as_many, all.1, c.requires.short)

pub returns-clause-rows : goal.returns-clause-rows
returns-clause-rows c =
    let canonical = sound c.args.schema c.args.bytes.now (λ i. omega (arith, c.type_inv.bytes i)) c.requires.short
    c.requires.canonical in
    let all = whole_rows c.args.schema c.args.bytes.now canonical in
    subst (λ (rows : List TableRow). WritesRows c.args.bytes.now rows 0 c.args.out.now c.write_within.new.out) all.0
    c.write_within.ensures.rows

pub returns-clause-count : goal.returns-clause-count
returns-clause-count c =
    let canonical = sound c.args.schema c.args.bytes.now (λ i. omega (arith, c.type_inv.bytes i)) c.requires.short
    c.requires.canonical in
    let all = whole_rows c.args.schema c.args.bytes.now canonical in
    let as_many = ap length all.0 in
    omega (arith, as_many, c.write_within.ensures.count)

pub returns-clause-few : goal.returns-clause-few
returns-clause-few c =
    let canonical = sound c.args.schema c.args.bytes.now (λ i. omega (arith, c.type_inv.bytes i)) c.requires.short
    c.requires.canonical in
    let all = whole_rows c.args.schema c.args.bytes.now canonical in
    let as_many = ap length all.0 in
    omega (arith, as_many, c.write_within.ensures.count, all.1)
