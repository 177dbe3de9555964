use Rattle.std.proofs.Common.{arith, refl}
use Rattle.shared_core_fields.proofs.Fronts.{front_there, front_bytes, front_from, front_key, front_varint}
use Rattle.shared_core_fields.proofs.known.known_front.Goals as goal

pub bounds-bytes-0 : goal.bounds-bytes-0
bounds-bytes-0 c = omega (arith, front_there c.args.bytes.now c.requires)

pub bounds-bytes-1 : goal.bounds-bytes-1
bounds-bytes-1 c = omega (arith, front_there c.args.bytes.now c.requires)

pub slice_bounds-result-count : goal.slice_bounds-result-count
slice_bounds-result-count c = omega (arith, front_there c.args.bytes.now c.requires)

pub slice_bounds-result-start : goal.slice_bounds-result-start
slice_bounds-result-start c = omega (arith, front_there c.args.bytes.now c.requires)

pub known_key-field-requires : goal.known_key-field-requires
known_key-field-requires c = front_key c.args.bytes.now c.requires

pub known_varint-number-requires : goal.known_varint-number-requires
known_varint-number-requires c =
    let key = c.known_key-field.result in
    front_varint c.args.bytes.now key.2.now key.0 key.1 c.requires c.known_key-field.ensures

pub returns-then-number-lt128 : goal.returns-then-number-lt128
returns-then-number-lt128 c =
    front_bytes c.args.bytes.now _ _ _ c.from.result c.from-then-number-lt128.result c.requires refl refl
    c.if-key-lt128.true c.if-number-lt128.true c.from.ensures c.from-then-number-lt128.ensures refl

pub returns : goal.returns
returns c =
    let key = c.known_key-field.result in
    let first = c.known_varint-number.result in
    front_from c.args.bytes.now key.2.now first.1.now key.0 key.1 first.0 c.known_key-field.ensures
    c.known_varint-number.ensures
