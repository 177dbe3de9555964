use Rattle.shared_core_fields.proofs.Fronts.{key_varint, key_from}
use Rattle.shared_core_fields.proofs.known.known_key.Goals as goal

pub known_varint-key-requires : goal.known_varint-key-requires
known_varint-key-requires c = key_varint c.args.bytes.now c.requires

pub returns : goal.returns
returns c =
    key_from c.args.bytes.now c.known_varint-key.result.1.now c.known_varint-key.result.0 c.low_32.result c.requires
    c.known_varint-key.ensures c.low_32.ensures
