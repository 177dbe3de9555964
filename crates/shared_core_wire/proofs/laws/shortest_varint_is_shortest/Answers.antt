use Rattle.shared_core_wire.proofs.Shortest.{shortest_is, fewest, key_is}
use Rattle.shared_core_wire.proofs.laws.shortest_varint_is_shortest.Goals as goal

pub returns-clause-encodes : goal.returns-clause-encodes
returns-clause-encodes c = shortest_is

pub returns-clause-fewest : goal.returns-clause-fewest
returns-clause-fewest c = fewest

pub returns-clause-key : goal.returns-clause-key
returns-clause-key c = key_is
