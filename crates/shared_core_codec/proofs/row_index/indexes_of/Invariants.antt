use Rattle.std.proofs.Common.{take}
use Rattle.std.specs.List.{AllZip}
use Rattle.shared_core_codec.proofs.Indexing.{HasIndex}
use Rattle.shared_core_codec.proofs.row_index.indexes_of.Given as goal

abbrev pub invariant-loop-rows : goal.invariant-loop-rows
invariant-loop-rows l = AllZip HasIndex (take l.rows-index l.schemas) l.indexes.items
