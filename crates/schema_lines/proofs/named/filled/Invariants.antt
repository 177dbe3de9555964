use Rattle.std.proofs.Common.{◌≡◌, ◌++◌, drop}
use Rattle.schema_lines.specs.MessageNames.{texts}
use Rattle.schema_lines.specs.Named.{filled}
use Rattle.schema_lines.proofs.named.filled.Given as goal

abbrev pub invariant-loop-name : goal.invariant-loop-name
invariant-loop-name l =
    l.all.items ++ filled l.messages.set.now l.taken (texts (drop l.name-index l.names)) l.left
    ≡ filled l.messages.set.now l.taken (texts l.names) l.fn.renamed.named.items
