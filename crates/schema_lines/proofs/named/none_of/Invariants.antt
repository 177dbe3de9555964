use Rattle.std.proofs.Common.{◌≡◌, ◌++◌, drop}
use Rattle.schema_lines.specs.MessageNames.{texts}
use Rattle.schema_lines.specs.Named.{none_of}
use Rattle.schema_lines.proofs.named.none_of.Given as goal

abbrev pub invariant-loop-name : goal.invariant-loop-name
invariant-loop-name l = l.named.items ++ none_of (texts (drop l._name-index l.names)) ≡ none_of (texts l.names)
