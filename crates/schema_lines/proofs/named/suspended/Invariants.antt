use Rattle.std.proofs.Common.{◌≡◌, ◌++◌, drop, None}
use Rattle.schema_lines.specs.MessageNames.{texts}
use Rattle.schema_lines.specs.Named.{suspended}
use Rattle.schema_lines.proofs.named.suspended.Given as goal

abbrev pub invariant-loop-name : goal.invariant-loop-name
invariant-loop-name l =
    l.own.items ++ suspended l.suspension (texts (drop l.name-index l.names)) l.left
    ≡ suspended None (texts l.names) l.named
