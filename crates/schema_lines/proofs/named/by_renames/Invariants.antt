use Rattle.std.proofs.Common.{◌≡◌, drop}
use Rattle.schema_lines.specs.Named.{renamed_from, start, state_of}
use Rattle.schema_lines.proofs.named.by_renames.Given as goal

abbrev pub invariant-loop-index : goal.invariant-loop-index
invariant-loop-index l =
    renamed_from l.messages.set.now l.index (state_of l.found) (drop l.index l.renames)
    ≡ renamed_from l.messages.set.now 0 start l.renames
