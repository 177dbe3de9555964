use Rattle.std.proofs.Common.{◌≡◌, drop}
use Rattle.schema_lines.specs.MessageNames.{texts}
use Rattle.schema_lines.specs.Named.{place_in}
use Rattle.schema_lines.proofs.named.place_in.Given as goal

abbrev pub invariant-loop-place : goal.invariant-loop-place
invariant-loop-place l =
    place_in l.key l.place (texts (drop l.place l.names)) ≡ place_in l.key 0 (texts l.names)
