use Rattle.std.proofs.Common.{◌≡◌, drop}
use Rattle.make_lines.specs.Appending.{begins_object}
use Rattle.make_lines.proofs.text.begins_object.Given as goal

abbrev pub invariant-loop-byte : goal.invariant-loop-byte
invariant-loop-byte l = begins_object (drop l.byte-index l.line) ≡ begins_object l.line
