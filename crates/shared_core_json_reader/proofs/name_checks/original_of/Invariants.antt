use Rattle.std.proofs.Common.{◌≡◌, drop}
use Rattle.std.proofs.Common.{◌++◌}
use Rattle.shared_core_json_reader.specs.Reading.{original_name}
use Rattle.shared_core_json_reader.proofs.name_checks.original_of.Given as goal

abbrev pub invariant-loop-byte : goal.invariant-loop-byte
invariant-loop-byte l =
    l.original.items ++ original_name (drop l.byte-index l.name)
    ≡ original_name l.name
