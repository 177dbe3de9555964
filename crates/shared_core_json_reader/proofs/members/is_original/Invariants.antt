use Rattle.std.proofs.Common.{◌≡◌, drop}
use Rattle.std.specs.Str.{bytes_eq}
use Rattle.shared_core_json_reader.specs.Reading.{original_name}
use Rattle.shared_core_json_reader.proofs.members.is_original.Given as goal

abbrev pub invariant-loop-byte : goal.invariant-loop-byte
invariant-loop-byte l = bytes_eq l.rest (original_name (drop l.byte-index l.name)) ≡ bytes_eq l.key
    (original_name l.name)
