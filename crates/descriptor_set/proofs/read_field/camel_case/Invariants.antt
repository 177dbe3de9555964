use Rattle.std.proofs.Common.{◌≡◌, ◌++◌, ℕ, List}
use Rattle.std.specs.Prelude.{false, string_bytes}
use Rattle.std.specs.Str.{encode_utf8_all}
use Rattle.descriptor_set.specs.FieldReading.{camel_chars}
use Rattle.descriptor_set.proofs.read_field.camel_case.Given as goal

abbrev pub invariant-loop-c : goal.invariant-loop-c
invariant-loop-c l =
    (rest : List ℕ) → string_bytes l.text ++ encode_utf8_all (camel_chars l.is_after rest) ≡
    encode_utf8_all (camel_chars false (l.yielded ++ rest))
