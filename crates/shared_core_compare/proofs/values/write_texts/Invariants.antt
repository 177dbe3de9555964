use Rattle.std.proofs.Common.{◌++◌, take}
use Rattle.std.specs.Fmt.{HasWritten, IsPlainFormatter, comma_space}
use Rattle.std.specs.List.{flat_map}
use Rattle.shared_core_compare.specs.Differences.{kind_text}
use Rattle.shared_core_compare.proofs.values.write_texts.Given as goal

-- the values so far are written, each after `, `
abbrev pub invariant-loop-value : goal.invariant-loop-value
invariant-loop-value g l =
    IsPlainFormatter l.initial.f → HasWritten g.W.Write.write_str_gives l.initial.f
    (flat_map (λ x. comma_space ++ kind_text g.K.FieldKind.kind (g.K.FieldKind.part x)) (take l.value-index l.rest))
    l.f
