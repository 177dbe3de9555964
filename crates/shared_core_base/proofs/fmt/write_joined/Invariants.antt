use Rattle.std.proofs.Common.{◌++◌, take}
use Rattle.std.specs.Fmt.{HasWritten, IsPlainFormatter, comma_space}
use Rattle.std.specs.List.{flat_map}
use Rattle.shared_core_base.proofs.fmt.write_joined.Given as goal

-- the items so far are written, each after `, `
abbrev pub invariant-loop-item : goal.invariant-loop-item
invariant-loop-item g l =
    IsPlainFormatter l.initial.f → HasWritten g.W.Write.write_str_gives l.initial.f
    (flat_map (λ x. comma_space ++ g.T.ListItem.text x) (take l.item-index l.rest)) l.f
