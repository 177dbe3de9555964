use Rattle.std.proofs.Common.{◌≡◌, drop}
use Rattle.shared_core_base.specs.MessageType.{named_types, type_in}
use Rattle.shared_core_base.proofs.type_kinds.first_named.Given as goal

abbrev pub invariant-loop-ty : goal.invariant-loop-ty
invariant-loop-ty l = type_in (drop l.ty-index l.ty-items) l.name ≡ type_in named_types l.name
