use Rattle.std.proofs.Common.{inl, inr, rules}
use Rattle.command_line.proofs.max_message.limit_of.Goals as goal

pub returns-clause-rejected : goal.returns-clause-rejected
returns-clause-rejected c none limit small is = elim is [
  | inl number ↦ c.in_default.ensures.rejected (search rules) limit small number
  | inr other ↦ c.with_unit.ensures.rejected none limit small other
]
