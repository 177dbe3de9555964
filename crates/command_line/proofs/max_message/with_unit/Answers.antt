use Rattle.std.proofs.Common.{inl, inr, rules}
use Rattle.command_line.proofs.max_message.with_unit.Goals as goal

pub returns-clause-rejected : goal.returns-clause-rejected
returns-clause-rejected c none limit small is = elim is [
  | inl kilobytes ↦ c.in_default.ensures.rejected (search rules) limit small kilobytes
  | inr other ↦ elim other [
    | inl megabytes ↦ c.in_default-size_in.ensures.rejected (search rules) limit small megabytes
    | inr other ↦ elim other [
      | inl gigabytes ↦ c.in_default-size_in-2.ensures.rejected (search rules) limit small gigabytes
      | inr other ↦ elim other [
        | inl kibibytes ↦ c.in_default-size_in-3.ensures.rejected (search rules) limit small kibibytes
        | inr other ↦ elim other [
          | inl mebibytes ↦ c.in_default-size_in-4.ensures.rejected (search rules) limit small mebibytes
          | inr gibibytes ↦ c.size_in-6.ensures.rejected none limit small gibibytes
        ]
      ]
    ]
  ]
]
