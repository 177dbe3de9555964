use Rattle.std.proofs.Common.{◌≡◌, map}
use Rattle.schema_lines.specs.Renames.{rename_of, said_names}
use Rattle.journal_c_api.proofs.numberings.renames_in.Given as goal

abbrev pub invariant-loop-line : goal.invariant-loop-line
invariant-loop-line l = said_names l.said.items ≡ map rename_of (map (λ line. line.now) l.yielded)
