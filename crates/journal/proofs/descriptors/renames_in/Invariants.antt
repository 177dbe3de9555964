use Rattle.std.proofs.Common.{◌≡◌, ◌++◌, drop, map}
use Rattle.schema_lines.specs.Renames.{rename_of, said_names}
use Rattle.journal.proofs.descriptors.renames_in.Given as goal

abbrev pub invariant-loop-word : goal.invariant-loop-word
invariant-loop-word l =
    said_names l.renames.items ++ map rename_of (map (λ word. word.now) (drop l.word-index l.words))
    ≡ map rename_of (map (λ word. word.now) l.words)
