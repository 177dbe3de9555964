use Rattle.std.proofs.Common.{◌≡◌, drop}
use Rattle.std.specs.Option.{option_map}
use Rattle.show_lines.specs.Contents.{held_view}
use Rattle.show_lines.specs.Filter.{has_all}
use Rattle.show_lines.proofs.matching.Sought.has_all.Given as goal

abbrev pub invariant-loop-word : goal.invariant-loop-word
invariant-loop-word l =
    has_all l.self.place l.self.item.now (option_map held_view l.self.held) (drop l.word-index l.words)
    ≡ has_all l.self.place l.self.item.now (option_map held_view l.self.held) l.words
