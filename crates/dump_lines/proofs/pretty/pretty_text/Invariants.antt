use Rattle.std.proofs.Common.{◌≡◌, ◌++◌, length}
use Rattle.json.specs.Lex.{tokens}
use Rattle.dump_lines.specs.Spread.{AreGood}
use Rattle.dump_lines.proofs.pretty.pretty_text.Given as goal

abbrev pub invariant-loop-token : goal.invariant-loop-token
invariant-loop-token l = (l.text ++ l.reader ≡ tokens l.fn.object) × AreGood l.reader

abbrev pub decreases-loop-token : goal.decreases-loop-token
decreases-loop-token l = length l.reader
