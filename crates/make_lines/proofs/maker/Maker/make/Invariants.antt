use Rattle.std.proofs.Common.{◌≡◌, []}
use Rattle.make_lines.specs.Making.{making}
use Rattle.make_lines.proofs.Progress.{GoesOn}
use Rattle.make_lines.proofs.maker.Maker.make.Given as goal

abbrev pub invariant-loop : goal.invariant-loop
invariant-loop g l = record {
  empty : l.lines.made.items ≡ [];
  so_far : GoesOn (making (g.M.LineTable.messages l.fn.self.messages.now) l.fn.self.version)
      (g.R.Read.remaining l.fn.input) (g.W.Write.contents l.fn.output)
      (g.R.Read.remaining l.input) (g.W.Write.contents l.output) l.lines.pending.items l.lines.taken;
}
