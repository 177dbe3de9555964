use Rattle.std.proofs.Common.{◌≡◌, ℕ, List, ◌++◌, sym, ap, ◌∙◌}
use Rattle.std.proofs.lemmas.Result.{err_from_is_err_and}
use Rattle.make_lines.specs.Lines.{line_made}
use Rattle.make_lines.specs.Making.{making}
use Rattle.make_lines.specs.Appending.{IsRejected}
use Rattle.make_lines.proofs.Steps.{taken_lines}
use Rattle.make_lines.proofs.maker.Maker.step.Goals as goal

pub returns-in_err-write_whole : goal.returns-in_err-write_whole
returns-in_err-write_whole g c =
    let from = err_from_is_err_and c.from_residual-in_err-write_whole.result
    c.from_residual-in_err-write_whole.ensures.1 in
    let by = making (g.M.LineTable.messages c.args.self.now.messages.now) c.args.self.now.version in
    let (written, wrote, (cut, is)) = c.in_err-write_whole.ensures in
    let (lines, rest, more, begins, meant, made_is) = taken_lines
    (line_made by)
    (IsRejected by)
    (c.args.lines.now.pending.items ++ c.args.chunk.now) c.in_ok-rejected.rejected c.args.lines.now
    c.take_chunk.new.lines c.in_ok-rejected.ensures in
    let all : c.as_slice.result.now ≡ more = c.as_slice.ensures.value ∙ made_is ∙ ap (λ (xs : List ℕ). xs ++ more)
    c.requires.written in
    rw (from.1, from.2) (written, wrote, (lines, rest, more, begins, meant, (cut, sym all ∙ is)))
