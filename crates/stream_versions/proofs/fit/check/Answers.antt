use Rattle.std.proofs.Common.{List, []}
use Rattle.std.proofs.lemmas.Result.{err_from_is_err_and}
use Rattle.shared_core_stream.specs.declared.encoding.item.Item.{Item}
use Rattle.stream_lines.specs.Printing.{IsReport}
use Rattle.stream_versions.specs.Fits.{fault_of}
use Rattle.stream_versions.proofs.Checking.{reported, unchecked}
use Rattle.stream_versions.proofs.fit.check.Goals as goal

pub returns-in_err-rest : goal.returns-in_err-rest
returns-in_err-rest g c =
    let version = c.args.options.now.version in
    let (read, came, visited) = c.in_err-rest.ensures in
    let from = err_from_is_err_and c.from_residual.result c.from_residual.ensures.1 in
    rw (from.1, from.2) (
      read,
      came,
      unchecked version c.args.options.now.limit
          (λ (items : List Item). IsReport (fault_of version) items [] c.visit.new.visitor.found) read _ _ visited,
    )

pub returns : goal.returns
returns g c =
    let version = c.args.options.now.version in
    let (read, came, visited) = c.in_ok-rest.ensures in
    let (end, known) = visited in
    let (items, rest, split, within, seen, counted) = known in
    (read, came, (end, (items, rest, split, within, reported (fault_of version) items rest _ _ seen counted)))
