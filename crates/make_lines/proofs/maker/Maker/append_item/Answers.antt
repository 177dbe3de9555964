use Rattle.std.proofs.Common.{refl}
use Rattle.std.proofs.lemmas.Result.{err_from_is_err_and}
use Rattle.make_lines.specs.Appending.{said_of}
use Rattle.make_lines.specs.Lines.{item_said, framed, line_code, line_flag, line_payload, then_read}
use Rattle.make_lines.specs.Making.{making}
use Rattle.make_lines.proofs.Heads.{no_head}
use Rattle.make_lines.proofs.maker.Maker.append_item.Goals as goal

pub returns-in_err-head : goal.returns-in_err-head
unfolding item_said
returns-in_err-head g c =
    let from = err_from_is_err_and c.from_residual.result c.from_residual.ensures.1 in
    let version = c.args.self.now.version in
    let by = making (g.M.LineTable.messages c.args.self.now.messages.now) version in
    let line = c.args.line.now in
    rw (from.1, from.2) (λ some. (
      (
        said_of line c.in_err-head.field-0.0,
        no_head (line_code line) (λ code. line_flag code line)
            (λ code flag. then_read (framed version code flag line)
            (line_payload by code line)) _
            (c.in_err-head.ensures.err some),
        refl,
      ),
      refl,
    ))

pub returns-in_err-payload_of : goal.returns-in_err-payload_of
unfolding item_said
returns-in_err-payload_of g c =
    let from = err_from_is_err_and c.from_residual-in_err-payload_of.result
    c.from_residual-in_err-payload_of.ensures.1 in
    let head = c.in_ok-head.ensures.ok in
    rw (from.1, from.2) (λ some. let rejected = c.in_err-payload_of.ensures some in
    ((rejected.0, rw (head.1, head.2, rejected.1) refl, rejected.2), refl))
