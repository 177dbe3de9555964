use Rattle.std.proofs.Common.{◌∙◌, sym, refl}
use Rattle.std.proofs.lemmas.Result.{err_from_is_err_and}
use Rattle.make_lines.specs.Appending.{said_of}
use Rattle.make_lines.specs.Making.{making}
use Rattle.make_lines.proofs.ItemFaults.{bytes_rejected, alone_rejected}
use Rattle.make_lines.proofs.maker.Maker.payload_of.Goals as goal

pub returns-in_err-payload-in-None-Some-None : goal.returns-in_err-payload-in-None-Some-None
returns-in_err-payload-in-None-Some-None g c =
    let from = err_from_is_err_and c.from_residual.result c.from_residual.ensures.1 in
    let by = making (g.M.LineTable.messages c.args.self.now.messages.now) c.args.self.now.version in
    let line = c.args.line.now in
    let said = said_of line c.in_err-payload-in-None-Some-None.field-0.0 in
    rw (from.1, from.2) (λ some. (
      said,
      bytes_rejected by line c.args.coded.code
          c.in-None-Some-None.bytes _ said
          (sym c.given-message.ensures ∙ c.in-None-Some-None.is-0)
          (sym c.given_either-bytes.ensures ∙ c.in-None-Some-None.is-1)
          (sym c.given-unknown.ensures ∙ c.in-None-Some-None.is-2)
          c.bytes_place.ensures (c.in_err-payload-in-None-Some-None.ensures line some),
      refl,
    ))

pub returns-in_err-check_alone-in-None-None-Some : goal.returns-in_err-check_alone-in-None-None-Some
returns-in_err-check_alone-in-None-None-Some g c =
    let from = err_from_is_err_and c.from_residual-in_err-check_alone-in-None-None-Some.result
    c.from_residual-in_err-check_alone-in-None-None-Some.ensures.1 in
    let by = making (g.M.LineTable.messages c.args.self.now.messages.now) c.args.self.now.version in
    let line = c.args.line.now in
    let said = said_of line c.in_err-check_alone-in-None-None-Some.field-0.0 in
    rw (from.1, from.2) (λ some. (
      said,
      alone_rejected by line c.args.coded.code
          c.in-None-None-Some.unknown said
          (sym c.given-message.ensures ∙ c.in-None-None-Some.is-0)
          (sym c.given_either-bytes.ensures ∙ c.in-None-None-Some.is-1)
          (sym c.given-unknown.ensures ∙ c.in-None-None-Some.is-2)
          (c.in_err-check_alone-in-None-None-Some.ensures line some),
      refl,
    ))
