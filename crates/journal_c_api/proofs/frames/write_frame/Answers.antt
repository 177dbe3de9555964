use Rattle.journal_c_api.specs.Outcomes.{bytes_of}
use Rattle.journal_c_api.specs.Payloads.{ReturnsFrame}
use Rattle.journal_c_api.proofs.Writing.{writes_outcome}
use Rattle.journal_c_api.proofs.frames.write_frame.Goals as goal

pub returns : goal.returns
returns c =
    writes_outcome (ReturnsFrame c.args.version c.args.code c.args.payload.now) (bytes_of c.frame.result) c.args.out.now
    c.write_outcome.new.out c.write_outcome.result c.write_outcome.ensures
    (c.frame.ensures, c.in_default.ensures (bytes_of c.frame.result))
