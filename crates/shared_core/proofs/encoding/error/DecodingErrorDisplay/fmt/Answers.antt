use Rattle.std.proofs.Common.{ap, ◌≡◌, ◌++◌}
use Rattle.std.specs.Prelude.{codes}
use Rattle.shared_core_base.specs.MessageType.{debug_name_of}
use Rattle.shared_core.specs.Errors.{decoding_error_text}
use Rattle.shared_core.proofs.encoding.error.DecodingErrorDisplay.fmt.Goals as goal

pub returns-in-MissingField-clause-writes : goal.returns-in-MissingField-clause-writes
returns-in-MissingField-clause-writes g c plain ok =
    let text : decoding_error_text c.args.self.now ≡ codes "expected message type " ++
    (debug_name_of c.in-MissingField.expected ++ (codes " to have field " ++ c.in-MissingField.field.now)) = ap
    decoding_error_text c.in-MissingField.is in
    let written = c.write-in-MissingField.ensures.writes plain ok in
    rw text (rw c.debug_name-name-in-MissingField.ensures at written)
