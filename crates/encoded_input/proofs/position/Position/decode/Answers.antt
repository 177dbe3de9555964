use Rattle.std.proofs.Common.{◌∙◌, sym, arith}
use Rattle.encoded_input.proofs.Steps.{all_decoded, all_passed}
use Rattle.encoded_input.proofs.position.Position.decode.Goals as goal

pub returns-clause-bytes : goal.returns-clause-bytes
returns-clause-bytes c =
    sym (c.loop-index.invariant.bytes
    ∙ all_decoded c.loop-index.self c.loop-index.text _ c.loop-index.index (omega arith))

pub returns-clause-position : goal.returns-clause-position
returns-clause-position c =
    sym (c.loop-index.invariant.position
    ∙ all_passed c.loop-index.self c.loop-index.text c.loop-index.index (omega arith))
