use Rattle.shared_core_codec.proofs.Texts.{utf8_or_not}
use Rattle.shared_core_codec.proofs.utf8.is_any_text.Goals as goal

pub returns : goal.returns
returns c = utf8_or_not c.is_utf8.result c.args.bytes.now c.is_utf8.ensures
