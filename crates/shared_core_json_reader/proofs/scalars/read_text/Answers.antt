use Rattle.std.proofs.lemmas.Str.{is_utf8-from_IsUtf8}
use Rattle.shared_core_json_reader.proofs.Texts.{text_is}
use Rattle.shared_core_json_reader.proofs.scalars.read_text.Goals as goal

pub returns-clause-value : goal.returns-clause-value
returns-clause-value c = text_is c.args.value.now c.in-Some.text.now c.as_bytes.result.now c.in-Some.ensures
    c.as_bytes.ensures.value (is_utf8-from_IsUtf8 c.as_bytes.result.now c.as_bytes.ensures.utf8)
