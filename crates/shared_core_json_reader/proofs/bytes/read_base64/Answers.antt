use Rattle.shared_core_json_reader.specs.Scalars.{base64_bytes}
use Rattle.shared_core_json_reader.proofs.Placed.{from_nothing}
use Rattle.shared_core_json_reader.proofs.bytes.read_base64.Goals as goal

pub returns-clause-value : goal.returns-clause-value
returns-clause-value c = from_nothing (base64_bytes c.args.text.now) c.new-bytes.result.items
    c.append_decoded.new.out.items c.new-bytes.ensures.items c.in_ok-append_decoded.ensures.appended
