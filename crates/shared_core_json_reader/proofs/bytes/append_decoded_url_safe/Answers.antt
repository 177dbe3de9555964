use Rattle.std.proofs.Common.{ap}
use Rattle.std.specs.Result.{result_ok}
use Rattle.shared_core_json_reader.proofs.Placed.{appended_bytes}
use Rattle.shared_core_json_reader.proofs.bytes.append_decoded_url_safe.Goals as goal

pub returns-in-Ok-clause-appended : goal.returns-in-Ok-clause-appended
returns-in-Ok-clause-appended c = appended_bytes _ c.args.out.now.items c.decode_vec.new.buffer.items _
    (ap result_ok c.in-Ok.ensures.ok) c.in-Ok.ensures.front
