use Rattle.std.proofs.Common.{◌≤◌, length}
use Rattle.shared_core_json_reader.proofs.bytes.decoded_len.Given as goal

abbrev pub invariant-loop-digits : goal.invariant-loop-digits
invariant-loop-digits l = l.digits ≤ length l.text

abbrev pub decreases-loop-digits : goal.decreases-loop-digits
decreases-loop-digits l = l.digits
