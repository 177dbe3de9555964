use Rattle.std.proofs.Common.{◌≡◌, None}
use Rattle.std.proofs.lemmas.List.{nil_from_length}
use Rattle.shared_core_wire.specs.Reader.{varint_at}
use Rattle.shared_core_wire.proofs.VarintLoop.{varint_nil}
use Rattle.shared_core_wire.proofs.varint.read_varint.Goals as goal

pub returns-in_err-first : goal.returns-in_err-first
returns-in_err-first c =
    let nothing = nil_from_length c.args.bytes.now (c.in_err-first.ensures).cases in
    let none : varint_at c.args.bytes.now ≡ None = rw nothing varint_nil in
    rw c.from_residual.ensures none
