use Rattle.field_paths.proofs.Answering.{got}
use Rattle.field_paths.proofs.getting.get.Goals as goal

pub returns : goal.returns
returns g c =
    let (read, came, wanted) = rw c.in-Some.is at c.in_ok-item.ensures in
    let (written, wrote, is) = c.write_of.ensures in
    (read, written, came, wrote, got c.args.request.now c.in-Some.item read _ written wanted c.write_of.result is)
