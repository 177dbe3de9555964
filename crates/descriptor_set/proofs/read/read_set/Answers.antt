use Rattle.descriptor_set.proofs.Readings.{if_err}
use Rattle.descriptor_set.proofs.SameNames.{reason_of_order}
use Rattle.descriptor_set.proofs.read.read_set.Goals as goal

pub returns-clause-failed : goal.returns-clause-failed
returns-clause-failed c =
    if_err c.sorted.result (λ e h. reason_of_order e c.args.set.now c.in_ok-read.read c.in_ok-read.ensures.read h)
    c.sorted.ensures.blamed
