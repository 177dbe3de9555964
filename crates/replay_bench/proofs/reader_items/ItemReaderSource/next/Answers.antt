use Rattle.replay_bench.proofs.Giving.{item_given, kept_given, long_given, rest_given}
use Rattle.replay_bench.proofs.reader_items.ItemReaderSource.next.Goals as goal

pub returns-in-Ok-Some-clause-next : goal.returns-in-Ok-Some-clause-next
returns-in-Ok-Some-clause-next g c =
    let (gave, consumed, is) = rw c.in-Ok-Some.field-0-is at c.in-Ok-Some.ensures.read in
    item_given _ _ gave _ _ consumed c.in-Ok-Some.item is

pub returns-in-Err-Truncated-clause-next : goal.returns-in-Err-Truncated-clause-next
returns-in-Err-Truncated-clause-next g c =
    let (gave, consumed, is) = rw c.in-Err-Truncated.field-0-is at c.in-Err-Truncated.ensures.read in
    rest_given _ _ gave _ _ consumed c.in-Err-Truncated.count is

pub returns-in-Err-TooLong-clause-next : goal.returns-in-Err-TooLong-clause-next
returns-in-Err-TooLong-clause-next g c =
    let (gave, consumed, is) = rw c.in-Err-TooLong.field-0-is at c.in-Err-TooLong.ensures.read in
    long_given _ _ gave _ _ consumed c.in-Err-TooLong.message is

pub returns-in-Err-OutOfMemory-clause-kept : goal.returns-in-Err-OutOfMemory-clause-kept
returns-in-Err-OutOfMemory-clause-kept g c =
    let (gave, consumed, is) = rw c.in-Err-OutOfMemory.field-0-is at c.in-Err-OutOfMemory.ensures.read in
    kept_given _ _ gave _ _ consumed is
