use Rattle.std.proofs.Common.{Err, ap}
use Rattle.json.specs.Reads.{token_of}
use Rattle.shared_core_json_reader.proofs.Levels.{no_value, more_values, one_value}
use Rattle.shared_core_json_reader.proofs.read.parse.Goals as goal

pub returns-in-Err-Invalid-clause-value : goal.returns-in-Err-Invalid-clause-value
returns-in-Err-Invalid-clause-value c n = no_value c.args.reader.now
    (c.in-Err-Invalid.ensures.invalid (ap (λ e. Err e) c.in-Err-Invalid.field-0-is))

pub returns-in-Some-clause-value : goal.returns-in-Some-clause-value
returns-in-Some-clause-value c n = more_values c.args.reader.now c.read.new.reader c.next.new.self
    c.in-Ok.table (token_of c.in-Some.field-0) c.in-Ok.ensures.ok c.in-Some.ensures.value

pub returns-clause-value : goal.returns-clause-value
returns-clause-value c = one_value c.args.reader.now c.read.new.reader c.in-Ok.table c.in-Ok.ensures.ok
    c.in-None.ensures.value.0
