use Rattle.std.proofs.Common.{◌∙◌, rules}
use Rattle.shared_core_canonical.proofs.Varints.{more_varint, last_varint}
use Rattle.shared_core_canonical.proofs.append.append_varint.Goals as goal

pub loop-rest-preserved : goal.loop-rest-preserved
loop-rest-preserved c = more_varint c.loop-rest.out.items c.push.new.self.items c.loop-rest.rest c.loop-rest-test.true
    (search rules) ∙ c.loop-rest.invariant

pub returns : goal.returns
returns c = last_varint c.loop-rest.out.items c.push-2.new.self.items c.loop-rest.rest c.loop-rest-test.false
    (search rules) ∙ c.loop-rest.invariant
