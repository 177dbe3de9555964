use Rattle.std.proofs.Common.{◌∙◌}
use Rattle.shared_core_json_reader.proofs.Varints.{more_put, last_put}
use Rattle.shared_core_json_reader.proofs.lengths.put_length.Goals as goal

pub loop-rest-preserved : goal.loop-rest-preserved
loop-rest-preserved c =
    let l = c.loop-rest in
    let e = c.in_ok-put_byte.ensures in (
      e.length,
      e.end,
      more_put l.out.items c.put_byte.new.out.items l.at c.args.end l.rest c.loop-rest-test.true e.before e.after
          ∙ l.invariant.2,
    )

pub returns : goal.returns
returns c =
    let l = c.loop-rest in
    let e = c.in_ok-put_byte-2.ensures in
    last_put l.out.items c.put_byte-2.new.out.items c.remove_until.new.out.items l.at c.args.end l.rest
    c.loop-rest-test.false e.before e.after c.remove_until.ensures ∙ l.invariant.2
