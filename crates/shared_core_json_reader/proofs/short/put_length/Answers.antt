use Rattle.std.proofs.Common.{◌≡◌, ◌-◌, length, arith, rules}
use Rattle.shared_core_json_reader.proofs.ShortRecords.{short_put}
use Rattle.shared_core_json_reader.proofs.short.put_length.Goals as goal

pub returns : goal.returns
returns c =
    let out = c.args.out.now.items in
    let is : c.len.result ≡ length out = search rules in
    short_put out c.args.place c.args.end (c.len.result - c.args.end) (omega (arith, is)) c.if-len-ge128.false
    (omega (arith, c.if-end-place-ne1.false, c.requires.place)) c.requires.end
