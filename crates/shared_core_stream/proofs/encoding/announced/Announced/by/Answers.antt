use Rattle.std.proofs.Common.{rules, ◌≡◌, true, false}
use Rattle.std.proofs.lemmas.Nat.{and_mask}
use Rattle.shared_core_stream.specs.Items.{skips_unknown_messages}
use Rattle.shared_core_stream.proofs.Items.{announces_message, announces_skipped, announces_unknown}
use Rattle.shared_core_stream.proofs.encoding.announced.Announced.by.Goals as goal

pub returns-in-Ok : goal.returns-in-Ok
returns-in-Ok c = announces_message _ _ _ c.in-Ok.ensures

pub returns-in-Err : goal.returns-in-Err
returns-in-Err c =
    let skips : skips_unknown_messages c.args.version ≡ true = search rules in
    announces_skipped _ _ _ _ c.in-Err.ensures.0 c.in-Err.ensures.1 skips (and_mask c.args.word 32)

pub returns-in-Err-2 : goal.returns-in-Err-2
returns-in-Err-2 c =
    let alone : skips_unknown_messages c.args.version ≡ false = search rules in
    announces_unknown _ _ _ c.in-Err.ensures.0 c.in-Err.ensures.1 alone
