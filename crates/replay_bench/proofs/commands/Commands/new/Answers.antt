use Rattle.std.proofs.Common.{refl, ap, arith}
use Rattle.replay_bench.specs.declared.survey.Survey.{Survey}
use Rattle.replay_bench.proofs.Readings.{nothing_read, read_on}
use Rattle.replay_bench.proofs.commands.Commands.new.Goals as goal

pub returns-clause-new : goal.returns-clause-new
returns-clause-new g c =
    let is = c.new.ensures c.args.version in
    record {
      side_is = refl;
      noted_is = refl;
      version_is = c.requires;
      fits = omega (arith, ap (λ (s : Survey). s.size) is);
      read_on = read_on _ _ _ _ _ (nothing_read _ _ _ _ is);
      counted = ap (λ (s : Survey). s.commands) is;
    }
