use Rattle.std.proofs.Common.{take}
use Rattle.replay_bench.specs.Forms.{HaveForms}
use Rattle.replay_bench.proofs.forms.forms.Given as goal

abbrev pub invariant-loop-command : goal.invariant-loop-command
invariant-loop-command l = HaveForms l.fn.ignore (take l.command-index l.commands) l.forms.items
