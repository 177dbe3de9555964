use Rattle.dump_lines.proofs.lines.write_ack.Goals as goal

pub returns-in-Some-clause-tokens : goal.returns-in-Some-clause-tokens
returns-in-Some-clause-tokens c = rw c.in-Some.is c.write_flag.ensures.tokens
