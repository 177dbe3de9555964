use Rattle.std.proofs.Common.{Global, ap, refl, true}
use Rattle.std.specs.Prelude.{Vec}
use Rattle.replay_bench.specs.declared.fields.FieldDifference.{FieldDifference}
use Rattle.replay_bench.specs.Fields.{listed_texts}
use Rattle.replay_bench.proofs.Listing.{all_listed}
use Rattle.replay_bench.proofs.fields.list_fields.Goals as goal

pub returns-in-Ok-clause-fields : goal.returns-in-Ok-clause-fields
returns-in-Ok-clause-fields g c is_listed =
    all_listed (λ (v : Vec FieldDifference Global). listed_texts v.items) c.new-fields.result c.write_fields.new.out _
    (ap listed_texts c.new-fields.ensures.items) (c.in-Ok.ensures (refl {a = true}))
