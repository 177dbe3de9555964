use Rattle.std.proofs.Common.{◌∙◌, sym, map, arith}
use Rattle.descriptor_set.proofs.Halving.{compared, equal_step, greater_step, less_step}
use Rattle.descriptor_set.proofs.names.find.Goals as goal

pub loop-low-preserved-in-Less : goal.loop-low-preserved-in-Less
loop-low-preserved-in-Less g c = (
  c.loop-low.invariant.0,
  less_step (map g.T.Named.name_bytes c.args.items.now) c.args.name.now c.loop-low.low c.loop-low.high
      (omega arith)
      (compared g.T.Named.name_bytes c.args.items.now _ c.index-items-middle.result c.full_name.result.now
      c.args.name.now _ (omega arith) c.index-items-middle.is c.full_name.ensures c.in-Less.ensures)
      ∙ c.loop-low.invariant.1,
)

pub loop-low-preserved : goal.loop-low-preserved
loop-low-preserved g c = (
  omega arith,
  greater_step (map g.T.Named.name_bytes c.args.items.now) c.args.name.now c.loop-low.low c.loop-low.high
      (omega arith)
      (compared g.T.Named.name_bytes c.args.items.now _ c.index-items-middle.result c.full_name.result.now
      c.args.name.now _ (omega arith) c.index-items-middle.is c.full_name.ensures c.in-Greater.ensures)
      ∙ c.loop-low.invariant.1,
)

pub returns-in-Equal : goal.returns-in-Equal
returns-in-Equal g c =
    sym (equal_step (map g.T.Named.name_bytes c.args.items.now) c.args.name.now c.loop-low.low c.loop-low.high
    (omega arith)
    (compared g.T.Named.name_bytes c.args.items.now _ c.index-items-middle.result c.full_name.result.now
    c.args.name.now _ (omega arith) c.index-items-middle.is c.full_name.ensures c.in-Equal.ensures))
    ∙ c.loop-low.invariant.1
