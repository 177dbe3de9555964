use Rattle.std.proofs.Common.{◌∙◌, sym, ap, arith}
use Rattle.json_table.specs.Entries.{members_len}
use Rattle.json_table.proofs.Seen.{seen_members}
use Rattle.json_table.proofs.node.Members.left.Goals as goal

pub returns : goal.returns
returns c =
    let seen = seen_members c.self.inside.entries.now c.self.inside.at _ _ c.self.invariant.1 in
    omega (arith, c.self.invariant.1.2, ap members_len (sym seen ∙ c.self.view_is))
