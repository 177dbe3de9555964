use Rattle.std.proofs.Common.{◌≡◌, map, rules}
use Rattle.shared_core_parts.proofs.MetadataLists.{entry_of_pair, entries_are_pairs}
use Rattle.shared_core_parts.proofs.conversions.entries_of_pairs.Goals as goal

pub returns-clause-ok : goal.returns-clause-ok
returns-clause-ok c =
    let entries : c.in_ok-entries.entries.items ≡ map entry_of_pair c.args.pairs.items = search rules in
    entries_are_pairs c.in_ok-entries.entries.items c.args.pairs.items entries
