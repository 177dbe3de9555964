use Rattle.std.proofs.Common.{◌≡◌, ◌≤◌, List, ◌++◌, drop, length}
use Rattle.journal_c_api.specs.Items.{AreListed}
use Rattle.journal_c_api.specs.declared.items.ItemEntry.{ItemEntry}
use Rattle.journal_c_api.proofs.items.write_items.Given as goal

-- the entries that were written are of the items before those that are left
abbrev pub invariant-loop-count : goal.invariant-loop-count
invariant-loop-count l =
    (entries : List ItemEntry) × (length entries ≡ l.count) × (l.count ≤ length l.fn.items)
    × (l.items ≡ entries ++ drop l.count l.fn.items) × (l.found.version ≡ l.initial.found.version)
    × (l.found.limit ≡ l.initial.found.limit)
    × AreListed l.initial.found.version l.initial.found.limit l.initial.found.rest.now entries l.found.rest.now
