use Rattle.std.proofs.Common.{[], ◌++◌, length, map, Some, sym, ap, ◌∙◌, append-nil}
use Rattle.json_table.specs.Entries.{value_entries}
use Rattle.json_table.specs.Views.{entry_view}
use Rattle.json_table.proofs.Seen.{seen_value}
use Rattle.json_table.proofs.table.Table.read.Goals as goal

pub returns-clause-ok : goal.returns-clause-ok
returns-clause-ok c =
    let done = c.in_ok-read_value.ensures.ok in
    let begin = done.2 ∙ ap (λ es. map entry_view es ++ value_entries (length es) done.0) c.in_ok-entries.ensures.items
    ∙ sym (append-nil _) in
    let seen = seen_value c.read_value.new.entries.items 0 done.0 ([], begin) in
    done.1 ∙ ap (λ j. Some (j, c.read_value.new.reader)) (sym seen)
