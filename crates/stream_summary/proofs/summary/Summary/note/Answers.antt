use Rattle.std.proofs.Common.{◌≡◌, ◌∙◌, ◌-◌, ℕ, List, Bool, true, ap, arith, string_bytes}
use Rattle.shared_core_stream.specs.Limits.{payload_length}
use Rattle.stream_lines.specs.Printing.{item_size}
use Rattle.show_lines.specs.Lines.{joins, waiting_then}
use Rattle.stream_summary.specs.About.{failure_line}
use Rattle.stream_summary.specs.Counts.{count_with}
use Rattle.stream_summary.specs.Largest.{largest_with}
use Rattle.stream_summary.specs.Summary.{seen_by}
use Rattle.stream_summary.proofs.Noting.{noted, parts_known}
use Rattle.stream_summary.proofs.summary.Summary.note.Goals as goal

pub returns-clause-seen : goal.returns-clause-seen
returns-clause-seen g c =
    let version = c.args.payloads.now.version in
    let seen = seen_by c.args.self.now in
    let item = c.args.item.now in
    let facts = c.in_ok-facts.facts in
    let name = string_bytes c.write_name.new.scratch.name in
    let size = c.size-size.ensures in
    let less : c.size.result - 8 ≡ payload_length item = omega (arith, c.size.ensures) in
    noted version seen item facts name c.in_ok-facts.ensures.facts c.in_ok-facts.ensures.text _
    (parts_known version seen item facts name _ _ _ _ _ _ _ _
    (c.with-self.ensures ∙ ap (λ (n : ℕ). count_with true n seen.all) size)
    (c.with-self-2.ensures ∙ ap (λ (n : ℕ). count_with c.is_command.result n seen.commands) size
    ∙ ap (λ (b : Bool). count_with b (item_size item) seen.commands) c.is_command.ensures)
    (c.with-self-3.ensures ∙ ap (λ (n : ℕ). count_with c.is_notification.result n seen.notifications) size
    ∙ ap (λ (b : Bool). count_with b (item_size item) seen.notifications) c.is_notification.ensures)
    (c.in_ok-join_item.ensures.waiting ∙ ap (waiting_then true seen.waiting facts) c.as_str.ensures.value)
    c.in_ok-write_start.ensures.line
    c.in_ok-write_state.ensures.line
    (c.in_ok-write_failure.ensures
    ∙ ap (λ (l : List ℕ). failure_line facts.is_failure l c.as_str-3.result.now seen.failure)
    c.as_str-2.ensures.value
    ∙ ap (λ (l : List ℕ). failure_line facts.is_failure name l seen.failure)
    (c.as_str-3.ensures.value ∙ c.in_ok-join_item.ensures.joined
    ∙ ap (joins true seen.waiting facts) c.as_str.ensures.value))
    (c.in_ok-note.ensures
    ∙ ap (λ (n : ℕ). largest_with (record { size = n; text = c.as_str-4.result.now }) seen.largest) less
    ∙ ap (λ (l : List ℕ). largest_with (record { size = payload_length item; text = l }) seen.largest)
    c.as_str-4.ensures.value))
