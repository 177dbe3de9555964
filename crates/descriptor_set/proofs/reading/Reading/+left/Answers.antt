use Rattle.std.proofs.Common.{◌≡◌, ◌+◌, ◌-◌, refl, sym, ap, ◌∙◌, rules, arith, flat_map}
use Rattle.descriptor_set.specs.Reading.{Blames, around, contents_left}
use Rattle.descriptor_set.specs.Sets.{each_at, enums_at, full_name, messages_at, messages_within, nested_enums}
use Rattle.descriptor_set.specs.Values.{contents_in}
use Rattle.descriptor_set.proofs.Readings.{blames_enums_of, blames_name_of, blames_nested, blames_own, each_step}
use Rattle.descriptor_set.proofs.Readings.{goes_first, goes_last, goes_next, goes_wrong, if_err, no_enums, no_messages}
use Rattle.descriptor_set.proofs.Readings.{on_ok, reads_nested, reads_nothing, some_enums, some_messages}
use Rattle.descriptor_set.proofs.reading.Reading.+left.Goals as goal

pub append_message-returns-in_err-name-clause-blamed :
    goal.append_message-returns-in_err-name-clause-blamed
append_message-returns-in_err-name-clause-blamed t c =
    let h : Blames c.in_err-name.field-0.0 (messages_at c.args.left (around c.args.scope.now) c.args.path.items
    c.args.bytes.now) (enums_at c.args.left c.args.scope.now.name.now c.args.bytes.now) =
    blames_name_of _ _ (around c.args.scope.now) _ _ _ c.text_in.ensures c.in_err-name.ensures.blamed in
    search rules

pub append_message-returns-in_err-append_messages-clause-blamed :
    goal.append_message-returns-in_err-append_messages-clause-blamed
append_message-returns-in_err-append_messages-clause-blamed t c =
    let h : Blames c.in_err-append_messages.field-0.0 (messages_at c.args.left (around c.args.scope.now)
    c.args.path.items c.args.bytes.now) (enums_at c.args.left c.args.scope.now.name.now c.args.bytes.now) =
    blames_nested _ c.args.left (around c.args.scope.now) _ _ _ _
    (c.as_str.ensures.value ∙ c.in_ok-name.ensures.named
    ∙ ap (full_name c.args.scope.now.name.now) c.text_in.ensures) c.as_slice.ensures.value
    c.in_err-append_messages.ensures.blamed in
    search rules

pub append_message-returns-in_err-append_enums-clause-blamed :
    goal.append_message-returns-in_err-append_enums-clause-blamed
append_message-returns-in_err-append_enums-clause-blamed t c =
    let h : Blames c.in_err-append_enums.field-0.0 (messages_at c.args.left (around c.args.scope.now)
    c.args.path.items c.args.bytes.now) (enums_at c.args.left c.args.scope.now.name.now c.args.bytes.now) =
    blames_enums_of _ c.args.left (around c.args.scope.now) _ _ _
    (c.as_str.ensures.value ∙ c.in_ok-name.ensures.named
    ∙ ap (full_name c.args.scope.now.name.now) c.text_in.ensures) c.in_err-append_enums.ensures.blamed in
    search rules

pub append_message-returns-clause-read : goal.append_message-returns-clause-read
append_message-returns-clause-read t c =
    let named = c.in_ok-name.ensures.named ∙ ap (full_name c.args.scope.now.name.now) c.text_in.ensures in
    on_ok c.push_message.result (λ r. reads_nested c.args.left (around c.args.scope.now) _ _ _ _ _ _ _ _ _ _
    (c.as_str.ensures.value ∙ named) c.as_slice.ensures.value named
    (c.in_ok-codes.ensures c.args.scope.now.file_bytes.now c.requires) c.in_ok-append_messages.ensures.read
    c.in_ok-append_enums.ensures.read r) c.push_message.ensures.read

pub append_message-returns-clause-blamed : goal.append_message-returns-clause-blamed
append_message-returns-clause-blamed t c =
    let named = c.in_ok-name.ensures.named ∙ ap (full_name c.args.scope.now.name.now) c.text_in.ensures in
    if_err c.push_message.result (λ e h. blames_own e c.args.left (around c.args.scope.now) _ _ _ _ named
    (c.in_ok-codes.ensures c.args.scope.now.file_bytes.now c.requires) h) c.push_message.ensures.blamed

pub append_messages-returns-then-left-eq0-clause-read : goal.append_messages-returns-then-left-eq0-clause-read
append_messages-returns-then-left-eq0-clause-read t c =
    reads_nothing _ _ _ (no_messages _ _ _ _ c.if-left-eq0.true) (no_enums _ _ _ _ c.if-left-eq0.true)

pub append_messages-loop-content-init : goal.append_messages-loop-content-init
append_messages-loop-content-init t c =
    let e : contents_left c.into_iter-content-iterator.result ≡ contents_in c.args.field c.args.bytes.now = cc in
    let below : c.args.left ≡ (c.args.left - 1) + 1 = omega arith in
    goes_first _ _ _ _ _ _ _ refl
    (ap (each_at (messages_at (c.args.left - 1) (around c.args.scope.now)) c.args.scope.now.path.now c.args.field 0) e
    ∙ sym (some_messages c.args.left (c.args.left - 1) (around c.args.scope.now) c.args.field c.args.bytes.now below))
    (ap (flat_map (enums_at (c.args.left - 1) c.args.scope.now.name.now)) e
    ∙ sym (some_enums c.args.left (c.args.left - 1) c.args.scope.now.name.now c.args.field c.args.bytes.now below))

pub append_messages-returns-in_err-append_message-clause-blamed :
    goal.append_messages-returns-in_err-append_message-clause-blamed
append_messages-returns-in_err-append_message-clause-blamed t c =
    let h : Blames c.in_err-append_message.field-0.0 (messages_within c.args.left (around c.args.scope.now) c.args.field
    c.args.bytes.now) (nested_enums c.args.left c.args.scope.now.name.now c.args.field c.args.bytes.now) =
    goes_wrong _ _ _ _ _ _ _ _ _ _ _ _ _
    (each_step (messages_at (c.args.left - 1) (around c.args.scope.now)) c.args.scope.now.path.now c.args.field
    c.loop-content.index _ _ _ _ _ c.in-Some.ensures.steps c.in_ok-path.ensures refl)
    (ap (flat_map (enums_at (c.args.left - 1) c.args.scope.now.name.now)) c.in-Some.ensures.steps)
    c.loop-content.invariant c.in_err-append_message.ensures.blamed in
    search rules

pub append_messages-loop-content-preserved : goal.append_messages-loop-content-preserved
append_messages-loop-content-preserved t c =
    goes_next _ _ _ _ _ _ _ _ _ _ _ _ _ _ _ refl
    (each_step (messages_at (c.args.left - 1) (around c.args.scope.now)) c.args.scope.now.path.now c.args.field
    c.loop-content.index _ _ _ _ _ c.in-Some.ensures.steps c.in_ok-path.ensures c.saturating_add-index.ensures)
    (ap (flat_map (enums_at (c.args.left - 1) c.args.scope.now.name.now)) c.in-Some.ensures.steps)
    c.loop-content.invariant c.in_ok-append_message.ensures.read

pub append_messages-returns-clause-read : goal.append_messages-returns-clause-read
append_messages-returns-clause-read t c =
    goes_last _ _ _ _ _ _ _ _ refl
    (ap (each_at (messages_at (c.args.left - 1) (around c.args.scope.now)) c.args.scope.now.path.now c.args.field
    c.loop-content.index) c.in-None.ensures.steps.0)
    (ap (flat_map (enums_at (c.args.left - 1) c.args.scope.now.name.now)) c.in-None.ensures.steps.0)
    c.loop-content.invariant
