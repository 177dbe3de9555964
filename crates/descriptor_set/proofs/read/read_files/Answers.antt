use Rattle.std.proofs.Common.{◌≡◌, ℕ, ◌∙◌, refl, ap, flat_map, length, map, rules}
use Rattle.descriptor_set.specs.Reading.{Blames, contents_left}
use Rattle.descriptor_set.specs.Sets.{enums_of, file_enums, files_messages, messages_of}
use Rattle.descriptor_set.specs.Values.{contents_in, text_in}
use Rattle.descriptor_set.proofs.Readings.{files_step, goes_first, goes_last, goes_next, goes_wrong, reads_all}
use Rattle.descriptor_set.proofs.Readings.{reads_count}
use Rattle.descriptor_set.proofs.read.read_files.Goals as goal

pub loop-content-init : goal.loop-content-init
loop-content-init c =
    let e : contents_left c.into_iter-content-iterator.result ≡ contents_in 1 c.args.set.now = cc in
    goes_first _ _ _ _ _ _ _ (ap (map (text_in 1)) e)
    (ap (λ (n : ℕ). files_messages n (contents_left c.into_iter-content-iterator.result))
    (ap length c.new-read.ensures.files) ∙ ap (files_messages 0) e) (ap (flat_map file_enums) e)

pub returns-in_err-append_file-clause-blamed : goal.returns-in_err-append_file-clause-blamed
returns-in_err-append_file-clause-blamed c =
    let h : Blames c.in_err-append_file.field-0.0 (messages_of c.args.set.now) (enums_of c.args.set.now) =
    goes_wrong _ _ _ _ _ _ _ _ _ _ _ _ _ (files_step (length c.loop-content.read.files.items) _ _ _ _
    c.in-Some.ensures.steps refl) (ap (flat_map file_enums) c.in-Some.ensures.steps) c.loop-content.invariant
    c.in_err-append_file.ensures.blamed in
    search rules

pub loop-content-preserved : goal.loop-content-preserved
loop-content-preserved c =
    let r = c.in_ok-append_file.ensures.read in
    goes_next _ _ _ _ _ _ _ _ _ _ _ _ _ _ _ (ap (map (text_in 1)) c.in-Some.ensures.steps)
    (files_step (length c.loop-content.read.files.items) _ _ _ _ c.in-Some.ensures.steps (reads_count _ _ _ _ _ r))
    (ap (flat_map file_enums) c.in-Some.ensures.steps) c.loop-content.invariant r

pub returns-clause-read : goal.returns-clause-read
returns-clause-read c =
    reads_all c.args.set.now c.new-read.result c.loop-content.read c.new-read.ensures.files
    c.new-read.ensures.messages c.new-read.ensures.enums
    (goes_last _ _ _ _ _ _ _ _ (ap (map (text_in 1)) c.in-None.ensures.steps.0)
    (ap (files_messages (length c.loop-content.read.files.items)) c.in-None.ensures.steps.0)
    (ap (flat_map file_enums) c.in-None.ensures.steps.0) c.loop-content.invariant)
