use Rattle.std.proofs.Common.{◌≡◌, ◌∙◌, [], refl, ap, length, codes, rules, arith, List, ℕ}
use Rattle.std.specs.Str.{bytes_eq}
use Rattle.descriptor_set.specs.Comments.{codes_at}
use Rattle.descriptor_set.specs.Reading.{Blames}
use Rattle.descriptor_set.specs.Sets.{file_enums, file_messages, is_proto3}
use Rattle.descriptor_set.proofs.Readings.{around_is, blames_file_enums, blames_file_messages, if_err, on_ok}
use Rattle.descriptor_set.proofs.Readings.{reads_file, reads_name, surroundings}
use Rattle.descriptor_set.proofs.reading.Reading.append_file.Goals as goal

pub returns-clause-read : goal.returns-clause-read
returns-clause-read c =
    let count : c.len.result ≡ length c.args.self.now.files.items = omega arith in
    let proto : c.eq.result ≡ is_proto3 c.args.bytes.now =
    c.eq.ensures ∙ ap (λ (t : List ℕ). bytes_eq t (codes "proto3")) c.text_in.ensures in
    let said = codes_at c.args.bytes.now in
    let is = around_is c.len.result _ c.eq.result _ said said c.text_in-2.result.now _ [] [] count proto refl
    c.text_in-2.ensures refl in
    on_ok c.append_enums.result (λ r. reads_file _
    (surroundings c.len.result c.eq.result said c.text_in-2.result.now []) _ _ _ _ _ _ is
    (reads_name _ _ _ _ (c.in_ok-name.ensures.ok ∙ c.text_in-3.ensures) c.in_ok-push.ensures.items refl refl)
    c.in_ok-append_messages.ensures.read r) c.append_enums.ensures.read

pub returns-clause-blamed : goal.returns-clause-blamed
returns-clause-blamed c =
    let count : c.len.result ≡ length c.args.self.now.files.items = omega arith in
    let proto : c.eq.result ≡ is_proto3 c.args.bytes.now =
    c.eq.ensures ∙ ap (λ (t : List ℕ). bytes_eq t (codes "proto3")) c.text_in.ensures in
    let said = codes_at c.args.bytes.now in
    let is = around_is c.len.result _ c.eq.result _ said said c.text_in-2.result.now _ [] [] count proto refl
    c.text_in-2.ensures refl in
    if_err c.append_enums.result (λ e h. blames_file_enums e
    (surroundings c.len.result c.eq.result said c.text_in-2.result.now []) _ _ is h) c.append_enums.ensures.blamed

pub returns-in_err-append_messages-clause-blamed : goal.returns-in_err-append_messages-clause-blamed
returns-in_err-append_messages-clause-blamed c =
    let count : c.len.result ≡ length c.args.self.now.files.items = omega arith in
    let proto : c.eq.result ≡ is_proto3 c.args.bytes.now =
    c.eq.ensures ∙ ap (λ (t : List ℕ). bytes_eq t (codes "proto3")) c.text_in.ensures in
    let said = codes_at c.args.bytes.now in
    let is = around_is c.len.result _ c.eq.result _ said said c.text_in-2.result.now _ [] [] count proto refl
    c.text_in-2.ensures refl in
    let h : Blames c.in_err-append_messages.field-0.0 (file_messages (length c.args.self.now.files.items)
    c.args.bytes.now) (file_enums c.args.bytes.now) =
    blames_file_messages _ (surroundings c.len.result c.eq.result said c.text_in-2.result.now []) _ _ is
    c.in_err-append_messages.ensures.blamed in
    search rules
