-- What a verdict says, by the types of the commands at its index and the fields in which they differ.
use Rattle.std.proofs.Common.{◌≡◌, ℕ, pos, Bool, List, Option, Some, None, Ok, refl, sym, ap, ◌∙◌, subst}
use Rattle.std.specs.Prelude.{IsTrue, codes, flat_map}
use Rattle.std.specs.Option.{IsSomeAnd}
use Rattle.shared_core_base.specs.declared.header.MessageType.{MessageType}
use Rattle.shared_core_base.specs.declared.version.Version.{Version}
use Rattle.shared_core_codec.specs.Payloads.{payload_meaning}
use Rattle.shared_core_message.specs.Messages.{message_schema}
use Rattle.shared_core_compare.specs.Differences.{FieldTexts, differing_fields, field_line}
use Rattle.shared_core_errors.specs.Mismatch.{command_type_mismatch_text}
use Rattle.shared_core_stream.specs.declared.encoding.raw_message.RawMessage.{RawMessage}
use Rattle.shared_core.specs.Errors.{command_mismatch_text}
use Rattle.replay_bench.specs.declared.journals.Ignored.{Ignored}
use Rattle.replay_bench.specs.declared.fields.FieldDifference.{FieldDifference}
use Rattle.replay_bench.specs.declared.mismatches.Found.{Found}
use Rattle.replay_bench.specs.declared.verdicts.Verdict.{Verdict}
use Rattle.replay_bench.specs.declared.verdicts.Verdict.TheVariants.{Same, RecordedEnded, ReplayedEnded, TypeMismatch}
use Rattle.replay_bench.specs.declared.verdicts.Verdict.TheVariants.{HeaderMismatch}
use Rattle.replay_bench.specs.Fields.{lines_of, listed_texts}
use Rattle.replay_bench.specs.Journals.{type_of}
use Rattle.replay_bench.specs.Outcomes.{outcome_of}
use Rattle.replay_bench.specs.Verdicts.{HasFields, IsFound, IsSaid, MeanOthers, ReturnsNext}
use Rattle.replay_bench.proofs.Endings.{is_found}

module _ (ignore : Ignored) (index : ℕ) (recorded replayed : RawMessage) where
  -- the lines of the fields are the difference in the text
  of_fields : (schema : Option ℕ) (text : List ℕ) (fields : List FieldDifference)
      → IsSomeAnd schema (MeanOthers ignore index recorded.header.ty recorded.payload replayed.payload text)
      → IsSomeAnd schema (λ s. listed_texts fields ≡ differing_fields s (payload_meaning s recorded.payload)
      (payload_meaning s replayed.payload))
      → text ≡ command_mismatch_text recorded.header.ty (pos index) (lines_of fields)
  of_fields None text fields means listed = absurd means
  of_fields (Some s) text fields means listed =
      means.3 ∙ ap (λ (all : List FieldTexts). command_mismatch_text recorded.header.ty (pos index)
      (flat_map (field_line (codes "   ")) all)) (sym listed)

  said_found : (is_listed : Bool) (verdict : Verdict) (fields : List FieldDifference)
      → IsFound ignore index recorded replayed (outcome_of verdict)
      → HasFields is_listed recorded replayed verdict fields → IsTrue is_listed
      → IsSaid verdict (Some recorded.header.ty) (Some replayed.header.ty) fields
  said_found is_listed (Same count) fields found has listed = absurd found
  said_found is_listed (RecordedEnded at) fields found has listed = absurd found
  said_found is_listed (ReplayedEnded at) fields found has listed = absurd found
  said_found is_listed (TypeMismatch at text) fields found has listed = (
    recorded.header.ty,
    replayed.header.ty,
    refl,
    refl,
    found.2 ∙ ap (λ n. command_type_mismatch_text (pos n) recorded.header.ty replayed.header.ty) (sym found.0),
  )
  said_found is_listed (HeaderMismatch at text) fields found has listed = (
    recorded.header.ty,
    refl,
    ap (λ (ty : MessageType). Some ty) (sym found.0),
    of_fields (message_schema recorded.header.ty) _ fields found.2 (has listed)
        ∙ ap (λ n. command_mismatch_text recorded.header.ty (pos n) (lines_of fields)) (sym found.1),
  )

-- the same of the next commands, each of which may be missing
pub said_next : (version : Version) (ignore : Ignored) (is_listed : Bool) (index : ℕ) (next other : Option RawMessage)
    (found : Found) → ReturnsNext ignore is_listed index next other (Ok (Some found)) → IsTrue is_listed
    → IsSaid found.verdict (type_of next) (type_of other) found.fields.items
said_next version ignore is_listed index None None found is listed =
    subst (λ (v : Verdict). IsSaid v None None found.fields.items) (sym is.0) (refl, refl)
said_next version ignore is_listed index None (Some other) found is listed =
    subst (λ (v : Verdict). IsSaid v None (Some other.header.ty) found.fields.items) (sym is.0) refl
said_next version ignore is_listed index (Some command) None found is listed =
    subst (λ (v : Verdict). IsSaid v (Some command.header.ty) None found.fields.items) (sym is.0) refl
said_next version ignore is_listed index (Some command) (Some other) found is listed =
    let (outcome, fields) = is_found version ignore is_listed index command other found is in
    said_found ignore index command other is_listed found.verdict found.fields.items outcome fields listed
