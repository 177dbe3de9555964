-- What is returned for two commands.
use Rattle.std.proofs.Common.{Global, ◌≡◌, ◌≢◌, ℕ, pos, Bool, List, Option, Some, None, Result, Ok, Err}
use Rattle.std.proofs.Common.{refl, sym, ap, subst, ◌∙◌}
use Rattle.std.specs.Prelude.{[], codes, IsTrue, String, Vec}
use Rattle.std.specs.Option.{IsSomeAnd}
use Rattle.std.specs.String.{string_bytes}
use Rattle.shared_core_base.specs.declared.header.MessageType.{MessageType}
use Rattle.shared_core_wire.specs.declared.error.WireError.{WireError}
use Rattle.shared_core_wire.specs.declared.error.WireError.TheVariants as wire
use Rattle.shared_core_wire.specs.Value.{Parts}
use Rattle.shared_core_codec.specs.Payloads.{IsAccepted, payload_meaning}
use Rattle.shared_core_message.specs.Messages.{message_schema}
use Rattle.shared_core_compare.specs.Differences.{difference, differing_fields}
use Rattle.shared_core_errors.specs.Mismatch.{command_type_mismatch_text}
use Rattle.shared_core_stream.specs.declared.encoding.raw_message.RawMessage.{RawMessage}
use Rattle.shared_core.specs.Errors.{command_mismatch_text}
use Rattle.shared_core.specs.Typed.{MeansParts}
use Rattle.replay_bench.specs.declared.journals.Ignored.{Ignored}
use Rattle.replay_bench.specs.declared.fields.FieldDifference.{FieldDifference}
use Rattle.replay_bench.specs.declared.verdicts.Side.TheVariants.{Recorded, Replayed}
use Rattle.replay_bench.specs.declared.mismatches.CommandPayload.{CommandPayload}
use Rattle.replay_bench.specs.declared.mismatches.Found.{Found}
use Rattle.replay_bench.specs.declared.verdicts.Verdict.{Verdict}
use Rattle.replay_bench.specs.declared.verdicts.Verdict.TheVariants.{TypeMismatch, HeaderMismatch}
use Rattle.replay_bench.specs.declared.verdicts.BenchError.{BenchError}
use Rattle.replay_bench.specs.declared.verdicts.BenchError.TheVariants.{Malformed, OutOfMemory, TooLong}
use Rattle.replay_bench.specs.Ids.{erased_but}
use Rattle.replay_bench.specs.Fields.{AreFieldsOf, listed_texts}
use Rattle.replay_bench.specs.Outcomes.{OtherCommand, outcome_of}
use Rattle.replay_bench.specs.Verdicts.{HasFields, IsFound, ReturnsPair, IsMalformedOn, IsPair, MeanOthers, MeanTheSame}
use Rattle.replay_bench.specs.Verdicts.{bench_error_of, command_message, plain_message}

-- What is returned for two commands by their types and payloads is what is returned for the messages that have these.
module _ (ignore : Ignored) (is_listed : Bool) (index : ℕ) (recorded replayed : RawMessage) where
  by_parts : (result : Result (Option Found) BenchError) → ReturnsPair ignore is_listed index
      (plain_message recorded.header.ty recorded.payload) (plain_message replayed.header.ty replayed.payload) result
      → ReturnsPair ignore is_listed index recorded replayed result
  unfolding ReturnsPair
  by_parts (Ok None) is = is
  by_parts (Ok (Some found)) is = of_verdict found.verdict is
    where
      of_verdict : (verdict : Verdict) → IsFound ignore index (plain_message recorded.header.ty recorded.payload)
          (plain_message replayed.header.ty replayed.payload) (outcome_of verdict)
          × HasFields is_listed (plain_message recorded.header.ty recorded.payload)
          (plain_message replayed.header.ty replayed.payload) verdict found.fields.items
          → IsFound ignore index recorded replayed (outcome_of verdict)
          × HasFields is_listed recorded replayed verdict found.fields.items
      of_verdict (TypeMismatch found text) is = is
      of_verdict (HeaderMismatch found text) is = is
      of_verdict verdict is = absurd is.0
  by_parts (Err (Malformed side found)) is = is
  by_parts (Err OutOfMemory) is = is
  by_parts (Err TooLong) is = is

  pub pair_of_messages : (one other : CommandPayload) (result : Result (Option Found) BenchError)
      → one.ty ≡ recorded.header.ty → one.payload.now ≡ recorded.payload
      → other.ty ≡ replayed.header.ty → other.payload.now ≡ replayed.payload
      → ReturnsPair ignore is_listed index (command_message one) (command_message other) result
      → ReturnsPair ignore is_listed index recorded replayed result
  pair_of_messages one other result ty payload other_ty other_payload is =
      by_parts result (rw (← ty, ← payload, ← other_ty, ← other_payload) is)

-- Two commands of the type of a record with this schema, at an index.
pub record AreTyped (recorded replayed : RawMessage) (s : ℕ) : Type 0 where
  pub one_type : recorded.header.ty ≡ replayed.header.ty
  pub schema : message_schema recorded.header.ty ≡ Some s

pub are_typed : (index : ℕ) (recorded replayed : RawMessage) (ty : MessageType) (s : ℕ) → IsPair index recorded replayed
    ty → message_schema ty ≡ Some s → AreTyped recorded replayed s
are_typed index recorded replayed ty s pair own = record {
  one_type = pair.typed;
  schema = ap message_schema pair.is ∙ own;
}

module _ (recorded replayed : RawMessage) (s : ℕ) (typed : AreTyped recorded replayed s) where
  pub by_schema : (holds : ℕ → Type 0) → holds s → IsSomeAnd (message_schema recorded.header.ty) holds
  by_schema holds is = subst (λ schema. IsSomeAnd schema holds) (sym typed.schema) is

  module _ (one other : Parts) (means : MeansParts s recorded.payload one)
      (means_other : MeansParts s replayed.payload other) where
    -- fields that were listed of what both mean
    pub fields_of : (fields : List FieldDifference) → listed_texts fields ≡ differing_fields s one other
        → AreFieldsOf recorded replayed fields
    fields_of fields listed =
        by_schema (λ s. listed_texts fields ≡ differing_fields s (payload_meaning s recorded.payload)
        (payload_meaning s replayed.payload))
        (listed ∙ ap (λ v. differing_fields s v other) means.1
        ∙ ap (λ v. differing_fields s (payload_meaning s recorded.payload) v) means_other.1)

-- two commands do not mean the same, and this text has their difference
pub differs_by : (ignore : Ignored) (index : ℕ) (recorded replayed : RawMessage) (s : ℕ)
    (typed : AreTyped recorded replayed s) (one other : Parts)
    → MeansParts s recorded.payload one → MeansParts s replayed.payload other
    → ¬ (erased_but ignore s one ≡ erased_but ignore s other)
    → IsFound ignore index recorded replayed (OtherCommand index (command_mismatch_text recorded.header.ty (pos index)
    (difference s (codes "   ") (payload_meaning s recorded.payload) (payload_meaning s replayed.payload))))
differs_by ignore index recorded replayed s typed one other means means_other differ = (
  typed.one_type,
  refl,
  by_schema recorded replayed s typed (MeanOthers ignore index recorded.header.ty recorded.payload replayed.payload
      (command_mismatch_text recorded.header.ty (pos index)
      (difference s (codes "   ") (payload_meaning s recorded.payload) (payload_meaning s replayed.payload)))) (
        means.0,
        means_other.0,
        (λ same. differ (ap (erased_but ignore s) means.1 ∙ same ∙ ap (erased_but ignore s) (sym means_other.1))),
        refl,
      ),
)

module _ (ignore : Ignored) (is_listed : Bool) (index : ℕ) (recorded replayed : RawMessage) where
  -- an allocation may fail
  pub pair_out_of_memory : ReturnsPair ignore is_listed index recorded replayed (Err OutOfMemory)
  unfolding ReturnsPair
  pair_out_of_memory = tt

  -- the payloads are the same bytes, which are well-formed
  pub pair_same_bytes : recorded.header.ty ≡ replayed.header.ty → recorded.payload ≡ replayed.payload
      → IsSomeAnd (message_schema recorded.header.ty) (λ s. IsAccepted s recorded.payload) → ReturnsPair ignore
      is_listed index recorded replayed (Ok None)
  unfolding ReturnsPair
  pair_same_bytes typed same accepted = (typed, of_each (message_schema recorded.header.ty) accepted)
    where
      of_each : (schema : Option ℕ) → IsSomeAnd schema (λ s. IsAccepted s recorded.payload) → IsSomeAnd schema
          (MeanTheSame ignore recorded.payload replayed.payload)
      of_each None h = h
      of_each (Some s) h = subst (λ (other : List ℕ). MeanTheSame ignore recorded.payload other s) same (h, h, refl)

  -- the types differ
  pub pair_types : (text : String Global) (fields : Vec FieldDifference Global) → fields.items ≡ [] → recorded.header.ty
      ≢ replayed.header.ty → string_bytes text ≡ command_type_mismatch_text (pos index) recorded.header.ty
      replayed.header.ty → ReturnsPair ignore is_listed index recorded replayed
      (Ok (Some (record { verdict = TypeMismatch index text; fields = fields })))
  unfolding ReturnsPair
  pair_types text fields none differ says = ((refl, differ, says), none)

  module _ (s : ℕ) (typed : AreTyped recorded replayed s) where
    -- the recorded command is not decoded
    pub pair_recorded : (error : WireError) → (error ≡ wire.Malformed → ¬ (IsAccepted s recorded.payload)) → ReturnsPair
        ignore is_listed index recorded replayed (Err (bench_error_of Recorded index error))
    unfolding ReturnsPair
    pair_recorded wire.OutOfMemory rejected = tt
    pair_recorded wire.Malformed rejected = (
      typed.one_type,
      refl,
      by_schema recorded replayed s typed
          (IsMalformedOn Recorded recorded.payload replayed.payload) (rejected refl),
    )

    -- the replayed one is not
    pub pair_replayed : (one : Parts) (error : WireError) → MeansParts s recorded.payload one →
        (error ≡ wire.Malformed → ¬ (IsAccepted s replayed.payload)) → ReturnsPair ignore is_listed index recorded
        replayed (Err (bench_error_of Replayed index error))
    unfolding ReturnsPair
    pair_replayed one wire.OutOfMemory means rejected = tt
    pair_replayed one wire.Malformed means rejected = (
      typed.one_type,
      refl,
      by_schema recorded replayed s typed (IsMalformedOn Replayed recorded.payload replayed.payload)
          (means.0, rejected refl),
    )

    module _ (one other : Parts) (means : MeansParts s recorded.payload one)
        (means_other : MeansParts s replayed.payload other) where
      -- both mean the same
      pub pair_alike : erased_but ignore s one ≡ erased_but ignore s other → ReturnsPair ignore is_listed index recorded
          replayed (Ok None)
      unfolding ReturnsPair
      pair_alike same = (
        typed.one_type,
        by_schema recorded replayed s typed (MeanTheSame ignore recorded.payload replayed.payload) (
          means.0,
          means_other.0,
          ap (erased_but ignore s) (sym means.1) ∙ same ∙ ap (erased_but ignore s) means_other.1,
        ),
      )

      -- they do not
      pub pair_differs : (text : String Global) (fields : Vec FieldDifference Global)
          → (IsTrue is_listed → listed_texts fields.items ≡ differing_fields s one other) → ¬
          (erased_but ignore s one ≡ erased_but ignore s other) → string_bytes text ≡ command_mismatch_text
          recorded.header.ty (pos index) (difference s (codes "   ") one other) → ReturnsPair ignore is_listed index
          recorded replayed (Ok (Some (record { verdict = HeaderMismatch index text; fields = fields })))
      unfolding ReturnsPair
      pair_differs text fields listed differ says =
          let as_read : string_bytes text ≡ command_mismatch_text recorded.header.ty (pos index)
          (difference s (codes "   ") (payload_meaning s recorded.payload) (payload_meaning s replayed.payload)) =
          says
          ∙ ap (λ v. command_mismatch_text recorded.header.ty (pos index) (difference s (codes "   ") v other)) means.1
          ∙ ap (λ v. command_mismatch_text recorded.header.ty (pos index)
          (difference s (codes "   ") (payload_meaning s recorded.payload) v)) means_other.1 in (
            subst (λ (t : List ℕ). IsFound ignore index recorded replayed (OtherCommand index t)) (sym as_read)
                (differs_by ignore index recorded replayed s typed one other means means_other differ),
            λ is. fields_of recorded replayed s typed one other means means_other fields.items (listed is),
          )
