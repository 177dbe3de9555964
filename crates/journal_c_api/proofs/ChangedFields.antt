-- One of the fields in which two commands differ, by its index.
use Rattle.std.proofs.Common.{◌≡◌, ◌∙◌, ℕ, ◌<◌, ◌≤◌, List, length, get_or, Option, Some, None, Result, Ok, Err, false}
use Rattle.std.proofs.Common.{refl, sym, ap, subst}
use Rattle.std.specs.Prelude.{nat_lt, option_map, slice_get}
use Rattle.std.proofs.lemmas.Option.{slice_get-map, slice_get_past, slice_get_read}
use Rattle.shared_core_base.specs.MessageType.{type_of}
use Rattle.shared_core_compare.specs.Differences.{FieldTexts}
use Rattle.replay_bench.specs.declared.fields.FieldDifference.{FieldDifference}
use Rattle.replay_bench.specs.Fields.{listed_texts, texts_of}
use Rattle.journal_c_api.specs.declared.outcome.CallError.{CallError}
use Rattle.journal_c_api.specs.declared.outcome.CallError.TheVariants.{OutOfMemory}
use Rattle.journal_c_api.specs.Commands.{AreChangedFields, AtSchema, ComparesPayloads, ReturnsChangedField}
use Rattle.journal_c_api.specs.Commands.{ReturnsChangedFields, WritesChangedField, WritesFound, schema_of_type}

-- where there are fields, an allocation may fail
may_fail : (code : ℕ) (first second : List ℕ) (fields : List FieldTexts)
    → ReturnsChangedFields code first second (Ok fields) → ReturnsChangedFields code first second (Err OutOfMemory)
may_fail code first second fields = of_schema (schema_of_type (type_of code))
  where
    At : Option ℕ → Result (List FieldTexts) CallError → Type 0
    At schema outcome = AtSchema schema outcome
        (λ s. ComparesPayloads (AreChangedFields s) s first second outcome)

    of_schema : (schema : Option ℕ) → At schema (Ok fields) → At schema (Err OutOfMemory)
    of_schema (Some s) held = tt
    of_schema None held = absurd cc

module _ (code index : ℕ) (first second : List ℕ) (shown fields : List FieldDifference) (is : shown ≡ fields)
    (are : ReturnsChangedFields code first second (Ok (listed_texts fields)))
    (old_numbers : List ℕ) (room : nat_lt (length old_numbers) 3 ≡ false) where
  one_listed : slice_get (listed_texts fields) index ≡ option_map texts_of (slice_get shown index)
  one_listed = slice_get-map texts_of fields index ∙ ap (λ l. option_map texts_of (slice_get l index)) (sym is)

  pub field_written : (field : FieldDifference) → index < length shown → field ≡ get_or shown index field
      → (new_numbers old new : List ℕ) (outcome : Result ℕ CallError)
      → WritesFound (texts_of field) old_numbers new_numbers old new outcome
      → WritesChangedField (ReturnsChangedField code index (length old_numbers) first second) old_numbers new_numbers
      old new outcome
  field_written field within here new_numbers old new (Ok count) written = (
    Some (texts_of field),
    (
      listed_texts fields,
      room,
      are,
      sym (one_listed ∙ ap (option_map texts_of) (slice_get_read shown (length shown) index field refl within here)),
    ),
    written,
  )
  field_written field within here new_numbers old new (Err error) (memory, stands, kept) = (
    rw room (subst (λ (e : CallError). ReturnsChangedFields code first second (Err e)) (sym memory)
        (may_fail code first second (listed_texts fields) are)),
    stands,
    kept,
  )

  pub no_field_written : length shown ≤ index → (old : List ℕ)
      → WritesChangedField (ReturnsChangedField code index (length old_numbers) first second) old_numbers old_numbers
      old old (Ok 0)
  no_field_written past old = (
    None,
    (listed_texts fields, room, are, sym (one_listed ∙ ap (option_map texts_of) (slice_get_past shown index past))),
    (refl, refl, refl),
  )
