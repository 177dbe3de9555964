-- The place of a command in its journal.
use Rattle.std.proofs.Common.{◌≡◌, ℕ, ◌+◌, Bool, List, [], ◌∷◌, ◌++◌, Option, Some, None, Ok, length, sym, ap, ◌∙◌}
use Rattle.std.proofs.Common.{subst, append_assoc, length-append}
use Rattle.std.specs.Prelude.{IsTrue}
use Rattle.shared_core_base.specs.declared.version.Version.{Version}
use Rattle.shared_core_stream.specs.declared.encoding.raw_message.RawMessage.{RawMessage}
use Rattle.replay_bench.specs.declared.journals.Ignored.{Ignored}
use Rattle.replay_bench.specs.declared.fields.FieldDifference.{FieldDifference}
use Rattle.replay_bench.specs.declared.verdicts.Verdict.{Verdict}
use Rattle.replay_bench.specs.declared.verdicts.Verdict.TheVariants.{Same, RecordedEnded, ReplayedEnded, TypeMismatch}
use Rattle.replay_bench.specs.declared.verdicts.Verdict.TheVariants.{HeaderMismatch}
use Rattle.replay_bench.specs.Fields.{IsKnownCommandAt}
use Rattle.replay_bench.specs.Journals.{IsJournal}
use Rattle.replay_bench.specs.Outcomes.{outcome_of}
use Rattle.replay_bench.specs.Taking.{TakesFirst}
use Rattle.replay_bench.specs.declared.mismatches.Found.{Found}
use Rattle.replay_bench.specs.Verdicts.{HasFields, HasFieldsOn, IsFound, ReturnsNext}
use Rattle.replay_bench.proofs.Endings.{IsNext, is_found}
use Rattle.replay_bench.proofs.Fronts.{journal_of}

module _ (version : Version) where
  -- Whatever commands what is left of a journal has, the whole one has this many before them.
  pub record IsAfter (journal : List ℕ) (index : ℕ) (left : List ℕ) : Type 0 where
    pub whole : (commands : List RawMessage) → IsJournal version left commands
        → (before : List RawMessage) × (length before ≡ index) × IsJournal version journal (before ++ commands)

  -- The same of a journal whose bytes are known.
  abbrev pub IsKnownAfter : Option (List ℕ) → ℕ → Option (List ℕ) → Type 0
  IsKnownAfter None index left = Unit {0}
  IsKnownAfter (Some journal) index None = ⊥
  IsKnownAfter (Some journal) index (Some left) = IsAfter journal index left

  module _ (index : ℕ) (command : RawMessage) where
    -- a command is taken
    pub after_more : (journal left now : Option (List ℕ)) → IsKnownAfter journal index left
        → TakesFirst version left (Some command) now
        → IsKnownAfter journal (index + 1) now
    after_more None left now after takes = tt
    after_more (Some journal) None now after takes = absurd after
    after_more (Some journal) (Some left) None after takes = absurd takes
    after_more (Some journal) (Some left) (Some now) after takes = record {
      whole = λ commands is.
          let (before, place, whole) = after.whole (command ∷ commands) (takes commands is) in (
            before ++ (command ∷ []),
            length-append before (command ∷ []) ∙ ap (λ n. n + 1) place,
            subst (λ (all : List RawMessage). IsJournal version journal all)
                (sym (append_assoc before (command ∷ []) commands)) whole,
          );
    }

    -- it is the command at this index
    pub command_is_at : (journal left now : Option (List ℕ)) → IsKnownAfter journal index left
        → TakesFirst version left (Some command) now
        → IsKnownCommandAt version journal index command
    command_is_at None left now after takes = tt
    command_is_at (Some journal) None now after takes = absurd after
    command_is_at (Some journal) (Some left) None after takes = absurd takes
    command_is_at (Some journal) (Some left) (Some now) after takes =
        let (commands, is) = journal_of version now in
        let (before, place, whole) = after.whole (command ∷ commands) (takes commands is) in
        record { before = before; after = commands; is = whole; place = place }

  -- fields of two commands are those of their verdict
  pub fields_found : (ignore : Ignored) (is_listed : Bool) (index : ℕ) (one other : RawMessage)
      (recorded replayed : Option (List ℕ)) (verdict : Verdict) (fields : List FieldDifference)
      → IsKnownCommandAt version recorded index one → IsKnownCommandAt version replayed index other
      → IsFound ignore index one other (outcome_of verdict) → HasFields is_listed one other verdict fields
      → IsTrue is_listed
      → HasFieldsOn version recorded replayed verdict fields
  fields_found ignore is_listed index one other recorded replayed (Same count) fields at at_other found has listed = has
  fields_found ignore is_listed index one other recorded replayed
      (RecordedEnded count) fields at at_other found has listed = has
  fields_found ignore is_listed index one other recorded replayed
      (ReplayedEnded count) fields at at_other found has listed = has
  fields_found ignore is_listed index one other recorded replayed
      (TypeMismatch place text) fields at at_other found has listed = has
  fields_found ignore is_listed index one other recorded replayed
      (HeaderMismatch place text) fields at at_other found has listed = (
        one,
        other,
        subst (λ (n : ℕ). IsKnownCommandAt version recorded n one) (sym found.1) at,
        subst (λ (n : ℕ). IsKnownCommandAt version replayed n other) (sym found.1) at_other,
        has listed,
      )

  -- fields that come with the result for the next commands
  pub fields_next : (ignore : Ignored) (is_listed : Bool) (index : ℕ) (next other : Option RawMessage) (found : Found)
      (recorded replayed left others now then : Option (List ℕ))
      → IsKnownAfter recorded index left → IsKnownAfter replayed index others
      → IsNext version ignore version left next now → IsNext version ignore version others other then
      → ReturnsNext ignore is_listed index next other (Ok (Some found)) → IsTrue is_listed
      → HasFieldsOn version recorded replayed found.verdict found.fields.items
  fields_next ignore is_listed index None None found recorded replayed left others now then after more one last is
      listed =
      subst (λ (v : Verdict). HasFieldsOn version recorded replayed v found.fields.items) (sym is.0) is.1
  fields_next ignore is_listed index None (Some other) found recorded replayed left others now then after more one last
      is listed =
      subst (λ (v : Verdict). HasFieldsOn version recorded replayed v found.fields.items) (sym is.0) is.1
  fields_next ignore is_listed index (Some command) None found recorded replayed left others now then after more one
      last is listed =
      subst (λ (v : Verdict). HasFieldsOn version recorded replayed v found.fields.items) (sym is.0) is.1
  fields_next ignore is_listed index (Some command) (Some other) found recorded replayed left others now then after more
      one last is listed =
      let (outcome, fields) = is_found version ignore is_listed index command other found is in
      fields_found ignore is_listed index command other recorded replayed found.verdict found.fields.items
      (command_is_at index command recorded left now after one) (command_is_at index other replayed others then more
      last) outcome fields listed
