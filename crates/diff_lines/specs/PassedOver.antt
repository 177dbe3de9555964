-- What a comparison passes over, and which of it is reported or an error.
use Rattle.std.specs.Prelude.{ℕ, Bool, List, ◌++◌, codes, decimal, ◌==◌, ◌||◌, nat_lt, if◌then◌else◌, nat_eq, Option}
use Rattle.std.specs.Prelude.{Some, None}
use Rattle.shared_core_base.specs.declared.version.Version.{Version}
use Rattle.shared_core_base.specs.Version.{version_number}
use Rattle.replay_bench.specs.declared.verdicts.Side.{Side}
use Rattle.replay_bench.specs.declared.verdicts.Side.TheVariants.{Recorded, Replayed}
use Rattle.replay_bench.specs.Texts.{side_text}
use Rattle.replay_bench.specs.declared.faults.Fault.{Fault}
use Rattle.replay_bench.specs.declared.faults.FaultReason.{FaultReason}
use Rattle.replay_bench.specs.declared.faults.FaultReason.TheVariants as reason
use Rattle.replay_bench.specs.declared.survey.Survey.{Survey}
use Rattle.replay_bench.specs.Survey.{trouble_of}
use Rattle.replay_bench.specs.FaultTexts.{fault_text}
use Rattle.diff_lines.specs.declared.passed_over.Note.{Note}
use Rattle.diff_lines.specs.declared.passed_over.Note.TheVariants.{UnknownHeaders, Rest, Empty, NoItem}
use Rattle.diff_lines.specs.declared.passed_over.Trouble.{Trouble}

-- The text of what is wrong: the journal, where and why.
abbrev pub trouble_text : Trouble → List ℕ
trouble_text trouble = codes "the " ++ (side_text trouble.side ++ (codes " journal, " ++ fault_text trouble.fault))

-- A fault of the journal of a side.
abbrev pub on_side : Side → Option Fault → Option Trouble
on_side side None = None
on_side side (Some fault) = Some (record { side = side; fault = fault })

-- The first of two, if there is one.
abbrev pub first_trouble : Option Trouble → Option Trouble → Option Trouble
first_trouble (Some trouble) later = Some trouble
first_trouble None later = later

-- What is wrong with a journal: the first of all that may be, if the comparison is strict or the journal has no
-- complete item; otherwise nothing.
abbrev pub wrong_with : Bool → Survey → Option Fault
wrong_with is_strict survey = if is_strict || (survey.size == 0) then trouble_of survey else None

-- What is wrong with two journals of these surveys, the recorded one first.
abbrev pub found_trouble : Bool → Survey → Survey → Option Trouble
found_trouble is_strict recorded replayed =
    first_trouble (on_side Recorded (wrong_with is_strict recorded)) (on_side Replayed (wrong_with is_strict replayed))

-- `header` or `headers`, by their number.
abbrev pub headers_word : ℕ → List ℕ
headers_word count = if nat_eq count 1 then codes "header" else codes "headers"

-- `byte` or `bytes`, by their number.
abbrev pub bytes_word : ℕ → List ℕ
bytes_word count = if nat_eq count 1 then codes "byte" else codes "bytes"

-- The sentence of a note.
abbrev pub note_text : Note → List ℕ
note_text (UnknownHeaders side count) =
    codes "the " ++ (side_text side ++ (codes " journal has " ++
    (decimal count ++ (codes " unknown " ++ headers_word count))))
note_text (Rest side count) =
    codes "the " ++ (side_text side ++ (codes " journal has " ++
    (decimal count ++ (codes " " ++ (bytes_word count ++ codes " after its last whole item")))))
note_text (Empty side) = codes "the " ++ (side_text side ++ codes " journal is empty")
note_text (NoItem side number) =
    codes "no message in the " ++ (side_text side ++ (codes " journal; is it a journal of version " ++
    (decimal number ++ codes "?")))

-- The note on the unknown headers of a journal: their number, if there are any.
abbrev pub unknown_note : Side → Survey → Option Note
unknown_note side survey = if survey.unknown == 0 then None else Some (UnknownHeaders side survey.unknown)

-- The note on the bytes after the last complete item of a journal: their number, if there are any.
abbrev pub rest_note : Side → Survey → Option Note
rest_note side survey = if survey.rest == 0 then None else Some (Rest side survey.rest)

-- The note on a journal without a byte.
abbrev pub empty_note : Side → Survey → Option Note
empty_note side survey = if nat_lt 0 survey.size || nat_lt 0 survey.rest then None else Some (Empty side)

-- The note on a journal whose bytes are all after the last complete item, for this reason.
abbrev pub no_item_for : Version → Side → FaultReason → Option Note
no_item_for version side (reason.Rest count) = Some (NoItem side (version_number version))
no_item_for version side reason = None

-- The note on what is wrong with a journal, where it has bytes and no complete item: it may be something else, or of
-- another version.
abbrev pub no_item_note : Version → Trouble → Option Note
no_item_note version trouble =
    if nat_lt 0 trouble.fault.offset then None else no_item_for version trouble.side trouble.fault.reason
