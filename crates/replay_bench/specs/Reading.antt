-- What was read of a journal: its items so far, and their survey.
use Rattle.std.specs.Prelude.{◌≡◌, ℕ, ◌<◌, ◌^◌, Bool, true, false, List, count_by, Option, Some, None}
use Rattle.shared_core_base.specs.declared.version.Version.{Version}
use Rattle.shared_core_stream.specs.declared.encoding.item.Item.{Item}
use Rattle.shared_core_stream.specs.Items.{IsItemsThen}
use Rattle.replay_bench.specs.declared.survey.Survey.{Survey}
use Rattle.replay_bench.specs.Sources.{EndsKnown}
use Rattle.replay_bench.specs.Survey.{IsSurvey, is_command, last_command, survey_of}
use Rattle.replay_bench.specs.declared.verdicts.Side.{Side}

-- A journal whose bytes are known has these items, and then these bytes.
abbrev pub IsKnownThen : Version → Option (List ℕ) → List Item → Option (List ℕ) → Type 0
IsKnownThen version None items left = Unit {0}
IsKnownThen version (Some stream) items None = ⊥
IsKnownThen version (Some stream) items (Some left) = IsItemsThen version stream items left

-- Of the bytes that were to come at first these are left, and this is the survey of the items before them, and of a
-- rest.
pub record HasRead (version : Version) (is_strict : Bool) (first left : Option (List ℕ)) (rest : ℕ) (survey : Survey)
    : Type 0 where
  pub items : List Item
  pub items_then : IsKnownThen version first items left
  pub is : survey ≡ survey_of version is_strict items rest

-- The same of some bytes, strict or not.
abbrev pub HasReadSome : Version → Option (List ℕ) → Survey → Type 0
HasReadSome version left survey =
    (is_strict : Bool) × (first : Option (List ℕ)) × HasRead version is_strict first left 0 survey

-- What is left of a journal that has ended, or has not: a rest that begins no item; or what is to come.
abbrev pub IsLeft : Version → Bool → Option (List ℕ) → Option (List ℕ) → ℕ → Type 0
IsLeft version true left coming rest = EndsKnown version left rest
IsLeft version false left coming rest = (left ≡ coming) × (rest ≡ 0)

-- A journal was read to its end, or not: as far as its source has given.
pub record HasReadOn (version : Version) (is_strict : Bool) (first : Option (List ℕ)) (has_ended : Bool)
    (coming : Option (List ℕ)) (survey : Survey) : Type 0 where
  pub left : Option (List ℕ)
  pub rest : ℕ
  pub has_read : HasRead version is_strict first left rest survey
  pub is_left : IsLeft version has_ended left coming rest

-- A journal on a side was read on, to its end or not, and has this many commands so far.
pub record IsReading (version : Version) (side : Side) (is_strict : Bool) (first : Option (List ℕ)) (has_ended : Bool)
    (count : ℕ) (own : Side) (notes reads : Version) (coming : Option (List ℕ)) (survey : Survey) : Type 0 where
  pub side_is : own ≡ side
  pub noted_is : notes ≡ version
  pub version_is : reads ≡ version
  pub fits : survey.size < 2 ^ 64
  pub read_on : HasReadOn version is_strict first has_ended coming survey
  pub counted : survey.commands ≡ count

-- The survey of a journal, where its bytes are known.
abbrev pub IsKnownSurvey : Version → Bool → Option (List ℕ) → Survey → Type 0
IsKnownSurvey version is_strict None survey = Unit {0}
IsKnownSurvey version is_strict (Some stream) survey = IsSurvey version is_strict stream survey

-- A journal begins with items that have this many commands, and the last one is at this offset.
pub record IsLastOf (version : Version) (stream : List ℕ) (count : ℕ) (at : Option ℕ) : Type 0 where
  pub items : List Item
  pub rest : List ℕ
  pub items_then : IsItemsThen version stream items rest
  pub counted : count ≡ count_by is_command items
  pub is : at ≡ last_command 0 None items

-- The same of a journal whose bytes are known.
abbrev pub IsKnownLast : Version → Option (List ℕ) → ℕ → Option ℕ → Type 0
IsKnownLast version None count at = Unit {0}
IsKnownLast version (Some stream) count at = IsLastOf version stream count at
