-- The line of JSON of two compared journals.
use Rattle.std.specs.Prelude.{ℕ, List, [], ◌∷◌, ◌++◌, codes, decimal, Option, Some, None}
use Rattle.std.specs.String.{string_bytes}
use Rattle.json.specs.Token.{Token}
use Rattle.json.specs.Json.{Json, number, string, array, object, Items, no_items, item, Members, no_members, member}
use Rattle.json.specs.Tree.{json_tokens}
use Rattle.json.specs.Print.{print}
use Rattle.replay_bench.specs.declared.fields.FieldDifference.{FieldDifference}
use Rattle.replay_bench.specs.declared.verdicts.Comparison.{Comparison}
use Rattle.replay_bench.specs.declared.verdicts.Verdict.{Verdict}
use Rattle.replay_bench.specs.declared.verdicts.Verdict.TheVariants.{Same, RecordedEnded, ReplayedEnded, TypeMismatch}
use Rattle.replay_bench.specs.declared.verdicts.Verdict.TheVariants.{HeaderMismatch}

-- A number before other members.
abbrev pub number_member : List ℕ → ℕ → Members → Members
number_member name n others = member name (number (decimal n)) others

-- The offset of a command before other members, if there is one.
abbrev pub offset_member : List ℕ → Option ℕ → Members → Members
offset_member name None others = others
offset_member name (Some at) others = number_member name at others

-- The tokens of an offset, if there is one.
abbrev pub offset_tokens : List ℕ → Option ℕ → List Token
offset_tokens name None = []
offset_tokens name (Some at) = Token.key name ∷ Token.number (decimal at) ∷ []

-- The members where one journal has ended: what is said, the index, and the offset of the other one's command there.
abbrev pub ended_members : List ℕ → ℕ → List ℕ → Option ℕ → Members
ended_members kind index name at =
    member (codes "verdict") (string kind) (number_member (codes "index") index (offset_member name at no_members))

-- The members of a mismatch of this kind: its index, the offsets of both commands, its text, and then others.
abbrev pub mismatch_members : List ℕ → ℕ → Option ℕ → Option ℕ → List ℕ → Members → Members
mismatch_members kind index recorded_at replayed_at text others =
    member (codes "verdict") (string kind)
    (number_member (codes "index") index
    (offset_member (codes "recordedAt") recorded_at
    (offset_member (codes "replayedAt") replayed_at
    (member (codes "text") (string text) others))))

-- The members of a field in which two commands differ: its name, and what it prints in each.
abbrev pub field_members : FieldDifference → Members
field_members field =
    member (codes "name") (string field.name.now)
    (member (codes "recorded") (string (string_bytes field.recorded))
    (member (codes "replayed") (string (string_bytes field.replayed)) no_members))

-- Its object.
abbrev pub field_json : FieldDifference → Json
field_json field = object (field_members field)

-- The objects of such fields.
abbrev pub field_items : List FieldDifference → Items
field_items [] = no_items
field_items (field ∷ fields) = item (field_json field) (field_items fields)

-- The member with the fields in which two commands differ.
abbrev pub fields_members : List FieldDifference → Members
fields_members fields = member (codes "fields") (array (field_items fields)) no_members

-- The members of a verdict, with the offsets of the last commands that it has seen in both journals, and the fields in
-- which its commands differ. A journal that has ended has no command at the index, and so no offset.
abbrev pub verdict_members : Verdict → Option ℕ → Option ℕ → List FieldDifference → Members
verdict_members (Same count) recorded_at replayed_at fields =
    member (codes "verdict") (string (codes "same")) (number_member (codes "commands") count no_members)
verdict_members (RecordedEnded index) recorded_at replayed_at fields =
    ended_members (codes "recordedEnded") index (codes "replayedAt") replayed_at
verdict_members (ReplayedEnded index) recorded_at replayed_at fields =
    ended_members (codes "replayedEnded") index (codes "recordedAt") recorded_at
verdict_members (TypeMismatch index text) recorded_at replayed_at fields =
    mismatch_members (codes "typeMismatch") index recorded_at replayed_at (string_bytes text) no_members
verdict_members (HeaderMismatch index text) recorded_at replayed_at fields =
    mismatch_members (codes "headerMismatch") index recorded_at replayed_at (string_bytes text) (fields_members fields)

-- The object of a comparison.
abbrev pub found_json : Comparison → Json
found_json found = object (verdict_members found.verdict found.recorded_at found.replayed_at found.fields.items)

-- Its line.
abbrev pub json_line : Comparison → List ℕ
json_line found = print (json_tokens (found_json found)) ++ codes "\n"
