-- The members of a line, by their names.
use Rattle.std.specs.Prelude.{ℕ, Bool, true, false, not, ◌&&◌, ◌||◌, List, [], codes, if◌then◌else◌, Option, Some, None}
use Rattle.std.specs.Prelude.{option_and_then}
use Rattle.std.specs.Option.{is_none, option_or}
use Rattle.std.specs.Str.{bytes_eq}
use Rattle.json.specs.Json.{Json, null, boolean, number, string, array, object, Members, no_members, member}
use Rattle.json.specs.Find.{get}
use Rattle.shared_core_json_reader.specs.declared.error.Reason.TheVariants.{UnknownMember, RepeatedMember, WrongKind}
use Rattle.json_table.specs.Places.{present}
use Rattle.make_lines.specs.declared.error.LineReason.TheVariants.{Json as Wrong, SeveralPayloads}
use Rattle.make_lines.specs.Errors.{LineFault, at}

-- Whether a key is one of those that say what an item is.
abbrev pub says_item : List ℕ → Bool
says_item key =
    ((((bytes_eq key (codes "type") || bytes_eq key (codes "code")) || bytes_eq key (codes "message")) || bytes_eq key
    (codes "unknown"))
    || (bytes_eq key (codes "header") || bytes_eq key (codes "requestedAck"))) || bytes_eq key (codes "ack")

-- Whether a key is one of those that give bytes, or say that these are after the last item.
abbrev pub says_bytes : List ℕ → Bool
says_bytes key = (bytes_eq key (codes "bytes") || bytes_eq key (codes "payload")) || bytes_eq key (codes "rest")

-- Whether a key is one of the others of a dump, which are ignored.
abbrev pub is_passed_over : List ℕ → Bool
is_passed_over key =
    ((bytes_eq key (codes "offset") || bytes_eq key (codes "length")) || bytes_eq key (codes "malformed")) || bytes_eq
    key (codes "skipped")

-- Whether a line may have a member with this key.
abbrev pub is_known : List ℕ → Bool
is_known key = (says_item key || says_bytes key) || is_passed_over key

-- Whether a member has this key.
abbrev pub has_key : List ℕ → Members → Bool
has_key key no_members = false
has_key key (member k j ms) = if bytes_eq k key then true else has_key key ms

-- The fault of some members: of the first one whose key a line may not have, or whose key occurs again.
abbrev pub members_fault : Members → Option LineFault
members_fault no_members = None
members_fault (member k j ms) =
    if is_known k then (if has_key k ms then Some (at k (Wrong RepeatedMember)) else members_fault ms) else Some
    (at k (Wrong UnknownMember))

-- The fault of a value that should be an object of such members.
abbrev pub object_fault : Json → Option LineFault
object_fault null = Some (at [] (Wrong WrongKind))
object_fault (boolean b) = Some (at [] (Wrong WrongKind))
object_fault (number s) = Some (at [] (Wrong WrongKind))
object_fault (string s) = Some (at [] (Wrong WrongKind))
object_fault (array js) = Some (at [] (Wrong WrongKind))
object_fault (object ms) = members_fault ms

-- The value of a member, if it is present and not null.
abbrev pub given : List ℕ → Json → Option Json
given name j = option_and_then present (get name j)

-- The value of a member by either of its names.
abbrev pub given_either : List ℕ → List ℕ → Json → Option Json
given_either name other j = option_or (given name j) (given other j)

-- Whether both names have values.
abbrev pub gives_both : List ℕ → List ℕ → Json → Bool
gives_both name other j = not (is_none (given name j)) && not (is_none (given other j))

-- The name under which a member is given that has two.
abbrev pub given_name : List ℕ → List ℕ → Json → List ℕ
given_name name other j = if is_none (given name j) then other else name

-- The fault of two members that give the same under two names.
abbrev pub pairs_fault : Json → Option LineFault
pairs_fault j =
    if gives_both (codes "bytes") (codes "payload") j
    then Some (at [] SeveralPayloads)
    else (if gives_both (codes "requestedAck") (codes "ack") j then Some (at (codes "ack") (Wrong RepeatedMember)) else
    None)

-- The fault of a value that should be an object of members that a line may have, none of them twice or under two names.
unfoldable pub shape_fault : Json → Option LineFault
shape_fault j = option_or (object_fault j) (pairs_fault j)
