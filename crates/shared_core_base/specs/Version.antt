-- The versions of the protocol, and the content types that name them.
use Rattle.std.specs.Prelude.{◌≡◌, ◌≢◌, ◌==◌, ℕ, Bool, List, [], ◌∷◌, ◌++◌, codes, decimal, true, false, Option, Result}
use Rattle.std.specs.Prelude.{Ok, Err, nat_eq, nat_le, nat_lt, find}
use Rattle.std.specs.List.{starts_with}
use Rattle.std.specs.String.{string_bytes}
use Rattle.shared_core_base.specs.declared.version.Version.{Version}
use Rattle.shared_core_base.specs.declared.version.Version.TheVariants.{V1, V2, V3, V4, V5, V6, V7, V8, V9}
use Rattle.shared_core_base.specs.declared.version.ContentTypeError.{ContentTypeError}
use Rattle.shared_core_base.specs.declared.version.ContentTypeError.TheVariants.{RestateContentType, OtherContentType}
use Rattle.shared_core_base.specs.declared.version.ContentTypeError.TheVariants.{OutOfMemory}

-- A version's number.
abbrev pub version_number : Version → ℕ
version_number V1 = 1
version_number V2 = 2
version_number V3 = 3
version_number V4 = 4
version_number V5 = 5
version_number V6 = 6
version_number V7 = 7
version_number V8 = 8
version_number V9 = 9

-- The versions that are supported.
abbrev pub supported_versions : List Version
supported_versions = V5 ∷ V6 ∷ V7 ∷ V8 ∷ V9 ∷ []

-- The supported version that has the number.
abbrev pub supported_version : ℕ → Option Version
supported_version number = find (λ version. version_number version == number) supported_versions

-- Whether a version skips a message of an unknown type with its payload: from V9 on.
abbrev pub skips_unknown_messages : Version → Bool
skips_unknown_messages version = nat_le 9 (version_number version)

-- Whether a suspension has the lists of all futures that are awaited, in place of their tree: before V7.
abbrev pub has_flat_suspensions : Version → Bool
has_flat_suspensions version = nat_lt (version_number version) 7

-- Whether the proposal of a run's result requests an acknowledgement: from V7 on.
abbrev pub requests_acknowledgement : Version → Bool
requests_acknowledgement version = nat_le 7 (version_number version)

-- What the content types of the protocol begin with.
abbrev pub restate_content_types : List ℕ
restate_content_types = codes "application/vnd.restate.invocation."

-- The content type of a version: `v` and the version's number are at its end.
abbrev pub content_type_of : Version → List ℕ
content_type_of version = restate_content_types ++ (codes "v" ++ decimal (version_number version))

-- The text is the content type of no version.
abbrev pub NamesNoVersion : List ℕ → Type 0
NamesNoVersion text = (version : Version) → text ≢ content_type_of version

-- A rejected text is returned: if it begins as a content type of the protocol, in the error for these, otherwise in the
-- other; unless it is not empty and the allocation to keep it failed.
abbrev pub RejectsContentType : List ℕ → ContentTypeError → Type 0
RejectsContentType text (RestateContentType kept) = (starts_with nat_eq text restate_content_types ≡ true) ×
    (string_bytes kept ≡ text)
RejectsContentType text (OtherContentType kept) = (starts_with nat_eq text restate_content_types ≡ false) ×
    (string_bytes kept ≡ text)
RejectsContentType text OutOfMemory = text ≢ []

-- Reading a text returns the version whose content type it is, and rejects the text of no version.
abbrev pub ReadsVersion : List ℕ → Result Version ContentTypeError → Type 0
ReadsVersion text (Ok version) = text ≡ content_type_of version
ReadsVersion text (Err error) = NamesNoVersion text × RejectsContentType text error

-- The code of an error: that of a media type which is not supported, or of a failed allocation.
abbrev pub content_type_error_code : ContentTypeError → ℕ
content_type_error_code (RestateContentType kept) = 415
content_type_error_code (OtherContentType kept) = 415
content_type_error_code OutOfMemory = 500

-- The text of an error, with the text that was rejected.
abbrev pub content_type_error_text : ContentTypeError → List ℕ
content_type_error_text (RestateContentType kept) = codes "unsupported protocol version '" ++
    (string_bytes kept ++ codes "'")
content_type_error_text (OtherContentType kept) =
    codes "unrecognized content-type '"
    ++ (string_bytes kept
    ++ codes "', this is not a restate protocol content type. Make sure you're invoking the service though restate-server, rather than directly.")
content_type_error_text OutOfMemory = codes "out of memory"
