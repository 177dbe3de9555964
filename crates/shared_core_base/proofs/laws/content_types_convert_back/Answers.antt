use Rattle.std.proofs.Common.{◌≡◌, Ok, Err, refl, ap, sym}
use Rattle.std.specs.Prelude.{Result}
use Rattle.shared_core_base.proofs.Versions.{content_types_differ}
use Rattle.shared_core_base.specs.Version.{content_type_of, ReadsVersion}
use Rattle.shared_core_base.specs.declared.version.Version.{Version}
use Rattle.shared_core_base.specs.declared.version.ContentTypeError.{ContentTypeError}
use Rattle.shared_core_base.proofs.laws.content_types_convert_back.Goals as goal

-- what a version's content type is read as
read_back : (version : Version) (returned : Result Version ContentTypeError) → ReadsVersion (content_type_of version)
    returned → returned ≡ Ok version
read_back version (Ok found) reads = ap Ok (sym (content_types_differ version found reads))
read_back version (Err error) reads = absurd (reads.0 version refl)

pub returns : goal.returns
returns c = read_back c.args.version c.from_str.result (rw c.content_type.ensures at c.from_str.ensures)
