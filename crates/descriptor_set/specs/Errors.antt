-- The errors of a set.
use Rattle.std.specs.Prelude.{Bool, true, false}
use Rattle.descriptor_set.specs.declared.error.DescriptorError.{DescriptorError}
use Rattle.descriptor_set.specs.declared.error.DescriptorError.TheVariants.{Malformed}

-- Whether an error is that of bytes that are not a set.
abbrev pub is_malformed : DescriptorError → Bool
is_malformed (Malformed place) = true
is_malformed e = false
