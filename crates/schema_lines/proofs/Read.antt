-- How many messages payloads are read by.
use Rattle.std.proofs.Common.{◌≡◌, ℕ, ◌<◌, ◌≤◌, ◌^◌, Option, List, [], ◌∷◌, length, refl, arith, ap}
use Rattle.descriptor_set.specs.declared.set.DescriptorSet.{DescriptorSet}
use Rattle.schema_lines.specs.declared.codes.Saying.{Saying}
use Rattle.schema_lines.specs.Chosen.{choices}
use Rattle.schema_lines.specs.MessageNames.{message_codes}
use Rattle.schema_lines.specs.Pairs.{read_of}
use Rattle.schema_lines.specs.Sayings.{sayings_of}

choices_few : (said : List Saying) (codes named : List (Option ℕ)) → length (choices said codes named) ≤ length codes
choices_few said [] named = omega arith
choices_few said (code ∷ codes) [] = omega arith
choices_few said (code ∷ codes) (first ∷ named) = omega (arith, choices_few said codes named)

codes_few : length message_codes ≡ 53
unfolding message_codes
codes_few = refl

pub read_few : (set : DescriptorSet) (own read : List (Option ℕ)) → read ≡ read_of set own → length read < 2 ^ 32
unfolding read_of
read_few set own read e =
    let few : length read ≤ 53 =
    omega (arith, ap length e, choices_few (sayings_of set.messages.items own) message_codes own, codes_few) in
    omega arith
