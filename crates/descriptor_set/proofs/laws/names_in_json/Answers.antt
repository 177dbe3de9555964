use Rattle.std.proofs.Common.{refl}
use Rattle.std.specs.Char.{encode_utf8}
use Rattle.std.specs.Str.{chars}
use Rattle.descriptor_set.proofs.laws.names_in_json.Goals as goal

pub returns-clause-words : goal.returns-clause-words
unfolding chars encode_utf8
returns-clause-words c = refl

pub returns-clause-around : goal.returns-clause-around
unfolding chars encode_utf8
returns-clause-around c = refl

pub returns-clause-digits : goal.returns-clause-digits
unfolding chars encode_utf8
returns-clause-digits c = refl
