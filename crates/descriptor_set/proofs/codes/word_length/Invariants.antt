use Rattle.std.proofs.Common.{◌≡◌, ◌+◌, length}
use Rattle.std.specs.List.{prefix_len}
use Rattle.descriptor_set.specs.Codes.{is_word}
use Rattle.descriptor_set.proofs.codes.word_length.Given as goal

abbrev pub invariant-loop-first : goal.invariant-loop-first
invariant-loop-first l =
    (l.length + prefix_len is_word l.rest ≡ prefix_len is_word l.text) × (l.length + length l.rest ≡ length l.text)

abbrev pub decreases-loop-first : goal.decreases-loop-first
decreases-loop-first l = length l.rest
