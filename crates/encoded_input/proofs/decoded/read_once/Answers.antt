use Rattle.std.proofs.Common.{◌≡◌, ℕ, length, take, List, [], ap, rules}
use Rattle.encoded_input.proofs.Reading.{end_gives, end_keeps, end_over, end_same, no_end, read_gives, read_keeps}
use Rattle.encoded_input.proofs.Reading.{read_same}
use Rattle.encoded_input.proofs.decoded.read_once.Goals as goal

none_taken : (count : ℕ) (bytes : List ℕ) → count ≡ 0 → take count bytes ≡ []
none_taken count bytes is = ap (λ (n : ℕ). take n bytes) is

pub returns-in-Some-clause-bytes : goal.returns-in-Some-clause-bytes
returns-in-Some-clause-bytes g c =
    let taken = c.in_ok-count.ensures.bytes in
    end_keeps c.args.position.now _ _ (none_taken _ c.read.new.buf c.if-count-eq0.true) _ _ taken.0
    (taken.1 c.if-count-eq0.true (search rules))

pub returns-in-Some-clause-same : goal.returns-in-Some-clause-same
returns-in-Some-clause-same g c =
    let taken = c.in_ok-count.ensures.bytes in
    end_same c.args.position.now _ _ _ _ (none_taken _ c.read.new.buf c.if-count-eq0.true)
    c.end.ensures.position taken.0
    (taken.1 c.if-count-eq0.true (search rules))

pub returns-in-None-clause-bytes : goal.returns-in-None-clause-bytes
returns-in-None-clause-bytes g c =
    let taken = c.in_ok-count.ensures.bytes in
    let over = taken.1 c.if-count-eq0.true (search rules) in (
      end_gives c.args.position.now _ _ (none_taken _ c.read.new.buf c.if-count-eq0.true) _ _ taken.0 over,
      λ _ _. end_over c.args.position.now _ _ (none_taken _ c.read.new.buf c.if-count-eq0.true) _ over,
    )

pub returns-then-given-eq0-clause-bytes : goal.returns-then-given-eq0-clause-bytes
returns-then-given-eq0-clause-bytes g c =
    let decoded = c.decode_front-given.ensures in
    read_keeps c.args.position.now _ _ _ decoded.position decoded.bytes _ _
    (none_taken _ c.decode_front-given.new.buf c.if-given-eq0.true) c.in_ok-count.ensures.bytes.0

pub returns-then-given-eq0-clause-same : goal.returns-then-given-eq0-clause-same
returns-then-given-eq0-clause-same g c =
    let decoded = c.decode_front-given.ensures in
    read_same c.args.position.now _ _ _ decoded.position decoded.bytes _ _ c.in_ok-count.ensures.bytes.0

pub returns-clause-bytes : goal.returns-clause-bytes
returns-clause-bytes g c =
    let decoded = c.decode_front-given.ensures in (
      read_gives c.args.position.now _ _ _ decoded.position decoded.bytes _ _ c.in_ok-count.ensures.bytes.0,
      no_end c.decode_front-given.result (length c.decode_front-given.new.buf) _ c.if-given-eq0.false,
    )

pub returns-clause-same : goal.returns-clause-same
returns-clause-same g c =
    let decoded = c.decode_front-given.ensures in
    read_same c.args.position.now _ _ _ decoded.position decoded.bytes _ _ c.in_ok-count.ensures.bytes.0
