use Rattle.std.proofs.Common.{ℕ, ◌+◌, ◌-◌, ◌≤◌, List, ◌++◌, length, take, drop, Option, sym, ap, subst, ◌∙◌, arith}
use Rattle.std.proofs.Common.{length-take}
use lib.Seq.{take-add, take-take}
use Rattle.std.specs.Io.KnownBytes.{Appends}
use Rattle.std.proofs.KnownBytes.{Appends-trans}
use Rattle.shared_core_io.proofs.output.write_whole.Goals as goal

-- a write took n more bytes
grown : (a b c : Option (List ℕ)) (xs : List ℕ) (done n : ℕ) → done + n ≤ length xs
    → Appends a b (take done xs) → Appends b c (take n (take (length xs - done) (drop done xs))) → Appends a c
    (take (done + n) xs)
grown a b c xs done n h p q =
    let joined = ap (λ l. take done xs ++ l) (take-take n (length xs - done) (drop done xs) (omega arith)) ∙ sym
    (take-add done n xs) in
    subst (Appends a c) joined (Appends-trans a b c _ _ p q)

pub loop-preserved : goal.loop-preserved
loop-preserved g c =
    let done = c.loop.written in
    let n = c.in-Ok.count in
    let xs = c.args.bytes.now in
    let most = length-take (length xs - done) (drop done xs) in
    let fits = c.in-Ok.ensures.bound in
    let part = c.if-written-bytes.false in
    let in_range : done + n ≤ length xs = omega arith in
    (omega (arith, in_range, part), grown _ _ _ xs done n in_range c.loop.invariant.1 c.in-Ok.ensures.written)
