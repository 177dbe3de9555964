-- What a line says of a header, and the faults of that.
use Rattle.std.proofs.Common.{◌≡◌, ℕ, Bool, List, Result, Ok, Err, refl, ap}
use Rattle.make_lines.specs.Errors.{LineFault}
use Rattle.make_lines.specs.Lines.{then_read}

-- Without a code or a flag nothing more is read.
pub no_head : (code : Result ℕ LineFault) (flag : ℕ → Result Bool LineFault) (next : ℕ → Bool → Result (List ℕ)
    LineFault) (fault : LineFault) → then_read flag code ≡ Err fault → then_read (λ n. then_read (next n) (flag n))
    code ≡ Err fault
no_head (Ok n) flag next fault e = rw e refl
no_head (Err other) flag next fault e = let same : other ≡ fault = cc in ap Err same
