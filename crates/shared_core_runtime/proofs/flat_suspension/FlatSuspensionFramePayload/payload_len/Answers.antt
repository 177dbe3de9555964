use Rattle.std.proofs.Math.Logic.{∥∥₁_elim}
use Rattle.shared_core_runtime.proofs.AwaitedLists.{flat_prop}
use Rattle.shared_core_runtime.proofs.flat_suspension.FlatSuspensionFramePayload.payload_len.Goals as goal

pub returns-clause-fit : goal.returns-clause-fit
returns-clause-fit c = ∥∥₁_elim c.args.self.now.fits (flat_prop _) (λ f. f)
