-- What is written differently at some versions.
use Rattle.std.specs.Prelude.{true, Some, None, if◌then◌else◌}
use Rattle.shared_core_base.specs.declared.version.Version.{Version}
use Rattle.shared_core_base.specs.Version.{has_flat_suspensions, requests_acknowledgement}
use Rattle.shared_core_wire.specs.Value.{Parts}
use Rattle.shared_core_codec.specs.Table as tables
use Rattle.shared_core_message.specs.Frames.{WireForm, plain_form}
use Rattle.shared_core_runtime.specs.Flattening.{flattened}

-- A suspension's value is written unchanged from V7 on, and flattened before.
abbrev pub suspension_form : Parts → Version → WireForm
suspension_form suspension version =
    if has_flat_suspensions version then plain_form tables.suspension_v6 (flattened suspension)
    else plain_form tables.suspension suspension

-- The proposal of a run's result is written unchanged, and requests an acknowledgement from V7 on.
abbrev pub proposal_form : Parts → Version → WireForm
proposal_form proposal version = record {
  schema = tables.propose_run_completion;
  parts = proposal;
  requested_ack = if requests_acknowledgement version then Some true else None;
}
