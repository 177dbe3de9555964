use Rattle.shared_core_wire.proofs.TemplateView.{payload_views}
use Rattle.shared_core_wire.proofs.laws.template_views_payloads.Goals as goal

pub returns : goal.returns
returns c table = payload_views table
