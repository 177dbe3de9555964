use Rattle.shared_core_json_reader.proofs.FirstErrors.{path_turn}
use Rattle.shared_core_json_reader.proofs.read.path_text.Goals as goal

pub loop-step-preserved : goal.loop-step-preserved
loop-step-preserved c = path_turn c.loop-step.is_first _ _ c.loop-step.trail.items c.pop.new.self.items c.in-Some.step _
    c.in-Some.ensures.items c.in_ok-push_step.ensures c.loop-step.invariant
