use Rattle.std.proofs.Common.{◌∙◌, ap}
use Rattle.descriptor_set.specs.Found.{index_of}
use Rattle.descriptor_set.specs.Tables.{message_names}
use Rattle.descriptor_set.proofs.FirstName.{first}
use Rattle.descriptor_set.proofs.set.DescriptorSet.message_index.Goals as goal

pub returns-clause-first : goal.returns-clause-first
returns-clause-first c sorted =
    c.find.ensures
    ∙ ap (λ messages. index_of (message_names messages) c.args.name.now) c.as_slice.ensures.value
    ∙ first (message_names c.args.self.now.messages.items) c.args.name.now sorted
