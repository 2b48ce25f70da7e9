use Rattle.std.proofs.Common.{◌∙◌}
use Rattle.desk_epoch_opening.specs.declared.publishing.TheConstants.{PART_ENTRIES}
use Rattle.desk_epoch_opening.proofs.PublishedEpochs.{part_more}
use Rattle.desk_epoch_opening.proofs.publishing.publish_parts.Goals as goal

pub parts-preserved : goal.parts-preserved
parts-preserved g c =
    part_more PART_ENTRIES c.parts.writer.noted c.parts.rest.now c.split_at.result.0.now c.split_at.result.1.now
    c.publish_part-back.result.0.noted _ c.split_at.ensures.front c.split_at.ensures.back
    (c.publish_part-back.ensures.noted c.if-not-is_shown.false) c.parts.invariant

pub returns-clause-noted : goal.returns-clause-noted
returns-clause-noted g c = λ is. c.publish_part.ensures.noted is ∙ c.parts.invariant
