use Rattle.desk_file.proofs.EpochEnds.{shown_for_some}
use Rattle.desk_file.proofs.epoch_end.has_ended.Goals as goal

pub returns-clause-ended : goal.returns-clause-ended
returns-clause-ended g c = λ clean.
    shown_for_some g.S.Store _ c.places_of.new.connection c.ends_at.new.connection c.ends_at.result
    (c.ends_at.ensures.ended clean)
