use Rattle.desk_codec.proofs.Bodies.{body_fits}
use Rattle.desk_codec.proofs.Packets.{frames_are_one, frames_begin_none, packet_length}
use Rattle.desk_codec.proofs.Entries.{entries_are_one, entries_begin_none}
use Rattle.desk_codec.proofs.Promises.{bodies_are_one}
use Rattle.desk_codec.proofs.laws.spellings.Goals as goal

pub returns-clause-bodies : goal.returns-clause-bodies
returns-clause-bodies c = bodies_are_one

pub returns-clause-entries : goal.returns-clause-entries
returns-clause-entries c = entries_are_one

pub returns-clause-frames : goal.returns-clause-frames
returns-clause-frames c = frames_are_one

pub returns-clause-entries_begin_none : goal.returns-clause-entries_begin_none
returns-clause-entries_begin_none c = entries_begin_none

pub returns-clause-frames_begin_none : goal.returns-clause-frames_begin_none
returns-clause-frames_begin_none c = frames_begin_none

pub returns-clause-body_lengths : goal.returns-clause-body_lengths
returns-clause-body_lengths c = body_fits

pub returns-clause-lengths : goal.returns-clause-lengths
returns-clause-lengths c = packet_length
