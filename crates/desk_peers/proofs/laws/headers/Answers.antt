use Rattle.desk_peers.proofs.Headers.{frames_begin_no_header, headers_are_one, headers_written, streams_are_one}
use Rattle.desk_peers.proofs.Starts.{others_begin_none}
use Rattle.desk_peers.proofs.laws.headers.Goals as goal

pub returns-clause-frames : goal.returns-clause-frames
returns-clause-frames c = frames_begin_no_header c.spellings.ensures.lengths

pub returns-clause-one : goal.returns-clause-one
returns-clause-one c = headers_are_one

pub returns-clause-reported : goal.returns-clause-reported
returns-clause-reported c = headers_written c.spellings.ensures.lengths

pub returns-clause-streams : goal.returns-clause-streams
returns-clause-streams c = streams_are_one c.spellings.ensures.frames_begin_none c.spellings.ensures.lengths

pub returns-clause-others : goal.returns-clause-others
returns-clause-others c = others_begin_none c.spellings.ensures.lengths
