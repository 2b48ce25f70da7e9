use Rattle.desk_saved.proofs.ClientRoom.{grown_desk, grows}
use Rattle.desk_saved.proofs.OldStates.{one_old_file, grown_file}
use Rattle.desk_saved.proofs.Restarts.{one_schema, one_file, file_there}
use Rattle.desk_saved.proofs.Room.{desk_of, becomes}
use Rattle.desk_saved.proofs.laws.Goals as goal

pub returns-clause-room : goal.returns-clause-room
returns-clause-room c = λ schema has. (desk_of schema has, becomes schema has)

pub returns-clause-grown : goal.returns-clause-grown
returns-clause-grown c = λ schema old has. (grown_desk schema old has, grows schema old has)

pub returns-clause-old_states : goal.returns-clause-old_states
returns-clause-old_states c = one_old_file

pub returns-clause-grown_files : goal.returns-clause-grown_files
returns-clause-grown_files c = grown_file

pub returns-clause-schemas : goal.returns-clause-schemas
returns-clause-schemas c = one_schema

pub returns-clause-states : goal.returns-clause-states
returns-clause-states c = one_file

pub returns-clause-there : goal.returns-clause-there
returns-clause-there c = file_there
