use Rattle.desk_epoch_node.proofs.EpochEnds.{ends_by_count, ends_by_replacement, suspicions_lead}
use Rattle.desk_epoch_node.proofs.OneLogRequests.{requests_meet_one_log}
use Rattle.desk_epoch_node.proofs.PreservedHistories.{beginnings_keep, steps_keep}
use Rattle.desk_epoch_node.proofs.ReportedLogs.{telling_serves}
use Rattle.desk_epoch_node.proofs.Standings.{others_are_quiet}
use Rattle.desk_epoch_node.proofs.laws.Goals as goal

pub returns-clause-ends_by_count : goal.returns-clause-ends_by_count
returns-clause-ends_by_count c = ends_by_count

pub returns-clause-ends_by_replacement : goal.returns-clause-ends_by_replacement
returns-clause-ends_by_replacement c = ends_by_replacement

pub returns-clause-quiet : goal.returns-clause-quiet
returns-clause-quiet c = others_are_quiet

pub returns-clause-begins : goal.returns-clause-begins
returns-clause-begins c = suspicions_lead

pub returns-clause-one_log : goal.returns-clause-one_log
returns-clause-one_log c = requests_meet_one_log

pub returns-clause-steps_keep : goal.returns-clause-steps_keep
returns-clause-steps_keep c = steps_keep

pub returns-clause-beginnings_keep : goal.returns-clause-beginnings_keep
returns-clause-beginnings_keep c = beginnings_keep

pub returns-clause-telling : goal.returns-clause-telling
returns-clause-telling c = telling_serves
