use Rattle.desk_world.proofs.Agree as agree
use Rattle.desk_world.proofs.Facts as facts
use Rattle.desk_world.proofs.laws.agreement.Goals as goal

pub returns-clause-stays : goal.returns-clause-stays
returns-clause-stays c = agree.committed_stays

pub returns-clause-agrees : goal.returns-clause-agrees
returns-clause-agrees c = agree.committed_agree

pub returns-clause-boards : goal.returns-clause-boards
returns-clause-boards c = agree.boards_agree

pub returns-clause-differ : goal.returns-clause-differ
returns-clause-differ c = agree.identifiers_differ

pub returns-clause-units : goal.returns-clause-units
returns-clause-units c = agree.units_once

pub returns-clause-units_open : goal.returns-clause-units_open
returns-clause-units_open c = agree.units_stand_open

pub returns-clause-names : goal.returns-clause-names
returns-clause-names c = agree.identifiers_stay

pub returns-clause-rising : goal.returns-clause-rising
returns-clause-rising c = agree.committed_is_rising

pub returns-clause-rows : goal.returns-clause-rows
returns-clause-rows c = agree.latest_reply_held

pub returns-clause-replies : goal.returns-clause-replies
returns-clause-replies c = agree.replies_agree

pub returns-clause-numbers : goal.returns-clause-numbers
returns-clause-numbers c = facts.numbers_never_fall

pub returns-clause-one_offer : goal.returns-clause-one_offer
returns-clause-one_offer c = facts.offers_are_one

pub returns-clause-offers : goal.returns-clause-offers
returns-clause-offers c = facts.offers_have_acknowledged

pub returns-clause-start : goal.returns-clause-start
returns-clause-start c = facts.start_log_is_one

pub returns-clause-node_logs : goal.returns-clause-node_logs
returns-clause-node_logs c = facts.node_logs_are_of_view

pub returns-clause-offer_logs : goal.returns-clause-offer_logs
returns-clause-offer_logs c = facts.offer_logs_are_of_view

pub returns-clause-start_logs : goal.returns-clause-start_logs
returns-clause-start_logs c = facts.start_logs_are_of_view

pub returns-clause-primary_log : goal.returns-clause-primary_log
returns-clause-primary_log c = facts.primary_has_view_log

pub returns-clause-chosen_stays : goal.returns-clause-chosen_stays
returns-clause-chosen_stays c = facts.chosen_stays

pub returns-clause-chosen : goal.returns-clause-chosen
returns-clause-chosen c = agree.committed_is_chosen
