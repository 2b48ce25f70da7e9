use Rattle.desk_view_change.proofs.Keeps as keeps
use Rattle.desk_view_change.proofs.BestOffer as offers
use Rattle.desk_view_change.proofs.laws.Goals as goal

pub returns-clause-start_view_change : goal.returns-clause-start_view_change
returns-clause-start_view_change c = keeps.start_view_change_keeps

pub returns-clause-do_view_change : goal.returns-clause-do_view_change
returns-clause-do_view_change c = keeps.do_view_change_keeps

pub returns-clause-start_view : goal.returns-clause-start_view
returns-clause-start_view c = keeps.start_view_keeps

pub returns-clause-suspect : goal.returns-clause-suspect
returns-clause-suspect c = keeps.suspect_keeps

pub returns-clause-resend : goal.returns-clause-resend
returns-clause-resend c = keeps.resend_keeps

pub returns-clause-best : goal.returns-clause-best
returns-clause-best c = offers.best_is_best

pub returns-clause-no_best : goal.returns-clause-no_best
returns-clause-no_best c = offers.best_is_none

pub returns-clause-greatest_bounds : goal.returns-clause-greatest_bounds
returns-clause-greatest_bounds c = offers.greatest_bounds

pub returns-clause-greatest_reached : goal.returns-clause-greatest_reached
returns-clause-greatest_reached c = offers.greatest_is_reached
