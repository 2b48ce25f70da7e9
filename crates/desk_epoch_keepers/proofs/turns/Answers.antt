use Rattle.desk_epoch_keepers.proofs.OpenedStarts as opened
use Rattle.desk_epoch_keepers.proofs.TokenTurns as tokens
use Rattle.desk_epoch_keepers.proofs.TurnActs as acts
use Rattle.desk_epoch_keepers.proofs.turns.Goals as goal

pub returns-clause-acts : goal.returns-clause-acts
returns-clause-acts g c = acts.turns_are_acts _ _ _

pub returns-clause-published : goal.returns-clause-published
returns-clause-published g c = acts.turns_publish_history _ _ _

pub returns-clause-starts : goal.returns-clause-starts
returns-clause-starts g c = opened.opened_is_start _ _

pub returns-clause-whole : goal.returns-clause-whole
returns-clause-whole g c = acts.turns_show_all _ _ _

pub returns-clause-acts_by_tokens : goal.returns-clause-acts_by_tokens
returns-clause-acts_by_tokens g c = tokens.turns_by_tokens_are_acts _ _ _

pub returns-clause-published_by_tokens : goal.returns-clause-published_by_tokens
returns-clause-published_by_tokens g c = tokens.published_by_tokens_is_committed _ _ _

pub returns-clause-whole_by_tokens : goal.returns-clause-whole_by_tokens
returns-clause-whole_by_tokens g c = tokens.turns_by_tokens_show_all _ _ _
