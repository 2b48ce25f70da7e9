use Rattle.desk_eido.specs.Reading.{verb_of}
use Rattle.desk_eido.proofs.verb.verb_of.Goals as goal

pub returns-in-open : goal.returns-in-open
unfolding verb_of
returns-in-open c = rw c.in-open.is

pub returns-in-add_call : goal.returns-in-add_call
unfolding verb_of
returns-in-add_call c = rw c.in-add_call.is

pub returns-in-link : goal.returns-in-link
unfolding verb_of
returns-in-link c = rw c.in-link.is

pub returns-in-unlink : goal.returns-in-unlink
unfolding verb_of
returns-in-unlink c = rw c.in-unlink.is

pub returns-in-merge : goal.returns-in-merge
unfolding verb_of
returns-in-merge c = rw c.in-merge.is

pub returns-in-split : goal.returns-in-split
unfolding verb_of
returns-in-split c = rw c.in-split.is

pub returns-in-clear : goal.returns-in-clear
unfolding verb_of
returns-in-clear c = rw c.in-clear.is

pub returns-in-reopen : goal.returns-in-reopen
unfolding verb_of
returns-in-reopen c = rw c.in-reopen.is

pub returns-in-note : goal.returns-in-note
unfolding verb_of
returns-in-note c = rw c.in-note.is

pub returns-in-sign_on : goal.returns-in-sign_on
unfolding verb_of
returns-in-sign_on c = rw c.in-sign_on.is

pub returns-in-sign_off : goal.returns-in-sign_off
unfolding verb_of
returns-in-sign_off c = rw c.in-sign_off.is

pub returns-in-assign : goal.returns-in-assign
unfolding verb_of
returns-in-assign c = rw c.in-assign.is

pub returns-in-status : goal.returns-in-status
unfolding verb_of
returns-in-status c = rw c.in-status.is

pub returns-in-release : goal.returns-in-release
unfolding verb_of
returns-in-release c = rw c.in-release.is

pub returns-in-stand_by : goal.returns-in-stand_by
unfolding verb_of
returns-in-stand_by c = rw c.in-stand_by.is

pub returns-in-stand_down : goal.returns-in-stand_down
unfolding verb_of
returns-in-stand_down c = rw c.in-stand_down.is

pub returns-in-replace : goal.returns-in-replace
unfolding verb_of
returns-in-replace c = rw c.in-replace.is
