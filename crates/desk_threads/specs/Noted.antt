-- What of a replica's logs the board's writer has noted.
use Rattle.std.specs.Prelude.{◌≤◌, List, length, take}
use mathlib.Core.List.{IsPrefix}
use Rattle.desk_types.specs.declared.command.Entry.{Entry}
use Rattle.desk_published.specs.Writer.{EqualsPrefix, followed_by}
use Rattle.desk_replica.specs.Saving.{Saving, after_base, to_publish}

-- all that a replica has committed, where the logs of its past are the first of these entries
abbrev pub replica_history : {R : Type 0} → Saving R → R → List Entry → List Entry
replica_history s r noted = followed_by (s.base r) noted (after_base s r)

-- The entries that were noted are the logs of its past, and then the first of what is to be published; so they are the
-- first of all that it has committed.
pub record IsNoted {R : Type 0} (s : Saving R) (r : R) (noted : List Entry) : Type 0 where
  pub past_noted : s.base r ≤ length noted
  pub past_is : s.stands r (take (s.base r) noted)
  pub next : EqualsPrefix noted (followed_by (s.base r) noted (to_publish s r))
  pub begins : EqualsPrefix noted (replica_history s r noted)

-- What is published goes on: the logs of the replica's past were published before, and what is published now are the
-- first of these entries and of what it has committed after them.
pub record PublishesOn {R : Type 0} (s : Saving R) (r : R) (old new : List Entry) : Type 0 where
  pub reached : s.base r ≤ length old
  pub stands : s.stands r (take (s.base r) old)
  pub shown : IsPrefix new (replica_history s r old)
