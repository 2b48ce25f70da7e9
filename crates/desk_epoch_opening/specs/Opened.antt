-- What a node over epochs is where its keeper comes to be.
use Rattle.std.specs.Prelude.{◌≡◌, ℕ, List, false}
use Rattle.desk_types.specs.declared.command.Entry.{Entry}
use Rattle.desk_types.specs.declared.owner.Owner.{Owner}
use Rattle.desk_log.specs.SavedValue.{SavedValue}
use Rattle.desk_log.specs.declared.state_store.StateStore.{Ghosts}
use Rattle.desk_node.specs.NodeValue.{node_from}
use Rattle.desk_published.specs.Writer.{followed_by}
use Rattle.desk_epoch_node.specs.PastRows.{StandFor}
use Rattle.desk_epoch_stores.specs.Starting.{MayHoldLogs, is_finished}
use Rattle.desk_epoch_replica.specs.MemberValue.{MemberValue, new_member}
use Rattle.desk_epoch_replica.specs.ReplicaValue.{ReplicaValue}
use Rattle.desk_epoch_replica.specs.Saves.{IsSavedReplica, replica_base, replica_cut}
use Rattle.desk_epoch_opening.specs.Pasts.{past_in}

-- The member is the owner's node with this token, as it was saved last, and has heard nothing since.
abbrev pub StartsFrom : Owner → ℕ → ℕ → SavedValue → MemberValue → Type 0
StartsFrom owner token most saved m = m ≡ new_member (record {
  epoch = m.node.epoch;
  past = m.node.past;
  most = most;
  token = token;
  node = node_from owner saved;
})

-- All that the replica has committed is published: the logs of its past, and then its cut.
abbrev pub ShowsAll : {T S : Type 0} → ReplicaValue T S → List Entry → Type 0
ShowsAll r shown = shown ≡ followed_by (replica_base r) shown (replica_cut r)

-- The replica starts from the state that was saved last in its epoch, which the stores may hold and which is not over.
-- The logs of its past are those of states that they may hold in the epochs before, and are over. All that it has
-- committed in all epochs is published.
pub record IsOpened {T S : Type 0} (g : Ghosts S) (may_hold : ℕ → SavedValue → Type 0) (owner : Owner) (token most : ℕ)
    (r : ReplicaValue T S) (shown : List Entry) : Type 0
  where
    pub member : StartsFrom owner token most (g.last r.current) r.member
    pub saved : IsSavedReplica g r
    pub held : may_hold r.member.node.epoch (g.last r.current)
    pub current : is_finished most r.member.node.past.length (g.last r.current) ≡ false
    pub logs : MayHoldLogs may_hold most r.member.node.epoch (past_in r.member.node.past shown)
    pub past : StandFor (past_in r.member.node.past shown) r.member.node.past
    pub all : ShowsAll r shown
