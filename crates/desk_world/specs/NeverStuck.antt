-- That a group can always go on: whatever happened, later events at a majority of the nodes commit and answer a new
-- request.
use Rattle.std.specs.Prelude.{◌≡◌, ◌<◌, ◌≤◌, ℕ, ◌+◌, Bool, true, List, [], ◌∷◌, ◌++◌, length, Some, Contains}
use Rattle.desk_types.specs.declared.command.Entry.{Entry}
use Rattle.desk_types.specs.declared.limits.TheConstants.{LAST_VIEW, LOG_ENTRIES}
use Rattle.desk_types.specs.declared.outcome.Outcome.{Outcome}
use Rattle.desk_types.specs.declared.outcome.Outcome.TheVariants.{Command}
use Rattle.desk_types.specs.declared.packet.Message.{Message}
use Rattle.desk_types.specs.declared.reply.Reply.{Reply}
use Rattle.desk_log.specs.Entries.{entry_at}
use Rattle.desk_log.specs.Laws.{IsNewNumber}
use Rattle.desk_types.specs.Group.{IsGroup}
use Rattle.desk_log.specs.Quorum.{faults, tally}
use Rattle.desk_world.specs.declared.world_event.WorldEvent.{WorldEvent}
use Rattle.desk_world.specs.declared.world_event.WorldEvent.TheVariants.{Request, Deliver, Resend, Suspect, Restart}
use Rattle.desk_world.specs.World.{World, world, world_after, packet_at, node_of_world, committed_log}

-- The event is at a node that is up, and no restart. (A packet's delivery is at its receiver.)
abbrev pub IsAtUp : (ℕ → Bool) → World → WorldEvent → Type 0
IsAtUp up w (Request i entry) = up i ≡ true
IsAtUp up w (Deliver k) = (sent : ℕ × Message) → packet_at w.packets k ≡ Some sent → up sent.0 ≡ true
IsAtUp up w (Resend i) = up i ≡ true
IsAtUp up w (Suspect i) = up i ≡ true
IsAtUp up w (Restart i) = ⊥

-- So are all of the events, one after the other.
abbrev pub AreAtUp : List ℕ → ℕ → (ℕ → Bool) → World → List WorldEvent → Type 0
AreAtUp domain n up w [] = Unit {0}
AreAtUp domain n up w (e ∷ es) = IsAtUp up w e × AreAtUp domain n up (world_after domain n w e) es

-- More nodes are up than may fail. Their logs are shorter than the limit, and the request's number is greater than that
-- of its client's latest entry in each of them. Every view is so far below the last one that each node is the primary
-- of a view between.
pub record CanServe (n : ℕ) (up : ℕ → Bool) (w : World) (entry : Entry) : Type 0 where
  pub majority : faults n < tally n up
  pub logs : (i : ℕ) → i < n → up i ≡ true → length (node_of_world w i).saved.log < LOG_ENTRIES
  pub number : (i : ℕ) → i < n → up i ≡ true → IsNewNumber (node_of_world w i).saved.log entry
  pub views : (i : ℕ) → i < n → (node_of_world w i).saved.view + n ≤ LAST_VIEW

-- A node that is up has committed the entry in a later world, and a reply to it is among the answers that came since.
pub record IsServed (n : ℕ) (up : ℕ → Bool) (early late : World) (entry : Entry) : Type 0 where
  pub node : ℕ
  pub is_node : node < n
  pub is_up : up node ≡ true
  pub place : ℕ
  pub committed : entry_at (committed_log late node) place ≡ Some entry
  pub added : List (ℕ × Outcome)
  pub answers_are : late.answers ≡ early.answers ++ added
  pub reply : Reply
  pub answered : Contains added (node, Command entry.client entry.number reply)

-- From every world, and whichever nodes are up, there are events at these nodes, without a restart, after which a
-- request that can be served is.
abbrev pub NeverStuck : Type 0
NeverStuck = (domain : List ℕ) (n : ℕ) (events : List WorldEvent) (up : ℕ → Bool) (entry : Entry) → IsGroup n →
    CanServe n up (world domain n events) entry →
    (more : List WorldEvent) × AreAtUp domain n up (world domain n events) more
    × IsServed n up (world domain n events) (world domain n (events ++ more)) entry
