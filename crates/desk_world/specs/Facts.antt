-- What holds of the packets and the nodes of every group, an odd number of nodes and at least 3, whatever happens in
-- it.
use Rattle.std.specs.Prelude.{◌≡◌, ◌<◌, ◌≤◌, ◌⊎◌, ℕ, List, ◌++◌, length, take, Contains}
use Rattle.desk_types.specs.declared.command.Entry.{Entry}
use Rattle.desk_types.specs.declared.packet.Message.{Message}
use Rattle.desk_types.specs.declared.packet.Message.TheVariants.{PrepareOk, DoViewChange, StartView}
use Rattle.desk_log.specs.Entries.{IsLogPrefix}
use Rattle.desk_types.specs.Group.{IsGroup}
use Rattle.desk_log.specs.Quorum.{primary}
use Rattle.desk_log.specs.NeverFalls.{NoNumberFalls}
use Rattle.desk_world.specs.declared.world_event.WorldEvent.{WorldEvent}
use Rattle.desk_world.specs.Views.{IsChosen, start_log, log_of_view}
use Rattle.desk_world.specs.World.{World, world, node_of_world, messages}

-- It holds of every world. (The first argument of P is the number of nodes.)
abbrev pub OfWorlds : (ℕ → World → Type 0) → Type 0
OfWorlds P = (domain : List ℕ) (n : ℕ) (events : List WorldEvent) → IsGroup n → P n (world domain n events)

-- It holds of every world and a later one.
abbrev pub OfLaterWorlds : (ℕ → World → World → Type 0) → Type 0
OfLaterWorlds P = (domain : List ℕ) (n : ℕ) (early late : List WorldEvent) → IsGroup n →
    P n (world domain n early) (world domain n (early ++ late))

-- among the packets that were sent in a world
abbrev pub WasSent : World → Message → Type 0
WasSent w packet = Contains (messages w.packets) packet

-- View, last normal view and commit of a node never fall, also at a restart.
abbrev pub NumbersNeverFall : Type 0
NumbersNeverFall = OfLaterWorlds
    (λ n early late. (i : ℕ) → NoNumberFalls (node_of_world early i).saved (node_of_world late i).saved)

-- All that a node ever offers for a view is equal.
abbrev pub OffersAreOne : Type 0
OffersAreOne = OfWorlds (λ n w. (j view normal commit other_normal other_commit : ℕ) (log other_log : List Entry) →
    WasSent w (DoViewChange j view normal commit log) →
    WasSent w (DoViewChange j view other_normal other_commit other_log) →
    (normal ≡ other_normal) × (commit ≡ other_commit) × (log ≡ other_log))

-- What a node offers for a view has all that the node ever acknowledges in earlier views, before the offer or after
-- it: it is of a later normal view, or of the same and has the place.
abbrev pub OffersHaveAcknowledged : Type 0
OffersHaveAcknowledged = OfWorlds (λ n w. (j earlier place view normal commit : ℕ) (log : List Entry) →
    WasSent w (PrepareOk j earlier place) → WasSent w (DoViewChange j view normal commit log) → earlier < view →
    (earlier < normal) ⊎ ((earlier ≡ normal) × (place ≤ length log)))

-- The view is past 0, its primary is that node, and it starts with that log. (View 0 starts with no entry, and has no
-- StartView.)
pub record IsStartOfView (n : ℕ) (w : World) (j view : ℕ) (log : List Entry) : Type 0 where
  pub later : 0 < view
  pub primary_is : j ≡ primary n view
  pub log_is : log ≡ start_log (messages w.packets) view

-- A view past 0 starts with one log, that of each StartView of the view, which its primary alone sends.
abbrev pub StartLogIsOne : Type 0
StartLogIsOne = OfWorlds (λ n w. (j view commit : ℕ) (log : List Entry) → WasSent w (StartView j view commit log) →
    IsStartOfView n w j view log)

-- The log begins with the view's start log, and is a prefix of the view's log.
pub record IsOfView (w : World) (view : ℕ) (log : List Entry) : Type 0 where
  pub starts : IsLogPrefix (start_log (messages w.packets) view) log
  pub within : IsLogPrefix log (log_of_view (messages w.packets) view)

-- The log of a node is of its last normal view.
abbrev pub NodeLogsAreOfView : Type 0
NodeLogsAreOfView = OfWorlds
    (λ n w. (i : ℕ) → IsOfView w (node_of_world w i).saved.normal (node_of_world w i).saved.log)

-- The log of a DoViewChange is of the normal view that the packet names.
abbrev pub OfferLogsAreOfView : Type 0
OfferLogsAreOfView = OfWorlds (λ n w. (j view normal commit : ℕ) (log : List Entry) →
    WasSent w (DoViewChange j view normal commit log) → IsOfView w normal log)

-- The log of a StartView is of its view.
abbrev pub StartLogsAreOfView : Type 0
StartLogsAreOfView = OfWorlds (λ n w. (j view commit : ℕ) (log : List Entry) → WasSent w (StartView j view commit log) →
    IsOfView w view log)

-- The log of a view is that of its primary, while the primary is normal there.
abbrev pub PrimaryHasViewLog : Type 0
PrimaryHasViewLog = OfWorlds (λ n w. (view : ℕ) → (node_of_world w (primary n view)).saved.normal ≡ view →
    (node_of_world w (primary n view)).saved.log ≡ log_of_view (messages w.packets) view)

-- What a majority ever acknowledges in a view stands in the start log of each later view, also where that view started
-- before: a StartView of the later view has it.
abbrev pub ChosenStays : Type 0
ChosenStays = OfLaterWorlds (λ n early late. (j view place later commit : ℕ) (log : List Entry) →
    WasSent early (StartView j later commit log) → view < later → IsChosen n (messages late.packets) view place →
    (place ≤ length (log_of_view (messages late.packets) view))
    × IsLogPrefix (take place (log_of_view (messages late.packets) view))
    log)
