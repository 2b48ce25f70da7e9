-- The facts of every world, on which agreement rests.
use Rattle.std.proofs.Common.{◌≡◌, ℕ, ◌≤◌, List, ◌++◌, length, take, sym, ap, ◌∙◌, true, subst, arith}
use Rattle.desk_types.specs.declared.command.Entry.{Entry}
use Rattle.desk_types.specs.declared.packet.Message.{Message}
use Rattle.desk_types.specs.declared.packet.Message.TheVariants.{DoViewChange, StartView}
use Rattle.desk_log.specs.Entries.{IsLogPrefix}
use Rattle.desk_log.specs.Quorum.{primary}
use Rattle.desk_world.specs.Facts.{NumbersNeverFall, OffersAreOne, OffersHaveAcknowledged, StartLogIsOne, IsOfView}
use Rattle.desk_world.specs.Facts.{NodeLogsAreOfView, OfferLogsAreOfView, StartLogsAreOfView, PrimaryHasViewLog}
use Rattle.desk_world.specs.Facts.{ChosenStays}
use Rattle.desk_world.proofs.ViewLog.{has_begun, announced_start, announced_log}
use Rattle.desk_world.specs.World.{World, world, node_of_world, messages}
use Rattle.desk_log.proofs.Prefixes.{prefix_refl}
use Rattle.desk_world.proofs.Agree.{world_invariant, world_next}
use Rattle.desk_world.proofs.NodeInvariants.{NodeInvariant, OfferHolds, StartHolds, SavedLater}
use Rattle.desk_world.proofs.ViewLogPlaces.{start_is, log_is}
use Rattle.desk_world.specs.Views as spec
use Rattle.desk_world.proofs.WorldInvariants.{WorldInvariant, Next}
use Rattle.desk_world.proofs.ChosenPrefixes.{survives, chosen_within}
use Rattle.desk_world.proofs.Views.{view_grows, view_starts}

pub numbers_never_fall : NumbersNeverFall
numbers_never_fall domain n early late group i =
    let s : SavedLater (node_of_world (world domain n early) i).saved
    (node_of_world (world domain n (early ++ late)) i).saved =
    (world_next domain n early late group).grows i in
    record { view = s.view; normal = s.normal; commit = s.commit }

pub offers_are_one : OffersAreOne
offers_are_one domain n events group j view u c v d l m a b =
    (world_invariant domain n events group).preserved.one_offer j view u c v d l m a b

pub offers_have_acknowledged : OffersHaveAcknowledged
offers_have_acknowledged domain n events group j earlier place view u c l a b lt =
    (world_invariant domain n events group).preserved.offers_all j earlier place view u c l a b lt

pub start_log_is_one : StartLogIsOne
start_log_is_one domain n events group j view c l a =
    let r : StartHolds n (messages (world domain n events).packets) j view c l =
    (world_invariant domain n events group).preserved.packets (StartView j view c l) a in
    record {
      later = r.later;
      primary_is = r.leader;
      log_is =
          r.log_is ∙ sym (start_is (messages (world domain n events).packets) view);
    }

-- A log that lies between the start log and the log of a view.
of_view : (domain : List ℕ) (n : ℕ) (w : World) → WorldInvariant domain n w → (view : ℕ) (log : List Entry) →
    IsLogPrefix (announced_start (messages w.packets) view) log →
    IsLogPrefix log (announced_log (messages w.packets) view) →
    IsOfView w view log
of_view domain n w k view log starts within = record {
  starts = subst (λ (x : List Entry). IsLogPrefix x log) (sym (start_is (messages w.packets) view)) starts;
  within = subst (λ (x : List Entry). IsLogPrefix log x)
      (sym (log_is n (messages w.packets) (node_of_world w) k.preserved view))
      within;
}

pub node_logs_are_of_view : NodeLogsAreOfView
node_logs_are_of_view domain n events group i =
    let w : World = world domain n events in
    let own : NodeInvariant n (messages w.packets) i (node_of_world w i).saved =
    (world_invariant domain n events group).preserved.nodes i in
    of_view domain n w (world_invariant domain n events group) (node_of_world w i).saved.normal
    (node_of_world w i).saved.log
    own.starts own.within

pub offer_logs_are_of_view : OfferLogsAreOfView
offer_logs_are_of_view domain n events group j view u c l a =
    let r : OfferHolds n (messages (world domain n events).packets)
    (node_of_world (world domain n events)) j view u c l =
    (world_invariant domain n events group).preserved.packets (DoViewChange j view u c l) a in
    of_view domain n (world domain n events) (world_invariant domain n events group) u l r.starts r.within

pub start_logs_are_of_view : StartLogsAreOfView
start_logs_are_of_view domain n events group j view c l a =
    let ps : List Message = messages (world domain n events).packets in
    let r : StartHolds n ps j view c l =
    (world_invariant domain n events group).preserved.packets (StartView j view c l) a in
    of_view domain n (world domain n events) (world_invariant domain n events group) view l
    (rw r.log_is (prefix_refl (announced_start ps view))) (rw r.log_is (view_starts ps view))

pub primary_has_view_log : PrimaryHasViewLog
primary_has_view_log domain n events group view normal =
    let w : World = world domain n events in
    let own : NodeInvariant n (messages w.packets) (primary n view) (node_of_world w (primary n view)).saved =
    (world_invariant domain n events group).preserved.nodes (primary n view) in
    own.whole (ap (primary n) (sym normal))
    ∙ (ap (announced_log (messages w.packets)) normal
    ∙ sym (log_is n (messages w.packets) (node_of_world w) (world_invariant domain n events group).preserved view))

pub chosen_stays : ChosenStays
chosen_stays domain n early late group j view place later c l a lt chosen =
    let w : World = world domain n early in
    let v : World = world domain n (early ++ late) in
    let f : Next domain n w v = world_next domain n early late group in
    let k : WorldInvariant domain n v = f.preserved in
    let r : StartHolds n (messages w.packets) j later c l =
    (world_invariant domain n early group).preserved.packets (StartView j later c l) a in
    let same : announced_start (messages v.packets) later ≡ announced_start (messages w.packets) later =
    ap (λ ps. announced_start ps later) f.packets_are ∙ (view_grows (messages w.packets) f.more later).start r.begun in
    let started : has_begun (messages v.packets) later ≡ true = ap (λ ps. has_begun ps later) f.packets_are
    ∙ (view_grows (messages w.packets) f.more later).begun r.begun in
    let same_log : spec.log_of_view (messages v.packets) view ≡ announced_log (messages v.packets) view =
    log_is n (messages v.packets) (node_of_world v) k.preserved view in
    let within : place ≤ length (announced_log (messages v.packets) view) =
    chosen_within n (messages v.packets) (node_of_world v) view place k.preserved chosen in
    let stays : IsLogPrefix (take place (announced_log (messages v.packets) view)) l =
    subst (λ (x : List Entry). IsLogPrefix (take place (announced_log (messages v.packets) view)) x)
    (same ∙ sym r.log_is)
    (survives n (messages v.packets) (node_of_world v) group k.preserved later view place lt started chosen) in (
      omega (arith, within, ap length same_log),
      subst (λ (x : List Entry). IsLogPrefix (take place x) l) (sym same_log)
          stays,
    )
