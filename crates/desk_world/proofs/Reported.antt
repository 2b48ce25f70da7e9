-- The nodes of a report agree, since they are those of a world.
use Rattle.std.proofs.Common.{◌≡◌, ◌∙◌, ◌⊎◌, ℕ, List, [], sym, ap, subst, take}
use Rattle.std.proofs.Math.ListN.{get_or-map}
use Rattle.std.proofs.lemmas.List.{append-nil}
use Rattle.std.specs.Prelude.{slice_index_or}
use Rattle.desk_types.specs.declared.command.Entry.{Entry}
use Rattle.desk_log.specs.Entries.{IsLogPrefix}
use Rattle.desk_types.specs.Group.{IsGroup}
use Rattle.desk_log.specs.SavedValue.{SavedValue}
use Rattle.desk_node.specs.State.{State}
use Rattle.desk_world.specs.declared.world_event.WorldEvent.{WorldEvent}
use Rattle.desk_world.specs.Report.{OutputValue, IsReport, NodesAgree, committed_at}
use Rattle.desk_world.specs.World.{World, world, first_state, committed_log}
use Rattle.desk_world.proofs.Agree.{committed_agree}

pub nodes_agree : (domain : List ℕ) (n : ℕ) (events : List WorldEvent) (outputs : List OutputValue)
    (nodes : List SavedValue) → IsGroup n → IsReport domain n events outputs nodes → NodesAgree nodes
nodes_agree domain n events outputs nodes group report i j =
    let w : World = world domain n events in
    let same : (k : ℕ) → committed_at nodes k ≡ committed_log w k =
    λ k. ap (λ (s : SavedValue). take s.commit s.log)
    (ap (λ (ss : List SavedValue). slice_index_or ss k first_state.saved) report.nodes_are
    ∙ get_or-map (λ (s : State). s.saved) w.nodes k first_state) in
    let agree : IsLogPrefix (committed_log w i) (committed_log w j)
    ⊎ IsLogPrefix (committed_log w j) (committed_log w i) =
    subst (λ (es : List WorldEvent). IsLogPrefix (committed_log w i) (committed_log (world domain n es) j)
    ⊎ IsLogPrefix (committed_log (world domain n es) j) (committed_log w i)) (append-nil events)
    (committed_agree domain n events [] i j group) in
    subst (λ (a : List Entry). IsLogPrefix a (committed_at nodes j) ⊎ IsLogPrefix (committed_at nodes j) a)
    (sym (same i))
    (subst (λ (b : List Entry). IsLogPrefix (committed_log w i) b ⊎ IsLogPrefix b (committed_log w i))
    (sym (same j)) agree)
