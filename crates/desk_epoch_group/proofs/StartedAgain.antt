-- What happens to nodes over epochs that are started again, as steps of a desk over epochs.
use Rattle.std.proofs.Common.{◌≡◌, ℕ}
use Rattle.std.proofs.Common.{List, [], length, sym, ap}
use Rattle.std.proofs.Common.{◌∙◌}
use Rattle.std.proofs.Common.{subst}
use Rattle.std.proofs.lemmas.List.{append-nil}
use Rattle.desk_types.specs.Group.{IsGroupSize}
use Rattle.desk_types.specs.declared.command.Entry.{Entry}
use Rattle.desk_node.specs.declared.event.Event.TheVariants as events
use Rattle.desk_node.specs.Heard.{silence}
use Rattle.desk_node.specs.NodeValue.{NodeValue, node_from}
use Rattle.desk_node.specs.Rules.{node_step}
use Rattle.desk_node.specs.State.{State}
use Rattle.desk_world.specs.Group.{IsNode}
use Rattle.desk_epochs.specs.Epochs.{Epochs, joined_logs, epoch_of}
use Rattle.desk_epoch_node.specs.declared.event.EpochEvent.{EpochEvent}
use Rattle.desk_epoch_node.specs.declared.step.EpochStep.{EpochStep}
use Rattle.desk_epoch_node.specs.EpochValue.{EpochValue}
use Rattle.desk_epoch_group.specs.Group.{EpochNodes, StartsInEpoch}
use Rattle.desk_epoch_group.specs.Group.{NodeBecomes, WasSentBefore}
use Rattle.desk_epoch_group.specs.Group.{logs_after, started_again}
use Rattle.desk_epoch_group.proofs.Leads.{leads_restart}
use Rattle.desk_epoch_group.proofs.Standing.{GroupStands, GoesOn, becomes, leads_change}
use Rattle.desk_epoch_group.proofs.Begun.{again_goes_on, no_packets}
use Rattle.desk_epoch_group.proofs.Meeting.{reported_begins}
use Rattle.desk_epoch_group.proofs.StepCases.{BeginsReported}

-- A node that is told the rest of its epoch's log begins the next, but ends there before it has saved anything.
pub meets_again : (domain : List ℕ) (n most : ℕ) (Came : Entry → Type 0) (i : ℕ) (old new : EpochNodes) (d : Epochs)
    (event : EpochEvent) (value : EpochValue) (step : EpochStep) → IsGroupSize n →
    GroupStands domain n most Came old d → WasSentBefore old.sent i event →
    BeginsReported (joined_logs (old.logs i)) (old.values i) value event step →
    NodeBecomes n i old (started_again value) (logs_after (old.logs i) step) [] new → GoesOn domain n most Came d new
meets_again domain n most Came i old new d event value step size g sent x b =
    again_goes_on domain n most Came i old new d x.log value x.packets size g x.begins
    (reported_begins domain n most Came i old d (joined_logs (old.logs i)) event value step size.0 g sent x)
    (subst (λ (ls : List (List Entry)). NodeBecomes n i old (started_again value) ls [] new) (x.logs_are (old.logs i))
    b)

-- A node that is started again in its epoch is the world's node that is restarted.
pub starts_is_node : (domain : List ℕ) (n i : ℕ) (old new : NodeValue) (s : State) → IsNode domain n i old s →
    new ≡ node_from (record { id = old.id; n = old.n; domain = old.domain }) old.saved →
    IsNode domain n i new (node_step domain i n s events.Restart).node
unfolding node_step
starts_is_node domain n i old new s is same =
    subst (λ (x : NodeValue). IsNode domain n i x (node_step domain i n s events.Restart).node) (sym same)
    (record {
      domain_is = is.domain_is;
      id_is = is.id_is;
      n_is = is.n_is;
      saved_is = is.saved_is;
      says = record { none_past = tt; heard_is = ap silence is.n_is };
    })

pub starts_goes_on : (domain : List ℕ) (n most : ℕ) (Came : Entry → Type 0) (i : ℕ) (old new : EpochNodes) (d : Epochs)
    (value : EpochValue) → IsGroupSize n → GroupStands domain n most Came old d →
    StartsInEpoch (joined_logs (old.logs i)) (old.values i) value → NodeBecomes n i old value (old.logs i) [] new →
    GoesOn domain n most Came d new
starts_goes_on domain n most Came i old new d value size g starts b =
    let a = g.nodes i in
    let epoch : ℕ = (old.values i).epoch in
    let at : epoch ≡ epoch_of d i = a.epoch_is ∙ ap (λ (ls : List (List Entry)). length ls) (sym a.pasts_are) in
    let c =
    leads_change domain n most Came i epoch d _ _ (leads_restart domain n most Came i epoch d size.0 b.is_node at) in
    becomes domain n most Came i epoch old new d value (old.logs i) [] _ _ [] g b starts.epoch_is c
    (sym (append-nil (old.logs i)))
    (starts_is_node domain n i (old.values i).node value.node _ a.node starts.node_is)
    (starts.epoch_is ∙ a.epoch_is) (starts.most_is ∙ a.most_is) starts.past_is a.fresh
    (λ to p x. no_packets domain n c.later to p x)
