-- What happens to nodes over epochs, as steps of a desk over epochs.
use Rattle.std.proofs.Common.{◌≡◌, ℕ, zero, suc, ◌+◌}
use Rattle.std.proofs.Common.{List, [], ◌∷◌, refl, sym, ap}
use Rattle.std.proofs.Common.{subst, get_or, replicate}
use Rattle.std.specs.List.{Contains}
use Rattle.desk_types.specs.Group.{IsGroupSize}
use Rattle.desk_types.specs.declared.command.Entry.{Entry}
use Rattle.desk_log.specs.SavedValue.{initial_saved}
use Rattle.desk_node.specs.Heard.{silence}
use Rattle.desk_node.specs.State.{State}
use Rattle.desk_world.specs.Group.{IsNode}
use Rattle.desk_world.specs.World.{first_state, first_world, node_of_world}
use Rattle.desk_world.specs.declared.world_event.WorldEvent.TheVariants.{Request}
use Rattle.desk_world.proofs.Packets.{Contains-here, Contains-there, Contains-none}
use Rattle.desk_epochs.specs.Epochs.{Epochs, first_epochs, joined_logs}
use Rattle.desk_epochs.proofs.Epochs.{leads_on}
use Rattle.desk_epoch_node.specs.declared.event.EpochEvent.TheVariants as comes
use Rattle.desk_epoch_node.specs.EpochValue.{committed_cut, standing_of}
use Rattle.desk_epoch_node.specs.PastRows.{StandFor}
use Rattle.desk_epoch_group.specs.Agreement.{ending_after}
use Rattle.desk_epoch_group.specs.Group.{EpochNodes, EpochAct, Meets, Begins, BeginsAndEnds, MeetsAndEnds}
use Rattle.desk_epoch_group.specs.Group.{StartsAgain}
use Rattle.desk_epoch_group.specs.Group.{ActLeads, ActsLead}
use Rattle.desk_epoch_group.specs.Group.{first_epoch_nodes}
use Rattle.desk_epoch_group.proofs.Leads.{epoch_world}
use Rattle.desk_epoch_group.proofs.Standing.{GroupStands, GoesOn}
use Rattle.desk_epoch_group.proofs.Begun.{begun_goes_on, again_goes_on, due_next}
use Rattle.desk_epoch_group.proofs.Meeting.{meets_goes_on}
use Rattle.desk_epoch_group.proofs.StartedAgain.{meets_again, starts_goes_on}
use Rattle.desk_epoch_group.proofs.StepCases.{begins_reported, step_case}

act_goes_on : (domain : List ℕ) (n most : ℕ) (Came : Entry → Type 0) (old new : EpochNodes) (d : Epochs)
    (act : EpochAct) → IsGroupSize n → ((i : ℕ) (e : Entry) → act ≡ Meets i (comes.Request e) → Came e) →
    GroupStands domain n most Came old d → ActLeads n old act new → GoesOn domain n most Came d new
act_goes_on domain n most Came old new d (Meets i event) size may g (value, step, sent, does, b) =
    meets_goes_on domain n most Came i old new d event value step size (λ e same. may i e (ap (λ x. Meets i x) same))
    g sent
    (step_case (joined_logs (old.logs i)) (old.logs i) (old.values i) value event step (standing_of (old.values i)) refl
    does) b
act_goes_on domain n most Came old new d (Begins i) size may g (value, packets, due, b) =
    begun_goes_on domain n most Came i old new d (committed_cut (old.values i)) value packets size g
    due.begins (due_next domain n most Came i old d g due.due) b
act_goes_on domain n most Came old new d (BeginsAndEnds i) size may g (value, packets, due, b) =
    again_goes_on domain n most Came i old new d (committed_cut (old.values i)) value packets size g
    due.begins (due_next domain n most Came i old d g due.due) b
act_goes_on domain n most Came old new d (MeetsAndEnds i event) size may g (value, step, sent, does, begun, b) =
    meets_again domain n most Came i old new d event value step size g sent
    (begins_reported (joined_logs (old.logs i)) (old.logs i) (old.values i) value event step
    (step_case (joined_logs (old.logs i)) (old.logs i) (old.values i) value event step (standing_of (old.values i)) refl
    does) begun) b
act_goes_on domain n most Came old new d (StartsAgain i) size may g (value, starts, b) =
    starts_goes_on domain n most Came i old new d value size g starts b

pub run_goes_on : (domain : List ℕ) (n most : ℕ) (Came : Entry → Type 0) (old new : EpochNodes) (d : Epochs)
    (acts : List EpochAct) → IsGroupSize n → ((i : ℕ) (e : Entry) → Contains acts (Meets i (comes.Request e)) →
    Came e) → GroupStands domain n most Came old d → ActsLead n old acts new → GoesOn domain n most Came d new
run_goes_on domain n most Came old new d [] size may g same =
    record {
      count = 0;
      later = d;
      lead = refl;
      stands = subst (λ (x : EpochNodes). GroupStands domain n most Came x d) same g;
    }
run_goes_on domain n most Came old new d (act ∷ more) size may g (mid, one, rest) =
    let first : GoesOn domain n most Came d mid = act_goes_on domain n most Came old mid d act size
    (λ i e same. may i e (subst (λ (x : EpochAct). Contains (act ∷ more) x) same (Contains-here act more))) g one in
    let all : GoesOn domain n most Came first.later new =
    run_goes_on domain n most Came mid new first.later more size
    (λ i e c. may i e (Contains-there act more (Meets i (comes.Request e)) c)) first.stands rest in
    record {
      count = first.count + all.count;
      later = all.later;
      lead = leads_on domain (ending_after most) (λ e. n) first.count all.count d first.later all.later first.lead
          all.lead;
      stands = all.stands;
    }

first_state_at : (n i : ℕ) → get_or (replicate n first_state) i first_state ≡ first_state
first_state_at zero i = refl
first_state_at (suc n) zero = refl
first_state_at (suc n) (suc i) = first_state_at n i

pub fresh_node : (domain : List ℕ) (n i epoch : ℕ) →
    node_of_world (epoch_world domain n first_epochs epoch) i ≡ first_state
unfolding first_world
fresh_node domain n i epoch = first_state_at n i

pub first_stand : StandFor [] (record { rows = []; length = 0; replacements = [] })
first_stand = record { length_is = refl; rows_are = λ client. refl; replacements_are = refl }

pub first_stands : (domain : List ℕ) (n most : ℕ) (Came : Entry → Type 0) →
    GroupStands domain n most Came (first_epoch_nodes domain n most) first_epochs
first_stands domain n most Came = record {
  count = 0;
  lead = refl;
  nodes = λ i. record {
    node = subst (λ (s : State). IsNode domain n i
        (record { domain = domain; id = i; n = n; saved = initial_saved; heard = silence n }) s)
        (sym (fresh_node domain n i 0))
        (record {
          domain_is = refl;
          id_is = refl;
          n_is = refl;
          saved_is = refl;
          says = record { none_past = tt; heard_is = refl };
        });
    epoch_is = refl;
    most_is = refl;
    stand = first_stand;
    pasts_are = refl;
    fresh = λ epoch h. fresh_node domain n i epoch;
  };
  packets = λ to p c. absurd (Contains-none (to, p) c);
  came = λ epoch e asked. absurd (Contains-none (Request asked.node e) asked.asked);
}
