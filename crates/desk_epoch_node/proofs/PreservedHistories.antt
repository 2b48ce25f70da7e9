-- What a node has committed of all epochs stays committed.
use Rattle.std.proofs.Common.{◌≡◌, ℕ, zero, suc, ◌+◌, Bool, true, false, ◌&&◌, List, [], ◌∷◌, ◌++◌, length, take}
use Rattle.std.proofs.Common.{refl, sym, ap, leb}
use Rattle.std.proofs.Common.{subst, ◌∙◌, append-nil}
use Rattle.std.proofs.lemmas.Bool.{and_parts}
use Rattle.desk_types.specs.declared.command.Entry.{Entry}
use Rattle.desk_types.specs.declared.packet.Message.{Message}
use Rattle.desk_log.specs.Change.{keeps_committed}
use Rattle.desk_log.specs.Entries.{IsLogPrefix}
use Rattle.desk_log.specs.SavedValue.{committed_entries, in_view, initial_saved}
use Rattle.desk_log.proofs.KeepsCommitted.{keeps_committed-Decides}
use Rattle.desk_log.proofs.Prefixes.{prefix_refl, prefix_take, prefix_trans}
use Rattle.desk_node.specs.declared.event.Event.{Event}
use Rattle.desk_epoch_node.specs.declared.deed.Deed.TheVariants.{Ignore, Own, Answer, Refuse, Keep, Ask, AskAll, Tell}
use Rattle.desk_epoch_node.specs.declared.deed.Deed.TheVariants.{Take, Stop}
use Rattle.desk_epoch_node.specs.declared.step.EpochStep.{EpochStep}
use Rattle.desk_epoch_node.specs.declared.step.EpochStep.TheVariants as steps
use Rattle.desk_epoch_node.specs.Does.{BeginsAfter, IsAskAll, IsBegun, IsOwn, IsTaken, is_rest, next_node}
use Rattle.desk_epoch_node.specs.Does.{next_view, whole_log}
use Rattle.desk_epochs.proofs.Histories.{cut_prefix}
use Rattle.desk_epochs.proofs.RisingHistories.{cut_is_prefix}
use Rattle.desk_epoch_node.specs.Ends.{cut_of, is_whole}
use Rattle.desk_epoch_node.specs.EpochValue.{EpochValue, acts, committed_cut, has_next}
use Rattle.desk_epoch_node.specs.Laws.{BeginningsKeep, KeepsHistory, StepsKeep}
use Rattle.desk_epoch_node.specs.PastRows.{PastValue, StandFor}
use Rattle.desk_epoch_node.specs.Replacements.{ends_epoch}

prefix_after : (past xs ys : List Entry) → IsLogPrefix xs ys → IsLogPrefix (past ++ xs) (past ++ ys)
prefix_after [] xs ys f = f
prefix_after (e ∷ es) xs ys f = (refl, prefix_after es xs ys f)

-- a first node has committed nothing
none_committed : (k view : ℕ) → cut_of k (committed_entries (in_view view initial_saved)) ≡ []
none_committed zero view = refl
none_committed (suc k) view = refl

begun_cut : (old new : EpochValue) → new.node ≡ next_node (acts new) old.node → committed_cut new ≡ []
begun_cut old new is =
    ap (λ n. cut_of new.most (committed_entries n.saved)) is ∙ none_committed new.most (next_view (acts new) old.node)

-- The node begins after a log that begins with what it has committed of its epoch.
begun_keeps : (past log : List Entry) (old new : EpochValue) (packets : List (ℕ × Message)) →
    IsLogPrefix (committed_cut old) log → BeginsAfter past log old new packets → KeepsHistory past old new
begun_keeps past log old new packets f b = (
  past ++ log,
  b.past_is,
  subst (λ own. IsLogPrefix (past ++ committed_cut old) ((past ++ log) ++ own)) (sym (begun_cut old new b.node_is))
      (subst (λ all. IsLogPrefix (past ++ committed_cut old) all) (sym (append-nil (past ++ log)))
      (prefix_after past (committed_cut old) log f)),
)

pub beginnings_keep : BeginningsKeep
beginnings_keep past old new packets b =
    begun_keeps past (committed_cut old) old new packets (prefix_refl (committed_cut old)) b

same_keeps : (past : List Entry) (old new : EpochValue) → StandFor past old.past → new ≡ old →
    KeepsHistory past old new
same_keeps past old new s is =
    subst (λ (e : EpochValue). KeepsHistory past old e) (sym is) (past, s, prefix_refl (past ++ committed_cut old))

own_keeps : (past : List Entry) (event : Event) (old new : EpochValue) (step : EpochStep) → StandFor past old.past →
    IsOwn old event new step → KeepsHistory past old new
own_keeps past event old new (steps.Own step) s d = (
  past,
  subst (λ (p : PastValue). StandFor past p) (sym d.past_is) s,
  subst (λ most. IsLogPrefix (past ++ committed_cut old) (past ++ cut_of most (committed_entries new.node.saved)))
      (sym d.most_is)
      (prefix_after past (committed_cut old) (cut_of old.most (committed_entries new.node.saved))
      (cut_prefix ends_epoch old.most (committed_entries old.node.saved) (committed_entries new.node.saved)
      d.committed)),
)
own_keeps past event old new steps.Nothing s d = absurd d
own_keeps past event old new (steps.Known client number place) s d = absurd d
own_keeps past event old new (steps.Refused client number refusal) s d = absurd d
own_keeps past event old new (steps.Deferred entry) s d = absurd d
own_keeps past event old new (steps.Ask to packet) s d = absurd d
own_keeps past event old new (steps.AskAll packets) s d = absurd d
own_keeps past event old new (steps.Tell to epoch base) s d = absurd d
own_keeps past event old new steps.Replaced s d = absurd d
own_keeps past event old new (steps.Began log packets) s d = absurd d

reported_keeps : (past whole : List Entry) (old new : EpochValue) (step : EpochStep) →
    IsLogPrefix (committed_cut old) whole → IsBegun past whole old new step → KeepsHistory past old new
reported_keeps past whole old new (steps.Began log packets) f d = begun_keeps past whole old new packets.items f d.1
reported_keeps past whole old new steps.Nothing f d = absurd d
reported_keeps past whole old new (steps.Known client number place) f d = absurd d
reported_keeps past whole old new (steps.Refused client number refusal) f d = absurd d
reported_keeps past whole old new (steps.Deferred entry) f d = absurd d
reported_keeps past whole old new (steps.Ask to packet) f d = absurd d
reported_keeps past whole old new (steps.AskAll packets) f d = absurd d
reported_keeps past whole old new (steps.Tell to epoch base) f d = absurd d
reported_keeps past whole old new steps.Replaced f d = absurd d
reported_keeps past whole old new (steps.Own step) f d = absurd d

-- what the node has committed begins the log that it takes
rest_keeps : (old : EpochValue) (base : ℕ) (entries : List Entry) → is_rest old base entries ≡ true →
    IsLogPrefix (committed_cut old) (whole_log old base entries)
rest_keeps old base entries h =
    let whole : List Entry = whole_log old base entries in
    let p =
    and_parts
    (has_next old && leb base (length (committed_cut old)) && is_whole old.most whole)
    (keeps_committed old.node.saved whole) h in
    let preserved = (keeps_committed-Decides old.node.saved whole).0 p.1 in
    subst (λ own. IsLogPrefix (cut_of old.most own) whole) (sym preserved.1)
    (prefix_trans (cut_of old.most (take old.node.saved.commit whole)) (take old.node.saved.commit whole) whole
    (cut_is_prefix ends_epoch old.most (take old.node.saved.commit whole))
    (prefix_take old.node.saved.commit whole))

taken_keeps : (past : List Entry) (base : ℕ) (entries : List Entry) (old new : EpochValue) (step : EpochStep)
    (rest : Bool) → is_rest old base entries ≡ rest → StandFor past old.past →
    IsTaken rest past (whole_log old base entries) old new step → KeepsHistory past old new
taken_keeps past base entries old new step true is s d =
    reported_keeps past (whole_log old base entries) old new step (rest_keeps old base entries is) d
taken_keeps past base entries old new step false is s d = same_keeps past old new s d.1

asking_keeps : (past : List Entry) (old new : EpochValue) (step : EpochStep) → StandFor past old.past →
    IsAskAll old new step → KeepsHistory past old new
asking_keeps past old new (steps.AskAll packets) s d = same_keeps past old new s d.1
asking_keeps past old new steps.Nothing s d = absurd d
asking_keeps past old new (steps.Own step) s d = absurd d
asking_keeps past old new (steps.Known client number place) s d = absurd d
asking_keeps past old new (steps.Refused client number refusal) s d = absurd d
asking_keeps past old new (steps.Deferred entry) s d = absurd d
asking_keeps past old new (steps.Ask to packet) s d = absurd d
asking_keeps past old new (steps.Tell to epoch base) s d = absurd d
asking_keeps past old new (steps.Began log packets) s d = absurd d
asking_keeps past old new steps.Replaced s d = absurd d

pub steps_keep : StepsKeep
steps_keep past Ignore old new step s d = same_keeps past old new s d.1
steps_keep past (Own event) old new step s d = own_keeps past event old new step s d
steps_keep past (Answer client number place) old new step s d = same_keeps past old new s d.1
steps_keep past (Refuse client number refusal) old new step s d = same_keeps past old new s d.1
steps_keep past (Keep entry) old new step s d = same_keeps past old new s d.1
steps_keep past (Ask to) old new step s d = same_keeps past old new s d.1
steps_keep past AskAll old new step s d = asking_keeps past old new step s d
steps_keep past (Tell to epoch base) old new step s d = same_keeps past old new s d.1
steps_keep past Stop old new step s d = same_keeps past old new s d.1
steps_keep past (Take base entries) old new step s d =
    taken_keeps past base entries old new step (is_rest old base entries) refl s d
