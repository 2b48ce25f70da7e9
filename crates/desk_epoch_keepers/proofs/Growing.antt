-- What a node over epochs has committed stays committed there, whatever happens.
use Rattle.std.proofs.Common.{◌≡◌, ◌≢◌, ◌⊎◌, ℕ, Bool, true, false, ◌&&◌, leb, List, [], ◌∷◌, ◌++◌, length, refl, sym}
use Rattle.std.proofs.Common.{ap}
use Rattle.std.proofs.Common.{◌∙◌, inl, inr, subst}
use Rattle.std.proofs.lemmas.Bool.{and_parts, cases_eq}
use Rattle.desk_types.specs.declared.command.Entry.{Entry}
use Rattle.desk_types.specs.declared.epoch_packet.EpochPacket.{EpochPacket}
use Rattle.desk_log.specs.Change.{keeps_committed}
use Rattle.desk_log.specs.Entries.{IsLogPrefix}
use Rattle.desk_log.specs.SavedValue.{SavedValue, committed_entries}
use Rattle.desk_log.proofs.KeepsCommitted.{keeps_committed-Decides}
use Rattle.desk_log.proofs.Prefixes.{prefix_append, prefix_refl, prefix_take, prefix_trans}
use Rattle.desk_node.specs.declared.event.Event.{Event}
use Rattle.desk_node.specs.NodeValue.{NodeValue}
use Rattle.desk_epochs.specs.Epochs.{joined_logs}
use Rattle.desk_epochs.proofs.Epochs.{joined_push}
use Rattle.desk_epochs.proofs.Histories.{cut_prefix}
use Rattle.desk_epochs.proofs.RisingHistories.{cut_is_prefix}
use Rattle.desk_epoch_node.specs.declared.deed.Deed.{Deed}
use Rattle.desk_epoch_node.specs.declared.deed.Deed.TheVariants.{Ignore, Own, Answer, Refuse, Keep, Ask, AskAll, Tell}
use Rattle.desk_epoch_node.specs.declared.deed.Deed.TheVariants.{Take, Stop}
use Rattle.desk_epoch_node.specs.declared.step.EpochStep.{EpochStep}
use Rattle.desk_epoch_node.specs.declared.step.EpochStep.TheVariants as steps
use Rattle.desk_epoch_node.specs.Does.{DoesDeed, IsAskAll, IsBegun, IsOwn, IsTaken, Only, is_rest, whole_log}
use Rattle.desk_epoch_node.specs.Ends.{cut_of, is_whole}
use Rattle.desk_epoch_node.specs.EpochValue.{EpochValue, committed_cut, has_next}
use Rattle.desk_epoch_node.specs.Replacements.{ends_epoch}
use Rattle.desk_epoch_replica.specs.InOrder.{after_past}
use Rattle.desk_epoch_group.specs.Group.{EpochNodes, EpochAct, Meets, Begins, BeginsAndEnds, MeetsAndEnds, StartsAgain}
use Rattle.desk_epoch_group.specs.Group.{ActLeads, ActsLead, BeginsByStep, NodeBecomes, history_of}
use Rattle.desk_epoch_group.specs.Group.{logs_after, started_again}

-- what a node has committed of all epochs, whose past logs are these
abbrev history : List (List Entry) → EpochValue → List Entry
history logs e = joined_logs logs ++ committed_cut e

-- It goes on.
abbrev Grows : List (List Entry) → EpochValue → List (List Entry) → EpochValue → Type 0
Grows logs old new_logs new = IsLogPrefix (history logs old) (history new_logs new)

only_grows : (logs : List (List Entry)) (asked step : EpochStep) (old new : EpochValue) →
    logs_after logs asked ≡ logs → Only asked old new step → Grows logs old (logs_after logs step) new
only_grows logs asked step old new same only =
    subst (λ (ls : List (List Entry)). Grows logs old ls new)
    (sym (ap (λ (x : EpochStep). logs_after logs x) only.0 ∙ same))
    (subst (λ (v : EpochValue). Grows logs old logs v) (sym only.1) (prefix_refl (history logs old)))

-- in its epoch
stays_grows : (logs : List (List Entry)) (old new : EpochValue) → new.most ≡ old.most →
    IsLogPrefix (committed_entries old.node.saved) (committed_entries new.node.saved) → Grows logs old logs new
stays_grows logs old new same committed =
    subst (λ k. IsLogPrefix (history logs old) (joined_logs logs ++ cut_of k (committed_entries new.node.saved)))
    (sym same)
    (after_past (joined_logs logs) (committed_cut old) (cut_of old.most (committed_entries new.node.saved))
    (cut_prefix ends_epoch old.most (committed_entries old.node.saved) (committed_entries new.node.saved) committed))

-- in the next
begins_grows : (logs : List (List Entry)) (log : List Entry) (old new : EpochValue) →
    IsLogPrefix (committed_cut old) log → Grows logs old (logs ++ log ∷ []) new
begins_grows logs log old new within =
    subst (λ (es : List Entry). IsLogPrefix (history logs old) (es ++ committed_cut new)) (sym (joined_push logs log))
    (prefix_trans (history logs old) (joined_logs logs ++ log) ((joined_logs logs ++ log) ++ committed_cut new)
    (after_past (joined_logs logs) (committed_cut old) log within)
    (prefix_append (joined_logs logs ++ log) (committed_cut new)))

own_grows : (logs : List (List Entry)) (event : Event) (step : EpochStep) (old new : EpochValue) →
    IsOwn old event new step → Grows logs old (logs_after logs step) new
own_grows logs event (steps.Own made) old new o = stays_grows logs old new o.most_is o.committed
own_grows logs event steps.Nothing old new o = absurd o
own_grows logs event (steps.Known client number place) old new o = absurd o
own_grows logs event (steps.Refused client number refusal) old new o = absurd o
own_grows logs event (steps.Deferred entry) old new o = absurd o
own_grows logs event (steps.Ask to packet) old new o = absurd o
own_grows logs event (steps.AskAll packets) old new o = absurd o
own_grows logs event (steps.Tell to epoch base) old new o = absurd o
own_grows logs event (steps.Began log packets) old new o = absurd o
own_grows logs event steps.Replaced old new o = absurd o

ask_all_grows : (logs : List (List Entry)) (step : EpochStep) (old new : EpochValue) → IsAskAll old new step →
    Grows logs old (logs_after logs step) new
ask_all_grows logs (steps.AskAll packets) old new o =
    subst (λ (v : EpochValue). Grows logs old logs v) (sym o.1) (prefix_refl (history logs old))
ask_all_grows logs steps.Nothing old new o = absurd o
ask_all_grows logs (steps.Own made) old new o = absurd o
ask_all_grows logs (steps.Known client number place) old new o = absurd o
ask_all_grows logs (steps.Refused client number refusal) old new o = absurd o
ask_all_grows logs (steps.Deferred entry) old new o = absurd o
ask_all_grows logs (steps.Ask to packet) old new o = absurd o
ask_all_grows logs (steps.Tell to epoch base) old new o = absurd o
ask_all_grows logs (steps.Began log packets) old new o = absurd o
ask_all_grows logs steps.Replaced old new o = absurd o

begun_grows : (logs : List (List Entry)) (whole : List Entry) (step : EpochStep) (old new : EpochValue) →
    IsLogPrefix (committed_cut old) whole → IsBegun (joined_logs logs) whole old new step →
    Grows logs old (logs_after logs step) new
begun_grows logs whole (steps.Began log packets) old new within o =
    begins_grows logs log old new
    (subst (λ (es : List Entry). IsLogPrefix (committed_cut old) es) (sym o.0) within)
begun_grows logs whole steps.Nothing old new within o = absurd o
begun_grows logs whole (steps.Own made) old new within o = absurd o
begun_grows logs whole (steps.Known client number place) old new within o = absurd o
begun_grows logs whole (steps.Refused client number refusal) old new within o = absurd o
begun_grows logs whole (steps.Deferred entry) old new within o = absurd o
begun_grows logs whole (steps.Ask to packet) old new within o = absurd o
begun_grows logs whole (steps.AskAll packets) old new within o = absurd o
begun_grows logs whole (steps.Tell to epoch base) old new within o = absurd o
begun_grows logs whole steps.Replaced old new within o = absurd o

-- what the node has committed begins the log that it takes
rest_begins : (old : EpochValue) (base : ℕ) (entries : List Entry) → is_rest old base entries ≡ true →
    IsLogPrefix (committed_cut old) (whole_log old base entries)
rest_begins old base entries h =
    let whole : List Entry = whole_log old base entries in
    let p =
    and_parts (has_next old && leb base (length (committed_cut old)) && is_whole old.most whole)
    (keeps_committed old.node.saved whole) h in
    let preserved = (keeps_committed-Decides old.node.saved whole).0 p.1 in
    prefix_trans (committed_cut old) (committed_entries old.node.saved) whole
    (cut_is_prefix ends_epoch old.most (committed_entries old.node.saved))
    (subst (λ (own : List Entry). IsLogPrefix own whole) (sym preserved.1) (prefix_take old.node.saved.commit whole))

taken_grows : (rest : Bool) (logs : List (List Entry)) (base : ℕ) (entries : List Entry) (step : EpochStep)
    (old new : EpochValue) → is_rest old base entries ≡ rest →
    IsTaken rest (joined_logs logs) (whole_log old base entries) old new step →
    Grows logs old (logs_after logs step) new
taken_grows true logs base entries step old new is o =
    begun_grows logs (whole_log old base entries) step old new (rest_begins old base entries is) o
taken_grows false logs base entries step old new is o = only_grows logs steps.Nothing step old new refl o

deed_grows : (logs : List (List Entry)) (asked : Deed) (step : EpochStep) (old new : EpochValue) →
    DoesDeed (joined_logs logs) asked old new step → Grows logs old (logs_after logs step) new
deed_grows logs Ignore step old new d = only_grows logs _ step old new refl d
deed_grows logs (Own event) step old new d = own_grows logs event step old new d
deed_grows logs (Answer client number place) step old new d = only_grows logs _ step old new refl d
deed_grows logs (Refuse client number refusal) step old new d = only_grows logs _ step old new refl d
deed_grows logs (Keep entry) step old new d = only_grows logs _ step old new refl d
deed_grows logs (Ask to) step old new d = only_grows logs _ step old new refl d
deed_grows logs AskAll step old new d = ask_all_grows logs step old new d
deed_grows logs (Tell to epoch base) step old new d = only_grows logs _ step old new refl d
deed_grows logs (Take base entries) step old new d =
    taken_grows (is_rest old base entries) logs base entries step old new refl d
deed_grows logs Stop step old new d = only_grows logs _ step old new refl d

-- A node that began the next epoch, and is started again there, has committed nothing there, as before.
begun_again : (logs : List (List Entry)) (whole : List Entry) (step : EpochStep) (old new : EpochValue) →
    IsLogPrefix (committed_cut old) whole → IsBegun (joined_logs logs) whole old new step →
    Grows logs old (logs_after logs step) (started_again new)
begun_again logs whole (steps.Began log packets) old new within o =
    begins_grows logs log old (started_again new)
    (subst (λ (es : List Entry). IsLogPrefix (committed_cut old) es) (sym o.0) within)
begun_again logs whole steps.Nothing old new within o = absurd o
begun_again logs whole (steps.Own made) old new within o = absurd o
begun_again logs whole (steps.Known client number place) old new within o = absurd o
begun_again logs whole (steps.Refused client number refusal) old new within o = absurd o
begun_again logs whole (steps.Deferred entry) old new within o = absurd o
begun_again logs whole (steps.Ask to packet) old new within o = absurd o
begun_again logs whole (steps.AskAll packets) old new within o = absurd o
begun_again logs whole (steps.Tell to epoch base) old new within o = absurd o
begun_again logs whole steps.Replaced old new within o = absurd o

taken_again : (rest : Bool) (logs : List (List Entry)) (base : ℕ) (entries : List Entry) (step : EpochStep)
    (old new : EpochValue) → is_rest old base entries ≡ rest → BeginsByStep step →
    IsTaken rest (joined_logs logs) (whole_log old base entries) old new step →
    Grows logs old (logs_after logs step) (started_again new)
taken_again true logs base entries step old new is begun o =
    begun_again logs (whole_log old base entries) step old new (rest_begins old base entries is) o
taken_again false logs base entries step old new is begun o = absurd (subst BeginsByStep o.0 begun)

own_begins_none : (event : Event) (step : EpochStep) (old new : EpochValue) → IsOwn old event new step →
    BeginsByStep step → ⊥
own_begins_none event (steps.Began log packets) old new o begun = o
own_begins_none event steps.Nothing old new o begun = begun
own_begins_none event (steps.Own made) old new o begun = begun
own_begins_none event (steps.Known client number place) old new o begun = begun
own_begins_none event (steps.Refused client number refusal) old new o begun = begun
own_begins_none event (steps.Deferred entry) old new o begun = begun
own_begins_none event (steps.Ask to packet) old new o begun = begun
own_begins_none event (steps.AskAll packets) old new o begun = begun
own_begins_none event (steps.Tell to epoch base) old new o begun = begun
own_begins_none event steps.Replaced old new o begun = begun

ask_all_begins_none : (step : EpochStep) (old new : EpochValue) → IsAskAll old new step → BeginsByStep step → ⊥
ask_all_begins_none (steps.Began log packets) old new o begun = o
ask_all_begins_none steps.Nothing old new o begun = begun
ask_all_begins_none (steps.Own made) old new o begun = begun
ask_all_begins_none (steps.Known client number place) old new o begun = begun
ask_all_begins_none (steps.Refused client number refusal) old new o begun = begun
ask_all_begins_none (steps.Deferred entry) old new o begun = begun
ask_all_begins_none (steps.Ask to packet) old new o begun = begun
ask_all_begins_none (steps.AskAll packets) old new o begun = begun
ask_all_begins_none (steps.Tell to epoch base) old new o begun = begun
ask_all_begins_none steps.Replaced old new o begun = begun

deed_again : (logs : List (List Entry)) (asked : Deed) (step : EpochStep) (old new : EpochValue) →
    BeginsByStep step → DoesDeed (joined_logs logs) asked old new step →
    Grows logs old (logs_after logs step) (started_again new)
deed_again logs Ignore step old new begun d = absurd (subst BeginsByStep d.0 begun)
deed_again logs (Own event) step old new begun d = absurd (own_begins_none event step old new d begun)
deed_again logs (Answer client number place) step old new begun d = absurd (subst BeginsByStep d.0 begun)
deed_again logs (Refuse client number refusal) step old new begun d = absurd (subst BeginsByStep d.0 begun)
deed_again logs (Keep entry) step old new begun d = absurd (subst BeginsByStep d.0 begun)
deed_again logs (Ask to) step old new begun d = absurd (subst BeginsByStep d.0 begun)
deed_again logs AskAll step old new begun d = absurd (ask_all_begins_none step old new d begun)
deed_again logs (Tell to epoch base) step old new begun d = absurd (subst BeginsByStep d.0 begun)
deed_again logs (Take base entries) step old new begun d =
    taken_again (is_rest old base entries) logs base entries step old new refl begun d
deed_again logs Stop step old new begun d = absurd (subst BeginsByStep d.0 begun)

-- Node i's history goes on, and that of no other node changes.
becomes_grows : (n i : ℕ) (g new : EpochNodes) (value : EpochValue) (logs : List (List Entry))
    (out : List (ℕ × EpochPacket)) → NodeBecomes n i g value logs out new →
    Grows (g.logs i) (g.values i) logs value → (j : ℕ) → IsLogPrefix (history_of g j) (history_of new j)
becomes_grows n i g new value logs out b grows j = by_node (cases_eq j i)
  where
    by_node : (j ≡ i) ⊎ (j ≢ i) → IsLogPrefix (history_of g j) (history_of new j)
    by_node (inl e) =
        subst (λ k. IsLogPrefix (history_of g k) (history_of new k)) (sym e)
        (subst (λ (v : EpochValue). Grows (g.logs i) (g.values i) (new.logs i) v) (sym b.value_is)
        (subst (λ (ls : List (List Entry)). Grows (g.logs i) (g.values i) ls value) (sym b.logs_are) grows))
    by_node (inr ne) =
        subst (λ (v : EpochValue). Grows (g.logs j) (g.values j) (new.logs j) v) (sym (b.other_values j ne))
        (subst (λ (ls : List (List Entry)). Grows (g.logs j) (g.values j) ls (g.values j)) (sym (b.other_logs j ne))
        (prefix_refl (history_of g j)))

pub act_grows : (n : ℕ) (g new : EpochNodes) (act : EpochAct) → ActLeads n g act new → (j : ℕ) →
    IsLogPrefix (history_of g j) (history_of new j)
act_grows n g new (Meets i event) (value, step, sent, does, b) =
    becomes_grows n i g new value (logs_after (g.logs i) step) _ b
    (deed_grows (g.logs i) _ step (g.values i) value does)
act_grows n g new (Begins i) (value, packets, due, b) =
    becomes_grows n i g new value (g.logs i ++ committed_cut (g.values i) ∷ []) _ b
    (begins_grows (g.logs i) (committed_cut (g.values i)) (g.values i) value (prefix_refl (committed_cut (g.values i))))
act_grows n g new (BeginsAndEnds i) (value, packets, due, b) =
    becomes_grows n i g new (started_again value) (g.logs i ++ committed_cut (g.values i) ∷ []) _ b
    (begins_grows (g.logs i) (committed_cut (g.values i)) (g.values i) (started_again value)
    (prefix_refl (committed_cut (g.values i))))
act_grows n g new (MeetsAndEnds i event) (value, step, sent, does, begun, b) =
    becomes_grows n i g new (started_again value) (logs_after (g.logs i) step) _ b
    (deed_again (g.logs i) _ step (g.values i) value begun does)
act_grows n g new (StartsAgain i) (value, starts, b) =
    let saved : value.node.saved ≡ (g.values i).node.saved = ap (λ (k : NodeValue). k.saved) starts.node_is in
    becomes_grows n i g new value (g.logs i) _ b
    (stays_grows (g.logs i) (g.values i) value starts.most_is
    (subst (λ (s : SavedValue). IsLogPrefix (committed_entries (g.values i).node.saved) (committed_entries s))
    (sym saved) (prefix_refl (committed_entries (g.values i).node.saved))))

pub acts_grow : (n : ℕ) (g new : EpochNodes) (acts : List EpochAct) → ActsLead n g acts new → (j : ℕ) →
    IsLogPrefix (history_of g j) (history_of new j)
acts_grow n g new [] same j =
    subst (λ (x : EpochNodes). IsLogPrefix (history_of g j) (history_of x j)) same (prefix_refl (history_of g j))
acts_grow n g new (act ∷ more) (mid, one, rest) j =
    prefix_trans (history_of g j) (history_of mid j) (history_of new j) (act_grows n g mid act one j)
    (acts_grow n mid new more rest j)
