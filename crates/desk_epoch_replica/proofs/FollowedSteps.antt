-- What a step of a node over epochs leaves as it is.
use Rattle.std.proofs.Common.{◌≡◌, ℕ, ◌+◌, Bool, true, false, ◌&&◌, List, ◌++◌, length, refl, sym, ap, subst}
use Rattle.std.proofs.Common.{◌∙◌, Option, Some, None, leb, length-append}
use Rattle.std.proofs.lemmas.Bool.{and_parts}
use Rattle.std.proofs.lemmas.Option.{none-some, same_Some}
use Rattle.std.specs.Prelude.{Result, Ok, Err, IfOk, OnErr}
use Rattle.desk_types.specs.declared.command.Entry.{Entry}
use Rattle.desk_types.specs.declared.packet.Message.{Message}
use Rattle.desk_log.specs.Change.{keeps_committed}
use Rattle.desk_log.specs.Entries.{IsLogPrefix}
use Rattle.desk_log.specs.SavedValue.{committed_entries}
use Rattle.desk_log.proofs.KeepsCommitted.{keeps_committed-Decides}
use Rattle.desk_log.proofs.Prefixes.{prefix_refl, prefix_take}
use Rattle.desk_node.specs.declared.event.Event.{Event}
use Rattle.desk_node.specs.NodeValue.{NodeValue, IsSameNode}
use Rattle.desk_epoch_node.specs.declared.deed.Deed.{Deed}
use Rattle.desk_epoch_node.specs.declared.deed.Deed.TheVariants.{Ignore, Own, Answer, Refuse, Keep, Ask, AskAll, Tell}
use Rattle.desk_epoch_node.specs.declared.deed.Deed.TheVariants.{Take, Stop}
use Rattle.desk_epoch_node.specs.declared.step.EpochStep.{EpochStep}
use Rattle.desk_epoch_node.specs.declared.step.EpochStep.TheVariants as steps
use Rattle.desk_epoch_node.specs.Does.{BeginsAfter, DoesDeed, IsAskAll, IsBegun, IsOwn, IsTaken, is_rest}
use Rattle.desk_epoch_node.specs.Does.{whole_log}
use Rattle.desk_epoch_node.specs.Ends.{is_whole}
use Rattle.desk_epoch_node.specs.EpochValue.{EpochValue, committed_cut, has_next}
use Rattle.desk_epoch_node.specs.PastRows.{PastValue, StandFor}
use Rattle.desk_epoch_node.proofs.PreservedHistories.{steps_keep}
use Rattle.desk_epoch_replica.specs.Follows.{EpochFollows, StaysInEpoch}
use Rattle.desk_epoch_replica.specs.MemberValue.{HasPast}
use Rattle.desk_epoch_replica.specs.Steps.{reported_log}

-- What is kept of past logs is of some logs after any step.
pub step_keeps_past : (asked : List Entry → Deed) (old new : EpochValue) (made : EpochStep) → HasPast old.past →
    ((past : List Entry) → StandFor past old.past → DoesDeed past (asked past) old new made) → HasPast new.past
step_keeps_past asked old new made (past, s) does =
    let k = steps_keep past (asked past) old new made s (does past s) in (k.0, k.1)

same_node : (a : NodeValue) → IsSameNode a a
same_node a = record { domain_is = refl; id_is = refl; n_is = refl }

stays_same : (old new : EpochValue) → new ≡ old → StaysInEpoch old new
stays_same old new is =
    subst (λ (e : EpochValue). StaysInEpoch old e) (sym is)
    (record {
      same = same_node old.node;
      epoch_is = refl;
      past_is = refl;
      most_is = refl;
      token_is = refl;
      committed = prefix_refl (committed_entries old.node.saved);
    })

own_stays : (event : Event) (old new : EpochValue) (made : EpochStep) → IsOwn old event new made →
    StaysInEpoch old new
own_stays event old new (steps.Own step) d = record {
  same = d.same;
  epoch_is = d.epoch_is;
  past_is = d.past_is;
  most_is = d.most_is;
  token_is = d.token_is;
  committed = d.committed;
}
own_stays event old new steps.Nothing d = absurd d
own_stays event old new (steps.Known client number place) d = absurd d
own_stays event old new (steps.Refused client number refusal) d = absurd d
own_stays event old new (steps.Deferred entry) d = absurd d
own_stays event old new (steps.Ask to packet) d = absurd d
own_stays event old new (steps.AskAll packets) d = absurd d
own_stays event old new steps.Replaced d = absurd d
own_stays event old new (steps.Tell to epoch base) d = absurd d
own_stays event old new (steps.Began log packets) d = absurd d

-- a log is told where an epoch begins
begun_tells : (past whole : List Entry) (old new : EpochValue) (made : EpochStep) → IsBegun past whole old new made →
    reported_log made ≡ Some whole
begun_tells past whole old new (steps.Began log packets) d = ap (λ (es : List Entry). Some es) d.0
begun_tells past whole old new steps.Nothing d = absurd d
begun_tells past whole old new (steps.Known client number place) d = absurd d
begun_tells past whole old new (steps.Refused client number refusal) d = absurd d
begun_tells past whole old new (steps.Deferred entry) d = absurd d
begun_tells past whole old new (steps.Ask to packet) d = absurd d
begun_tells past whole old new (steps.AskAll packets) d = absurd d
begun_tells past whole old new steps.Replaced d = absurd d
begun_tells past whole old new (steps.Tell to epoch base) d = absurd d
begun_tells past whole old new (steps.Own step) d = absurd d

-- and the node of the next epoch stands after it
begun_after : (past whole : List Entry) (old new : EpochValue) (made : EpochStep) → IsBegun past whole old new made →
    (packets : List (ℕ × Message)) × BeginsAfter past whole old new packets
begun_after past whole old new (steps.Began log packets) d = (packets.items, d.1)
begun_after past whole old new steps.Nothing d = absurd d
begun_after past whole old new (steps.Known client number place) d = absurd d
begun_after past whole old new (steps.Refused client number refusal) d = absurd d
begun_after past whole old new (steps.Deferred entry) d = absurd d
begun_after past whole old new (steps.Ask to packet) d = absurd d
begun_after past whole old new (steps.AskAll packets) d = absurd d
begun_after past whole old new steps.Replaced d = absurd d
begun_after past whole old new (steps.Tell to epoch base) d = absurd d
begun_after past whole old new (steps.Own step) d = absurd d

ask_all_stays : (old new : EpochValue) (made : EpochStep) → IsAskAll old new made → StaysInEpoch old new
ask_all_stays old new (steps.AskAll packets) d = stays_same old new d.1
ask_all_stays old new steps.Nothing d = absurd d
ask_all_stays old new (steps.Own step) d = absurd d
ask_all_stays old new (steps.Known client number place) d = absurd d
ask_all_stays old new (steps.Refused client number refusal) d = absurd d
ask_all_stays old new (steps.Deferred entry) d = absurd d
ask_all_stays old new (steps.Ask to packet) d = absurd d
ask_all_stays old new (steps.Tell to epoch base) d = absurd d
ask_all_stays old new steps.Replaced d = absurd d
ask_all_stays old new (steps.Began log packets) d = absurd d

taken_stays : (rest : Bool) (past whole : List Entry) (old new : EpochValue) (made : EpochStep) →
    reported_log made ≡ None → IsTaken rest past whole old new made → StaysInEpoch old new
taken_stays true past whole old new made none d =
    absurd (none-some whole (sym none ∙ begun_tells past whole old new made d))
taken_stays false past whole old new made none d = stays_same old new d.1

-- Where the node was told no log it stays in its epoch.
deed_stays : (past : List Entry) (asked : Deed) (old new : EpochValue) (made : EpochStep) →
    reported_log made ≡ None → DoesDeed past asked old new made → StaysInEpoch old new
deed_stays past Ignore old new made none d = stays_same old new d.1
deed_stays past (Own event) old new made none d = own_stays event old new made d
deed_stays past (Answer client number place) old new made none d = stays_same old new d.1
deed_stays past (Refuse client number refusal) old new made none d = stays_same old new d.1
deed_stays past (Keep entry) old new made none d = stays_same old new d.1
deed_stays past (Ask to) old new made none d = stays_same old new d.1
deed_stays past AskAll old new made none d = ask_all_stays old new made d
deed_stays past Stop old new made none d = stays_same old new d.1
deed_stays past (Tell to epoch base) old new made none d = stays_same old new d.1
deed_stays past (Take base entries) old new made none d =
    taken_stays (is_rest old base entries) past (whole_log old base entries) old new made none d

-- what the node has committed begins the log that it takes
rest_keeps : (old : EpochValue) (base : ℕ) (entries : List Entry) → is_rest old base entries ≡ true →
    IsLogPrefix (committed_entries old.node.saved) (whole_log old base entries)
rest_keeps old base entries h =
    let whole : List Entry = whole_log old base entries in
    let p =
    and_parts
    (has_next old && leb base (length (committed_cut old)) && is_whole old.most whole)
    (keeps_committed old.node.saved whole) h in
    let preserved = (keeps_committed-Decides old.node.saved whole).0 p.1 in
    subst (λ (own : List Entry). IsLogPrefix own whole) (sym preserved.1) (prefix_take old.node.saved.commit whole)

-- what holds of the next epoch for one list of past logs
record Enters (past log : List Entry) (old new : EpochValue) : Type 0 where
  same : IsSameNode old.node new.node
  epoch_is : new.epoch ≡ old.epoch + 1
  past_is : StandFor (past ++ log) new.past
  most_is : new.most ≡ old.most
  token_is : new.token ≡ old.token
  committed : IsLogPrefix (committed_entries old.node.saved) log

no_log : {A : Type 0} (log : List Entry) (made other : EpochStep) → reported_log made ≡ Some log → made ≡ other →
    reported_log other ≡ None → A
no_log log made other some is none =
    absurd (none-some log (sym none ∙ (ap reported_log (sym is) ∙ some)))

pub own_tells_none : (event : Event) (old new : EpochValue) (made : EpochStep) → IsOwn old event new made →
    reported_log made ≡ None
own_tells_none event old new (steps.Own step) d = refl
own_tells_none event old new steps.Nothing d = absurd d
own_tells_none event old new (steps.Known client number place) d = absurd d
own_tells_none event old new (steps.Refused client number refusal) d = absurd d
own_tells_none event old new (steps.Deferred entry) d = absurd d
own_tells_none event old new (steps.Ask to packet) d = absurd d
own_tells_none event old new (steps.AskAll packets) d = absurd d
own_tells_none event old new steps.Replaced d = absurd d
own_tells_none event old new (steps.Tell to epoch base) d = absurd d
own_tells_none event old new (steps.Began log packets) d = absurd d

pub ask_all_tells_none : (old new : EpochValue) (made : EpochStep) → IsAskAll old new made →
    reported_log made ≡ None
ask_all_tells_none old new (steps.AskAll packets) d = refl
ask_all_tells_none old new steps.Nothing d = absurd d
ask_all_tells_none old new (steps.Own step) d = absurd d
ask_all_tells_none old new (steps.Known client number place) d = absurd d
ask_all_tells_none old new (steps.Refused client number refusal) d = absurd d
ask_all_tells_none old new (steps.Deferred entry) d = absurd d
ask_all_tells_none old new (steps.Ask to packet) d = absurd d
ask_all_tells_none old new (steps.Tell to epoch base) d = absurd d
ask_all_tells_none old new steps.Replaced d = absurd d
ask_all_tells_none old new (steps.Began log packets) d = absurd d

begun_enters : (past whole : List Entry) (old new : EpochValue) (packets : List (ℕ × Message)) →
    IsLogPrefix (committed_entries old.node.saved) whole → BeginsAfter past whole old new packets →
    Enters past whole old new
begun_enters past whole old new packets f b = record {
  same = record {
    domain_is = ap (λ (n : NodeValue). n.domain) b.node_is;
    id_is = ap (λ (n : NodeValue). n.id) b.node_is;
    n_is = ap (λ (n : NodeValue). n.n) b.node_is;
  };
  epoch_is = b.epoch_is;
  past_is = b.past_is;
  most_is = b.most_is;
  token_is = b.token_is;
  committed = f;
}

taken_enters : (rest : Bool) (past : List Entry) (base : ℕ) (entries log : List Entry) (old new : EpochValue)
    (made : EpochStep) → is_rest old base entries ≡ rest → reported_log made ≡ Some log →
    IsTaken rest past (whole_log old base entries) old new made → Enters past log old new
taken_enters true past base entries log old new made is some d =
    let whole : List Entry = whole_log old base entries in
    let b = begun_after past whole old new made d in
    let same : whole ≡ log = same_Some whole log (sym (begun_tells past whole old new made d) ∙ some) in
    subst (λ (es : List Entry). Enters past es old new) same
    (begun_enters past whole old new b.0 (rest_keeps old base entries is) b.1)
taken_enters false past base entries log old new made is some d = no_log log made steps.Nothing some d.0 refl

-- Where it was told a log it begins the next epoch.
deed_enters : (past : List Entry) (asked : Deed) (log : List Entry) (old new : EpochValue) (made : EpochStep) →
    reported_log made ≡ Some log → DoesDeed past asked old new made → Enters past log old new
deed_enters past Ignore log old new made some d = no_log log made steps.Nothing some d.0 refl
deed_enters past (Own event) log old new made some d =
    no_log log made made some refl (own_tells_none event old new made d)
deed_enters past (Answer client number place) log old new made some d =
    no_log log made (steps.Known client number place) some d.0 refl
deed_enters past (Refuse client number refusal) log old new made some d =
    no_log log made (steps.Refused client number refusal) some d.0 refl
deed_enters past (Keep entry) log old new made some d = no_log log made (steps.Deferred entry) some d.0 refl
deed_enters past (Ask to) log old new made some d = no_log log made _ some d.0 refl
deed_enters past AskAll log old new made some d =
    no_log log made made some refl (ask_all_tells_none old new made d)
deed_enters past Stop log old new made some d = no_log log made steps.Replaced some d.0 refl
deed_enters past (Tell to epoch base) log old new made some d =
    no_log log made (steps.Tell to epoch base) some d.0 refl
deed_enters past (Take base entries) log old new made some d =
    taken_enters (is_rest old base entries) past base entries log old new made refl some d

-- past logs are longer by a log that was told
entered_length : (past log : List Entry) (old new : PastValue) → StandFor past old → StandFor (past ++ log) new →
    new.length ≡ old.length + length log
entered_length past log old new s t =
    t.length_is ∙ length-append past log ∙ ap (λ (n : ℕ). n + length log) (sym s.length_is)

follows_by : (asked : List Entry → Deed) (old new : EpochValue) (made : EpochStep) (log : Option (List Entry)) →
    reported_log made ≡ log → HasPast old.past →
    ((past : List Entry) → StandFor past old.past → DoesDeed past (asked past) old new made) →
    EpochFollows log old new
follows_by asked old new made None is (past, s) does =
    deed_stays past (asked past) old new made is (does past s)
follows_by asked old new made (Some log) is (past, s) does =
    let e = deed_enters past (asked past) log old new made is (does past s) in
    record {
      same = e.same;
      epoch_is = e.epoch_is;
      past_is = λ p t. (deed_enters p (asked p) log old new made is (does p t)).past_is;
      length_is = entered_length past log old.past new.past s e.past_is;
      most_is = e.most_is;
      token_is = e.token_is;
      committed = e.committed;
    }

pub step_follows : (asked : List Entry → Deed) (old new : EpochValue) (made : EpochStep) → HasPast old.past →
    ((past : List Entry) → StandFor past old.past → DoesDeed past (asked past) old new made) →
    EpochFollows (reported_log made) old new
step_follows asked old new made s does = follows_by asked old new made (reported_log made) refl s does

-- a node stays in its epoch where nothing is done
pub epoch_still : (e : EpochValue) → StaysInEpoch e e
epoch_still e = stays_same e e refl

-- a result of a step
pub outcome_keeps_past : {W : Type 0} (asked : List Entry → Deed) (old new : EpochValue)
    (outcome : Result EpochStep W) → HasPast old.past →
    IfOk outcome (λ made. (past : List Entry) → StandFor past old.past → DoesDeed past (asked past) old new made) →
    OnErr outcome (new ≡ old) → HasPast new.past
outcome_keeps_past asked old new (Ok made) s does err = step_keeps_past asked old new made s does
outcome_keeps_past asked old new (Err refused) s does err =
    subst (λ (e : EpochValue). HasPast e.past) (sym err) s

pub outcome_follows : {W : Type 0} (asked : List Entry → Deed) (old new : EpochValue)
    (outcome : Result EpochStep W) → HasPast old.past →
    IfOk outcome (λ made. (past : List Entry) → StandFor past old.past → DoesDeed past (asked past) old new made) →
    IfOk outcome (λ made. EpochFollows (reported_log made) old new)
outcome_follows asked old new (Ok made) s does = step_follows asked old new made s does
outcome_follows asked old new (Err refused) s does = tt
