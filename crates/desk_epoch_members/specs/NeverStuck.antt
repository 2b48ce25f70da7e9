-- That a desk whose nodes are replaced can always go on at those that act and are up, and that these can replace one.
use Rattle.std.specs.Prelude.{◌≡◌, ◌≢◌, ◌⊎◌, ◌≤◌, ℕ, zero, suc, Bool, true, List, [], ◌∷◌, ◌++◌, length, Some}
use Rattle.desk_types.specs.declared.command.Entry.{Entry}
use Rattle.desk_types.specs.Group.{IsGroup}
use Rattle.desk_log.specs.Entries.{entry_at}
use Rattle.desk_world.specs.declared.world_event.WorldEvent.TheVariants.{Request, Restart}
use Rattle.desk_world.specs.NeverStuck.{IsServed}
use Rattle.desk_world.specs.World.{World, world, node_of_world}
use Rattle.desk_epochs.specs.Epochs.{IsNewFor, joined_logs}
use Rattle.desk_epochs.specs.Histories.{epoch_log, has_ended}
use Rattle.desk_epochs.specs.NeverStuck.{CanAsk, EndsWithinLog}
use Rattle.desk_epoch_node.specs.declared.replacement.Replacement.{Replacement}
use Rattle.desk_epoch_members.specs.Tokens.{BeginsAtEnd, Deals, Desk, DeskLeads, IsTold, Rules, acts_in, ending_of}
use Rattle.desk_epoch_members.specs.Tokens.{epoch_in, first_desk, named_token, own_history}

-- the token that logs name last for a number
abbrev pub named_after : Rules → List (List Entry) → ℕ → ℕ
named_after rules past number = named_token rules number 0 (joined_logs past)

-- the numbers whose nodes act after logs and are up
abbrev pub acting_up : Rules → (ℕ → ℕ → Bool) → List (List Entry) → ℕ → Bool
acting_up rules up past number = up number (named_after rules past number)

-- the world of an epoch
abbrev pub world_of : List ℕ → (ℕ → ℕ) → Desk → ℕ → World
world_of domain sizes d epoch = world domain (sizes epoch) (d.runs epoch)

-- A step at nodes that are up, and no restart.
abbrev pub StepAtUp : List ℕ → Rules → (ℕ → ℕ) → (ℕ → ℕ → Bool) → Desk → Desk → Type 0
StepAtUp domain rules sizes up old new =
    ((a : Deals domain rules sizes old new) × (up a.number a.token ≡ true) × ((i : ℕ) → a.event ≢ Restart i))
    ⊎ (((b : BeginsAtEnd domain rules sizes old new) × (up b.number b.token ≡ true))
    ⊎ ((t : IsTold old new) × (up t.number t.token ≡ true) × (up t.from t.from_token ≡ true)))

-- So many such steps lead from a desk to another.
abbrev pub LeadsAtUp : List ℕ → Rules → (ℕ → ℕ) → (ℕ → ℕ → Bool) → ℕ → Desk → Desk → Type 0
LeadsAtUp domain rules sizes up zero old new = old ≡ new
LeadsAtUp domain rules sizes up (suc count) old new =
    (mid : Desk) × StepAtUp domain rules sizes up old mid × LeadsAtUp domain rules sizes up count mid new

-- Of those who act after logs, one that is up has a log that reaches the next epoch's end: this one, up to the end.
pub record IsNextLog (domain : List ℕ) (rules : Rules) (sizes : ℕ → ℕ) (up : ℕ → ℕ → Bool) (d : Desk)
    (past : List (List Entry)) (log : List Entry) : Type 0
  where
    pub number : ℕ
    pub is_up : acting_up rules up past number ≡ true
    pub over : has_ended (ending_of rules).ends rules.most
        (node_of_world (world_of domain sizes d (length past)) number).saved.log ≡ true
    pub log_is : log ≡ epoch_log (ending_of rules).ends rules.most
        (node_of_world (world_of domain sizes d (length past)) number).saved.log

-- So it is of each of these logs after those before it.
abbrev pub AreNextLogs : List ℕ → Rules → (ℕ → ℕ) → (ℕ → ℕ → Bool) → Desk → List (List Entry) → List (List Entry) →
    Type 0
AreNextLogs domain rules sizes up d past [] = Unit {0}
AreNextLogs domain rules sizes up d past (log ∷ logs) =
    IsNextLog domain rules sizes up d past log × AreNextLogs domain rules sizes up d (past ++ log ∷ []) logs

-- A node is up, and none that is up is in a later epoch. In its epoch, and in those that follow whatever logs end it
-- and the next ones, the request can be asked at those who act and are up. It is new beside the past logs of the node.
pub record CanAskMembers (domain : List ℕ) (rules : Rules) (sizes : ℕ → ℕ) (up : ℕ → ℕ → Bool) (d : Desk)
    (entry : Entry) : Type 0
  where
    pub number : ℕ
    pub token : ℕ
    pub is_up : up number token ≡ true
    pub furthest : (i t : ℕ) → up i t ≡ true → epoch_in d i t ≤ epoch_in d number token
    pub asks : (logs : List (List Entry)) → AreNextLogs domain rules sizes up d (d.pasts number token) logs →
        CanAsk (sizes (length (d.pasts number token ++ logs))) (acting_up rules up (d.pasts number token ++ logs))
        (world_of domain sizes d (length (d.pasts number token ++ logs))) entry
    pub is_new : IsNewFor (joined_logs (d.pasts number token)) (Request number entry)

-- A node that acts after these logs and is up has them as its past logs. It has committed the entry in the epoch
-- after them, and a reply to it is among the answers that came since. The entry stands in what it has committed of all
-- epochs.
pub record IsServedByMember (domain : List ℕ) (rules : Rules) (sizes : ℕ → ℕ) (up : ℕ → ℕ → Bool) (early late : Desk)
    (entry : Entry) : Type 0
  where
    pub past : List (List Entry)
    pub served : IsServed (sizes (length past)) (acting_up rules up past) (world_of domain sizes early (length past))
        (world_of domain sizes late (length past)) entry
    pub has : late.pasts served.node (named_after rules past served.node) ≡ past
    pub place : ℕ
    pub committed : entry_at (own_history domain rules sizes late served.node (named_after rules past served.node))
        place ≡ Some entry

-- It holds of each desk that steps lead to, whichever nodes are up, of each request that can be asked.
abbrev pub OfMembers : (List ℕ → Rules → (ℕ → ℕ) → (ℕ → ℕ → Bool) → Desk → Entry → Type 0) → Type 0
OfMembers P = (domain : List ℕ) (rules : Rules) (sizes : ℕ → ℕ) (count : ℕ) (d : Desk) (up : ℕ → ℕ → Bool)
    (entry : Entry) → EndsWithinLog (ending_of rules) → ((epoch : ℕ) → IsGroup (sizes epoch)) →
    DeskLeads domain rules sizes count first_desk d → CanAskMembers domain rules sizes up d entry →
    P domain rules sizes up d entry

-- Steps at the nodes that are up lead to a desk in which the request is served, whatever logs are full and whoever is
-- named to act after them.
abbrev pub MembersNeverStuck : Type 0
MembersNeverStuck = OfMembers (λ domain rules sizes up d entry. (more : ℕ) × (later : Desk)
    × LeadsAtUp domain rules sizes up more d later × IsServedByMember domain rules sizes up d later entry)

-- Where it names a node that is up, such steps lead to a desk in which that node acts, with the request in a past log.
abbrev pub NamedNodesAct : Type 0
NamedNodesAct = OfMembers (λ domain rules sizes up d entry. (named : Replacement) → rules.named entry ≡ Some named →
    up named.node named.token ≡ true → (more : ℕ) × (later : Desk) × LeadsAtUp domain rules sizes up more d later
    × (acts_in rules later named.node named.token ≡ true)
    × ((place : ℕ) × (entry_at (joined_logs (later.pasts named.node named.token)) place ≡ Some entry)))
