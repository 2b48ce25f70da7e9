-- What holds of a desk over epochs whose nodes are replaced, whatever happens to it.
use Rattle.std.specs.Prelude.{◌≡◌, ◌⊎◌, ◌<◌, ◌≤◌, ℕ, true, List, ◌++◌, length, take, Some}
use Rattle.desk_types.specs.declared.command.Entry.{Entry}
use Rattle.desk_types.specs.declared.reply.Reply.{Reply}
use Rattle.desk_types.specs.Group.{IsGroup}
use Rattle.desk_types.specs.Identifier.{IsLowerDomain}
use Rattle.desk_board.specs.Consistency.{IsConsistent}
use Rattle.desk_board.specs.Laws.{names, own_places}
use Rattle.desk_board.specs.Log.{board_of}
use Rattle.desk_log.specs.Entries.{IsLogPrefix, IsRising, entry_at}
use Rattle.desk_world.specs.Agreement.{IsReplyAt}
use Rattle.desk_world.specs.Requested.{IsRequested}
use Rattle.desk_epochs.specs.Histories.{ArePast}
use Rattle.desk_epoch_members.specs.Tokens.{Desk, DeskLeads, Rules, acts_in, ending_of, epoch_in, first_desk}
use Rattle.desk_epoch_members.specs.Tokens.{own_history}

-- It holds of what any node has committed in all epochs at any time, and what any node, the same or another, under the
-- same number or another, has committed then or later.
abbrev pub OfTwo : (List ℕ → List Entry → List Entry → Type 0) → Type 0
OfTwo P = (domain : List ℕ) (rules : Rules) (sizes : ℕ → ℕ) (first more : ℕ) (early late : Desk) (i t j u : ℕ) →
    ((epoch : ℕ) → IsGroup (sizes epoch)) → DeskLeads domain rules sizes first first_desk early →
    DeskLeads domain rules sizes more early late →
    P domain (own_history domain rules sizes early i t) (own_history domain rules sizes late j u)

-- One is a prefix of the other.
abbrev pub OwnHistoriesAgree : Type 0
OwnHistoriesAgree = OfTwo (λ domain one other. IsLogPrefix one other ⊎ IsLogPrefix other one)

-- As far as both go, they have one board.
abbrev pub OwnBoardsAgree : Type 0
OwnBoardsAgree = OfTwo (λ domain one other. (k : ℕ) → k ≤ length one → k ≤ length other →
    board_of domain (take k one) ≡ board_of domain (take k other))

-- An identifier names one incident for good.
abbrev pub OwnIdentifiersStay : Type 0
OwnIdentifiersStay = OfTwo (λ domain one other. (k : ℕ) → k ≤ length one → k ≤ length other →
    (more : List (ℕ × List ℕ)) × (names (board_of domain other) ≡ names (board_of domain (take k one)) ++ more))

-- Two replies to one numbered command are one reply, of one place.
abbrev pub OwnRepliesAgree : Type 0
OwnRepliesAgree = OfTwo (λ domain one other. (client number p q : ℕ) (r s : Reply) →
    IsReplyAt domain one client number p r → IsReplyAt domain other client number q s → (p ≡ q) × (r ≡ s))

-- It holds of what any node has committed in all epochs at any time.
abbrev pub OfOne : (List ℕ → List Entry → Type 0) → Type 0
OfOne P = (domain : List ℕ) (rules : Rules) (sizes : ℕ → ℕ) (count : ℕ) (d : Desk) (i t : ℕ) →
    ((epoch : ℕ) → IsGroup (sizes epoch)) → DeskLeads domain rules sizes count first_desk d →
    P domain (own_history domain rules sizes d i t)

-- Each client's numbers rise: no numbered command stands there twice.
abbrev pub OwnHistoriesRise : Type 0
OwnHistoriesRise = OfOne (λ domain log. IsRising log)

-- The board of each prefix is consistent, as long as the desk's own identifiers tell places apart.
abbrev pub OwnBoardsConsistent : Type 0
OwnBoardsConsistent = OfOne (λ domain log. (k : ℕ) → IsLowerDomain domain → length (take k log) < own_places →
    IsConsistent (board_of domain (take k log)))

-- Each entry of it was requested, in some epoch.
abbrev pub OwnEntriesRequested : Type 0
OwnEntriesRequested = (domain : List ℕ) (rules : Rules) (sizes : ℕ → ℕ) (count : ℕ) (d : Desk) (i t place : ℕ)
    (e : Entry) → ((epoch : ℕ) → IsGroup (sizes epoch)) → DeskLeads domain rules sizes count first_desk d →
    entry_at (own_history domain rules sizes d i t) place ≡ Some e →
    (epoch : ℕ) × IsRequested (d.runs epoch) e

-- The past logs of a node are those of the epochs before its own, each whole: of each, somebody has committed the end.
abbrev pub ArePastsWhole : Type 0
ArePastsWhole = (domain : List ℕ) (rules : Rules) (sizes : ℕ → ℕ) (count : ℕ) (d : Desk) (i t : ℕ) →
    ((epoch : ℕ) → IsGroup (sizes epoch)) → DeskLeads domain rules sizes count first_desk d →
    ArePast domain (ending_of rules) sizes d.runs 0 (d.pasts i t)

-- Of two nodes of one number, which act in one epoch, now or later, one is the other.
abbrev pub OneActs : Type 0
OneActs = (domain : List ℕ) (rules : Rules) (sizes : ℕ → ℕ) (first more : ℕ) (early late : Desk) (i t u : ℕ) →
    ((epoch : ℕ) → IsGroup (sizes epoch)) → DeskLeads domain rules sizes first first_desk early →
    DeskLeads domain rules sizes more early late → epoch_in early i t ≡ epoch_in late i u →
    acts_in rules early i t ≡ true → acts_in rules late i u ≡ true → t ≡ u
