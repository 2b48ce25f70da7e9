-- What holds in every group of nodes over epochs some of which take the place of others, whatever happens in it.
use Rattle.std.specs.Prelude.{◌≡◌, ◌⊎◌, ◌<◌, ◌≤◌, ℕ, true, List, ◌++◌, length, take, Some, Contains}
use Rattle.desk_types.specs.Group.{IsGroupSize}
use Rattle.desk_types.specs.Identifier.{IsLowerDomain}
use Rattle.desk_types.specs.declared.command.Entry.{Entry}
use Rattle.desk_types.specs.declared.reply.Reply.{Reply}
use Rattle.desk_log.specs.Entries.{IsLogPrefix, IsRising, entry_at}
use Rattle.desk_board.specs.Consistency.{IsConsistent}
use Rattle.desk_board.specs.Laws.{names, own_places}
use Rattle.desk_board.specs.Log.{board_of}
use Rattle.desk_world.specs.Agreement.{IsReplyAt}
use Rattle.desk_epoch_node.specs.declared.event.EpochEvent.TheVariants.{Request}
use Rattle.desk_epoch_node.specs.EpochValue.{acts}
use Rattle.desk_epoch_node.specs.Replacements.{named_by, replacements, token_of}
use Rattle.desk_epoch_group.specs.Group.{EpochAct, Meets}
use Rattle.desk_epoch_members.specs.Nodes.{TokenActsLead, TokenNodes, first_token_nodes, token_history}
use Rattle.desk_epoch_members.specs.Tokens.{Desk, DeskLeads, Rules, acts_in, epoch_in, first_desk, named_token}
use Rattle.desk_epoch_members.specs.Tokens.{own_history}

-- Epochs end after so many entries, and after one that names a replacement, as nodes read it.
abbrev pub rules_after : ℕ → Rules
rules_after most = record { most = most; named = named_by }

-- Entries name for a number the token that a node finds in the replacements which they name.
abbrev pub TokensAreNamed : Type 0
TokensAreNamed = (most number : ℕ) (log : List Entry) →
    named_token (rules_after most) number 0 log ≡ token_of (replacements log) number

-- Steps of a desk with replaced nodes, in each of whose epochs there are n nodes, lead to another.
abbrev pub Reaches : List ℕ → ℕ → ℕ → ℕ → Desk → Desk → Type 0
Reaches domain n most count old new = DeskLeads domain (rules_after most) (λ epoch. n) count old new

-- Each node is in the epoch that it is in in the desk, acts there where it acts in the desk, and has committed of all
-- epochs what it has committed in the desk.
pub record AreOfDesk (domain : List ℕ) (n most : ℕ) (g : TokenNodes) (d : Desk) : Type 0 where
  pub epochs : (i t : ℕ) → (g.values i t).epoch ≡ epoch_in d i t
  pub acting : (i t : ℕ) → acts (g.values i t) ≡ acts_in (rules_after most) d i t
  pub histories : (i t : ℕ) → token_history g i t ≡ own_history domain (rules_after most) (λ epoch. n) d i t

-- The group's nodes are those of a desk to which steps lead, and later those of one to which more steps lead.
pub record AreOfDesks (domain : List ℕ) (n most : ℕ) (early late : TokenNodes) : Type 0 where
  pub before : ℕ
  pub more : ℕ
  pub desk : Desk
  pub later : Desk
  pub lead : Reaches domain n most before first_desk desk
  pub lead_on : Reaches domain n most more desk later
  pub is_early : AreOfDesk domain n most early desk
  pub is_late : AreOfDesk domain n most late later

-- There are three or five numbers, and an epoch has an entry at least.
pub record IsTokenGroup (n most : ℕ) : Type 0 where
  pub size : IsGroupSize n
  pub least : 1 ≤ most

-- So it is, whatever happens.
abbrev pub NodesMakeDesk : Type 0
NodesMakeDesk = (domain : List ℕ) (n most : ℕ) (first more : List (ℕ × EpochAct)) (early late : TokenNodes) →
    IsTokenGroup n most → TokenActsLead n (first_token_nodes domain n most) first early →
    TokenActsLead n early more late → AreOfDesks domain n most early late

-- It holds of what any node has committed of all epochs at any time, and any node then or later, the same or another,
-- of the same number or another.
abbrev pub OfTwoTokenNodes : (List ℕ → List Entry → List Entry → Type 0) → Type 0
OfTwoTokenNodes P = (domain : List ℕ) (n most : ℕ) (first more : List (ℕ × EpochAct)) (early late : TokenNodes)
    (i t j u : ℕ) → IsTokenGroup n most → TokenActsLead n (first_token_nodes domain n most) first early →
    TokenActsLead n early more late → P domain (token_history early i t) (token_history late j u)

-- One is a prefix of the other.
abbrev pub TokenHistoriesAgree : Type 0
TokenHistoriesAgree = OfTwoTokenNodes (λ domain one other. IsLogPrefix one other ⊎ IsLogPrefix other one)

-- As far as both go, they have one board.
abbrev pub TokenBoardsAgree : Type 0
TokenBoardsAgree = OfTwoTokenNodes (λ domain one other. (k : ℕ) → k ≤ length one → k ≤ length other →
    board_of domain (take k one) ≡ board_of domain (take k other))

-- An identifier names one incident for good.
abbrev pub TokenIdentifiersStay : Type 0
TokenIdentifiersStay = OfTwoTokenNodes (λ domain one other. (k : ℕ) → k ≤ length one → k ≤ length other →
    (more : List (ℕ × List ℕ)) × (names (board_of domain other) ≡ names (board_of domain (take k one)) ++ more))

-- Two replies to one numbered command are one reply, of one place.
abbrev pub TokenRepliesAgree : Type 0
TokenRepliesAgree = OfTwoTokenNodes (λ domain one other. (client number p q : ℕ) (r s : Reply) →
    IsReplyAt domain one client number p r → IsReplyAt domain other client number q s → (p ≡ q) × (r ≡ s))

-- It holds of what any node has committed of all epochs at any time.
abbrev pub OfTokenNodes : (List ℕ → List Entry → Type 0) → Type 0
OfTokenNodes P = (domain : List ℕ) (n most : ℕ) (acts : List (ℕ × EpochAct)) (g : TokenNodes) (i t : ℕ) →
    IsTokenGroup n most → TokenActsLead n (first_token_nodes domain n most) acts g → P domain (token_history g i t)

-- Each client's numbers rise: no numbered command stands there twice.
abbrev pub TokenHistoriesRise : Type 0
TokenHistoriesRise = OfTokenNodes (λ domain log. IsRising log)

-- The board of each prefix is consistent, as long as the desk's own identifiers tell places apart.
abbrev pub TokenBoardsConsistent : Type 0
TokenBoardsConsistent = OfTokenNodes (λ domain log. (k : ℕ) → IsLowerDomain domain →
    length (take k log) < own_places → IsConsistent (board_of domain (take k log)))

-- Each entry of it came to some node as a request.
abbrev pub TokenEntriesRequested : Type 0
TokenEntriesRequested = (domain : List ℕ) (n most : ℕ) (acts : List (ℕ × EpochAct)) (g : TokenNodes)
    (i t place : ℕ) (e : Entry) → IsTokenGroup n most → TokenActsLead n (first_token_nodes domain n most) acts g →
    entry_at (token_history g i t) place ≡ Some e →
    (node token : ℕ) × Contains acts (token, Meets node (Request e))

-- Of two nodes of one number that act in one epoch, then or later, one is the other.
abbrev pub OneNodeActs : Type 0
OneNodeActs = (domain : List ℕ) (n most : ℕ) (first more : List (ℕ × EpochAct)) (early late : TokenNodes)
    (i t u : ℕ) → IsTokenGroup n most → TokenActsLead n (first_token_nodes domain n most) first early →
    TokenActsLead n early more late → (early.values i t).epoch ≡ (late.values i u).epoch →
    acts (early.values i t) ≡ true → acts (late.values i u) ≡ true → t ≡ u
