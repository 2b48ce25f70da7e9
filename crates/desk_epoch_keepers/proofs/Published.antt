-- What keepers publish is what nodes over epochs commit, and so agrees.
use Rattle.std.proofs.Common.{◌≡◌, ℕ, List, [], ◌∷◌, ◌++◌, refl, sym, ap, ◌∙◌, subst}
use mathlib.Core.List.{IsPrefix}
use Rattle.desk_types.specs.Group.{IsGroupSize}
use Rattle.desk_types.specs.declared.command.Entry.{Entry}
use Rattle.desk_log.specs.Entries.{IsLogPrefix, IsRising}
use Rattle.desk_log.specs.SavedValue.{SavedValue}
use Rattle.desk_log.specs.declared.state_store.StateStore.{Ghosts}
use Rattle.desk_log.proofs.Prefixes.{prefix_append}
use Rattle.desk_log.proofs.Rising.{rising_prefix}
use Rattle.desk_board.proofs.LogBoards.{board_of-consistent}
use Rattle.desk_board.proofs.LogRows.{rows_are_latest}
use Rattle.desk_epochs.specs.Epochs.{joined_logs}
use Rattle.desk_epoch_node.specs.EpochValue.{EpochValue, committed_cut}
use Rattle.desk_epoch_group.specs.Group.{EpochNodes, history_of}
use Rattle.desk_epoch_group.proofs.Histories.{histories_agree, histories_rise}
use Rattle.desk_epoch_keepers.specs.Agreement.{KeepersAreNodes, KeeperHistoryStays, MakeNodes, OfTwoPublishedHistories}
use Rattle.desk_epoch_keepers.specs.Agreement.{PublishedHistoriesAgree}
use Rattle.desk_epoch_keepers.specs.Agreement.{PublishedHistoryBoardsAgree, PublishedHistoryBoardsConsistent}
use Rattle.desk_epoch_keepers.specs.Agreement.{PublishedHistoryIdentifiersStay, PublishedHistoryIsRising}
use Rattle.desk_epoch_keepers.specs.Agreement.{PublishedHistoryReplyHeld}
use Rattle.desk_epoch_keepers.specs.Agreement.{PublishedHistoryRepliesAgree, PublishedHistoryRepliesStay}
use Rattle.desk_epoch_keepers.specs.Group.{EpochKeepers, KeeperAct, AreFirstKeepers, KeepersRun}
use Rattle.desk_epoch_keepers.specs.Group.{keeper_history, replica_node}
use Rattle.desk_epoch_keepers.proofs.AgreeingLogs.{Agree, AgreeAndRise, boards_same, names_same, prefixes_agree}
use Rattle.desk_epoch_keepers.proofs.AgreeingLogs.{replies_same, replies_stand}
use Rattle.desk_epoch_keepers.proofs.GroupNodes.{keepers_make_nodes}
use Rattle.desk_epoch_keepers.proofs.Growing.{acts_grow}

-- what is published, as a prefix of a log
pub front : (xs ys : List Entry) → IsPrefix xs ys → IsLogPrefix xs ys
front xs ys p = subst (λ (l : List Entry). IsLogPrefix xs l) p.1 (prefix_append xs p.0)

-- what a node has committed of all epochs is what its keeper has
pub history_is : {T S : Type 0} (k : EpochKeepers T S) (g : EpochNodes) (i : ℕ) → KeepersAreNodes k g →
    keeper_history k i ≡ history_of g i
history_is {T} {S} k g i are =
    ap (λ (ls : List (List Entry)). joined_logs ls ++ committed_cut (replica_node (k.replicas i))) (are.logs_are i)
    ∙ ap (λ (e : EpochValue). joined_logs (g.logs i) ++ committed_cut e) (are.values_are i)

pub stays : {T S : Type 0} (may_hold : T → ℕ → SavedValue → Type 0) (h : Ghosts S) → KeeperHistoryStays may_hold h
stays may_hold h domain n most first more start early late i is l m =
    let a : MakeNodes domain n most early late =
    keepers_make_nodes may_hold h domain n most first more start early late is l m in
    subst (λ (xs : List Entry). IsLogPrefix xs (keeper_history late i)) (sym (history_is early a.nodes i a.are))
    (subst (λ (ys : List Entry). IsLogPrefix (history_of a.nodes i) ys) (sym (history_is late a.later i a.are_later))
    (acts_grow n a.nodes a.later a.more a.lead_on i))

pub keepers_agree : {T S : Type 0} (may_hold : T → ℕ → SavedValue → Type 0) (h : Ghosts S) (domain : List ℕ)
    (n most : ℕ) (first more : List KeeperAct) (start early late : EpochKeepers T S) (i j : ℕ) → IsGroupSize n →
    AreFirstKeepers domain n most start → KeepersRun may_hold h n start first early →
    KeepersRun may_hold h n early more late →
    Agree (keeper_history early i) (keeper_history late j)
keepers_agree may_hold h domain n most first more start early late i j size is l m =
    let a : MakeNodes domain n most early late =
    keepers_make_nodes may_hold h domain n most first more start early late is l m in
    subst (λ (xs : List Entry). Agree xs (keeper_history late j)) (sym (history_is early a.nodes i a.are))
    (subst (λ (ys : List Entry). Agree (history_of a.nodes i) ys)
    (sym (history_is late a.later j a.are_later))
    (histories_agree domain n most a.acts a.more a.nodes a.later i j size a.lead a.lead_on))

pub published_agree : {T S : Type 0} (may_hold : T → ℕ → SavedValue → Type 0) (h : Ghosts S) →
    PublishedHistoriesAgree may_hold h
published_agree may_hold h domain n most first more start early late i j one other size is l m p q =
    prefixes_agree one (keeper_history early i) other (keeper_history late j) (front one (keeper_history early i) p)
    (front other (keeper_history late j) q)
    (keepers_agree may_hold h domain n most first more start early late i j size is l m)

pub boards_agree : {T S : Type 0} (may_hold : T → ℕ → SavedValue → Type 0) (h : Ghosts S) →
    PublishedHistoryBoardsAgree may_hold h
boards_agree may_hold h domain n most first more start early late i j one other size is l m p q =
    boards_same domain one other
    (published_agree may_hold h domain n most first more start early late i j one other size is l m p q)

pub identifiers_stay : {T S : Type 0} (may_hold : T → ℕ → SavedValue → Type 0) (h : Ghosts S) →
    PublishedHistoryIdentifiersStay may_hold h
identifiers_stay may_hold h domain n most first more start early late i j one other size is l m p q =
    names_same domain one other
    (published_agree may_hold h domain n most first more start early late i j one other size is l m p q)

pub published_is_rising : {T S : Type 0} (may_hold : T → ℕ → SavedValue → Type 0) (h : Ghosts S) →
    PublishedHistoryIsRising may_hold h
published_is_rising may_hold h domain n most acts start k i list size is l p =
    let a : MakeNodes domain n most k k = keepers_make_nodes may_hold h domain n most acts [] start k k is l refl in
    rising_prefix list (keeper_history k i) (front list (keeper_history k i) p)
    (subst (λ (es : List Entry). IsRising es) (sym (history_is k a.nodes i a.are))
    (histories_rise domain n most a.acts a.nodes i size a.lead))

pub consistent : {T S : Type 0} (may_hold : T → ℕ → SavedValue → Type 0) (h : Ghosts S) →
    PublishedHistoryBoardsConsistent may_hold h
consistent may_hold h domain n most acts start k i list size is l p lower short =
    board_of-consistent domain list lower short

pub rows : {T S : Type 0} (may_hold : T → ℕ → SavedValue → Type 0) (h : Ghosts S) →
    PublishedHistoryReplyHeld may_hold h
rows may_hold h domain n most acts start k i list size is l p client = rows_are_latest domain list client

pub runs_on : {T S : Type 0} (may_hold : T → ℕ → SavedValue → Type 0) (h : Ghosts S) (n : ℕ)
    (first more : List KeeperAct) (a b c : EpochKeepers T S) → KeepersRun may_hold h n a first b →
    KeepersRun may_hold h n b more c → KeepersRun may_hold h n a (first ++ more) c
runs_on {T} {S} may_hold h n [] more a b c l m =
    subst (λ (k : EpochKeepers T S). KeepersRun may_hold h n k more c) (sym l) m
runs_on may_hold h n (act ∷ acts) more a b c (mid, one, rest) m =
    (mid, one, runs_on may_hold h n acts more mid b c rest m)

pub two_published : {T S : Type 0} (may_hold : T → ℕ → SavedValue → Type 0) (h : Ghosts S) →
    OfTwoPublishedHistories may_hold h (λ domain one other. AgreeAndRise one other)
two_published may_hold h domain n most first more start early late i j one other size is l m p q = record {
  agree = published_agree may_hold h domain n most first more start early late i j one other size is l m p q;
  rises = published_is_rising may_hold h domain n most first start early i one size is l p;
  other_rises = published_is_rising may_hold h domain n most (first ++ more) start late j other size is
      (runs_on may_hold h n first more start early late l m) q;
}

pub replies_agree : {T S : Type 0} (may_hold : T → ℕ → SavedValue → Type 0) (h : Ghosts S) →
    PublishedHistoryRepliesAgree may_hold h
replies_agree may_hold h domain n most first more start early late i j one other size is l m p q =
    replies_same domain one other
    (two_published may_hold h domain n most first more start early late i j one other size is l m p q)

pub replies_stay : {T S : Type 0} (may_hold : T → ℕ → SavedValue → Type 0) (h : Ghosts S) →
    PublishedHistoryRepliesStay may_hold h
replies_stay may_hold h domain n most first more start early late i j one other size is l m p q =
    replies_stand domain one other
    (published_agree may_hold h domain n most first more start early late i j one other size is l m p q)
