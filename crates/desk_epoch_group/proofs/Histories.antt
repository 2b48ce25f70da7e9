-- What nodes have committed of all epochs is what they have committed in the desk for which they stand.
use Rattle.std.proofs.Common.{◌≡◌, ◌⊎◌, ◌≤◌, ℕ, ◌+◌, List, [], ◌++◌, length, take, refl, sym, ap}
use Rattle.std.proofs.Common.{◌∙◌, Some, subst, arith}
use Rattle.std.specs.List.{Contains}
use Rattle.desk_types.specs.declared.command.Entry.{Entry}
use Rattle.desk_types.specs.declared.reply.Reply.{Reply}
use Rattle.desk_log.specs.Entries.{IsLogPrefix, IsRising, entry_at}
use Rattle.desk_board.specs.Laws.{names}
use Rattle.desk_board.specs.Log.{board_of}
use Rattle.desk_log.specs.SavedValue.{SavedValue, committed_entries}
use Rattle.desk_world.specs.Agreement.{IsReplyAt}
use Rattle.desk_epochs.specs.Epochs.{Epochs, first_epochs, joined_logs, committed_history}
use Rattle.desk_epochs.specs.Histories.{committed_in, history}
use Rattle.desk_epochs.proofs.DeskNeverStuck.{history_is}
use Rattle.desk_epochs.proofs.Epochs.{epochs_agree, epochs_rise}
use Rattle.desk_world.specs.Requested.{IsRequested}
use Rattle.desk_epochs.proofs.RequestedHistories.{entries_requested}
use Rattle.desk_epochs.proofs.EpochBoards.{epoch_boards_agree, epoch_identifiers_stay, epoch_replies_agree}
use Rattle.desk_board.proofs.LogBoards.{board_of-consistent}
use Rattle.desk_epoch_node.specs.Ends.{cut_of}
use Rattle.desk_epoch_node.specs.EpochValue.{EpochValue, committed_cut}
use Rattle.desk_epoch_group.specs.Agreement.{AreOfEpochs, IsOfEpochs, NodesMakeEpochs, ending_after}
use Rattle.desk_epoch_group.specs.Agreement.{NodeHistoriesAgree, NodeHistoriesRise, NodeBoardsAgree}
use Rattle.desk_epoch_group.specs.Agreement.{NodeBoardsConsistent, NodeIdentifiersStay, NodeRepliesAgree}
use Rattle.desk_epoch_group.specs.Agreement.{NodeEntriesRequested}
use Rattle.desk_epoch_node.specs.declared.event.EpochEvent.TheVariants.{Request}
use Rattle.desk_epoch_group.specs.Group.{EpochNodes, Meets, first_epoch_nodes, history_of}
use Rattle.desk_epoch_group.proofs.Standing.{GroupStands, GoesOn, NodeStands}
use Rattle.desk_epoch_group.proofs.GroupEpochs.{first_stands, run_goes_on}

pub stands_of : (domain : List ℕ) (n most : ℕ) (Came : Entry → Type 0) (g : EpochNodes) (d : Epochs) →
    GroupStands domain n most Came g d → IsOfEpochs domain n most g d
stands_of domain n most Came g d s i =
    let a : NodeStands domain n most i (g.values i) (g.logs i) d = s.nodes i in
    let value : EpochValue = g.values i in
    let past : List Entry = joined_logs (g.logs i) in
    let own : List Entry = committed_in domain n (d.runs value.epoch) i in
    let cut : committed_cut value ≡ cut_of most own =
    ap (λ k. cut_of k (committed_entries value.node.saved)) a.most_is
    ∙ ap (λ (x : SavedValue). cut_of most (committed_entries x)) a.node.saved_is in
    let at : value.epoch ≡ 0 + length (g.logs i) = omega (arith, a.epoch_is) in
    ap (λ (es : List Entry). past ++ es) cut
    ∙ (ap (λ k. past ++ cut_of most (committed_in domain n (d.runs k) i)) at
    ∙ (sym (history_is domain (ending_after most) (λ e. n) d.runs 0 (g.logs i) i)
    ∙ ap (λ (ls : List (List Entry)). history domain (ending_after most) (λ e. n) d.runs 0 ls i) (sym a.pasts_are)))

-- Nothing is said of requests.
abbrev AnyCame : Entry → Type 0
AnyCame e = Unit {0}

pub nodes_make_epochs : NodesMakeEpochs
nodes_make_epochs domain n most first more early late size l m =
    let one : GoesOn domain n most AnyCame first_epochs early =
    run_goes_on domain n most AnyCame (first_epoch_nodes domain n most) early first_epochs first size (λ i e c. tt)
    (first_stands domain n most AnyCame) l in
    let other : GoesOn domain n most AnyCame one.later late =
    run_goes_on domain n most AnyCame early late one.later more size (λ i e c. tt) one.stands m in
    record {
      before = one.count;
      more = other.count;
      desk = one.later;
      later = other.later;
      lead = one.lead;
      lead_on = other.lead;
      is_early = stands_of domain n most AnyCame early one.later one.stands;
      is_late = stands_of domain n most AnyCame late other.later other.stands;
    }

-- what holds of two histories of the desk holds of those of the nodes
of_two : (P : List ℕ → List Entry → List Entry → Type 0) (domain : List ℕ) (n most : ℕ) (early late : EpochNodes)
    (i j : ℕ) → (a : AreOfEpochs domain n most early late) →
    P domain (committed_history domain (ending_after most) (λ e. n) a.desk i)
    (committed_history domain (ending_after most) (λ e. n) a.later j) →
    P domain (history_of early i) (history_of late j)
of_two P domain n most early late i j a p =
    subst (λ (es : List Entry). P domain es (history_of late j)) (sym (a.is_early i))
    (subst (λ (es : List Entry). P domain (committed_history domain (ending_after most) (λ e. n) a.desk i) es)
    (sym (a.is_late j)) p)

pub histories_agree : NodeHistoriesAgree
histories_agree domain n most first more early late i j size l m =
    let a = nodes_make_epochs domain n most first more early late size l m in
    of_two (λ dom one other. IsLogPrefix one other ⊎ IsLogPrefix other one) domain n most early late i j a
    (epochs_agree domain (ending_after most) (λ e. n) a.before a.more a.desk a.later i j (λ e. size.0) a.lead
    a.lead_on)

pub node_boards_agree : NodeBoardsAgree
node_boards_agree domain n most first more early late i j size l m =
    let a = nodes_make_epochs domain n most first more early late size l m in
    of_two
    (λ dom one other. (k : ℕ) → k ≤ length one → k ≤ length other →
    board_of dom (take k one) ≡ board_of dom (take k other)) domain n most early late i j a
    (epoch_boards_agree domain (ending_after most) (λ e. n) a.before a.more a.desk a.later i j (λ e. size.0) a.lead
    a.lead_on)

pub identifiers_stay : NodeIdentifiersStay
identifiers_stay domain n most first more early late i j size l m =
    let a = nodes_make_epochs domain n most first more early late size l m in
    of_two
    (λ dom one other. (k : ℕ) → k ≤ length one → k ≤ length other → (rest : List (ℕ × List ℕ))
    × (names (board_of dom other) ≡ names (board_of dom (take k one)) ++ rest)) domain n most early late i j a
    (epoch_identifiers_stay domain (ending_after most) (λ e. n) a.before a.more a.desk a.later i j (λ e. size.0) a.lead
    a.lead_on)

pub replies_agree : NodeRepliesAgree
replies_agree domain n most first more early late i j size l m =
    let a = nodes_make_epochs domain n most first more early late size l m in
    of_two
    (λ dom one other. (client number p q : ℕ) (r t : Reply) → IsReplyAt dom one client number p r →
    IsReplyAt dom other client number q t → (p ≡ q) × (r ≡ t)) domain n most early late i j a
    (epoch_replies_agree domain (ending_after most) (λ e. n) a.before a.more a.desk a.later i j (λ e. size.0) a.lead
    a.lead_on)

pub histories_rise : NodeHistoriesRise
histories_rise domain n most acts g i size l =
    let a = nodes_make_epochs domain n most acts [] g g size l refl in
    subst (λ (es : List Entry). IsRising es) (sym (a.is_early i))
    (epochs_rise domain (ending_after most) (λ e. n) a.before a.desk i (λ e. size.0) a.lead)

pub boards_consistent : NodeBoardsConsistent
boards_consistent domain n most acts g i size l k lower short =
    board_of-consistent domain (take k (history_of g i)) lower short

-- Every request of the desk for which the nodes stand came to one of them.
pub entries_are_requested : NodeEntriesRequested
entries_are_requested domain n most acts g i place e size l there =
    let one : GoesOn domain n most (λ x. (j : ℕ) × Contains acts (Meets j (Request x))) first_epochs g =
    run_goes_on domain n most (λ x. (j : ℕ) × Contains acts (Meets j (Request x))) (first_epoch_nodes domain n most) g
    first_epochs acts size (λ j x c. (j, c))
    (first_stands domain n most (λ x. (j : ℕ) × Contains acts (Meets j (Request x)))) l in
    let asked : (epoch : ℕ) × IsRequested (one.later.runs epoch) e =
    entries_requested domain (ending_after most) (λ k. n) one.count one.later i place e (λ k. size.0) one.lead
    (subst (λ (es : List Entry). entry_at es place ≡ Some e)
    (stands_of domain n most (λ x. (j : ℕ) × Contains acts (Meets j (Request x))) g one.later one.stands i) there) in
    one.stands.came asked.0 e asked.1
