-- Boards and replies of a desk over epochs.
use Rattle.std.proofs.Common.{◌≡◌, ℕ, ◌≤◌, List, ◌++◌, length, take, drop, sym, ap, ◌∙◌, ⊎_elim}
use Rattle.std.proofs.lemmas.List.{take-append-drop}
use Rattle.std.proofs.lemmas.Option.{same_Some}
use Rattle.desk_types.specs.declared.command.Entry.{Entry}
use Rattle.desk_types.specs.declared.reply.Reply.{Reply}
use Rattle.desk_types.specs.Group.{IsGroup}
use Rattle.desk_log.specs.Entries.{IsLogPrefix, IsRising}
use Rattle.desk_log.proofs.Rising.{numbers_stand_once}
use Rattle.desk_board.specs.Laws.{names}
use Rattle.desk_board.specs.Log.{board_of}
use Rattle.desk_board.proofs.IncidentNames.{names_stay}
use Rattle.desk_board.proofs.LogBoards.{board_of-consistent}
use Rattle.desk_world.specs.Agreement.{IsReplyAt}
use Rattle.desk_world.proofs.CommittedAnswers.{IsReplyAt-later}
use Rattle.desk_world.proofs.FirstEntries.{take-same}
use Rattle.desk_epochs.specs.Histories.{Ending}
use Rattle.desk_epochs.specs.Epochs.{Epochs, first_epochs, StepsLead, committed_history, OfTwoEpochs, EpochBoardsAgree}
use Rattle.desk_epochs.specs.Epochs.{EpochIdentifiersStay, EpochRepliesAgree, EpochBoardsConsistent}
use Rattle.desk_epochs.proofs.Epochs.{epochs_agree, epochs_rise, leads_on}

first_same : OfTwoEpochs (λ domain one other. (k : ℕ) → k ≤ length one → k ≤ length other → take k one ≡ take k other)
first_same domain ending sizes first more early late i j group l m k a b =
    ⊎_elim
    (λ f. take-same k _ _ a f)
    (λ f. sym (take-same k _ _ b f))
    (epochs_agree domain ending sizes first more early late i j group l m)

pub epoch_boards_agree : EpochBoardsAgree
epoch_boards_agree domain ending sizes first more early late i j group l m k a b =
    ap (board_of domain) (first_same domain ending sizes first more early late i j group l m k a b)

pub epoch_identifiers_stay : EpochIdentifiersStay
epoch_identifiers_stay domain ending sizes first more early late i j group l m k a b =
    let other : List Entry = committed_history domain ending sizes late j in
    let stays = names_stay domain (take k other) (drop k other) in (
      stays.0,
      rw (first_same domain ending sizes first more early late i j group l m k a b)
          (ap (λ log. names (board_of domain log)) (sym (take-append-drop k other)) ∙ stays.1),
    )

pub one_reply : (domain : List ℕ) (log : List Entry) (client number p q : ℕ) (r t : Reply) → IsRising log →
    IsReplyAt domain log client number p r → IsReplyAt domain log client number q t → (p ≡ q) × (r ≡ t)
one_reply domain log client number p q r t rising a b =
    let place : p ≡ q =
    numbers_stand_once log p q a.entry b.entry rising a.stands b.stands (a.client_is ∙ sym b.client_is)
    (a.number_is ∙ sym b.number_is) in
    (place, same_Some r t (sym a.reply_is ∙ (rw place b.reply_is)))

pub epoch_replies_agree : EpochRepliesAgree
epoch_replies_agree domain ending sizes first more early late i j group l m client number p q r t a b =
    let one : List Entry = committed_history domain ending sizes early i in
    let other : List Entry = committed_history domain ending sizes late j in
    let rises : IsRising one = epochs_rise domain ending sizes first early i group l in
    let later_rises : IsRising other =
    epochs_rise domain ending sizes _ late j group
    (leads_on domain ending sizes first more first_epochs early late l m) in
    ⊎_elim
    (λ f. one_reply domain other client number p q r t later_rises
    (IsReplyAt-later domain one other client number p r f a) b)
    (λ f. one_reply domain one client number p q r t rises a
    (IsReplyAt-later domain other one client number q t f b))
    (epochs_agree domain ending sizes first more early late i j group l m)

pub epoch_boards_consistent : EpochBoardsConsistent
epoch_boards_consistent domain ending sizes d i k lower small = board_of-consistent domain _ lower small
