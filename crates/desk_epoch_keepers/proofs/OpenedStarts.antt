-- The start of a keeper over epochs as one in its group.
use Rattle.std.proofs.Common.{◌≡◌, ◌∙◌, ℕ, zero, suc, List, [], ◌∷◌, ◌++◌, Some, None, ap, arith}
use Rattle.std.proofs.Common.{slice_get, subst, sym, take}
use Rattle.std.proofs.lemmas.List.{take_all}
use Rattle.desk_types.specs.declared.command.Entry.{Entry}
use Rattle.desk_log.specs.SavedValue.{SavedValue}
use Rattle.desk_log.specs.declared.state_store.StateStore.{Ghosts}
use Rattle.desk_epochs.specs.Epochs.{joined_logs}
use Rattle.desk_epochs.proofs.Epochs.{joined_push}
use Rattle.desk_epoch_node.specs.EpochValue.{committed_cut}
use Rattle.desk_epoch_node.specs.PastRows.{StandFor}
use Rattle.desk_epoch_stores.specs.Starting.{MayHoldLogs, saved_cut}
use Rattle.desk_epoch_replica.specs.MemberValue.{MemberValue, new_member}
use Rattle.desk_epoch_opening.specs.Pasts.{past_in}
use Rattle.desk_epoch_keepers.specs.Group.{replica_node}
use Rattle.desk_epoch_keepers.specs.Starts.{IsFoundWith, OpenedIsStart}

-- one log more
take_push : (logs : List (List Entry)) (k : ℕ) (log : List Entry) → slice_get logs k ≡ Some log →
    take (suc k) logs ≡ take k logs ++ log ∷ []
take_push [] k log is = let no : None ≡ Some log = is in cc
take_push (x ∷ logs) zero log is = let same : Some x ≡ Some log = is in cc
take_push (x ∷ logs) (suc k) log is = ap (λ (ls : List (List Entry)). x ∷ ls) (take_push logs k log is)

-- What stores were found with of the epochs before this one are the first of these logs.
found_past : (holds : ℕ → SavedValue → Type 0) (most epoch : ℕ) (past : List Entry) (logs : List (List Entry)) →
    MayHoldLogs (IsFoundWith holds most logs) most epoch past → past ≡ joined_logs (take epoch logs)
found_past holds most zero past logs is = is
found_past holds most (suc epoch) past logs (before, s, first, found, over, is) =
    is
    ∙ (ap (λ (es : List Entry). es ++ saved_cut most s) (found_past holds most epoch before logs first)
    ∙ (sym (joined_push (take epoch logs) (saved_cut most s))
    ∙ ap joined_logs (sym (take_push logs epoch (saved_cut most s) found.1))))

pub opened_is_start : {T S : Type 0} (may_hold : T → ℕ → SavedValue → Type 0) (g : Ghosts S) →
    OpenedIsStart may_hold g
opened_is_start may_hold g stores owner token most r logs shown opened none nothing count found =
    let past : List Entry = past_in r.replica.member.node.past shown in
    let all : past ≡ joined_logs logs =
    found_past (may_hold stores) most (replica_node r).epoch past logs found
    ∙ ap joined_logs (take_all (replica_node r).epoch logs (omega (arith, count))) in (
      record {
        past = (replica_node r).past;
        stands = subst (λ (es : List Entry). StandFor es (replica_node r).past) all opened.past;
        member = opened.member
            ∙ ap new_member (sym (ap (λ (m : MemberValue). m.node) opened.member));
        reported = none;
        saved = opened.saved;
        deferred = nothing;
      },
      opened.all ∙ ap (λ (es : List Entry). es ++ committed_cut (replica_node r)) all,
    )
