-- What a desk over epochs keeps, of node i and the steps that led there.
use Rattle.std.proofs.Common.{◌≡◌, ℕ, ◌+◌, List, ◌∷◌, ◌++◌, length, subst, arith}
use Rattle.desk_types.specs.Group.{IsGroup}
use Rattle.desk_types.specs.declared.command.Entry.{Entry}
use Rattle.desk_epochs.specs.Epochs.{Epochs, first_epochs, joined_logs}
use Rattle.desk_epochs.specs.Histories.{AreNew, ArePast, IsWholeEpoch}
use Rattle.desk_epochs.proofs.Epochs.{Holds, asked_new, first_holds, leads_hold, past_next}
use Rattle.desk_epoch_group.specs.Agreement.{Lead, ending_after}

holds_of : (domain : List ℕ) (n most count : ℕ) (d : Epochs) → IsGroup n → Lead domain n most count first_epochs d →
    Holds domain (ending_after most) (λ k. n) d
holds_of domain n most count d group lead =
    leads_hold domain (ending_after most) (λ k. n) count first_epochs d (λ k. group)
    (first_holds domain (ending_after most) (λ k. n)) lead

-- What was asked in a node's epoch was new beside what the node has behind it.
pub asked_is_new : (domain : List ℕ) (n most count : ℕ) (d : Epochs) (i : ℕ) → IsGroup n →
    Lead domain n most count first_epochs d → AreNew (joined_logs (d.pasts i)) (d.runs (length (d.pasts i)))
asked_is_new domain n most count d i group lead =
    let holds : Holds domain (ending_after most) (λ k. n) d = holds_of domain n most count d group lead in
    asked_new domain (ending_after most) (λ k. n) d (λ k. group) holds (d.pasts i) (holds.pasts i)

-- What a node has behind it is whole.
pub past_is_whole : (domain : List ℕ) (n most count : ℕ) (d : Epochs) (i : ℕ) (before rest : List (List Entry))
    (log : List Entry) → IsGroup n → Lead domain n most count first_epochs d → d.pasts i ≡ before ++ log ∷ rest →
    IsWholeEpoch domain (ending_after most) n (d.runs (length before)) log
past_is_whole domain n most count d i before rest log group lead has =
    let holds : Holds domain (ending_after most) (λ k. n) d = holds_of domain n most count d group lead in
    let at : 0 + length before ≡ length before = omega arith in
    subst (λ k. IsWholeEpoch domain (ending_after most) n (d.runs k) log) at
    (past_next domain (ending_after most) (λ k. n) d.runs 0 before rest log
    (subst (λ (ls : List (List Entry)). ArePast domain (ending_after most) (λ k. n) d.runs 0 ls) has (holds.pasts i)))
