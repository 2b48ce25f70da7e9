-- What a node commits over epochs was requested.
use Rattle.std.proofs.Common.{◌≡◌, ◌⊎◌, ℕ, zero, suc, List, [], ◌∷◌, ◌++◌, Some, inl, inr, ⊎_elim, subst}
use Rattle.std.specs.List.{slice_get}
use Rattle.std.proofs.lemmas.Option.{none-some}
use Rattle.desk_types.specs.declared.command.Entry.{Entry}
use Rattle.desk_types.specs.Group.{IsGroup}
use Rattle.desk_log.proofs.Places.{entry_at-prefix}
use Rattle.desk_world.specs.declared.world_event.WorldEvent.{WorldEvent}
use Rattle.desk_world.specs.Requested.{IsRequested}
use Rattle.desk_world.proofs.Requested.{committed_is_requested}
use Rattle.desk_epochs.specs.Epochs.{first_epochs, EpochEntriesRequested}
use Rattle.desk_epochs.specs.Histories.{Ending, epoch_log, committed_in, IsWholeEpoch, ArePast, history}
use Rattle.desk_epochs.proofs.Epochs.{Holds, first_holds, leads_hold}
use Rattle.desk_epochs.proofs.RisingHistories.{cut_is_prefix}

-- an entry of two lists is of one of them
pub get_cases : (xs ys : List Entry) (k : ℕ) (f : Entry) → slice_get (xs ++ ys) k ≡ Some f →
    (slice_get xs k ≡ Some f) ⊎ ((q : ℕ) × (slice_get ys q ≡ Some f))
get_cases [] ys k f there = inr (k, there)
get_cases (x ∷ xs) ys zero f there = inl there
get_cases (x ∷ xs) ys (suc k) f there = get_cases xs ys k f there

-- what a node has committed of one epoch
cut_is_requested : (domain : List ℕ) (ending : Ending) (n : ℕ) (events : List WorldEvent) (i k : ℕ) (e : Entry) →
    IsGroup n → slice_get (epoch_log ending.ends ending.most (committed_in domain n events i)) k ≡ Some e →
    IsRequested events e
cut_is_requested domain ending n events i k e group there =
    let all : List Entry = committed_in domain n events i in
    committed_is_requested domain n events i (suc k) e group
    (entry_at-prefix (epoch_log ending.ends ending.most all) all (suc k) e
    (cut_is_prefix ending.ends ending.most all) there)

pub requested_from : (domain : List ℕ) (ending : Ending) (sizes : ℕ → ℕ) (events : ℕ → List WorldEvent) (i : ℕ)
    (e : Entry) → ((epoch : ℕ) → IsGroup (sizes epoch)) → (epoch : ℕ) (past : List (List Entry)) (k : ℕ) →
    ArePast domain ending sizes events epoch past →
    slice_get (history domain ending sizes events epoch past i) k ≡ Some e →
    (asked : ℕ) × IsRequested (events asked) e
requested_from domain ending sizes events i e group epoch [] k a there =
    (epoch, cut_is_requested domain ending (sizes epoch) (events epoch) i k e (group epoch) there)
requested_from domain ending sizes events i e group epoch (p ∷ ps) k a there =
    let w : IsWholeEpoch domain ending (sizes epoch) (events epoch) p = a.0 in
    ⊎_elim
    (λ here. (
      epoch,
      cut_is_requested domain ending (sizes epoch) (events epoch) w.node k e (group epoch)
          (subst (λ (log : List Entry). slice_get log k ≡ Some e) w.log_is here),
    ))
    (λ later. requested_from domain ending sizes events i e group (suc epoch) ps later.0 a.1 later.1)
    (get_cases p (history domain ending sizes events (suc epoch) ps i) k e there)

pub entries_requested : EpochEntriesRequested
entries_requested domain ending sizes count d i zero e group l there = absurd (none-some e there)
entries_requested domain ending sizes count d i (suc k) e group l there =
    let holds : Holds domain ending sizes d =
    leads_hold domain ending sizes count first_epochs d group (first_holds domain ending sizes) l in
    requested_from domain ending sizes d.runs i e group 0 (d.pasts i) k (holds.pasts i) there
