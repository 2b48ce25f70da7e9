-- What nodes commit over epochs agrees.
use Rattle.std.proofs.Common.{◌≡◌, ℕ, zero, suc, ◌≤◌, ◌⊎◌, Bool, true, false, if◌then◌else◌, ◌||◌, List, [], ◌∷◌, ◌++◌}
use Rattle.std.proofs.Common.{length, take, refl, sym, ap, ◌∙◌, inl, inr, ⊎_elim, subst}
use Rattle.std.proofs.lemmas.Bool.{false≢true}
use Rattle.desk_types.specs.declared.command.Entry.{Entry}
use Rattle.desk_types.specs.Group.{IsGroup}
use Rattle.desk_log.specs.Entries.{IsLogPrefix}
use Rattle.desk_board.specs.Log.{board_of}
use Rattle.desk_log.proofs.Prefixes.{prefix_refl, prefix_trans, prefix_append}
use Rattle.desk_world.specs.declared.world_event.WorldEvent.{WorldEvent}
use Rattle.desk_world.proofs.Agree.{committed_agree}
use Rattle.desk_world.proofs.FirstEntries.{take-same}
use Rattle.desk_epochs.specs.Histories.{Ending, epoch_log, has_ended, committed_in, IsWholeEpoch, ArePast, history}
use Rattle.desk_epochs.specs.Histories.{HistoriesAgree}
use Rattle.desk_epochs.specs.Histories.{HistoryBoardsAgree}

-- the cut of a prefix is a prefix of the cut

cut_rest : (t : Bool) (xs ys : List Entry) → IsLogPrefix xs ys →
    IsLogPrefix (if t then [] else xs) (if t then [] else ys)
cut_rest true xs ys f = tt
cut_rest false xs ys f = f

pub cut_prefix : (ends : Entry → Bool) (k : ℕ) (xs ys : List Entry) → IsLogPrefix xs ys →
    IsLogPrefix (epoch_log ends k xs) (epoch_log ends k ys)
cut_prefix ends zero xs ys f = tt
cut_prefix ends (suc k) [] ys f = tt
cut_prefix ends (suc k) (x ∷ xs) [] f = absurd f
cut_prefix ends (suc k) (x ∷ xs) (y ∷ ys) f =
    (f.0, rw f.0 (cut_rest (ends y) (epoch_log ends k xs) (epoch_log ends k ys) (cut_prefix ends k xs ys f.1)))

-- what reaches the epoch's end is cut to what all that goes on is cut to

over_rest : (ends : Entry → Bool) (k : ℕ) (t : Bool) (xs ys : List Entry) → (t || has_ended ends k xs) ≡ true →
    (has_ended ends k xs ≡ true → epoch_log ends k xs ≡ epoch_log ends k ys) →
    (if t then [] else epoch_log ends k xs) ≡ (if t then [] else epoch_log ends k ys)
over_rest ends k true xs ys o f = refl
over_rest ends k false xs ys o f = f o

pub over_same : (ends : Entry → Bool) (k : ℕ) (xs ys : List Entry) → IsLogPrefix xs ys → has_ended ends k xs ≡ true →
    epoch_log ends k xs ≡ epoch_log ends k ys
over_same ends zero xs ys f o = refl
over_same ends (suc k) [] ys f o = absurd (false≢true o)
over_same ends (suc k) (x ∷ xs) [] f o = absurd f
over_same ends (suc k) (x ∷ xs) (y ∷ ys) f o =
    ap (λ es. x ∷ es) (over_rest ends k (ends x) xs ys o (over_same ends k xs ys f.1))
    ∙ rw f.0 refl

pub prefix_after : (log xs ys : List Entry) → IsLogPrefix xs ys → IsLogPrefix (log ++ xs) (log ++ ys)
prefix_after [] xs ys f = f
prefix_after (e ∷ es) xs ys f = (refl, prefix_after es xs ys f)

abbrev pub Agree : List Entry → List Entry → Type 0
Agree xs ys = IsLogPrefix xs ys ⊎ IsLogPrefix ys xs

-- what is cut of two logs of which one is a prefix of the other
cuts_agree : (ends : Entry → Bool) (k : ℕ) (xs ys : List Entry) → Agree xs ys →
    Agree (epoch_log ends k xs) (epoch_log ends k ys)
cuts_agree ends k xs ys a =
    ⊎_elim (λ f. inl (cut_prefix ends k xs ys f)) (λ f. inr (cut_prefix ends k ys xs f)) a

-- where the second reaches the end, the cut of the first is a prefix of its cut
pub cut_within : (ends : Entry → Bool) (k : ℕ) (xs ys : List Entry) → Agree xs ys → has_ended ends k ys ≡ true →
    IsLogPrefix (epoch_log ends k xs) (epoch_log ends k ys)
cut_within ends k xs ys a o =
    ⊎_elim
    (λ f. cut_prefix ends k xs ys f)
    (λ f. subst (λ (zs : List Entry). IsLogPrefix zs (epoch_log ends k ys)) (over_same ends k ys xs f o)
    (prefix_refl (epoch_log ends k ys)))
    a

-- where both reach the end, there is one cut
pub cut_same : (ends : Entry → Bool) (k : ℕ) (xs ys : List Entry) → Agree xs ys → has_ended ends k xs ≡ true →
    has_ended ends k ys ≡ true → epoch_log ends k xs ≡ epoch_log ends k ys
cut_same ends k xs ys a o p =
    ⊎_elim (λ f. over_same ends k xs ys f o) (λ f. sym (over_same ends k ys xs f p)) a

swap : (xs ys : List Entry) → Agree xs ys → Agree ys xs
swap xs ys a = ⊎_elim (λ f. inr f) (λ f. inl f) a

pub agree_from : (domain : List ℕ) (ending : Ending) (sizes : ℕ → ℕ) (early late : ℕ → List WorldEvent) (i j : ℕ) →
    ((epoch : ℕ) → IsGroup (sizes epoch)) → (epoch : ℕ) (past later : List (List Entry)) →
    ArePast domain ending sizes early epoch past →
    ArePast domain ending sizes (λ e. early e ++ late e) epoch later →
    Agree (history domain ending sizes early epoch past i)
    (history domain ending sizes (λ e. early e ++ late e) epoch later j)
agree_from domain ending sizes early late i j group epoch [] [] a b =
    cuts_agree ending.ends ending.most _ _ (committed_agree domain (sizes epoch) (early epoch) (late epoch) i j
    (group epoch))
agree_from domain ending sizes early late i j group epoch [] (q ∷ qs) a b =
    let w : IsWholeEpoch domain ending (sizes epoch) (early epoch ++ late epoch) q = b.0 in
    let one : List Entry = committed_in domain (sizes epoch) (early epoch) i in
    let other : List Entry = committed_in domain (sizes epoch) (early epoch ++ late epoch) w.node in
    let within : IsLogPrefix (epoch_log ending.ends ending.most one) q =
    subst (λ (zs : List Entry). IsLogPrefix (epoch_log ending.ends ending.most one) zs) (sym w.log_is)
    (cut_within ending.ends ending.most one other
    (committed_agree domain (sizes epoch) (early epoch) (late epoch) i w.node (group epoch)) w.over) in
    inl (prefix_trans (epoch_log ending.ends ending.most one) q
    (q ++ history domain ending sizes (λ e. early e ++ late e) (suc epoch) qs j) within
    (prefix_append q (history domain ending sizes (λ e. early e ++ late e) (suc epoch) qs j)))
agree_from domain ending sizes early late i j group epoch (p ∷ ps) [] a b =
    let w : IsWholeEpoch domain ending (sizes epoch) (early epoch) p = a.0 in
    let one : List Entry = committed_in domain (sizes epoch) (early epoch) w.node in
    let other : List Entry = committed_in domain (sizes epoch) (early epoch ++ late epoch) j in
    let within : IsLogPrefix (epoch_log ending.ends ending.most other) p =
    subst (λ (zs : List Entry). IsLogPrefix (epoch_log ending.ends ending.most other) zs) (sym w.log_is)
    (cut_within ending.ends ending.most other one
    (swap one other (committed_agree domain (sizes epoch) (early epoch) (late epoch) w.node j (group epoch))) w.over) in
    inr (prefix_trans (epoch_log ending.ends ending.most other) p
    (p ++ history domain ending sizes early (suc epoch) ps i) within
    (prefix_append p (history domain ending sizes early (suc epoch) ps i)))
agree_from domain ending sizes early late i j group epoch (p ∷ ps) (q ∷ qs) a b =
    let v : IsWholeEpoch domain ending (sizes epoch) (early epoch) p = a.0 in
    let w : IsWholeEpoch domain ending (sizes epoch) (early epoch ++ late epoch) q = b.0 in
    let same : p ≡ q = v.log_is
    ∙ (cut_same ending.ends ending.most _ _
    (committed_agree domain (sizes epoch) (early epoch) (late epoch) v.node w.node (group epoch)) v.over w.over
    ∙ sym w.log_is) in
    let one : List Entry = history domain ending sizes early (suc epoch) ps i in
    let other : List Entry = history domain ending sizes (λ e. early e ++ late e) (suc epoch) qs j in
    rw same
    (⊎_elim (λ f. inl (prefix_after q one other f)) (λ f. inr (prefix_after q other one f))
    (agree_from domain ending sizes early late i j group (suc epoch) ps qs a.1 b.1))

pub histories_agree : HistoriesAgree
histories_agree domain ending sizes early late past later i j group a b =
    agree_from domain ending sizes early late i j group 0 past later a b

pub history_boards_agree : HistoryBoardsAgree
history_boards_agree domain ending sizes early late past later i j group a b k l m =
    ap (board_of domain)
    (⊎_elim
    (λ f. take-same k _ _ l f)
    (λ f. sym (take-same k _ _ m f))
    (histories_agree domain ending sizes early late past later i j group a b))
