-- What a node commits over epochs is rising.
use Rattle.std.proofs.Common.{◌≡◌, ℕ, zero, suc, ◌<◌, Bool, true, false, if◌then◌else◌, List, [], ◌∷◌, ◌++◌, take}
use Rattle.std.proofs.Common.{Some, refl}
use Rattle.std.proofs.Common.{sym, subst}
use Rattle.std.specs.List.{slice_get}
use Rattle.std.proofs.lemmas.List.{append-nil, append_assoc}
use Rattle.desk_types.specs.declared.command.Entry.{Entry}
use Rattle.desk_types.specs.Group.{IsGroup}
use Rattle.desk_log.specs.Entries.{IsLogPrefix, IsRising, entry_at}
use Rattle.desk_log.proofs.Lists.{Each, Pairs, pairs_from_all_pairs, all_pairs_from_pairs}
use Rattle.desk_log.proofs.Places.{entry_at-prefix}
use Rattle.desk_log.proofs.Rising.{InOrder, rising_prefix}
use Rattle.desk_board.proofs.LogRows.{rows_are_latest}
use Rattle.desk_world.specs.declared.world_event.WorldEvent.{WorldEvent}
use Rattle.desk_world.proofs.Agree.{committed_is_rising}
use Rattle.desk_world.specs.Requested.{IsRequested}
use Rattle.desk_epochs.specs.Histories.{Ending, epoch_log, committed_in, IsWholeEpoch, ArePast, history, AreNew, AskNew}
use Rattle.desk_epochs.specs.Histories.{HistoriesRise, HistoryRepliesHeld}
use Rattle.desk_world.proofs.Requested.{committed_is_requested}

each_append : (P : Entry → Type 0) (xs ys : List Entry) → Each P xs → Each P ys → Each P (xs ++ ys)
each_append P [] ys a b = b
each_append P (x ∷ xs) ys a b = (a.0, each_append P xs ys a.1 b)

each_of : (P : Entry → Type 0) (xs : List Entry) → ((k : ℕ) (e : Entry) → slice_get xs k ≡ Some e → P e) → Each P xs
each_of P [] h = tt
each_of P (x ∷ xs) h = (h zero x refl, each_of P xs (λ k. h (suc k)))

pairs_append : (xs ys : List Entry) → Pairs InOrder xs → Pairs InOrder ys →
    ((j k : ℕ) (e f : Entry) → slice_get xs j ≡ Some e → slice_get ys k ≡ Some f → InOrder e f) →
    Pairs InOrder (xs ++ ys)
pairs_append [] ys a b h = b
pairs_append (x ∷ xs) ys a b h = (
  each_append (InOrder x) xs ys a.0 (each_of (InOrder x) ys (λ k f there. h zero k x f refl there)),
  pairs_append xs ys a.1 b (λ j k e f one other. h (suc j) k e f one other),
)

rising_append : (xs ys : List Entry) → IsRising xs → IsRising ys →
    ((p q : ℕ) (e f : Entry) → entry_at xs p ≡ Some e → entry_at ys q ≡ Some f → InOrder e f) → IsRising (xs ++ ys)
rising_append xs ys a b h =
    all_pairs_from_pairs InOrder (xs ++ ys)
    (pairs_append xs ys (pairs_from_all_pairs InOrder xs a) (pairs_from_all_pairs InOrder ys b)
    (λ j k e f one other. h (suc j) (suc k) e f one other))

cut_rest_prefix : (t : Bool) (xs ys : List Entry) → IsLogPrefix xs ys → IsLogPrefix (if t then [] else xs) ys
cut_rest_prefix true xs ys f = tt
cut_rest_prefix false xs ys f = f

pub cut_is_prefix : (ends : Entry → Bool) (k : ℕ) (xs : List Entry) → IsLogPrefix (epoch_log ends k xs) xs
cut_is_prefix ends zero xs = tt
cut_is_prefix ends (suc k) [] = tt
cut_is_prefix ends (suc k) (x ∷ xs) =
    (refl, cut_rest_prefix (ends x) (epoch_log ends k xs) xs (cut_is_prefix ends k xs))

-- a rising log goes on with what is committed in an epoch whose requests are new
rising_with : (domain : List ℕ) (ending : Ending) (n : ℕ) (events : List WorldEvent) (i : ℕ) (before : List Entry) →
    IsGroup n → AreNew before events → IsRising before →
    IsRising (before ++ epoch_log ending.ends ending.most (committed_in domain n events i))
rising_with domain ending n events i before group new rising =
    let all : List Entry = committed_in domain n events i in
    let own : List Entry = epoch_log ending.ends ending.most all in
    let within : IsLogPrefix own all = cut_is_prefix ending.ends ending.most all in
    rising_append before own rising (rising_prefix own all within (committed_is_rising domain n events i group))
    (λ p q e f one other same.
    new f e p (committed_is_requested domain n events i q f group (entry_at-prefix own all q f within other)) one same)

pub rise_from : (domain : List ℕ) (ending : Ending) (sizes : ℕ → ℕ) (events : ℕ → List WorldEvent) (i : ℕ) →
    ((epoch : ℕ) → IsGroup (sizes epoch)) → (epoch : ℕ) (before : List Entry) (past : List (List Entry)) →
    ArePast domain ending sizes events epoch past → AskNew events epoch before past → IsRising before →
    IsRising (before ++ history domain ending sizes events epoch past i)
rise_from domain ending sizes events i group epoch before [] a new rising =
    rising_with domain ending (sizes epoch) (events epoch) i before (group epoch) new rising
rise_from domain ending sizes events i group epoch before (p ∷ ps) a new rising =
    let w : IsWholeEpoch domain ending (sizes epoch) (events epoch) p = a.0 in
    let next : IsRising (before ++ p) = subst (λ (log : List Entry). IsRising (before ++ log)) (sym w.log_is)
    (rising_with domain ending (sizes epoch) (events epoch) w.node before (group epoch) new.0 rising) in
    let rest : List Entry = history domain ending sizes events (suc epoch) ps i in
    subst (λ (log : List Entry). IsRising log) (append_assoc before p rest)
    (rise_from domain ending sizes events i group (suc epoch) (before ++ p) ps a.1 new.1 next)

pub nothing_rises : IsRising []
nothing_rises = all_pairs_from_pairs InOrder [] tt

pub histories_rise : HistoriesRise
histories_rise domain ending sizes events past i group a new =
    rise_from domain ending sizes events i group 0 [] past a new nothing_rises

pub history_replies_held : HistoryRepliesHeld
history_replies_held domain ending sizes events past i group a new k client =
    rows_are_latest domain (take k (history domain ending sizes events 0 past i)) client
