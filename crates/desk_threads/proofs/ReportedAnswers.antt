-- Whom a keeper tells what, by the outcome of an item.
use Rattle.std.proofs.Common.{◌≡◌, ℕ, List, Bool, true, false, map, ap, sym, subst, ◌∙◌}
use Rattle.std.proofs.Common.{Result, Ok, Err, IfOk, IfErr}
use Rattle.std.specs.List.{AllZip}
use Rattle.desk_types.specs.declared.command.Entry.{Entry}
use Rattle.desk_types.specs.declared.epoch_packet.EpochPacket.{EpochPacket}
use Rattle.desk_types.specs.declared.refusal.Refusal.{Refusal}
use Rattle.desk_types.specs.declared.refusal.Refusal.TheVariants as refusals
use Rattle.desk_types.specs.Refusal.{is_want_of_memory, IsStoreRefusal}
use Rattle.desk_replica.specs.declared.answer.Answer.{Answer}
use Rattle.desk_threads.specs.ItemAnswers.{waiting_on, AreInformed, HearAndAreInformed}
use Rattle.desk_threads.specs.Waiting.{SessionValue, after_stop, HearsAll}
use Rattle.desk_threads.specs.Filed.{goes_on_after}
use Rattle.desk_threads.proofs.KeeperRuns.{if_ok, if_err}
use Rattle.desk_threads.proofs.StoredAnswers.{stops_after}

-- whether the keeper goes on after an outcome that is known
goes_on_if : {A : Type 0} (outcome known : Result A Refusal) (goes : Bool) → goes ≡ goes_on_after outcome →
    outcome ≡ known → goes ≡ goes_on_after known
goes_on_if outcome known goes is same = is ∙ ap goes_on_after same

-- who was told, begun with the sessions as they wait on
reported_from : (list : List Entry) (noted going before new : List SessionValue) (goes know : Bool) →
    going ≡ waiting_on goes noted → goes ≡ know → before ≡ going → AreInformed list before new →
    AreInformed list (waiting_on know noted) new
reported_from list noted going before new goes know going_is goes_is before_is reported =
    subst (λ l. AreInformed list l new) (before_is ∙ going_is ∙ ap (λ b. waiting_on b noted) goes_is) reported

-- at Ok
pub reported_done : {A : Type 0} (outcome : Result A Refusal) (packets_of : A → List (ℕ × EpochPacket))
    (answers_of : A → List Answer) (step : A) (answer : Result Bool Refusal) (whole : Bool)
    (Does : List (ℕ × EpochPacket) → List Answer → Type 0) (list : List Entry)
    (noted going mid before new : List SessionValue) (goes : Bool) → outcome ≡ Ok step → answer ≡ Ok whole →
    goes ≡ goes_on_after outcome → going ≡ waiting_on goes noted →
    IfOk outcome (λ s. Does (packets_of s) (answers_of s)) → AllZip (HearsAll (answers_of step)) going mid →
    before ≡ mid → AreInformed list before new →
    IfOk answer (λ _. (packets : List (ℕ × EpochPacket)) × (answers : List Answer) × Does packets answers
    × HearAndAreInformed list answers noted new)
reported_done outcome packets_of answers_of step answer whole Does list noted going mid before new goes is answer_is
    goes_is going_is did heard before_is reported = rw answer_is (
      packets_of step,
      answers_of step,
      if_ok outcome step (λ s. Does (packets_of s) (answers_of s)) is did,
      (
        mid,
        subst (λ l. AllZip (HearsAll (answers_of step)) l mid)
            (going_is ∙ ap (λ b. waiting_on b noted) (goes_on_if outcome (Ok step) goes goes_is is)) heard,
        subst (λ l. AreInformed list l new) before_is reported,
      ),
    )

-- at 40
pub reported_waiting : {A : Type 0} (outcome : Result A Refusal) (answer : Result Bool Refusal) (r : Refusal)
    (list : List Entry) (noted going before new : List SessionValue) (goes : Bool) → outcome ≡ Err r →
    answer ≡ Err r → goes ≡ goes_on_after outcome → going ≡ waiting_on goes noted → before ≡ going →
    AreInformed list before new → IfErr answer (λ r. r ≡ refusals.WantOfMemory → AreInformed list noted new)
reported_waiting outcome answer r list noted going before new goes is answer_is goes_is going_is before_is reported =
    rw answer_is (λ memory.
    reported_from list noted going before new goes true going_is
    (goes_on_if outcome (Err r) goes goes_is is ∙ ap is_want_of_memory memory) before_is reported)

-- at 41
pub reported_stopped : {A : Type 0} (outcome : Result A Refusal) (answer : Result Bool Refusal) (r : Refusal)
    (list : List Entry) (noted going before new : List SessionValue) (goes : Bool) → outcome ≡ Err r →
    answer ≡ Err r → goes ≡ goes_on_after outcome → going ≡ waiting_on goes noted → before ≡ going →
    AreInformed list before new →
    IfErr answer (λ r. IsStoreRefusal r → AreInformed list (map after_stop noted) new)
reported_stopped outcome answer r list noted going before new goes is answer_is goes_is going_is before_is reported =
    rw answer_is (λ fault.
    reported_from list noted going before new goes false going_is
    (stops_after r goes (goes_on_if outcome (Err r) goes goes_is is) fault) before_is reported)

-- what holds once the keeper stops
pub once_stopped : {A : Type 0} (outcome : Result A Refusal) (answer : Result Bool Refusal) (r : Refusal)
    (goes : Bool) (P : Type 0) → outcome ≡ Err r → answer ≡ Err r → goes ≡ goes_on_after outcome →
    (goes ≡ false → P) → IfErr answer (λ r. IsStoreRefusal r → P)
once_stopped outcome answer r goes P is answer_is goes_is then =
    rw answer_is (λ fault. then (stops_after r goes (goes_on_if outcome (Err r) goes goes_is is) fault))

-- what was made where the save failed, which the keeper leaves as it is
pub made_stopped : {A R : Type 0} (outcome : Result A Refusal) (answer : Result Bool Refusal) (r : Refusal)
    (goes : Bool) (made new : R) (Does : R → Type 0) → outcome ≡ Err r → answer ≡ Err r →
    goes ≡ goes_on_after outcome → (goes ≡ false → new ≡ made) →
    IfErr outcome (λ r. r ≡ refusals.StoreFault → Does made) → IfErr answer (λ r. r ≡ refusals.StoreFault → Does new)
made_stopped outcome answer r goes made new Does is answer_is goes_is same did =
    rw answer_is (λ fault.
    subst Does (sym (same (goes_on_if outcome (Err r) goes goes_is is ∙ ap is_want_of_memory fault)))
    (if_err outcome r _ is did fault))
