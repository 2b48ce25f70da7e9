-- What an answer says that was made of the outcome of an item.
use Rattle.std.proofs.Common.{◌≡◌, ◌≢◌, ◌∙◌, ap, ℕ, List, Bool, true, sym, subst, Result, Ok, Err, IfOk, IfErr, OnErr}
use Rattle.std.proofs.Common.{MatchBool}
use Rattle.desk_types.specs.declared.command.Entry.{Entry}
use Rattle.desk_types.specs.declared.epoch_packet.EpochPacket.{EpochPacket}
use Rattle.desk_types.specs.declared.refusal.Refusal.{Refusal}
use Rattle.desk_replica.specs.declared.answer.Answer.{Answer}
use Rattle.desk_threads.specs.declared.handing.Out.{Ghosts}
use Rattle.desk_threads.specs.Filed.{goes_on_after}
use Rattle.desk_threads.proofs.KeeperRuns.{if_ok}

-- the item was done, and its packets went out
pub item_done : {O A : Type 0} (g : Ghosts O) (Does : List (ℕ × EpochPacket) → List Answer → Type 0)
    (outcome : Result A Refusal) (packets_of : A → List (ℕ × EpochPacket)) (answers_of : A → List Answer) (step : A)
    (answer : Result Bool Refusal) (whole : Bool) (old mid new : O) → outcome ≡ Ok step → answer ≡ Ok whole →
    new ≡ mid → IfOk outcome (λ s. Does (packets_of s) (answers_of s)) → g.takes old (packets_of step) mid →
    IfOk answer (λ _. (packets : List (ℕ × EpochPacket)) × (answers : List Answer) × Does packets answers
    × g.takes old packets new)
item_done g Does outcome packets_of answers_of step answer whole old mid new is answer_is new_is did gave =
    rw answer_is (
      packets_of step,
      answers_of step,
      if_ok outcome step (λ s. Does (packets_of s) (answers_of s)) is did,
      subst (g.takes old (packets_of step)) (sym new_is) gave,
    )

-- the item was done, and the answer tells whether all is published
pub whole_done : {A : Type 0} (outcome : Result A Refusal) (step : A) (answer : Result Bool Refusal)
    (whole goes : Bool) (shown given now : List Entry) → outcome ≡ Ok step → answer ≡ Ok whole →
    goes ≡ goes_on_after outcome → given ≡ now →
    (goes ≡ true → MatchBool whole (shown ≡ given) (shown ≢ given)) →
    IfOk answer (λ w. MatchBool w (shown ≡ now) (shown ≢ now))
whole_done outcome step answer whole goes shown given now is answer_is goes_is same reported =
    rw answer_is (subst (λ (l : List Entry). MatchBool whole (shown ≡ l) (shown ≢ l)) same
    (reported (goes_is ∙ ap goes_on_after is)))

-- an answer is of one kind alone
pub none_if_ok : {B E : Type 0} (answer : Result B E) (r : E) (P : B → Type 0) → answer ≡ Err r → IfOk answer P
none_if_ok answer r P is = rw is tt

pub none_if_err : {B E : Type 0} (answer : Result B E) (x : B) (P : E → Type 0) → answer ≡ Ok x → IfErr answer P
none_if_err answer x P is = rw is tt

pub none_on_err : {B E : Type 0} (answer : Result B E) (x : B) (P : Type 0) → answer ≡ Ok x → OnErr answer P
none_on_err answer x P is = rw is tt

-- what is said of a refusal that is answered as it came
pub same_if_err : {A B E : Type 0} (outcome : Result A E) (answer : Result B E) (r : E) (P : E → Type 0) →
    outcome ≡ Err r → answer ≡ Err r → IfErr outcome P → IfErr answer P
same_if_err outcome answer r P is answer_is h = let p = rw is at h in rw answer_is p

pub always_on_err : {B E : Type 0} (answer : Result B E) (P : Type 0) → P → OnErr answer P
always_on_err (Ok x) P h = tt
always_on_err (Err r) P h = h
