-- A node over a database.
use Rattle.std.proofs.Common.{◌≡◌, ◌≢◌, ◌⊎◌, inl, inr, List, ℕ, [], ◌∷◌, ◌++◌, Option, refl, sym, ap, subst, ◌∙◌}
use Rattle.std.proofs.Common.{Result, Ok, Err, OnOk, IfErr}
use Rattle.std.proofs.KnownBytes.{Keeps-refl}
use Rattle.std.specs.Io.KnownBytes.{Appends}
use Rattle.desk_types.specs.declared.packet.Message.{Message}
use Rattle.sqlite_trees.specs.declared.store.Store.{Ghosts}
use Rattle.sqlite.specs.Effect.{Database}
use Rattle.sqlite.specs.State.{HasCleanDisk, IsUnchanged}
use Rattle.sqlite.specs.Held.{Held, state}
use Rattle.desk_types.specs.declared.refusal.Refusal.{Refusal}
use Rattle.desk_types.specs.declared.refusal.Refusal.TheVariants as refusals
use Rattle.desk_frames.specs.Received.{HasReceived, HasNoFrame}
use Rattle.desk_frames.specs.Stream.{frames_spelling, BeginsNone}
use Rattle.desk_log.specs.SavedValue.{SavedValue}
use Rattle.desk_node.specs.Heard.{silence, Says}
use Rattle.desk_node.specs.NodeValue.{NodeValue, node_from}
use Rattle.desk_types.specs.declared.owner.Owner.{Owner}
use Rattle.desk_naming.specs.Contents.{schema_of, trees_of}
use Rattle.desk_saved.specs.DeskTables.{Layout, KeepsOthers}
use Rattle.desk_saved.proofs.SeveralStatements.{others_same, others_then}
use Rattle.desk_saved.specs.File.{HoldsFile, HasNoTable}
use Rattle.desk_saved.specs.NewTables.{Becomes, HasRoomForTables}
use Rattle.desk_saved.specs.OldFile.{HasOldTables, HasRoomForClients, GrowsTo}
use Rattle.desk_saved.specs.Opening.{HasOpened, IsOpeningRefusal}
use Rattle.desk_saved.specs.SchemaRefusals.{IsDeskSchema}
use Rattle.desk_saved.specs.Store.{StoreValue}
use Rattle.desk_saved.proofs.DeskTables.{desk_has}
use Rattle.desk_saved.proofs.ClientRoom.{grown_desk, grows}
use Rattle.desk_saved.proofs.Room.{desk_of, becomes}
use Rattle.desk_types.specs.Refusal.{IsStoreRefusal, HasStored, IsWritingFault}
use Rattle.desk_saved.specs.Saving.{KeepsTables, KeepsFile}
use Rattle.desk_answer.specs.AnswerFile.{LeavesRows, LeavesFile, IsEither}
use Rattle.desk_answer.proofs.FileAfterAnswers.{others_left}
use Rattle.desk_answer.specs.AnswerStream.{HasStepped, HasSent, HasSentButLast, IsAnswerFault}
use Rattle.desk_frames.proofs.Receiving.{received_nothing}
use Rattle.desk_answer.proofs.UnansweredPackets.{send_no_store}
use Rattle.desk_answer.proofs.StepsInOrder.{stepped_more}
use Rattle.desk_answer.specs.AnswerRun.{saved_after, AnswersAll, AnswersButLast, KeepsDesk, KeepsState, LeavesState}
use Rattle.desk_answer.specs.AnswerRun.{ServesOver, ServesOverButLast, IsUntouched, HasEndedRunBy}
use Rattle.desk_output.proofs.Prefixes.{no_prefix}
use Rattle.desk_output.specs.Prefixes.{AppendsPrefix}

-- Who has heard nothing was told nothing.
says_nothing : (n view : ℕ) → Says n view [] (silence n)
says_nothing n view = record { none_past = tt; heard_is = refl }

module _ (Writes : List ℕ → Type 0) (owner : Owner) (saved : SavedValue) (before : NodeValue)
    (start : before ≡ node_from owner saved) where
  pub answers_of_sent : (after : NodeValue) (last : SavedValue) → last ≡ after.saved → (packets : List Message) →
      HasSent Writes before after packets → AnswersAll Writes owner saved last packets
  answers_of_sent after last last_is packets sent =
      let h = subst (λ b. HasSent Writes b after packets) start sent in
      let steps = h.stepped.steps [] (says_nothing owner.n saved.view) in
      record {
        last_is = last_is ∙ steps.saved_is;
        written = subst (λ sent. Writes (frames_spelling sent)) steps.sent_is h.written;
      }

  pub answers_but_last : (between after : NodeValue) (packets : List Message) →
      HasSentButLast Writes before between after packets →
      AnswersButLast Writes owner saved between.saved after.saved packets
  answers_but_last between after packets h =
      let stepped = stepped_more before between after h.first (h.last ∷ []) h.sent.sent h.more
      h.sent.stepped h.stepped in
      let both = subst (λ b. HasStepped b (h.first ++ h.last ∷ []) after (h.sent.sent ++ h.more)) start stepped in
      record {
        most = h.first;
        packet = h.last;
        packets_are = h.packets_are;
        answers = answers_of_sent between between.saved refl h.first h.sent;
        last_is = (both.steps [] (says_nothing owner.n saved.view)).saved_is
            ∙ ap (saved_after owner saved) (sym h.packets_are);
      }

module _ {S : Type 0} (g : Ghosts S) (owner opened : Owner) (before after : Held S) (old new : StoreValue S)
    (owner_is : opened ≡ owner) (after_is : after ≡ new.connection)
    (said : HasOpened g before opened old) (same : new.owner ≡ old.owner)
    (clean : HasCleanDisk (state g new.connection) → HasCleanDisk (state g old.connection)) where
  rows_after : KeepsFile g old new → (d : Layout) → HoldsFile g d old.connection opened old.last →
      HoldsFile g d new.connection opened new.last × KeepsTables g d old.connection new.connection
  rows_after rows d was =
      let it = rows d (subst (λ o. HoldsFile g d old.connection o old.last) (sym said.own.0) was) in
      (subst (λ o. HoldsFile g d new.connection o new.last) (same ∙ said.own.0) it.0, it.1)

  rows_left : (Left : SavedValue → Type 0) → LeavesFile g old new Left → (d : Layout) →
      HoldsFile g d old.connection opened old.last → LeavesRows g d old.connection new.connection opened Left
  rows_left Left leaves d was =
      subst (λ o. LeavesRows g d old.connection new.connection o Left) said.own.0
      (leaves d (subst (λ o. HoldsFile g d old.connection o old.last) (sym said.own.0) was))

  in_either : (Preserved : Layout → Type 0) → ((d : Layout) → HoldsFile g d old.connection opened old.last →
      KeepsTables g d before old.connection → Preserved d)
      → IsDeskSchema (schema_of g before)
      ⊎ ((HasOldTables (schema_of g before) × HasRoomForClients (schema_of g before))
      ⊎ (HasNoTable (schema_of g before) × HasRoomForTables (schema_of g before)))
      → KeepsDesk g opened before new.connection old.last Preserved
  in_either Preserved keep (inl is) = inl (
      let both = desk_has (schema_of g before) is in
      record {
        desk = is.0;
        schema_is = is.1;
        found = λ clear. (said.there both).fits (clean clear) is.0 is.1;
        preserved = λ open_. keep is.0 ((said.there both).holds open_ is.0 is.1)
            (λ late. subst (λ (db : Database). KeepsOthers is.0 (trees_of g before) db.trees)
            (sym ((said.there both).same late).0.now_is) (others_same is.0 (trees_of g before)));
      }
      )
  in_either Preserved keep (inr (inl of_one)) = inr (inl (
      let d = grown_desk (schema_of g before) of_one.0 of_one.1 in
      let can : GrowsTo (schema_of g before) d = grows (schema_of g before) of_one.0 of_one.1 in
      let it = said.grown of_one.0 in
      record {
        old = of_one.0;
        desk = d;
        grows = can;
        found = λ clear. it.fits (clean clear);
        preserved = λ open_. keep d (it.holds open_ d can) (λ late. it.others late open_ d can);
      }
      ))
  in_either Preserved keep (inr (inr none)) = inr (inr (
      let d = desk_of (schema_of g before) none.1 in
      let made : Becomes (schema_of g before) d = becomes (schema_of g before) none.1 in
      record {
        none = none.0;
        desk = d;
        becomes = made;
        nothing = (said.made none.0).first;
        preserved = λ open_. keep d ((said.made none.0).fresh open_ d made)
            (λ late. (said.made none.0).others late open_ d made);
      }
      ))

  -- what an open says, and what the answers keep
  pub state_preserved : KeepsFile g old new → KeepsState g owner before after old.last new.last
  state_preserved rows = subst (λ o. KeepsState g o before after old.last new.last) owner_is
      (subst (λ conn. KeepsState g opened before conn old.last new.last) (sym after_is)
      (in_either (λ d. HoldsFile g d new.connection opened new.last × KeepsTables g d before new.connection)
      (λ d was start.
      let it = rows_after rows d was in (
        it.0,
        λ late. others_then d (state g before) (state g old.connection) (state g new.connection)
            (start (clean late)) (it.1 late),
      ))
      said.whole))

  pub state_left : (between last : SavedValue) → LeavesFile g old new (IsEither between last) →
      LeavesState g owner before after old.last between last
  state_left between last leaves = subst (λ o. LeavesState g o before after old.last between last) owner_is
      (subst (λ conn. LeavesState g opened before conn old.last between last) (sym after_is)
      (in_either (λ d. LeavesRows g d before new.connection opened (IsEither between last))
      (λ d was start late trees left.
      let it = rows_left (IsEither between last) leaves d was late trees left in (
        it.0,
        others_left d (state g before) (state g old.connection) trees (start (clean late)) it.1,
        it.2,
      ))
      said.whole))

-- faults

pub no_frame_in_store : (r : Refusal) → r ≡ refusals.FrameFault → IsStoreRefusal r → ⊥
no_frame_in_store r f (inl e) = cc
no_frame_in_store r f (inr e) = cc

pub no_read_in_store : (r : Refusal) → r ≡ refusals.ReadFault → IsStoreRefusal r → ⊥
no_read_in_store r f (inl e) = cc
no_read_in_store r f (inr e) = cc

pub no_frame_at_open : (r : Refusal) → IsOpeningRefusal r → r ≡ refusals.FrameFault → ⊥
no_frame_at_open r (inl e) f = cc
no_frame_at_open r (inr (inl e)) f = cc
no_frame_at_open r (inr (inr e)) f = cc

pub no_read_at_open : (r : Refusal) → IsOpeningRefusal r → r ≡ refusals.ReadFault → ⊥
no_read_at_open r (inl e) f = cc
no_read_at_open r (inr (inl e)) f = cc
no_read_at_open r (inr (inr e)) f = cc

pub memory_at_open : (r : Refusal) → IsOpeningRefusal r → IsWritingFault r → r ≡ refusals.WantOfMemory
memory_at_open r kind (inl e) = e
memory_at_open r (inl o) (inr e) = cc
memory_at_open r (inr (inl o)) (inr e) = cc
memory_at_open r (inr (inr o)) (inr e) = cc

pub no_stop_at_open : (r : Refusal) → IsOpeningRefusal r → r ≢ refusals.NodeStopped
no_stop_at_open r (inl e) f = cc
no_stop_at_open r (inr (inl e)) f = cc
no_stop_at_open r (inr (inr e)) f = cc

pub fault_at_open : (r : Refusal) → IsOpeningRefusal r → IsStoreRefusal r → r ≡ refusals.StoreFault
fault_at_open r kind (inl e) = e
fault_at_open r (inl o) (inr e) = cc
fault_at_open r (inr (inl o)) (inr e) = cc
fault_at_open r (inr (inr o)) (inr e) = cc

-- results

-- what is said of a fault that is none of the store
pub on_fault_stored : {T P : Type 0} {Q : Refusal → Type 0} (Fault : Refusal → Type 0) →
    ((r : Refusal) → Fault r → IsStoreRefusal r → ⊥) → (result : Result T Refusal) →
    (HasStored result → (r : Refusal) → P → Q r) → IfErr result (λ r. Fault r → P) → IfErr result (λ r. Fault r → Q r)
on_fault_stored Fault other (Ok x) f said = tt
on_fault_stored Fault other (Err r) f said = λ fault. f (other r fault) r (said fault)

pub on_ok_stored : {T P Q : Type 0} (result : Result T Refusal) → (HasStored result → P → Q) → OnOk result P →
    OnOk result Q
on_ok_stored (Ok x) f said = f tt said
on_ok_stored (Err r) f said = tt

pub always_if_err : {T E Q : Type 0} (P : E → Type 0) (r : Result T E) → Q → IfErr r (λ e. P e → Q)
always_if_err P (Ok x) q = tt
always_if_err P (Err e) q = λ p. q

pub nothing_part : (owner : Owner) (saved : SavedValue) (input old : Option (List ℕ)) →
    HasReceived input input (AnswersAll (AppendsPrefix old old) owner saved saved) []
nothing_part owner saved input old = received_nothing input _
    (record { last_is = refl; written = no_prefix old old _ (Keeps-refl old) })

-- a run over a database

module _ {S : Type 0} (g : Ghosts S) (owner : Owner) (before after : Held S) (first last : SavedValue)
    (input left : Option (List ℕ)) (Writes : List ℕ → Type 0) {T : Type 0} (result : Result T Refusal)
    (keeps : HasStored result → KeepsState g owner before after first last) where
  serves : HasStored result → (rest : List ℕ) → HasReceived input left (AnswersAll Writes owner first last) rest →
      ServesOver g owner before after input left Writes rest
  serves stored rest answers = record { first = first; last = last; answers = answers; keeps = keeps stored }

  pub served_whole : OnOk result (HasReceived input left (AnswersAll Writes owner first last) []) →
      OnOk result (ServesOver g owner before after input left Writes [])
  served_whole = on_ok_stored result (λ stored answers. serves stored [] answers)

  pub served_before : (P : List ℕ → Type 0) (Fault : Refusal → Type 0) →
      ((r : Refusal) → Fault r → IsStoreRefusal r → ⊥) →
      IfErr result (λ r. Fault r →
      (rest : List ℕ) × P rest × HasReceived input left (AnswersAll Writes owner first last) rest) →
      IfErr result (λ r. Fault r → (rest : List ℕ) × P rest × ServesOver g owner before after input left Writes rest)
  served_before P Fault other =
      on_fault_stored Fault other result (λ stored r h. (h.0, h.1, serves stored h.0 h.2))

  pub served_part : (Opening : Refusal → Type 0) →
      IfErr result (λ r. IsWritingFault r →
      (rest : List ℕ) × HasReceived input left (AnswersAll Writes owner first last) rest) →
      IfErr result (λ r. IsWritingFault r → Opening r
      ⊎ (rest : List ℕ) × ServesOver g owner before after input left Writes rest)
  served_part Opening =
      on_fault_stored IsWritingFault send_no_store result (λ stored r h. inr (h.0, serves stored h.0 h.1))

-- what ends an answer is not 45
no_file_in_answer : (r : Refusal) → IsAnswerFault r → r ≡ refusals.WrongFile → ⊥
no_file_in_answer r (inl a) e = cc
no_file_in_answer r (inr (inl a)) e = cc
no_file_in_answer r (inr (inr (inl (inl a)))) e = cc
no_file_in_answer r (inr (inr (inl (inr a)))) e = cc
no_file_in_answer r (inr (inr (inr (inl a)))) e = cc
no_file_in_answer r (inr (inr (inr (inr a)))) e = cc

module _ {S : Type 0} (g : Ghosts S) (owner : Owner) (before after : Held S) (input left old new : Option (List ℕ))
    {T : Type 0} where
  -- an open that was taken, and answers that were ended early
  pub run_ended : (result : Result T Refusal) → IfErr result IsAnswerFault →
      IfErr result (λ r. r ≢ refusals.NodeStopped) →
      IfErr result (λ r. r ≡ refusals.FrameFault → (rest : List ℕ) × BeginsNone rest
      × ServesOver g owner before after input left (Appends old new) rest) →
      IfErr result (λ r. r ≡ refusals.ReadFault → (rest : List ℕ) × HasNoFrame rest
      × ServesOver g owner before after input left (Appends old new) rest) →
      IfErr result (λ r. IsStoreRefusal r → ServesOverButLast g owner before after input left (Appends old new)) →
      IfErr result (λ r. IsWritingFault r → (r ≡ refusals.WantOfMemory) × IsUntouched input left old new
      × (HasCleanDisk (state g after) → (after ≡ before) ⊎ IsUnchanged (state g before) (state g after))
      ⊎ (rest : List ℕ) × ServesOver g owner before after input left (AppendsPrefix old new) rest) →
      IfErr result (λ r. HasEndedRunBy g r owner before after input left old new)
  run_ended (Ok x) fault running frame read unsaved cut = tt
  run_ended (Err r) fault running frame read unsaved cut = record {
    fault = inl fault;
    frame_fault = frame;
    read_fault = read;
    unsaved = λ store. inr (unsaved store);
    cut_short = cut;
    wrong_file = λ e. absurd (no_file_in_answer r fault e);
    running = running;
  }

-- an open that was refused by want of memory, before it had begun
pub run_unbegun : {S : Type 0} (g : Ghosts S) (owner : Owner) (before : Held S) (input old : Option (List ℕ)) →
    HasEndedRunBy g refusals.WantOfMemory owner before before input input old old
run_unbegun g owner before input old =
    let is : IsOpeningRefusal refusals.WantOfMemory = inl refl in
    record {
      fault = inr is;
      frame_fault = λ e. absurd (no_frame_at_open refusals.WantOfMemory is e);
      read_fault = λ e. absurd (no_read_at_open refusals.WantOfMemory is e);
      unsaved = λ e. absurd (send_no_store refusals.WantOfMemory (inl refl) e);
      cut_short = λ _. inl (refl, (Keeps-refl input, Keeps-refl old), λ clean. inl refl);
      wrong_file = λ e. absurd (no_file_in_answer refusals.WantOfMemory (inr (inr (inl (inl refl)))) e);
      running = no_stop_at_open refusals.WantOfMemory is;
    }
