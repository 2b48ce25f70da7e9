-- What a node over a database answers, and what the database holds then.
use Rattle.std.specs.Prelude.{◌≡◌, ◌≢◌, ◌⊎◌, ℕ, List, [], ◌∷◌, ◌++◌, Option, Result, IsTrue, IsErr, IfErr}
use Rattle.std.specs.Io.KnownBytes.{Appends, Keeps}
use Rattle.sqlite_trees.specs.declared.store.Store.{Ghosts}
use Rattle.sqlite.specs.State.{HasCleanDisk, IsUnchanged}
use Rattle.sqlite.specs.Held.{Held, state}
use Rattle.desk_types.specs.declared.packet.Message.{Message}
use Rattle.desk_types.specs.declared.refusal.Refusal.{Refusal}
use Rattle.desk_types.specs.declared.refusal.Refusal.TheVariants as refusals
use Rattle.desk_frames.specs.Received.{HasReceived, HasNoFrame}
use Rattle.desk_frames.specs.Stream.{frames_spelling, BeginsNone}
use Rattle.desk_log.specs.SavedValue.{SavedValue, initial_saved}
use Rattle.desk_node.specs.State.{State}
use Rattle.desk_types.specs.declared.owner.Owner.{Owner}
use Rattle.desk_naming.specs.Contents.{schema_of, trees_of}
use Rattle.desk_saved.specs.DeskTables.{Layout}
use Rattle.desk_saved.specs.File.{IsState, HasFile, HoldsFile, HasNoTable}
use Rattle.desk_saved.specs.NewTables.{Becomes}
use Rattle.desk_saved.specs.OldFile.{HasOldTables, HasOldFile, IsOldState, GrowsTo}
use Rattle.desk_saved.specs.Opening.{HasRefused, IsOpeningRefusal}
use Rattle.desk_saved.specs.Saving.{KeepsTables}
use Rattle.desk_naming.specs.AfterRefusal.{ShowsAsBefore}
use Rattle.desk_types.specs.Refusal.{IsStoreRefusal, IsWritingFault}
use Rattle.desk_answer.specs.AnswerFile.{LeavesRows, IsEither}
use Rattle.desk_answer.specs.AnswerStream.{sent_for, after_packets, IsAnswerFault}
use Rattle.desk_output.specs.Prefixes.{AppendsPrefix}

-- a node that has saved this, and has heard nothing since its start
abbrev pub fresh_node : SavedValue → State
fresh_node saved = record { saved = saved; received = [] }

-- what the node that had saved this sends for packets, in order
abbrev pub answers_of : Owner → SavedValue → List Message → List Message
answers_of owner first packets = sent_for owner.domain owner.id owner.n (fresh_node first) packets

-- what it has saved after them
abbrev pub saved_after : Owner → SavedValue → List Message → SavedValue
saved_after owner first packets = (after_packets owner.domain owner.id owner.n (fresh_node first) packets).saved

-- `last` is what the node has saved after these packets, and the frames of its answers to them were written as is
-- asked.
pub record AnswersAll (Writes : List ℕ → Type 0) (owner : Owner) (first last : SavedValue) (packets : List Message) :
    Type 0 where
  pub last_is : last ≡ saved_after owner first packets
  pub written : Writes (frames_spelling (answers_of owner first packets))

-- `last` is what it has saved after these packets, `between` after all but the last, and the frames of its answers to
-- those were written as is asked.
pub record AnswersButLast (Writes : List ℕ → Type 0) (owner : Owner) (first between last : SavedValue)
    (packets : List Message) : Type 0 where
  pub most : List Message
  pub packet : Message
  pub packets_are : packets ≡ most ++ packet ∷ []
  pub answers : AnswersAll Writes owner first between most
  pub last_is : last ≡ saved_after owner first packets

-- The database had the tables of a desk, and their rows were those of `first`. This desk preserves what is asked.
pub record Continues {S : Type 0} (g : Ghosts S) (owner : Owner) (before after : Held S) (first : SavedValue)
    (Preserved : Layout → Type 0) : Type 0 where
  pub desk : Layout
  pub schema_is : schema_of g before ≡ desk.schema
  pub found : HasCleanDisk (state g after) → IsState first × HasFile desk owner first (trees_of g before)
  pub preserved : IsTrue (state g before).is_open → Preserved desk

-- It had the tables of version 1, whose rows were those of `first`, and got the one of the clients beside them. Of the
-- desk that it has then what is asked is preserved.
pub record Migrates {S : Type 0} (g : Ghosts S) (owner : Owner) (before after : Held S) (first : SavedValue)
    (Preserved : Layout → Type 0) : Type 0 where
  pub old : HasOldTables (schema_of g before)
  pub desk : Layout
  pub grows : GrowsTo (schema_of g before) desk
  pub found : HasCleanDisk (state g after)
      → IsOldState first × HasOldFile old.tables owner first (trees_of g before)
  pub preserved : IsTrue (state g before).is_open → Preserved desk

-- It had none of the tables and got them, and `first` is what a node saves that has done nothing.
pub record Begins {S : Type 0} (g : Ghosts S) (before : Held S) (first : SavedValue) (Preserved : Layout → Type 0) :
    Type 0 where
  pub none : HasNoTable (schema_of g before)
  pub desk : Layout
  pub becomes : Becomes (schema_of g before) desk
  pub nothing : first ≡ initial_saved
  pub preserved : IsTrue (state g before).is_open → Preserved desk

-- What the node had saved was that of the database, whose desk keeps what is asked.
abbrev pub KeepsDesk : {S : Type 0} → Ghosts S → Owner → Held S → Held S → SavedValue → (Layout → Type 0) → Type 0
KeepsDesk g owner before after first Preserved = Continues g owner before after first Preserved
    ⊎ (Migrates g owner before after first Preserved ⊎ Begins g before first Preserved)

-- The node's state was preserved: the database has now what it saved last, and the tables of others as they were.
abbrev pub KeepsState : {S : Type 0} → Ghosts S → Owner → Held S → Held S → SavedValue → SavedValue → Type 0
KeepsState g owner before after first last =
    KeepsDesk g owner before after first (λ d. HoldsFile g d after owner last × KeepsTables g d before after)

-- A crash leaves the node's state before its last step, or after it.
abbrev pub LeavesState : {S : Type 0} → Ghosts S → Owner → Held S → Held S →
    SavedValue → SavedValue → SavedValue → Type 0
LeavesState g owner before after first between last =
    KeepsDesk g owner before after first (λ d. LeavesRows g d before after owner (IsEither between last))

-- The node answered, and its state after the packets was preserved.
pub record ServesOver {S : Type 0} (g : Ghosts S) (owner : Owner) (before after : Held S) (input left : Option (List ℕ))
    (Writes : List ℕ → Type 0) (rest : List ℕ) : Type 0 where
  pub first : SavedValue
  pub last : SavedValue
  pub answers : HasReceived input left (AnswersAll Writes owner first last) rest
  pub keeps : KeepsState g owner before after first last

-- The node answered the packets but the last, whose state may not be saved.
pub record ServesOverButLast {S : Type 0} (g : Ghosts S) (owner : Owner) (before after : Held S)
    (input left : Option (List ℕ)) (Writes : List ℕ → Type 0) : Type 0 where
  pub first : SavedValue
  pub between : SavedValue
  pub last : SavedValue
  pub rest : List ℕ
  pub answers : HasReceived input left (AnswersButLast Writes owner first between last) rest
  pub leaves : LeavesState g owner before after first between last

-- nothing was read, and nothing written
abbrev pub IsUntouched : Option (List ℕ) → Option (List ℕ) → Option (List ℕ) → Option (List ℕ) → Type 0
IsUntouched input left old new = Keeps input left × Keeps old new

-- what ends a run over a database early
abbrev pub IsRunFault : Refusal → Type 0
IsRunFault r = IsAnswerFault r ⊎ IsOpeningRefusal r

-- It ends by this refusal, if not for want of memory, and the connection is as it was.
abbrev pub EndsAtOnceBy : {S T : Type 0} → Refusal → Held S → Held S → Result T Refusal → Type 0
EndsAtOnceBy refusal before after result =
    IsErr result × IfErr result (λ r. (r ≡ refusals.WantOfMemory) ⊎ (r ≡ refusal)) × (after ≡ before)

-- A run over a database was ended early by this refusal: how far it had come, and what the database holds.
pub record HasEndedRunBy {S : Type 0} (g : Ghosts S) (r : Refusal) (owner : Owner) (before after : Held S)
    (input left old new : Option (List ℕ)) : Type 0 where
  pub fault : IsRunFault r
  -- The packets before a fault of a frame or of reading are answered.
  pub frame_fault : r ≡ refusals.FrameFault → (rest : List ℕ) × BeginsNone rest
      × ServesOver g owner before after input left (Appends old new) rest
  pub read_fault : r ≡ refusals.ReadFault → (rest : List ℕ) × HasNoFrame rest
      × ServesOver g owner before after input left (Appends old new) rest
  -- Of a packet whose state may not be saved no answer is written, and a crash leaves the state before its step, or
  -- after it. Where the open is refused, a connection that is still open shows the database as it was.
  pub unsaved : IsStoreRefusal r → IsUntouched input left old new
      × (HasCleanDisk (state g after) → ShowsAsBefore (state g before) (state g after))
      ⊎ ServesOverButLast g owner before after input left (Appends old new)
  -- Where a write fails, a prefix of the answers to the first packets that were read was written, and the database
  -- holds what the node has saved after these packets. So it is where memory is refused, but for the open, which leaves
  -- the database as it was.
  pub cut_short : IsWritingFault r → (r ≡ refusals.WantOfMemory) × IsUntouched input left old new
      × (HasCleanDisk (state g after) → (after ≡ before) ⊎ IsUnchanged (state g before) (state g after))
      ⊎ (rest : List ℕ) × ServesOver g owner before after input left (AppendsPrefix old new) rest
  -- It is `WrongFile` only where the open is refused so: one of the tables is there, and the rows are those of no state
  -- of the node; nothing is changed then.
  pub wrong_file : r ≡ refusals.WrongFile → IsUntouched input left old new × HasRefused g before owner after r
  -- The store runs when a run begins, so no run is ended as by one that has stopped.
  pub running : r ≢ refusals.NodeStopped
