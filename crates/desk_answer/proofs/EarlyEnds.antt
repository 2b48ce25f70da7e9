-- How an answer ends early.
use Rattle.std.proofs.Common.{◌≡◌, ◌⊎◌, inl, inr, ℕ, List, [], Option, Ok, refl}
use Rattle.std.proofs.Common.{◌++◌, sym, ap, subst, ◌∙◌, append-nil}
use Rattle.std.proofs.KnownBytes.{Appends-trans}
use Rattle.std.specs.Io.KnownBytes.{Appends}
use Rattle.sqlite_trees.specs.declared.store.Store.{Ghosts}
use Rattle.sqlite.specs.State.{HasCleanDisk}
use Rattle.sqlite.specs.Held.{state}
use Rattle.desk_types.specs.declared.packet.Message.{Message}
use Rattle.desk_types.specs.declared.refusal.Refusal.{Refusal}
use Rattle.desk_types.specs.declared.refusal.Refusal.TheVariants as refusals
use Rattle.desk_frames.specs.Received.{ForFirst, HasReceived}
use Rattle.desk_node.specs.NodeValue.{NodeValue}
use Rattle.desk_saved.specs.Store.{StoreValue}
use Rattle.desk_types.specs.Refusal.{IsStoreRefusal, IsWritingFault}
use Rattle.desk_answer.specs.AnswerFile.{LeavesFile, IsEither, HasFollowed}
use Rattle.desk_answer.specs.AnswerStream.{HasSent, HasSentButLast, HasEndedBy, IsAnswerFault}
use Rattle.desk_answer.proofs.SentInOrder.{prefix_after, sent_as, sent_more, but_last_more}
use Rattle.desk_output.specs.Prefixes.{AppendsPrefix}
use Rattle.desk_output.proofs.Prefixes.{whole_prefix}
use Rattle.desk_frames.proofs.Receiving.{HasCome, IsReadRefused, received_as, received_first, received_more}
use Rattle.desk_answer.proofs.FileAfterAnswers.{left_more}

-- what was written whole is a prefix
begun_whole : (input left old new : Option (List ℕ)) (a b : NodeValue) (rest : List ℕ) →
    HasReceived input left (HasSent (Appends old new) a b) rest →
    HasReceived input left (HasSent (AppendsPrefix old new) a b) rest
begun_whole input left old new a b rest =
    received_as input left _ _ rest (λ ps. sent_as (Appends old new) (AppendsPrefix old new) a b ps
    (whole_prefix old new))

-- which refusals exclude each other

frame_only : (r : Refusal) → r ≡ refusals.FrameFault → IsWritingFault r ⊎ IsStoreRefusal r → ⊥
frame_only r e (inl (inl a)) = cc
frame_only r e (inl (inr a)) = cc
frame_only r e (inr (inl a)) = cc
frame_only r e (inr (inr a)) = cc

read_only : (r : Refusal) → r ≡ refusals.ReadFault → IsWritingFault r ⊎ IsStoreRefusal r → ⊥
read_only r e (inl (inl a)) = cc
read_only r e (inl (inr a)) = cc
read_only r e (inr (inl a)) = cc
read_only r e (inr (inr a)) = cc

pub not_stored : (r : Refusal) →
    (r ≡ refusals.WantOfMemory) ⊎ (r ≡ refusals.FrameFault) ⊎ (r ≡ refusals.ReadFault) → IsStoreRefusal r → ⊥
not_stored r (inl e) (inl s) = cc
not_stored r (inl e) (inr s) = cc
not_stored r (inr (inl e)) (inl s) = cc
not_stored r (inr (inl e)) (inr s) = cc
not_stored r (inr (inr e)) (inl s) = cc
not_stored r (inr (inr e)) (inr s) = cc

read_fault_of : (r : Refusal) →
    (r ≡ refusals.WantOfMemory) ⊎ (r ≡ refusals.FrameFault) ⊎ (r ≡ refusals.ReadFault) → IsAnswerFault r
read_fault_of r (inl e) = inr (inr (inl (inl e)))
read_fault_of r (inr (inl e)) = inl e
read_fault_of r (inr (inr e)) = inr (inl e)

answer_fault_of : (r : Refusal) → IsWritingFault r ⊎ IsStoreRefusal r → IsAnswerFault r
answer_fault_of r (inl e) = inr (inr (inl e))
answer_fault_of r (inr e) = inr (inr (inr e))

-- reading was refused
pub ended_by_read : {S : Type 0} (g : Ghosts S) (r : Refusal) (input now left old new : Option (List ℕ))
    (a b : NodeValue) (first file : StoreValue S) (rest : List ℕ) →
    HasReceived input now (HasSent (Appends old new) a b) rest → IsReadRefused now left rest r →
    HasEndedBy g r input left old new a b first file
ended_by_read g r input now left old new a b first file rest h refused =
    let Sent : List Message → Type 0 = HasSent (Appends old new) a b in
    let answered = received_more input now left Sent (λ qs. qs ≡ []) Sent rest refused.others []
    (λ ps qs done none. subst Sent (sym (append-nil ps) ∙ ap (λ t. ps ++ t) (sym none)) done) h refused.come refl in
    record {
      fault = read_fault_of r refused.which;
      frame_fault = λ e. (refused.others, refused.bad e, answered);
      read_fault = λ e. (refused.others, refused.part e, answered);
      cut_short = λ _. (refused.others, begun_whole input left old new a b refused.others answered);
      unsaved = λ store. absurd (not_stored r refused.which store);
    }

-- a packet was not answered whole
pub ended_by_packets : {S : Type 0} (g : Ghosts S) (r : Refusal) (input now left old mid new : Option (List ℕ))
    (a b c : NodeValue) (first file last : StoreValue S) (rest after : List ℕ) (ms : List Message) →
    HasReceived input now (HasSent (Appends old mid) a b) rest → HasCome now left rest ms after →
    HasFollowed {T = Unit} g first file b.saved (Ok tt) → IsWritingFault r ⊎ IsStoreRefusal r →
    (IsWritingFault r → ForFirst (HasSent (AppendsPrefix mid new) b c) ms) →
    (IsStoreRefusal r → (between : NodeValue) × ForFirst (HasSentButLast (Appends mid new) b between c) ms
    × LeavesFile g file last (IsEither between.saved c.saved)) →
    (HasCleanDisk (state g last.connection) → HasCleanDisk (state g file.connection)) →
    HasEndedBy g r input left old new a c first last
ended_by_packets g r input now left old mid new a b c first file last rest after ms h come followed fault some at
    clean =
    record {
      fault = answer_fault_of r fault;
      frame_fault = λ e. absurd (frame_only r e fault);
      read_fault = λ e. absurd (read_only r e fault);
      cut_short = λ send. (
        _,
        received_first input now left _ _ _ rest after ms
            (λ ps qs done. sent_more _ _ (AppendsPrefix old new) (prefix_after old mid new) a b ps done c qs)
            h come (some send),
      );
      unsaved = λ store.
          let stopped = at store in (
            stopped.0,
            _,
            received_first input now left _ _ _ rest after ms
                (λ ps qs done.
                but_last_more _ _ (Appends old new) (Appends-trans old mid new) a b ps done stopped.0 c qs)
                h come stopped.1,
            left_more g first file last b.saved c.saved tt followed (IsEither stopped.0.saved c.saved) clean stopped.2,
          );
    }
