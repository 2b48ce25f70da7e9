-- What came of a packet that was not answered whole.
use Rattle.std.proofs.Common.{◌≡◌, ◌⊎◌, inl, inr, ℕ, List, [], ◌∷◌, Option, refl, sym, subst}
use Rattle.std.proofs.KnownBytes.{Keeps-refl, Appends-nil}
use Rattle.std.specs.Io.KnownBytes.{Appends}
use Rattle.desk_types.specs.declared.packet.Message.{Message}
use Rattle.desk_types.specs.declared.refusal.Refusal.{Refusal}
use Rattle.desk_types.specs.declared.refusal.Refusal.TheVariants as refusals
use Rattle.sqlite_trees.specs.declared.store.Store.{Ghosts}
use Rattle.desk_frames.specs.Received.{ForFirst}
use Rattle.desk_frames.proofs.Receiving.{received_nothing}
use Rattle.desk_saved.specs.Store.{StoreValue}
use Rattle.desk_node.specs.NodeValue.{NodeValue}
use Rattle.desk_output.specs.Prefixes.{AppendsPrefix}
use Rattle.desk_types.specs.Refusal.{IsStoreRefusal, IsWritingFault}
use Rattle.desk_answer.specs.AnswerStream.{HasStepped, HasSent, HasSentButLast, HasEndedBy}
use Rattle.desk_answer.proofs.SentInOrder.{sent_nothing}
use Rattle.desk_output.proofs.Prefixes.{no_prefix}

-- a refusal to send is no fault of the store
pub send_no_store : (r : Refusal) → IsWritingFault r → IsStoreRefusal r → ⊥
send_no_store r (inl a) (inl b) = cc
send_no_store r (inl a) (inr b) = cc
send_no_store r (inr a) (inl b) = cc
send_no_store r (inr a) (inr b) = cc

-- memory was refused to the step
pub some_refused : (a b : NodeValue) (packets : List Message) (old : Option (List ℕ)) (r : Refusal) →
    (r ≡ refusals.WantOfMemory) ⊎ IsStoreRefusal r → (r ≡ refusals.WantOfMemory → b ≡ a) → IsWritingFault r →
    ForFirst (HasSent (AppendsPrefix old old) a b) packets
some_refused a b packets old r (inl want) same fault =
    subst (λ (c : NodeValue). ForFirst (HasSent (AppendsPrefix old old) a c) packets) (sym (same want))
    (record {
      first = [];
      others = packets;
      packets_are = refl;
      done = sent_nothing (AppendsPrefix old old) a (no_prefix old old [] (Keeps-refl old));
    })
some_refused a b packets old r (inr store) same fault = absurd (send_no_store r fault store)

-- the step was not saved
pub stopped_once : (a b : NodeValue) (p : Message) (more : List Message) (old : Option (List ℕ)) →
    HasStepped a (p ∷ []) b more → ForFirst (HasSentButLast (Appends old old) a a b) (p ∷ [])
stopped_once a b p more old h = record {
  first = p ∷ [];
  others = [];
  packets_are = refl;
  done = record {
    first = [];
    last = p;
    packets_are = refl;
    sent = sent_nothing (Appends old old) a (Appends-nil old);
    more = more;
    stepped = h;
  };
}

no_frame_of_memory : (r : Refusal) → r ≡ refusals.WantOfMemory → r ≡ refusals.FrameFault → ⊥
no_frame_of_memory r want e = cc

no_read_of_memory : (r : Refusal) → r ≡ refusals.WantOfMemory → r ≡ refusals.ReadFault → ⊥
no_read_of_memory r want e = cc

-- memory was refused before anything was read
pub ended_before : {S : Type 0} (g : Ghosts S) (input old : Option (List ℕ)) (node : NodeValue) (file : StoreValue S) →
    HasEndedBy g refusals.WantOfMemory input input old old node node file file
ended_before g input old node file = record {
  fault = inr (inr (inl (inl refl)));
  frame_fault = λ e. absurd (no_frame_of_memory refusals.WantOfMemory refl e);
  read_fault = λ e. absurd (no_read_of_memory refusals.WantOfMemory refl e);
  cut_short = λ _. ([], received_nothing _ _ (sent_nothing _ _ (no_prefix _ _ [] (Keeps-refl _))));
  unsaved = λ store. absurd (send_no_store refusals.WantOfMemory (inl refl) store);
}
