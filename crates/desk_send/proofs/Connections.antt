-- What a connection does at a line.
use Rattle.std.proofs.Common.{◌≡◌, ℕ, Bool, true, List, [], Option, inl, inr, refl}
use Rattle.std.specs.Prelude.{Result, Ok, Err, OnErr}
use Rattle.std.proofs.KnownBytes.{Consumes-nil}
use Rattle.desk_types.specs.declared.refusal.Refusal.TheVariants as refusals
use Rattle.desk_output.specs.Prefixes.{AppendsPrefix}
use Rattle.desk_send.specs.declared.fault.NodeFault.{NodeFault}
use Rattle.desk_send.specs.declared.fault.NodeFault.TheVariants as faults
use Rattle.desk_send.specs.Replies.{ReadsNone}
use Rattle.desk_send.specs.Exchanges.{Traffic, request, FailsExchange, GivesUp}
use Rattle.desk_send.proofs.ReplyLines.{no_reply_part}

-- nothing is no reply line
pub read_nothing : (fault : NodeFault) (left : Option (List ℕ)) → ReadsNone fault left left
read_nothing fault left = ([], Consumes-nil left, λ _. no_reply_part [] tt)

-- what holds anyway holds of an error
pub on_err : {T E O : Type 0} (r : Result T E) → O → OnErr r O
on_err (Ok x) o = tt
on_err (Err e) o = o

abbrev traffic : Option (List ℕ) → Option (List ℕ) → Bool → Traffic
traffic sent left broken = record { sent = sent; left = left; is_broken = broken }

-- a prefix of the request went out, and no reply line came
pub fails_later : (old : Traffic) (s t l m : Option (List ℕ)) (broken : Bool) (line : List ℕ) (fault : NodeFault) →
    traffic s l broken ≡ old → AppendsPrefix s t (request line) → ReadsNone fault l m →
    FailsExchange old line fault (traffic t m broken)
fails_later old s t l m broken line fault here a h = rw (← here) (record { asked = a; reported = h; same = refl })

-- want of memory breaks nothing
pub lacks_memory : (old new : Traffic) (line : List ℕ) (fault : NodeFault) → fault ≡ faults.WantOfMemory →
    FailsExchange old line fault new → GivesUp old line refusals.WantOfMemory new
lacks_memory old new line fault is h = record {
  asked = h.asked;
  reported = (h.reported.0, h.reported.1, λ e. absurd (cc));
  cause = inr (refl, h.same);
}

-- the node's fault is noted
pub breaks : (old new : Traffic) (s l : Option (List ℕ)) (broken : Bool) (line : List ℕ) (fault : NodeFault) →
    traffic s l broken ≡ new → fault ≡ faults.Broken → FailsExchange old line fault new →
    GivesUp old line refusals.ReadFault (traffic s l true)
breaks old new s l broken line fault here is h =
    let k = rw (← here) at h in record {
      asked = k.asked;
      reported = (k.reported.0, k.reported.1, λ _. k.reported.2 is);
      cause = inl (refl, refl);
    }
