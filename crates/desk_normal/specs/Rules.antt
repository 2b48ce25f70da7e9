-- What node i of n does while its view does not change.
use Rattle.std.specs.Prelude.{ℕ, suc, ◌+◌, Bool, not, ◌&&◌, ◌||◌, ◌==◌, nat_lt, nat_le, if◌then◌else◌, List, [], ◌∷◌}
use Rattle.std.specs.Prelude.{◌++◌, length, drop}
use Rattle.desk_types.specs.declared.command.Entry.{Entry}
use Rattle.desk_types.specs.declared.packet.Message.{Message}
use Rattle.desk_types.specs.declared.packet.Message.TheVariants.{Prepare, PrepareOk, Commit, GetState}
use Rattle.desk_types.specs.declared.refusal.Refusal.TheVariants.{NotPrimary, Stale, BookFull}
use Rattle.desk_log.specs.declared.answers.Answers.TheVariants as answers
use Rattle.desk_log.specs.declared.admission.Admission.{Admission}
use Rattle.desk_log.specs.declared.admission.Admission.TheVariants as admissions
use Rattle.desk_log.specs.Admission.{admission}
use Rattle.desk_log.specs.Change.{Change, nothing, one_packet, one_refusal, is_normal, leads, to_others, commit_up_to}
use Rattle.desk_log.specs.Quorum.{primary, is_from_primary}
use Rattle.desk_log.specs.SavedValue.{SavedValue, with_entry}
use Rattle.desk_normal.specs.Acknowledgements.{places_with, acknowledged_place}

-- A new request goes to the log and to the others.
unfoldable pub append_request : ℕ → ℕ → SavedValue → Entry → Change
append_request i n saved entry = record {
  saved = with_entry entry saved;
  taken = [];
  packets = (i, PrepareOk i saved.view (length saved.log + 1)) ∷
      to_others i n (Prepare i saved.view (length saved.log + 1) saved.commit entry);
  answers = answers.Nothing;
}

-- A request whose number stands at a place is answered once the place is committed.
unfoldable pub retry_request : SavedValue → ℕ → Change
retry_request saved place =
    if nat_le place saved.commit
    then record { saved = saved; taken = []; packets = []; answers = answers.Repeat place }
    else nothing saved

-- what the log's admission of a request makes of it
unfoldable pub admitted_request : ℕ → ℕ → SavedValue → Entry → Admission → Change
admitted_request i n saved entry admissions.Append = append_request i n saved entry
admitted_request i n saved entry (admissions.Retry place) = retry_request saved place
admitted_request i n saved entry (admissions.Stale number) = one_refusal saved entry (Stale number)
admitted_request i n saved entry admissions.Full = one_refusal saved entry BookFull

-- The primary deals with a request as its log admits it; another node names the primary of its view.
unfoldable pub on_request : ℕ → ℕ → SavedValue → Entry → Change
on_request i n saved entry =
    if leads i n saved
    then admitted_request i n saved entry (admission saved.log entry.client entry.number)
    else one_refusal saved entry (NotPrimary saved.view (primary n saved.view))

-- a packet of a view that the node has left, or that does not come from the view's primary as another node
abbrev pub is_stray : ℕ → ℕ → SavedValue → ℕ → ℕ → Bool
is_stray i n saved from view = nat_lt view saved.view || not (is_from_primary i n from view)

-- a view that the node has not reached, or in which it is not normal yet
abbrev pub is_ahead : SavedValue → ℕ → Bool
is_ahead saved view = nat_lt saved.view view || not (is_normal saved)

-- The node asks for what it lacks after its committed entries.
abbrev pub state_request : ℕ → SavedValue → ℕ → ℕ → Change
state_request i saved to view = one_packet saved to (GetState i view saved.commit)

unfoldable pub on_prepare : ℕ → ℕ → SavedValue → ℕ → ℕ → ℕ → ℕ → Entry → Change
on_prepare i n saved from view place commit entry =
    if is_stray i n saved from view then nothing saved
    else if is_ahead saved view then state_request i saved from view
    else if place == length saved.log + 1 then one_packet (commit_up_to commit (with_entry entry saved)) from
    (PrepareOk i view place)
    else if nat_le place (length saved.log) then one_packet (commit_up_to commit saved) from
    (PrepareOk i view (length saved.log))
    else state_request i saved from view

-- Where the commit rose, the others hear of it.
abbrev pub commit_packets : ℕ → ℕ → SavedValue → ℕ → List (ℕ × Message)
commit_packets i n saved old = if nat_lt old saved.commit then to_others i n (Commit i saved.view saved.commit) else []

-- The primary commits up to the acknowledged place, and answers the clients of the entries.
unfoldable pub commit_acknowledged : ℕ → ℕ → SavedValue → List ℕ → List Message → Change
commit_acknowledged i n saved places taken =
    let new : SavedValue = commit_up_to (acknowledged_place i n places (length saved.log)) saved in
    record {
      saved = new;
      taken = taken;
      packets = commit_packets i n new saved.commit;
      answers =
          answers.Replies saved.commit new.commit;
    }

unfoldable pub on_prepare_ok : ℕ → ℕ → SavedValue → List ℕ → ℕ → ℕ → ℕ → Change
on_prepare_ok i n saved places from view place =
    if leads i n saved && (view == saved.view) && not (from == i)
    then commit_acknowledged i n saved (places_with from place places) (PrepareOk from view place ∷ [])
    else nothing saved

unfoldable pub on_commit : ℕ → ℕ → SavedValue → ℕ → ℕ → ℕ → Change
on_commit i n saved from view commit =
    if is_stray i n saved from view then nothing saved
    else if is_ahead saved view then state_request i saved from view
    else if nat_lt (length saved.log) commit then state_request i (commit_up_to commit saved) from view
    else nothing (commit_up_to commit saved)

-- a Prepare to the others for each of these entries, of which the first stands at a place
abbrev pub prepare_packets : ℕ → ℕ → SavedValue → ℕ → List Entry → List (ℕ × Message)
prepare_packets i n saved place [] = []
prepare_packets i n saved place (e ∷ es) =
    to_others i n (Prepare i saved.view place saved.commit e) ++ prepare_packets i n saved (suc place) es

-- What a normal node sends again: the primary what it has not committed, and its commit; a backup that it has its log.
unfoldable pub normal_resend : ℕ → ℕ → SavedValue → Change
normal_resend i n saved =
    if leads i n saved
    then record {
      saved = saved;
      taken = [];
      packets = prepare_packets i n saved (suc saved.commit) (drop saved.commit saved.log) ++ to_others i n
          (Commit i saved.view saved.commit);
      answers = answers.Nothing;
    }
    else one_packet saved (primary n saved.view) (PrepareOk i saved.view (length saved.log))
