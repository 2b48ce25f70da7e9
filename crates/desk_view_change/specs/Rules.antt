-- What node i of n does while its view changes.
use Rattle.std.specs.Prelude.{ℕ, ◌+◌, Bool, false, not, ◌&&◌, ◌||◌, ◌==◌, nat_lt, nat_le, if◌then◌else◌, List, [], ◌∷◌}
use Rattle.std.specs.Prelude.{slice_index_or}
use Rattle.desk_types.specs.declared.command.Entry.{Entry}
use Rattle.desk_types.specs.declared.limits.TheConstants.{LAST_VIEW}
use Rattle.desk_types.specs.declared.packet.Message.{Message}
use Rattle.desk_types.specs.declared.packet.Message.TheVariants.{StartViewChange, DoViewChange}
use Rattle.desk_log.specs.Change.{Change, nothing, one_packet, change_after, is_normal, to_others, keeps_committed}
use Rattle.desk_log.specs.Change.{adoption}
use Rattle.desk_log.specs.Quorum.{primary, is_from_primary, faults, tally}
use Rattle.desk_log.specs.SavedValue.{SavedValue, in_view}
use Rattle.desk_view_change.specs.declared.offer.Offer.{Offer}
use Rattle.desk_view_change.specs.Choice.{choice}
use Rattle.desk_view_change.specs.Heard.{ViewChangeHeard, with_asker, with_offer}

-- a view that the node has left, or in which it is normal
abbrev pub is_over : SavedValue → ℕ → Bool
is_over saved view = nat_lt view saved.view || ((view == saved.view) && is_normal saved)

-- The others are asked for a view that the node was not in.
abbrev pub view_requests : ℕ → ℕ → ℕ → ℕ → List (ℕ × Message)
view_requests i n old view = if nat_lt old view then to_others i n (StartViewChange i view) else []

-- what the node has to offer for its view
abbrev pub own_offer : SavedValue → Offer
own_offer s = record { normal = s.normal; commit = s.commit; log = s.log }

-- the packet with the node's own offer
abbrev pub offer_packet : ℕ → SavedValue → Message
offer_packet i s = DoViewChange i s.view s.normal s.commit s.log

-- The node offers its log to the primary of its view; where it is that primary itself, the choice follows.
unfoldable pub offering : ℕ → ℕ → SavedValue → ViewChangeHeard → Change
offering i n saved heard =
    if primary n saved.view == i
    then change_after (offer_packet i saved ∷ []) ((i, offer_packet i saved) ∷ [])
    (choice i n saved (with_offer i (own_offer saved) heard).offers)
    else one_packet saved (primary n saved.view) (offer_packet i saved)

-- how many nodes other than node i asked for the view
abbrev pub asker_count : ℕ → ℕ → List Bool → ℕ
asker_count i n askers = tally n (λ j. not (j == i) && slice_index_or askers j false)

-- whether as many others asked as may fail, and fewer did before
abbrev pub is_quorum_new : ℕ → ℕ → List Bool → List Bool → Bool
is_quorum_new i n before askers = nat_lt (asker_count i n before) (faults n)
    && nat_le (faults n) (asker_count i n askers)

-- A node asked for the view that this node is in now: in it already, or from an old one.
unfoldable pub view_support : ℕ → ℕ → ℕ → SavedValue → ViewChangeHeard → ℕ → Change
view_support i n old saved heard from =
    change_after (StartViewChange from saved.view ∷ []) (view_requests i n old saved.view)
    (if is_quorum_new i n heard.askers (with_asker from heard).askers then offering i n saved (with_asker from heard)
    else nothing saved)

unfoldable pub on_start_view_change : ℕ → ℕ → SavedValue → ViewChangeHeard → ℕ → ℕ → Change
on_start_view_change i n saved heard from view =
    if is_over saved view || from == i then nothing saved
    else view_support i n saved.view (in_view view saved) heard from

unfoldable pub on_do_view_change : ℕ → ℕ → SavedValue → ViewChangeHeard → ℕ → ℕ → ℕ → ℕ → List Entry → Change
on_do_view_change i n saved heard from view normal commit log =
    if is_over saved view || not (i == primary n view) then nothing saved
    else change_after (DoViewChange from view normal commit log ∷ []) (view_requests i n saved.view view)
    (choice i n (in_view view saved)
    (with_offer from (record { normal = normal; commit = commit; log = log }) heard).offers)

unfoldable pub on_start_view : ℕ → ℕ → SavedValue → ℕ → ℕ → ℕ → List Entry → Change
on_start_view i n saved from view commit log =
    if is_over saved view || not (is_from_primary i n from view) then nothing saved
    else if keeps_committed saved log then adoption i n saved view commit log
    else nothing saved

-- The node goes to the next view, unless its view is the last one.
unfoldable pub on_suspect : ℕ → ℕ → SavedValue → Change
on_suspect i n saved =
    if nat_lt saved.view LAST_VIEW
    then change_after [] (view_requests i n saved.view (saved.view + 1)) (nothing (in_view (saved.view + 1) saved))
    else nothing saved

-- What a node sends again while its view changes: that it asks for the view, and its offer where others asked as well.
unfoldable pub view_change_resend : ℕ → ℕ → SavedValue → List Bool → Change
view_change_resend i n saved askers =
    change_after [] (to_others i n (StartViewChange i saved.view))
    (if nat_le (faults n) (asker_count i n askers) && not (primary n saved.view == i)
    then one_packet saved (primary n saved.view) (offer_packet i saved) else nothing saved)
