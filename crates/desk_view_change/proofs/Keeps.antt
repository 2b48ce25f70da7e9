-- The rules of a change of views undo nothing.
use Rattle.std.proofs.Common.{◌≡◌, ◌≤◌, ℕ, ◌+◌, Bool, false, not, ◌&&◌, ◌||◌, List, [], ◌∷◌, eqb, leb, ltb, refl}
use Rattle.std.proofs.Common.{Option, Some, None, arith}
use Rattle.std.proofs.lemmas.Bool.{or_parts, ltb-false}
use Rattle.desk_types.specs.declared.command.Entry.{Entry}
use Rattle.desk_types.specs.declared.limits.TheConstants.{LAST_VIEW}
use Rattle.desk_types.specs.declared.packet.Message.TheVariants.{StartViewChange, DoViewChange}
use Rattle.desk_log.specs.Change.{is_normal, keeps_committed, to_others}
use Rattle.desk_log.specs.Quorum.{primary, is_from_primary, faults}
use Rattle.desk_log.specs.SavedValue.{SavedValue, in_view}
use Rattle.desk_view_change.specs.declared.offer.Offer.{Offer}
use Rattle.desk_view_change.specs.Choice.{best_offer, greatest_commit, may_choose, new_view, new_view_with, choice}
use Rattle.desk_view_change.specs.Heard.{ViewChangeHeard, with_asker, with_offer}
use Rattle.desk_view_change.specs.Laws.{StartViewChangeKeeps, DoViewChangeKeeps, StartViewKeeps, SuspectKeeps}
use Rattle.desk_view_change.specs.Laws.{ViewChangeResendKeeps}
use Rattle.desk_view_change.specs.Rules.{is_over, view_requests, own_offer, offer_packet, offering, asker_count}
use Rattle.desk_view_change.specs.Rules.{is_quorum_new, view_support, on_start_view_change, on_do_view_change}
use Rattle.desk_view_change.specs.Rules.{on_start_view, on_suspect, view_change_resend}
use Rattle.desk_log.proofs.NeverFalls.{falls_view, falls_log, UndoesNothing, keeps_if, keeps_same, keeps_nothing}
use Rattle.desk_log.proofs.NeverFalls.{keeps_after, keeps_from, keeps_adoption}

keeps_new_view : (i n : ℕ) (s : SavedValue) (k : ℕ) (o : Option Offer) → s.normal ≤ s.view →
    UndoesNothing s (new_view_with i n s k o)
unfolding new_view_with new_view
keeps_new_view i n s k None order = keeps_nothing s
keeps_new_view i n s k (Some o) order =
    keeps_if (keeps_committed s o.log)
    (λ fit. record { preserved = falls_log s.view o.log k s order (omega arith) fit })
    (λ _. keeps_nothing s)

keeps_choice : (i n : ℕ) (s : SavedValue) (offers : List (Option Offer)) → s.normal ≤ s.view →
    UndoesNothing s (choice i n s offers)
unfolding choice
keeps_choice i n s offers order =
    keeps_if (may_choose i n offers)
    (λ _. keeps_new_view i n s (greatest_commit offers n) (best_offer offers n) order)
    (λ _. keeps_nothing s)

keeps_offering : (i n : ℕ) (s : SavedValue) (h : ViewChangeHeard) → s.normal ≤ s.view →
    UndoesNothing s (offering i n s h)
unfolding offering
keeps_offering i n s h order =
    keeps_if (eqb (primary n s.view) i)
    (λ _. keeps_after s (offer_packet i s ∷ []) ((i, offer_packet i s) ∷ []) _
    (keeps_choice i n s (with_offer i (own_offer s) h).offers order))
    (λ _. keeps_same s _ refl)

keeps_support : (i n old : ℕ) (s : SavedValue) (h : ViewChangeHeard) (from : ℕ) → s.normal ≤ s.view →
    UndoesNothing s (view_support i n old s h from)
unfolding view_support
keeps_support i n old s h from order = keeps_after s (StartViewChange from s.view ∷ []) (view_requests i n old s.view) _
    (keeps_if (is_quorum_new i n h.askers (with_asker from h).askers)
    (λ _. keeps_offering i n s (with_asker from h) order)
    (λ _. keeps_nothing s))

not_over : (s : SavedValue) (w : ℕ) (b : Bool) → (is_over s w || b) ≡ false → s.view ≤ w
not_over s w b t =
    ltb-false w s.view (or_parts (ltb w s.view) (eqb w s.view && is_normal s) (or_parts (is_over s w) b t).0).0

keeps_start_view_change : (i n : ℕ) (s : SavedValue) (h : ViewChangeHeard) (from w : ℕ) → s.normal ≤ s.view →
    UndoesNothing s (on_start_view_change i n s h from w)
unfolding on_start_view_change
keeps_start_view_change i n s h from w order =
    keeps_if (is_over s w || eqb from i) (λ _. keeps_nothing s) (λ t.
    let fresh : s.view ≤ w = not_over s w (eqb from i) t in
    keeps_from w s _ fresh (keeps_support i n s.view (in_view w s) h from (omega (arith, order, fresh))))

pub start_view_change_keeps : StartViewChangeKeeps
start_view_change_keeps i n s h from w order = (keeps_start_view_change i n s h from w order).preserved

keeps_do_view_change : (i n : ℕ) (s : SavedValue) (h : ViewChangeHeard) (from w u c : ℕ) (l : List Entry) →
    s.normal ≤ s.view → UndoesNothing s (on_do_view_change i n s h from w u c l)
unfolding on_do_view_change
keeps_do_view_change i n s h from w u c l order =
    keeps_if (is_over s w || not (eqb i (primary n w))) (λ _. keeps_nothing s) (λ t.
    let fresh : s.view ≤ w = not_over s w (not (eqb i (primary n w))) t in
    let offers : List (Option Offer) = (with_offer from (record { normal = u; commit = c; log = l }) h).offers in
    keeps_from w s _ fresh (keeps_after (in_view w s) (DoViewChange from w u c l ∷ []) (view_requests i n s.view w) _
    (keeps_choice i n (in_view w s) offers (omega (arith, order, fresh)))))

pub do_view_change_keeps : DoViewChangeKeeps
do_view_change_keeps i n s h from w u c l order = (keeps_do_view_change i n s h from w u c l order).preserved

keeps_start_view : (i n : ℕ) (s : SavedValue) (from w c : ℕ) (l : List Entry) → s.normal ≤ s.view →
    UndoesNothing s (on_start_view i n s from w c l)
unfolding on_start_view
keeps_start_view i n s from w c l order =
    keeps_if (is_over s w || not (is_from_primary i n from w)) (λ _. keeps_nothing s) (λ t.
    let fresh : s.view ≤ w = not_over s w (not (is_from_primary i n from w)) t in
    keeps_if (keeps_committed s l) (λ fit. keeps_adoption i n s w c l order fresh fit) (λ _. keeps_nothing s))

pub start_view_keeps : StartViewKeeps
start_view_keeps i n s from w c l order = (keeps_start_view i n s from w c l order).preserved

keeps_suspect : (i n : ℕ) (s : SavedValue) → UndoesNothing s (on_suspect i n s)
unfolding on_suspect
keeps_suspect i n s =
    keeps_if (ltb s.view LAST_VIEW) (λ _. record { preserved = falls_view (s.view + 1) s (omega arith) })
    (λ _. keeps_nothing s)

pub suspect_keeps : SuspectKeeps
suspect_keeps i n s = (keeps_suspect i n s).preserved

keeps_resend : (i n : ℕ) (s : SavedValue) (askers : List Bool) → UndoesNothing s (view_change_resend i n s askers)
unfolding view_change_resend
keeps_resend i n s askers = keeps_after s [] (to_others i n (StartViewChange i s.view)) _
    (keeps_if (leb (faults n) (asker_count i n askers) && not (eqb (primary n s.view) i))
    (λ _. keeps_same s _ refl)
    (λ _. keeps_nothing s))

pub resend_keeps : ViewChangeResendKeeps
resend_keeps i n s askers = (keeps_resend i n s askers).preserved
