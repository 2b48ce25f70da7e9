-- What packets say of a view.
use Rattle.std.proofs.Common.{◌≡◌, ℕ, ◌<◌, ◌≤◌, false}
use Rattle.std.proofs.Common.{eqb, List, [], ◌∷◌, ◌++◌, refl, ap, ◌∙◌, arith}
use Rattle.std.proofs.lemmas.Bool.{ne_eqb}
use Rattle.desk_types.specs.declared.packet.Message.{Message}
use Rattle.desk_types.specs.declared.packet.Message.TheVariants.{Prepare, PrepareOk, Commit, StartViewChange}
use Rattle.desk_types.specs.declared.packet.Message.TheVariants.{DoViewChange, StartView, GetState, NewState}
use Rattle.desk_normal.specs.Acknowledgements.{places_with_packet, places_after}
use Rattle.desk_view_change.specs.Heard.{ViewChangeHeard}
use Rattle.desk_view_change.specs.Heard.{view_change_with_packet, view_change_after}
use Rattle.desk_types.specs.Packet.{packet_view}
use Rattle.desk_node.specs.Heard.{Heard, heard_after, NonePast}

-- A packet of another view says nothing.
place_other : (w : ℕ) (p : Message) (h : List ℕ) → packet_view p < w → places_with_packet w p h ≡ h
place_other w (PrepareOk from v place) h l = let off : eqb v w ≡ false = ne_eqb v w (λ q. omega arith) in rw off refl
place_other w (StartViewChange from v) h l = refl
place_other w (DoViewChange from v normal commit log) h l = refl
place_other w (Prepare from v place commit entry) h l = refl
place_other w (Commit from v commit) h l = refl
place_other w (StartView from v commit log) h l = refl
place_other w (GetState from v base) h l = refl
place_other w (NewState from v base commit entries) h l = refl

view_change_other : (w : ℕ) (p : Message) (h : ViewChangeHeard) → packet_view p < w → view_change_with_packet w p h ≡ h
view_change_other w (PrepareOk from v place) h l = refl
view_change_other w (StartViewChange from v) h l = let off : eqb v w ≡ false = ne_eqb v w (λ q. omega arith) in
    rw off refl
view_change_other w (DoViewChange from v normal commit log) h l = let off : eqb v w ≡ false =
    ne_eqb v w (λ q. omega arith) in rw off refl
view_change_other w (Prepare from v place commit entry) h l = refl
view_change_other w (Commit from v commit) h l = refl
view_change_other w (StartView from v commit log) h l = refl
view_change_other w (GetState from v base) h l = refl
view_change_other w (NewState from v base commit entries) h l = refl

places_later : (v w : ℕ) (ps : List Message) (h : List ℕ) → NonePast v ps → v < w → places_after w ps h ≡ h
places_later v w [] h a l = refl
places_later v w (p ∷ ps) h a l = ap (places_after w ps) (place_other w p h (omega (arith, a.0)))
    ∙ places_later v w ps h a.1 l

view_change_later : (v w : ℕ) (ps : List Message) (h : ViewChangeHeard) → NonePast v ps → v < w →
    view_change_after w ps h ≡ h
view_change_later v w [] h a l = refl
view_change_later v w (p ∷ ps) h a l = ap (view_change_after w ps) (view_change_other w p h (omega (arith, a.0)))
    ∙ view_change_later v w ps h a.1 l

-- Packets of views up to one say nothing of a later view.
pub heard_later : (v w : ℕ) (ps : List Message) (h : Heard) → NonePast v ps → v < w → heard_after w ps h ≡ h
heard_later v w ps h a l = rw (places_later v w ps h.places a l, view_change_later v w ps h.view_change a l) refl

places_append : (w : ℕ) (ps qs : List Message) (h : List ℕ) →
    places_after w (ps ++ qs) h ≡ places_after w qs (places_after w ps h)
places_append w [] qs h = refl
places_append w (p ∷ ps) qs h = places_append w ps qs (places_with_packet w p h)

view_change_append : (w : ℕ) (ps qs : List Message) (h : ViewChangeHeard) →
    view_change_after w (ps ++ qs) h ≡ view_change_after w qs (view_change_after w ps h)
view_change_append w [] qs h = refl
view_change_append w (p ∷ ps) qs h = view_change_append w ps qs (view_change_with_packet w p h)

pub heard_append : (w : ℕ) (ps qs : List Message) (h : Heard) →
    heard_after w (ps ++ qs) h ≡ heard_after w qs (heard_after w ps h)
heard_append w ps qs h = rw (places_append w ps qs h.places, view_change_append w ps qs h.view_change) refl

pub past_append : (v : ℕ) (ps qs : List Message) → NonePast v ps → NonePast v qs → NonePast v (ps ++ qs)
past_append v [] qs a b = b
past_append v (p ∷ ps) qs a b = (a.0, past_append v ps qs a.1 b)

pub past_more : (v w : ℕ) (ps : List Message) → v ≤ w → NonePast v ps → NonePast w ps
past_more v w [] l a = tt
past_more v w (p ∷ ps) l a = (omega (arith, a.0), past_more v w ps l a.1)
