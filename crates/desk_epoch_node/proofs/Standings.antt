-- What a node does under its number.
use Rattle.std.proofs.Common.{◌≡◌, ℕ, Bool, true, false, cond, List, [], ◌∷◌, ◌++◌, refl, sym, ap, ◌∙◌, take, ◌+◌}
use Rattle.std.proofs.Common.{eqb, ltb, Option, Some, None}
use Rattle.std.proofs.lemmas.Bool.{false≢true}
use Rattle.desk_types.specs.declared.command.Entry.{Entry}
use Rattle.desk_types.specs.declared.epoch_packet.Purpose.{Purpose}
use Rattle.desk_types.specs.declared.epoch_packet.Purpose.TheVariants as purposes
use Rattle.desk_types.specs.declared.packet.Message.{Message}
use Rattle.desk_types.specs.declared.packet.Message.TheVariants.{Prepare, PrepareOk, Commit, StartViewChange}
use Rattle.desk_types.specs.declared.packet.Message.TheVariants.{DoViewChange, StartView, GetState, NewState}
use Rattle.desk_types.specs.Packet.{sender}
use Rattle.desk_epoch_node.specs.declared.deed.Deed.TheVariants.{Ignore, Ask}
use Rattle.desk_epoch_node.specs.declared.event.EpochEvent.{EpochEvent}
use Rattle.desk_epoch_node.specs.declared.event.EpochEvent.TheVariants as comes
use Rattle.desk_epoch_node.specs.declared.replacement.Replacement.{Replacement}
use Rattle.desk_epoch_node.specs.declared.standing.Standing.{Standing}
use Rattle.desk_epoch_node.specs.declared.standing.Standing.TheVariants.{Acts, Awaits, Replaced}
use Rattle.desk_epoch_node.specs.Deeds.{asks_other, asks_later, awaiting_packet, awaiting_deed, deed_under, is_other}
use Rattle.desk_epoch_node.specs.Deeds.{replaced_deed, taking}
use Rattle.desk_epoch_node.specs.EpochValue.{EpochValue, is_acting, standing_of}
use Rattle.desk_epoch_node.specs.Laws.{IsQuiet, OthersAreQuiet}
use Rattle.desk_epoch_node.specs.Replacements.{named_by, replacements, token_after, token_with, with_replacement}

-- one replacement more

pub token_push : (number token : ℕ) (rs : List Replacement) (r : Replacement) →
    token_after number token (rs ++ r ∷ []) ≡ token_with number (token_after number token rs) r
token_push number token [] r = refl
token_push number token (x ∷ xs) r = token_push number (token_with number token x) xs r

pub replacements_append : (xs ys : List Entry) → replacements (xs ++ ys) ≡ replacements xs ++ replacements ys
replacements_append [] ys = refl
replacements_append (x ∷ xs) ys =
    ap (with_replacement (named_by x)) (replacements_append xs ys)
    ∙ with_append (named_by x) (replacements xs) (replacements ys)
  where
    with_append : (o : Option Replacement) (rs ss : List Replacement) →
        with_replacement o (rs ++ ss) ≡ with_replacement o rs ++ ss
    with_append None rs ss = refl
    with_append (Some r) rs ss = refl

-- Who does not act says nothing of its epoch.

ask_quiet : (from : ℕ) (other : Bool) → IsQuiet (cond other (Ask from) Ignore)
ask_quiet from true = tt
ask_quiet from false = tt

later_quiet : (e : EpochValue) (epoch : ℕ) (packet : Message) → IsQuiet (asks_later e epoch packet)
later_quiet e epoch packet = by_epoch (ltb e.epoch epoch)
  where
    by_epoch : (later : Bool) → IsQuiet (cond later (asks_other e (sender packet)) Ignore)
    by_epoch true = ask_quiet (sender packet) (is_other e (sender packet))
    by_epoch false = tt

taking_quiet : (packet : Message) → IsQuiet (taking packet)
taking_quiet (NewState from view base commit entries) = tt
taking_quiet (GetState from view base) = tt
taking_quiet (Prepare from view place commit entry) = tt
taking_quiet (PrepareOk from view place) = tt
taking_quiet (Commit from view commit) = tt
taking_quiet (StartViewChange from view) = tt
taking_quiet (DoViewChange from view normal commit log) = tt
taking_quiet (StartView from view commit log) = tt

packet_quiet : (e : EpochValue) (purpose : Purpose) (epoch : ℕ) (packet : Message) →
    IsQuiet (awaiting_packet e purpose epoch packet)
packet_quiet e purposes.Step epoch packet = later_quiet e epoch packet
packet_quiet e purposes.Ask epoch packet = later_quiet e epoch packet
packet_quiet e purposes.Tell epoch packet = by_epoch (eqb epoch e.epoch)
  where
    by_epoch : (same : Bool) → IsQuiet (cond same (taking packet) Ignore)
    by_epoch true = taking_quiet packet
    by_epoch false = tt

awaiting_quiet : (e : EpochValue) (event : EpochEvent) → IsQuiet (awaiting_deed e event)
awaiting_quiet e (comes.Request entry) = tt
awaiting_quiet e (comes.Packet p) = packet_quiet e p.purpose p.epoch p.packet
awaiting_quiet e comes.Resend = tt
awaiting_quiet e comes.Suspect = tt
awaiting_quiet e comes.Restart = tt

replaced_quiet : (event : EpochEvent) → IsQuiet (replaced_deed event)
replaced_quiet (comes.Request entry) = tt
replaced_quiet (comes.Packet p) = tt
replaced_quiet comes.Resend = tt
replaced_quiet comes.Suspect = tt
replaced_quiet comes.Restart = tt

quiet_under : (s : Standing) (past : List Entry) (e : EpochValue) (event : EpochEvent) → is_acting s ≡ false →
    IsQuiet (deed_under s past e event)
quiet_under Acts past e event h = absurd (false≢true (sym h))
quiet_under Awaits past e event h = awaiting_quiet e event
quiet_under Replaced past e event h = replaced_quiet event

pub others_are_quiet : OthersAreQuiet
others_are_quiet past e event h = quiet_under (standing_of e) past e event h

-- the token after one replacement more of a list
pub token_next : (number token i : ℕ) (rs : List Replacement) (r : Replacement) →
    token ≡ token_after number 0 (take i rs) → take (i + 1) rs ≡ take i rs ++ r ∷ [] →
    token_with number token r ≡ token_after number 0 (take (i + 1) rs)
token_next number token i rs r is more =
    ap (λ (t : ℕ). token_with number t r) is
    ∙ (sym (token_push number 0 (take i rs) r)
    ∙ ap (λ (xs : List Replacement). token_after number 0 xs) (sym more))
