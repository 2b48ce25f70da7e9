use Rattle.std.proofs.Common.{◌∙◌, ◌++◌, ◌∷◌, ℕ, [], Option, Some, cond, not, nat_eq, set}
use Rattle.std.proofs.Common.{sym, ap}
use Rattle.std.specs.List.{list_any}
use Rattle.desk_incidents.specs.declared.incident.Linked.{Linked}
use Rattle.desk_incidents.specs.LinkTable.{ends_with}
use Rattle.desk_index.proofs.SlotChanges.{standing-within}
use Rattle.desk_incidents.proofs.MergedPlaces.{slot-stays, slot-goes}
use Rattle.desk_incidents.proofs.link_table.merge_slot.Goals as goal

pub returns-then-note_end-clause-slots : goal.returns-then-note_end-clause-slots
returns-then-note_end-clause-slots c =
    ap (λ (o : Option Linked). set c.args.slots.now.items c.args.slot o)
    (ap Some c.moved.ensures
    ∙ sym (slot-stays c.args.from c.args.to c.args.ends.now.keys c.args.link _ c.note_end.result c.requires.there
    (c.note_end.ensures.new
    ∙ ap (λ e. not (list_any (nat_eq e) c.args.ends.now.keys)) c.far_end.ensures) c.if-note_end.true))

pub returns-then-note_end-clause-ends : goal.returns-then-note_end-clause-ends
returns-then-note_end-clause-ends c =
    c.note_end.ensures.ends
    ∙ ap (λ (e : ℕ). cond (list_any (nat_eq e) c.args.ends.now.keys) c.args.ends.now.keys
    (c.args.ends.now.keys ++ e ∷ [])) c.far_end.ensures
    ∙ sym (ap (ends_with c.args.from c.args.to c.args.ends.now.keys) c.requires.there)

pub clear_slot-requires : goal.clear_slot-requires
clear_slot-requires c = standing-within c.args.slot c.args.link c.args.slots.now.items c.requires.there

pub returns-else-note_end-clause-slots : goal.returns-else-note_end-clause-slots
returns-else-note_end-clause-slots c =
    c.clear_slot.ensures.items
    ∙ ap (λ (o : Option Linked). set c.args.slots.now.items c.args.slot o)
    (sym (slot-goes c.args.from c.args.to c.args.ends.now.keys c.args.link _ c.note_end.result c.requires.there
    (c.note_end.ensures.new
    ∙ ap (λ e. not (list_any (nat_eq e) c.args.ends.now.keys)) c.far_end.ensures) c.if-note_end.false))

pub returns-else-note_end-clause-ends : goal.returns-else-note_end-clause-ends
returns-else-note_end-clause-ends c =
    c.note_end.ensures.ends
    ∙ ap (λ (e : ℕ). cond (list_any (nat_eq e) c.args.ends.now.keys) c.args.ends.now.keys
    (c.args.ends.now.keys ++ e ∷ [])) c.far_end.ensures
    ∙ sym (ap (ends_with c.args.from c.args.to c.args.ends.now.keys) c.requires.there)
