use Rattle.std.proofs.Common.{rules, [], ◌∷◌, ap, ◌∙◌, refl}
use Rattle.sqlite.specs.Held.{state}
use Rattle.desk_saved.specs.declared.changes.RowChange.TheVariants as changes
use Rattle.desk_saved.specs.declared.steps.RowStep.TheVariants as steps
use Rattle.desk_saved.specs.DeskTables.{own_rows}
use Rattle.desk_saved.proofs.Refusing.{one_cause}
use Rattle.desk_saved.proofs.Opening.{begun_by, not_begun_by, not_tried, shown_undone}
use Rattle.desk_saved.proofs.saved_state.open_new.Goals as goal

pub returns-in-Ok-true-clause-opened : goal.returns-in-Ok-true-clause-opened
returns-in-Ok-true-clause-opened g c neither room =
    let owner = c.args.owner in
    begun_by g.S.Store c.args.connection owner c.deref_mut.result.now c.in_transaction-made.new.conn
    (c.deref_mut.ensures.value ∙ c.in-Ok.ensures.ok) neither room c.in_transaction-made.ensures.keeps.1
    c.requires.live (steps.One (changes.PutFirst owner.id owner.n c.as_text.result) ∷ []) _ _ (refl, tt)
    (ap (λ domain. own_rows owner.id owner.n domain 0 0 0 [] []) c.as_text.ensures.value) _
    c.in-Ok-true.field-0-test c.in-Ok-true.ensures.done c.initial.result c.initial.ensures

pub returns-in_default-clause-refused : goal.returns-in_default-clause-refused
returns-in_default-clause-refused g c neither room =
    let owner = c.args.owner in
    let made = c.in_transaction-made.ensures in
    rw c.into_inner.ensures (not_begun_by g.S.Store c.args.connection owner c.deref_mut.result.now
    c.in_transaction-made.new.conn (c.deref_mut.ensures.value ∙ c.in-Ok.ensures.ok) neither room made.keeps.1
    c.requires.live (steps.One (changes.PutFirst owner.id owner.n c.as_text.result) ∷ []) _ _ (refl, tt)
    (ap (λ domain. own_rows owner.id owner.n domain 0 0 0 [] []) c.as_text.ensures.value)
    c.in_transaction-made.result made.done
    (λ clean. shown_undone _ _ _ c.in_transaction-made.result (search rules) (made.undone clean) made.busy
    (ap (state g.S.Store)))
    (λ clean. one_cause c.in_transaction-made.result (search rules) (made.ended clean) made.open_before))

pub returns-in-Err-clause-refused : goal.returns-in-Err-clause-refused
returns-in-Err-clause-refused g c neither room =
    rw c.in-Err.ensures.value_returned (not_tried g.S.Store c.args.connection c.args.owner neither room)
