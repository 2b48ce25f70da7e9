use Rattle.std.proofs.Common.{arith, ◌≡◌, ◌⊎◌, List, [], ◌∷◌, IsPermutation, IsTrue, refl, inr, ap, subst, ◌∙◌}
use Rattle.std.proofs.lemmas.List.Sorted.{IsPermutation-sym}
use Rattle.sqlite.specs.Held.{state}
use Rattle.desk_saved.specs.declared.changes.RowChange.TheVariants as changes
use Rattle.desk_saved.specs.declared.steps.RowStep.{RowStep}
use Rattle.desk_saved.specs.declared.steps.RowStep.TheVariants as steps
use Rattle.desk_naming.specs.AfterRefusal.{ShowsAsBefore}
use Rattle.desk_saved.specs.Causes.{HasNoTransaction}
use Rattle.desk_saved.specs.Clients.{clients_of, settle_all}
use Rattle.desk_saved.specs.File.{client_rows}
use Rattle.desk_saved.proofs.Refusing.{one_cause}
use Rattle.desk_saved.proofs.GrownFiles.{may_grow, saves_grown, not_at_all}
use Rattle.desk_saved.proofs.Opening.{shown_undone}
use Rattle.desk_saved.proofs.SaveSteps.{own_is}
use Rattle.desk_saved.proofs.Settling.{clients_from_none}
use Rattle.desk_saved.proofs.saved_state.grow_found.Goals as goal

pub returns-in-Err-clause-refused : goal.returns-in-Err-clause-refused
returns-in-Err-clause-refused g c = not_at_all g.S.Store c.args.connection c.args.owner c.args.last

pub returns-in-Err-new-clause-refused : goal.returns-in-Err-new-clause-refused
returns-in-Err-new-clause-refused g c =
    rw c.in-Err-new.ensures.value_returned (not_at_all g.S.Store c.args.connection c.args.owner c.args.last)

pub returns-in-Ok-true-clause-grown : goal.returns-in-Ok-true-clause-grown
returns-in-Ok-true-clause-grown g c =
    let before = c.args.connection in
    let after = c.in_transaction-grown.new.conn in
    let owner = c.args.owner in
    let last = c.args.last in
    let given = c.deref_mut.result.now in
    let same : given ≡ before = c.deref_mut.ensures.value ∙ c.in-Ok-new.ensures.ok in
    let clients : c.as_slice.result.now ≡ clients_of last.log =
    c.as_slice.ensures.value ∙ c.in-Ok.ensures ∙ ap clients_of c.log.ensures in
    let perm : IsPermutation (client_rows last.log) (settle_all c.log-2.result.now c.as_slice.result.now []) =
    rw (c.log-2.ensures, clients) (IsPermutation-sym _ _ (clients_from_none last.log)) in
    let all : List RowStep = steps.Settle c.log-2.result c.as_slice.result ∷ steps.One changes.SetVersion ∷ [] in
    let own = own_is 1 owner.id owner.n owner.domain last.view last.normal last.commit in
    let grown = c.in_transaction-grown.ensures in
    record {
      own = (refl, refl, refl);
      may = may_grow g.S.Store before after owner last _ perm given same all _ (tt, (own, tt)) refl
          (tt, (tt, (tt, tt))) c.in_transaction-grown.result grown.done grown.keeps.1 grown.keeps.0;
      rows = saves_grown g.S.Store before after owner last _ perm given same all _ (tt, (own, tt)) refl
          (tt, (tt, (tt, tt))) _ c.in-Ok-true.field-0-test c.in-Ok-true.ensures.done;
    }

pub returns-in_default-clause-refused : goal.returns-in_default-clause-refused
returns-in_default-clause-refused g c =
    let before = c.args.connection in
    let after = c.in_transaction-grown.new.conn in
    let owner = c.args.owner in
    let last = c.args.last in
    let given = c.deref_mut.result.now in
    let same : given ≡ before = c.deref_mut.ensures.value ∙ c.in-Ok-new.ensures.ok in
    let clients : c.as_slice.result.now ≡ clients_of last.log =
    c.as_slice.ensures.value ∙ c.in-Ok.ensures ∙ ap clients_of c.log.ensures in
    let perm : IsPermutation (client_rows last.log) (settle_all c.log-2.result.now c.as_slice.result.now []) =
    rw (c.log-2.ensures, clients) (IsPermutation-sym _ _ (clients_from_none last.log)) in
    let all : List RowStep = steps.Settle c.log-2.result c.as_slice.result ∷ steps.One changes.SetVersion ∷ [] in
    let own = own_is 1 owner.id owner.n owner.domain last.view last.normal last.commit in
    let grown = c.in_transaction-grown.ensures in
    rw c.into_inner.ensures (record {
      fault = inr refl;
      cause = λ _ late.
          subst (λ h. IsTrue (state g.S.Store h).in_transaction ⊎ HasNoTransaction (state g.S.Store after)) same
          (one_cause c.in_transaction-grown.result (λ is. grind arith) (grown.ended late) grown.open_before);
      may = may_grow g.S.Store before after owner last _ perm given same all _ (tt, (own, tt)) refl
          (tt, (tt, (tt, tt))) c.in_transaction-grown.result grown.done grown.keeps.1 grown.keeps.0;
      shows = λ late. subst (λ h. ShowsAsBefore (state g.S.Store h) (state g.S.Store after)) same
          (shown_undone _ _ _ c.in_transaction-grown.result (λ is. grind arith) (grown.undone late) grown.busy
          (ap (state g.S.Store)));
    })
