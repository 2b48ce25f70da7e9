use Rattle.std.proofs.Common.{arith, ◌≡◌, ◌≤◌, ◌∙◌, drop, length, subst, ap}
use denote.Param.{param}
use Rattle.desk_types.specs.declared.limits.TheConstants.{LAST_VIEW}
use Rattle.desk_log.specs.SavedValue.{IsSaved}
use Rattle.desk_saved.specs.declared.transactions.Numbers.{Numbers}
use Rattle.desk_saved.specs.declared.transactions.Stored.{Stored}
use Rattle.desk_saved.specs.contracts.saved_state.SavedState.{the_view}
use Rattle.desk_saved.proofs.SaveOutcomes.{stopped_before, saved_before, not_begun, failed, changed}
use Rattle.desk_saved.proofs.SaveSteps.{of_save}
use Rattle.desk_saved.proofs.saved_state.SavedState.save_after.Goals as goal

pub returns-then-self : goal.returns-then-self
returns-then-self g c =
    rw (← c.self.view_is) (stopped_before g.S.Store _ c.args.saved.now
    (λ open_ trees leaves. g.met.S.Store.settled _ trees open_ leaves) c.if-self.true)

pub returns-then-is_same : goal.returns-then-is_same
returns-then-is_same g c =
    rw (← c.self.view_is) (saved_before g.S.Store _ c.args.saved.now
    (λ open_ trees leaves. g.met.S.Store.settled _ trees open_ leaves) tt c.if-self.false
    (c.is_same.ensures.0 c.if-is_same.true))

pub returns-in_default : goal.returns-in_default
returns-in_default g c =
    rw (← c.self.view_is)
    (rw (c.stop.ensures.stopped, c.stop.ensures.value) (not_begun g.S.Store _ c.args.saved.now
    (λ open_ trees leaves. g.met.S.Store.settled _ trees open_ leaves) c.follow.new.self c.if-self.false
    (λ same. let it = c.is_same.ensures.1 same in let is_not = c.if-is_same.false in absurd cc)))

pub returns : goal.returns
returns g c =
    let s = c.self.inside in
    let file = the_view (param 0 g.row.S) g.S.Store s in
    let new = c.args.saved.now in
    let front = c.same_front_after-common.result in
    let before = c.stored-before in
    let numbers = c.of-numbers in
    let log : c.log-log.result.now ≡ new.log = c.log-log.ensures.value in
    let is_saved : IsSaved new = record {
      normal_within = subst (λ (m : Numbers). m.normal ≤ m.view) numbers.ensures.value numbers.ensures.normal;
      view_within = subst (λ (m : Numbers). m.view ≤ LAST_VIEW) numbers.ensures.value numbers.ensures.view;
      commit_within = subst (λ (m : Numbers). m.commit ≤ length new.log) numbers.ensures.value numbers.ensures.commit;
      log_within = c.log-log.ensures.within;
    } in
    let save = of_save s.owner s.last new front before.result.count before.result.numbers numbers.result
    c.entries_after-more.result c.log-log.result c.as_slice.result
    (ap (λ (b : Stored). b.count) before.ensures) (ap (λ (b : Stored). b.numbers) before.ensures)
    numbers.ensures.value (c.entries_after-more.ensures ∙ ap (drop front) (c.entries.ensures.value ∙ log)) log
    (c.as_slice.ensures.value ∙ c.in-Ok.ensures.clients) in
    let done = c.in_transaction-done in
    rw (← c.self.view_is)
    (rw (c.stop-in_default-done.ensures.stopped, c.stop-in_default-done.ensures.value)
    (failed g.S.Store file c.deref_mut.result.now done.new.conn c.deref_mut.ensures.value c.follow.new.self
    new front c.if-self.false
    (λ same. let it = c.is_same.ensures.1 same in let is_not = c.if-is_same.false in absurd cc) is_saved
    c.same_front_after-common.ensures.within.1 c.same_front_after-common.ensures.same
    (λ open_ trees leaves. g.met.S.Store.settled _ trees open_ leaves) done.ensures.keeps _ save done.result
    done.ensures.done (λ is. grind arith) done.ensures.undone done.ensures.busy))

pub returns-in-Ok-true : goal.returns-in-Ok-true
returns-in-Ok-true g c =
    let s = c.self.inside in
    let file = the_view (param 0 g.row.S) g.S.Store s in
    let new = c.args.saved.now in
    let front = c.same_front_after-common.result in
    let before = c.stored-before in
    let numbers = c.of-numbers in
    let log : c.log-log.result.now ≡ new.log = c.log-log.ensures.value in
    let is_saved : IsSaved new = record {
      normal_within = subst (λ (m : Numbers). m.normal ≤ m.view) numbers.ensures.value numbers.ensures.normal;
      view_within = subst (λ (m : Numbers). m.view ≤ LAST_VIEW) numbers.ensures.value numbers.ensures.view;
      commit_within = subst (λ (m : Numbers). m.commit ≤ length new.log) numbers.ensures.value numbers.ensures.commit;
      log_within = c.log-log.ensures.within;
    } in
    let save = of_save s.owner s.last new front before.result.count before.result.numbers numbers.result
    c.entries_after-more.result c.log-log.result c.as_slice.result
    (ap (λ (b : Stored). b.count) before.ensures) (ap (λ (b : Stored). b.numbers) before.ensures)
    numbers.ensures.value (c.entries_after-more.ensures ∙ ap (drop front) (c.entries.ensures.value ∙ log)) log
    (c.as_slice.ensures.value ∙ c.in-Ok.ensures.clients) in
    let done = c.in_transaction-done in
    rw (← c.self.view_is)
    (changed g.S.Store file c.deref_mut.result.now done.new.conn c.deref_mut.ensures.value c.follow.new.self
    new front c.if-self.false
    (λ same. let it = c.is_same.ensures.1 same in let is_not = c.if-is_same.false in absurd cc) is_saved
    c.same_front_after-common.ensures.within.1 c.same_front_after-common.ensures.same
    (λ open_ trees leaves. g.met.S.Store.settled _ trees open_ leaves) done.ensures.keeps _ save tt _
    c.in-Ok-true.field-0-test c.in-Ok-true.ensures.done c.in-Ok.ensures.follows
    (λ open_ trees leaves. g.met.S.Store.settled _ trees open_ leaves))
