use Rattle.std.proofs.Common.{◌≡◌, ◌+◌, ◌∙◌, ℕ, true, List, [], ◌++◌, refl, sym, ap, subst, rules}
use Rattle.desk_types.specs.declared.command.Entry.{Entry}
use Rattle.desk_epoch_node.specs.PastRows.{StandFor}
use Rattle.desk_epoch_stores.specs.Starting.{MayHoldLogs, is_finished, saved_cut}
use Rattle.desk_epoch_stores.proofs.Logs.{logs_next}
use Rattle.desk_epoch_stores.proofs.opened_epoch.OpenedEpoch.current.Goals as goal

pub loop-epoch-init : goal.loop-epoch-init
loop-epoch-init g c =
    let held = g.T.EpochStores.may_hold c.args.stores.now in
    let o = c.in_ok-opened.opened in
    let first = c.in_ok-opened.ensures.opened.0 in (
      first,
      c.in_ok-opened.ensures.opened.1,
      c.first.ensures.same,
      (
        [],
        c.in_ok-opened.ensures.past,
        subst (λ (e : ℕ). MayHoldLogs held c.args.most e []) (sym first) refl,
      ),
      subst (λ (e : ℕ). held e o.saved) (sym first) c.in_ok-opened.ensures.held,
    )

pub loop-epoch-preserved : goal.loop-epoch-preserved
loop-epoch-preserved g c =
    let held = g.T.EpochStores.may_hold c.args.stores.now in
    let old = c.loop-epoch.opened in
    let o = c.in_ok-opened-2.opened in
    let i = c.loop-epoch.invariant in
    let next = c.in_ok-opened-2.ensures.opened in
    let over : is_finished old.most old.past.length old.saved ≡ true = search rules in (
      next.0 ∙ ap (λ n. n + 1) i.0,
      next.1 ∙ i.1,
      λ e s h. i.2 e s (c.next.ensures.same e s h),
      logs_next held c.args.most old.epoch o.epoch old.past o.past old.saved i.3 i.4
          (subst (λ (m : ℕ). is_finished m old.past.length old.saved ≡ true) i.1 over) next.0
          (subst (λ (m : ℕ). (past : List Entry) → StandFor past old.past →
          StandFor (past ++ saved_cut m old.saved) o.past) i.1 c.in_ok-opened-2.ensures.past),
      i.2 o.epoch o.saved c.in_ok-opened-2.ensures.held,
    )
