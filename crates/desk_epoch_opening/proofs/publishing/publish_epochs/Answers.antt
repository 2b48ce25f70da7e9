use Rattle.std.proofs.Common.{◌≡◌, ◌+◌, ◌∙◌, ◌++◌, ℕ, true, List, [], refl, sym, ap, subst, rules}
use Rattle.desk_types.specs.declared.command.Entry.{Entry}
use Rattle.desk_epoch_node.specs.PastRows.{StandFor}
use Rattle.desk_epoch_stores.specs.Starting.{MayHoldLogs, is_finished, saved_cut}
use Rattle.desk_published.specs.Writer.{followed_by}
use Rattle.desk_epoch_opening.proofs.PublishedEpochs.{logs_on, past_first, past_followed}
use Rattle.desk_epoch_opening.proofs.publishing.publish_epochs.Goals as goal

pub loop-epoch-init : goal.loop-epoch-init
loop-epoch-init g c =
    let held = g.T.EpochStores.may_hold c.args.stores.now in
    let o = c.in-Ok.opened in
    let first = c.in-Ok.ensures.opened.0 in (
      first,
      c.in-Ok.ensures.opened.1,
      c.first.ensures.same,
      subst (λ (list : List Entry). StandFor list o.past) (sym c.requires.nothing) c.in-Ok.ensures.past,
      subst (λ (list : List Entry). MayHoldLogs held c.args.most o.epoch list) (sym c.requires.nothing)
          (subst (λ (e : ℕ). MayHoldLogs held c.args.most e []) (sym first) refl),
      subst (λ (e : ℕ). held e o.saved) (sym first) c.in-Ok.ensures.held,
    )

pub loop-epoch-preserved : goal.loop-epoch-preserved
loop-epoch-preserved g c =
    let held = g.T.EpochStores.may_hold c.args.stores.now in
    let old = c.loop-epoch.opened in
    let before = c.loop-epoch.writer.noted in
    let now = c.publish_epoch-back.result.0.noted in
    let o = c.in-Ok-next.next in
    let i = c.loop-epoch.invariant in
    let next = c.in-Ok-next.ensures.opened in
    let noted : now ≡ before ++ saved_cut old.most old.saved =
    c.publish_epoch-back.ensures.noted c.if-not-whole.false in
    let over : is_finished old.most old.past.length old.saved ≡ true = search rules in (
      next.0 ∙ ap (λ n. n + 1) i.0,
      next.1 ∙ i.1,
      λ e s h. i.2 e s (c.next.ensures.same e s h),
      subst (λ (list : List Entry). StandFor list o.past) (sym noted) (c.in-Ok-next.ensures.past before i.3),
      logs_on held c.args.most old.most old.past.length old.epoch o.epoch old.saved before now i.4 i.5 over
          i.3.length_is i.1 next.0 noted,
      i.2 o.epoch o.saved c.in-Ok-next.ensures.held,
    )

pub returns-then-not-is_finished-clause-logs : goal.returns-then-not-is_finished-clause-logs
returns-then-not-is_finished-clause-logs g c =
    let held = g.T.EpochStores.may_hold c.args.stores.now in
    let old = c.loop-epoch.opened in
    let i = c.loop-epoch.invariant in
    subst (λ (list : List Entry). MayHoldLogs held c.args.most old.epoch list)
    (sym (past_first old.past c.loop-epoch.writer.noted (saved_cut old.most old.saved)
    c.publish_epoch-back.result.0.noted i.3 (c.publish_epoch-back.ensures.noted c.if-not-whole.false))) i.4

pub returns-then-not-is_finished-clause-past : goal.returns-then-not-is_finished-clause-past
returns-then-not-is_finished-clause-past g c =
    let old = c.loop-epoch.opened in
    let i = c.loop-epoch.invariant in
    subst (λ (list : List Entry). StandFor list old.past)
    (sym (past_first old.past c.loop-epoch.writer.noted (saved_cut old.most old.saved)
    c.publish_epoch-back.result.0.noted i.3 (c.publish_epoch-back.ensures.noted c.if-not-whole.false))) i.3

pub returns-then-not-is_finished-clause-noted : goal.returns-then-not-is_finished-clause-noted
returns-then-not-is_finished-clause-noted g c =
    let old = c.loop-epoch.opened in
    let now = c.publish_epoch-back.result.0.noted in
    past_followed old.past c.loop-epoch.writer.noted (saved_cut old.most old.saved) now c.loop-epoch.invariant.3
    (c.publish_epoch-back.ensures.noted c.if-not-whole.false)
    ∙ ap (λ (m : ℕ). followed_by old.past.length now (saved_cut m old.saved)) c.loop-epoch.invariant.1
