-- The past logs of the next epoch.
use Rattle.std.proofs.Common.{◌≡◌, ◌+◌, ℕ, suc, true, List, ◌++◌, refl, subst, arith}
use Rattle.desk_types.specs.declared.command.Entry.{Entry}
use Rattle.desk_log.specs.SavedValue.{SavedValue}
use Rattle.desk_epoch_node.specs.PastRows.{PastValue, StandFor}
use Rattle.desk_epoch_stores.specs.Starting.{MayHoldLogs, is_finished, saved_cut}

-- These past logs are kept, and may be what the stores hold.
abbrev pub StandsForLogs : (ℕ → SavedValue → Type 0) → ℕ → ℕ → PastValue → Type 0
StandsForLogs may_hold most epoch p = (past : List Entry) × StandFor past p × MayHoldLogs may_hold most epoch past

pub logs_next : (may_hold : ℕ → SavedValue → Type 0) (most epoch next : ℕ) (old new : PastValue) (s : SavedValue) →
    StandsForLogs may_hold most epoch old → may_hold epoch s → is_finished most old.length s ≡ true → next ≡ epoch + 1 →
    ((past : List Entry) → StandFor past old → StandFor (past ++ saved_cut most s) new) →
    StandsForLogs may_hold most next new
logs_next may_hold most epoch next old new s (past, stand, logs) held over is more =
    let at : suc epoch ≡ next = omega (arith, is) in (
      past ++ saved_cut most s,
      more past stand,
      subst (λ (e : ℕ). MayHoldLogs may_hold most e (past ++ saved_cut most s)) at
          (past, s, logs, held, subst (λ n. is_finished most n s ≡ true) stand.length_is over, refl),
    )
