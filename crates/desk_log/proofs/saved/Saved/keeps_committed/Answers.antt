-- A log keeps what is committed where it goes on as the committed entries do.
use Rattle.std.proofs.Common.{◌≡◌, ◌≤◌, ◌++◌, take, subst, sym}
use Rattle.desk_log.specs.Change.{keeps_committed}
use Rattle.desk_log.specs.SavedValue.{SavedValue}
use Rattle.desk_log.proofs.JoinedLogs.{preserved_is}
use Rattle.desk_log.proofs.saved.Saved.keeps_committed.Goals as goal

-- src/saved.rt:120:5
pub returns-clause-value : goal.returns-clause-value
returns-clause-value c =
    let s : SavedValue = record {
      view = c.self.inside.view;
      normal = c.self.inside.normal;
      log = c.self.inside.log;
      commit = c.self.inside.commit;
    } in
    subst (λ (s : SavedValue). c.goes_on.result ≡ keeps_committed s (take c.args.base s.log ++ c.args.entries.now))
    c.self.view_is
    (preserved_is s c.args.base c.args.entries.now c.goes_on.result
    (subst (λ (s : SavedValue). c.args.base ≤ s.commit) (sym c.self.view_is) c.requires)
    c.self.invariant.commit_within c.goes_on.ensures)
