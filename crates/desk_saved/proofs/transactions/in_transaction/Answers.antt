use Rattle.std.proofs.Common.{rules, ◌≡◌, Err, sym, subst, ◌∙◌}
use Rattle.std.specs.List.{AllByRecursion}
use Rattle.sqlite.specs.declared.error.Error.{Error}
use Rattle.sqlite.specs.declared.error.Error.TheVariants.{SqliteFailure}
use Rattle.sqlite.specs.declared.error.ErrorCode.TheVariants.{OutOfMemory}
use Rattle.desk_saved.specs.Changes.{effects, AreApt, IsFitStep, StandsBefore, SparesAll}
use Rattle.desk_saved.specs.Transactions.{Transacts}
use Rattle.desk_saved.proofs.OneTransaction.{transacts}
use Rattle.desk_saved.proofs.transactions.in_transaction.Goals as goal

pub returns-clause-done : goal.returns-clause-done
returns-clause-done g c =
    let old = c.args.conn.now in
    let all = c.args.steps.now in
    let missing = c.args.missing in
    let same : c.commit.new.self.0 ≡ c.conn-2-1.given.0 = sym (c.conn-2-1.given.1
    (sym (c.write.ensures.same_reference ∙ c.transaction-tx.ensures.same_reference))) in
    subst (λ h. Transacts g.S.Store old h (StandsBefore missing) (AreApt all) _ (effects all)
    (AllByRecursion IsFitStep all) (SparesAll missing all)) same
    (transacts g.S.Store old c.transaction-tx.result.conn.now c.write.new.tx.conn.now c.commit.new.self.0
    (StandsBefore missing) (AreApt all) (effects all) _ _ c.transaction-tx.ensures.begun c.in_ok-write.ensures.makes
    c.in_ok-write.ensures.fits c.commit.ensures.survives _ (λ clean. (c.in_ok-commit.ensures.ok clean).1))

-- any error: what a stop leaves does not depend on it
lost : Error
lost = SqliteFailure OutOfMemory

pub returns-in_err-commit-clause-done : goal.returns-in_err-commit-clause-done
returns-in_err-commit-clause-done g c =
    let old = c.args.conn.now in
    let all = c.args.steps.now in
    let missing = c.args.missing in
    let same : c.commit.new.self.0 ≡ c.conn-2-1.given.0 = sym (c.conn-2-1.given.1
    (sym (c.write.ensures.same_reference ∙ c.transaction-tx.ensures.same_reference))) in
    let reported = subst (λ h. Transacts g.S.Store old h (StandsBefore missing) (AreApt all) (Err lost) (effects all)
    (AllByRecursion IsFitStep all) (SparesAll missing all)) same
    (transacts g.S.Store old c.transaction-tx.result.conn.now c.write.new.tx.conn.now c.commit.new.self.0
    (StandsBefore missing) (AreApt all) (effects all) _ _ c.transaction-tx.ensures.begun c.in_ok-write.ensures.makes
    c.in_ok-write.ensures.fits c.commit.ensures.survives (Err lost) tt) in
    record {
      rows = λ clean open_ live d rows stands apt. search rules;
      crash = reported.crash;
      fits = search rules;
      commits = reported.commits;
    }
