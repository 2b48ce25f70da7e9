use Rattle.std.proofs.Common.{[], inl, refl}
use Rattle.desk_threads.proofs.StoppedOutcomes.{on_ok_map}
use Rattle.desk_threads.proofs.keeper.Keeper.begin_where_due.Goals as goal

pub returns-then-not-self-clause-begins : goal.returns-then-not-self-clause-begins
returns-then-not-self-clause-begins g c =
    ([], inl (refl, refl), g.met.O.Out.takes_none c.args.out.now, λ lags. (refl, refl))

pub returns-clause-begins : goal.returns-clause-begins
returns-clause-begins g c =
    on_ok_map c.begin.result.1 _ _
    (λ b. (b.0, b.1, b.2, λ lags. absurd (let none : ⊥ = cc (lags, c.if-not-self.false) in none)))
    c.begin.ensures.begins
