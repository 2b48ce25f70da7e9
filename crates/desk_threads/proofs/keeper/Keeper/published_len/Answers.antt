use Rattle.desk_published.proofs.PrefixEquations.{is_prefix}
use Rattle.desk_threads.proofs.keeper.Keeper.published_len.Goals as goal

pub returns-clause-shown : goal.returns-clause-shown
returns-clause-shown g c = is_prefix _ _ c.args.self.now.shown
