use Rattle.std.proofs.Common.{rules}
use Rattle.desk_log.proofs.LatestPlaces.{place_within}
use Rattle.desk_log.proofs.log.Log.latest.Goals as goal

pub returns-clause-within : goal.returns-clause-within
returns-clause-within c = place_within c.args.client _ c.get.result (search rules)
