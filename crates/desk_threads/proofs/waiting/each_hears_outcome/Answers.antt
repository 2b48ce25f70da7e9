use Rattle.desk_threads.proofs.TurnTelling.{hears_some, hears_nothing}
use Rattle.desk_threads.proofs.waiting.each_hears_outcome.Goals as goal

pub returns-in-Some : goal.returns-in-Some
returns-in-Some g c =
    hears_some _ _ c.in-Some.answer c.args.sessions.now.items c.each_hears.new.sessions.items c.session_answer.ensures
    c.in-Some.is c.each_hears.ensures

pub returns-in-None : goal.returns-in-None
returns-in-None g c = hears_nothing _ _ c.args.sessions.now.items c.session_answer.ensures c.in-None.is
