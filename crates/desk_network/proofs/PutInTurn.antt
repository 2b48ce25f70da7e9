-- What is put into queues of some packets and then of others.
use Rattle.std.proofs.Common.{[], ◌∷◌, flat_map, subst}
use Rattle.desk_threads.specs.declared.handing.Out.{Ghosts}
use Rattle.desk_network.specs.Queued.{HasQueued}
use Rattle.desk_network.specs.QueuedInOrder.{queued_none, queued_then}
use Rattle.desk_network.specs.Putting.{QueueEnds, PutsIntoQueues, PutsAllIntoQueues}

pub all_put : {O : Type 0} (g : Ghosts O) (ends : O → QueueEnds) → PutsIntoQueues g ends → PutsAllIntoQueues g ends
all_put g ends puts old new [] took =
    subst (λ o. HasQueued (ends old) [] (ends o)) took (queued_none (ends old))
all_put g ends puts old new (packets ∷ more) (mid, first, rest) =
    queued_then (ends old) (ends mid) (ends new) packets (flat_map (λ some. some) more) (puts old mid packets first)
    (all_put g ends puts mid new more rest)
