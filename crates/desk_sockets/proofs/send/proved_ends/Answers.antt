use Rattle.desk_sockets.proofs.send.proved_ends.Goals as goal

pub returns-in-Ok-dial-clause-sealed : goal.returns-in-Ok-dial-clause-sealed
returns-in-Ok-dial-clause-sealed c =
    (c.of_sessions.result, _, c.of_sessions.ensures.role, c.of_sessions.ensures.nodes.2, c.in-Ok-dial.ensures.sealed)
