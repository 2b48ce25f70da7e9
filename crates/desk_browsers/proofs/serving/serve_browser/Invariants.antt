use Rattle.std.proofs.Common.{◌≡◌, ℕ, List, ◌++◌}
use Rattle.std.specs.Io.KnownBytes.{Appends, Consumes}
use Rattle.http_server.specs.Connection.{history}
use Rattle.http_server.specs.Exchange.{Calls}
use Rattle.desk_browsers.proofs.serving.serve_browser.Given as goal

-- what was read, written and answered so far
abbrev pub invariant-loop : goal.invariant-loop
invariant-loop g l =
    let old = history l.fn.connection in
    let new = history l.connection in
    ((more : List ℕ) × Consumes (g.I.Read.remaining l.fn.reader) (g.I.Read.remaining l.reader) more
    × (new.received ≡ old.received ++ more))
    × ((more : List ℕ) × Appends (g.O.Write.contents l.fn.writer) (g.O.Write.contents l.writer) more
    × (new.sent ≡ old.sent ++ more))
    × Calls g.S.Service.answers l.fn.service l.service old.calls new.calls
