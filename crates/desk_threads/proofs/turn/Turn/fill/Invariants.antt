use Rattle.std.proofs.Common.{List, ◌<◌, length}
use Rattle.desk_mailbox.specs.Ends.{taken_by, IsSameTaker}
use Rattle.desk_threads.specs.Turns.{TookMore, NotesMore, AddsToTurn}
use Rattle.desk_threads.proofs.turn.Turn.fill.Given as goal

abbrev pub invariant-loop-added : goal.invariant-loop-added
invariant-loop-added g l =
    ((sent : List _) × (length sent < l.added) × TookMore g.R.Replica (taken_by l.fn.self.taker) l.fn.self.replica
    l.fn.self.steps.items sent (taken_by l.turn.taker) l.turn.replica l.turn.steps.items
    × NotesMore sent l.fn.self.waiting l.fn.self.late l.turn.waiting l.turn.late
    × AddsToTurn sent l.fn.self.is_over l.turn.is_over)
    × IsSameTaker l.fn.self.taker l.turn.taker
    × g.R.Replica.follows l.fn.self.replica l.turn.replica
