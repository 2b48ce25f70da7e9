use Rattle.std.proofs.Common.{ℕ, Bool, cond, List, [], refl, inl, sym, ap₂, subst}
use Rattle.sqlite_disk.specs.Events.{Event, replay}
use Rattle.sqlite_wal.specs.Recovery.{Image}
use Rattle.desk_database.specs.NewFile.{IsUnmade}
use Rattle.desk_database.proofs.host.open_database.Goals as goal

abbrev image : List ℕ → List ℕ → Image
image log db = record { log = log; db = db }

abbrev seen : Bool → List Event → List ℕ
seen is_log history = (replay (cond is_log [] []) history).seen

pub returns-in-Ok-open_files-clause-plain : goal.returns-in-Ok-open_files-clause-plain
returns-in-Ok-open_files-clause-plain c = rw c.set_clock.ensures λ clean.
    let (log, db) = c.in-Ok-host_files.ensures.fresh in
    let same = ap₂ image (ap₂ seen log.0 log.1) (ap₂ seen db.0 db.1) in
    c.in-Ok-open_files.ensures.plain clean (inl (subst IsUnmade (sym same) (inl refl)))
