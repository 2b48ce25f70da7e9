use Rattle.std.proofs.Common.{◌≡◌, ℕ, sym, refl, inl, inr}
use Rattle.std.specs.Prelude.{⊤}
use Rattle.sqlite_wal.specs.declared.error.Error.{Error}
use Rattle.sqlite_wal.specs.declared.error.Error.TheVariants.{Io, OutOfMemory, Full}
use Rattle.sqlite_wal.specs.declared.error.Error.TheVariants.{Closed, NoSuchPage, Corrupt, Exists}
use Rattle.sqlite_wal.specs.Files as log_files
use Rattle.sqlite_wal.specs.Outcome.{HasCause, OnlyIf}
use Rattle.sqlite_wal.specs.Recovery.{Image, IsLogFor}
use Rattle.sqlite.specs.Files.{IsTooLong}
use Rattle.sqlite.specs.Opening.{probed, FailsFor}
use Rattle.desk_database.proofs.making.is_unmade.Goals as goal

by_kind : (a b size : ℕ) (image : Image) (e : Error)
    → HasCause a b (OnlyIf Full (IsLogFor size image.log × log_files.IsHuge size image)) e
    → FailsFor a b (IsTooLong image) ⊤ (probed e)
by_kind a b size image (Io x) cause = inr (inr (inl (refl, cause)))
by_kind a b size image OutOfMemory cause = inl refl
by_kind a b size image Full cause =
    inr (inr (inr (
      refl,
      (size, (λ _. sym cause.1.0.1, λ ignored. absurd (cause.1.0.0 ignored)), cause.1.1),
    )))
by_kind a b size image Corrupt cause = let e = cause.0 in absurd (cc)
by_kind a b size image Closed cause = let e = cause.0 in absurd (cc)
by_kind a b size image NoSuchPage cause = let e = cause.0 in absurd (cc)
by_kind a b size image Exists cause = let e = cause.0 in absurd (cc)

pub returns-in-Ok-clause-ok : goal.returns-in-Ok-clause-ok
returns-in-Ok-clause-ok g c clean = rw c.new_page_size.ensures at (c.in-Ok.ensures.ok clean)

pub returns-in-Err-clause-cause : goal.returns-in-Err-clause-cause
returns-in-Err-clause-cause g c clean =
    rw c.probe_error.ensures.value (by_kind _ _ _ _ c.in-Err.error (c.in-Err.ensures.cause clean))
