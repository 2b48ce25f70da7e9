-- Why an open fails and what it leaves, from its steps to the whole.
use Rattle.std.proofs.Common.{ℕ, true, false, Bool, IsTrue, refl, sym, subst, inl, inr, arith, if◌then◌else◌}
use Rattle.std.proofs.Common.{◌⊎◌, ◌≤◌, ◌==◌}
use Rattle.sqlite_disk.specs.declared.Disk as disk
use Rattle.sqlite_disk.specs.declared.Files.{Files}
use Rattle.sqlite_disk.specs.declared.tally.Tally.{Tally}
use Rattle.sqlite_wal.specs.Files.{outcomes}
use Rattle.sqlite_wal.specs.Reads.{OnlyReads}
use Rattle.sqlite_wal.specs.Recovery.{Image}
use Rattle.sqlite_pool.specs.Stored.{stored_size, is_summed, StandsAs, IsUnreadable}
use Rattle.sqlite_trees.specs.Tree.{Trees}
use Rattle.sqlite_trees.specs.View.{is_fault}
use Rattle.sqlite_trees.specs.declared.error.StoreError.{StoreError}
use Rattle.sqlite_trees.specs.declared.error.StoreError.TheVariants.{Io, Corrupt, Full}
use Rattle.sqlite_store.specs.Report.{named}
use Rattle.sqlite_store.specs.Unopened.{state_of}
use Rattle.sqlite.specs.declared.error.Error.{Error}
use Rattle.sqlite.specs.declared.file.Leftover.{Leftover}
use Rattle.sqlite.specs.declared.file.Leftover.TheVariants as left
use Rattle.sqlite.specs.Files.{image_of, AreFoundIn, HoldsDatabase, IsNothing, LeavesFiles}
use Rattle.sqlite.specs.Files.{BeginsWell, NamesSize, SaysSums}
use Rattle.sqlite.specs.Opening.{FailsAs}
use Rattle.sqlite.proofs.FileLemmas.{same_image}
use Rattle.desk_database.specs.NewFile.{IsUnmade, LeavesUnmade}
use Rattle.desk_database.specs.Opening.{AreFound, LeavesOpening}
use Rattle.desk_database.proofs.MakingLemmas.{made_is_not_unmade}

chosen : (caught refused : Bool) → IsTrue (is_fault (if caught then (if refused then Io else Full) else Corrupt))
chosen true true = refl
chosen true false = refl
chosen false refused = refl

-- the name of a failure is one
pub name_is_fault : (old new : Tally) → IsTrue (is_fault (named old new))
name_is_fault old new = chosen (new.caught == old.caught) (new.refused == old.refused)

-- a failure counted from earlier on, where less is refused
pub fails_wider : (kind : StoreError) (a b c : ℕ) (Limit Wanted Wider : Type 0) (e : Error) → a ≤ b
    → (Wider → Wanted) → FailsAs kind b c Limit Wanted e → FailsAs kind a c Limit Wider e
fails_wider kind a b c Limit Wanted Wider e p want (inl memory) = inl memory
fails_wider kind a b c Limit Wanted Wider e p want (inr (inl refused)) =
    inr (inl (refused.0, λ w. refused.1 (want w)))
fails_wider kind a b c Limit Wanted Wider e p want (inr (inr (inl fault))) =
    inr (inr (inl (fault.0, omega (arith, fault.1))))
fails_wider kind a b c Limit Wanted Wider e p want (inr (inr (inr full))) = inr (inr (inr full))

-- What is said of files that were only read is so of them as they were before.
module _ {D : Type 0} {g : disk.Ghosts D} {files read : Files D} (log : OnlyReads g files.log read.log)
    (db : OnlyReads g files.db read.db) where
  before : (image : Image) → outcomes g read.log read.db image → outcomes g files.log files.db image
  before image may = (log.crash _ may.0, db.crash _ may.1)

  pub left_by_kit : (rest : Leftover D g) → LeavesFiles read rest → LeavesOpening files rest
  left_by_kit (left.Files now) preserved = λ image may. before image (preserved image may)
  left_by_kit (left.Store now) preserved = λ found may.
      let same = same_image log db in
      let it = preserved found may in (
        inl (subst (λ i. AreFoundIn i found) same it.0),
        λ held h. it.1 held (subst (λ i. HoldsDatabase i held) (sym same) h),
      )
  left_by_kit (left.Unopened now) preserved =
      let same = same_image log db in
      inr (elim preserved [
        | inl nothing ↦ inl (
          subst IsNothing same nothing.0,
          λ image may. elim (nothing.1 image may) [ inl was ↦ inl (before image was) | inr way ↦ inr way ],
        )
        | inr made ↦ inr (
          λ nothing. made.0 (subst IsNothing (sym same) nothing),
          subst (λ i. NamesSize i (stored_size (state_of now).page_size)) same made.1,
          subst (BeginsWell (stored_size (state_of now).page_size)) same made.2,
          λ sums. subst (SaysSums (stored_size (state_of now).page_size)) same (made.3 sums),
          λ image may.
              let it = made.4 image may in
              record {
                same = elim it.same [
                  | inl was ↦ inl (before image was)
                  | inr stands ↦ inr (subst (λ i. StandsAs (state_of now).page_size i image) same stands)
                ];
                unread = λ bad. before image (it.unread (subst (IsUnreadable (state_of now).page_size) (sym same) bad));
                something = λ new. it.something (λ was. new (before image was));
              },
        )
      ])

  pub left_unmade : (rest : Leftover D g) → IsUnmade (image_of g files) → LeavesUnmade read rest
      → LeavesOpening files rest
  left_unmade (left.Files now) unmade preserved = λ image may. before image (preserved image may)
  left_unmade (left.Unopened now) unmade preserved =
      inl (unmade, λ image may. elim (preserved image may) [ inl was ↦ inl (before image was) | inr way ↦ inr way ])
  left_unmade (left.Store now) unmade preserved =
      λ found may.
      (inr (unmade, preserved found may), λ held h. absurd (made_is_not_unmade (image_of g files) held h unmade))
