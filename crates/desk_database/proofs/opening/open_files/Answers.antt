use Rattle.std.proofs.Common.{sym, subst, false, inl, inr, arith, rules, le_refl}
use Rattle.std.proofs.lemmas.Bool.{iff_false}
use Rattle.sqlite_wal.specs.Reads.{tally_of_files}
use Rattle.sqlite_wal.proofs.CleanLemmas.{both_clean}
use Rattle.sqlite_store.specs.Report.{named}
use Rattle.sqlite.specs.Files.{file_state, tally_left, AreFoundIn, HoldsDatabase, IsBlankAs, IsNothing, IsTooLong}
use Rattle.sqlite.proofs.FileLemmas.{fails_wider as unnamed_wider, once_named, same_image}
use Rattle.desk_database.specs.NewFile.{IsUnmade}
use Rattle.desk_database.proofs.MakingLemmas.{made_is_not_unmade}
use Rattle.desk_database.proofs.OpeningLemmas.{fails_wider, name_is_fault, left_by_kit, left_unmade}
use Rattle.desk_database.proofs.opening.open_files.Goals as goal

pub returns-in-Err-clause-cause : goal.returns-in-Err-clause-cause
returns-in-Err-clause-cause g c clean =
    let read = c.is_unmade.ensures in
    let same = same_image read.log read.db in (
      c.is_unmade.new.files,
      read.log,
      read.db,
      (
        named c.tally-before.result c.tally-now.result,
        name_is_fault c.tally-before.result c.tally-now.result,
        rw c.named_error.ensures.value
            (once_named _ _ _ _ _ c.in-Err.error
            (unnamed_wider _ _ _ _ _ _ _ c.in-Err.error (le_refl _) (subst IsTooLong (sym same))
            (λ _. tt) (c.in-Err.ensures.cause clean))),
      ),
    )

pub returns-in-Ok-open_files-clause-found : goal.returns-in-Ok-open_files-clause-found
returns-in-Ok-open_files-clause-found g c clean =
    let read = c.is_unmade.ensures in
    let same = same_image read.log read.db in
    let kit = c.in-Ok-open_files.ensures.found clean in
    let trees = (file_state c.in-Ok-open_files.connection).committed.trees in
    record {
      honest = both_clean _ _ _ _ read.log.clean read.db.clean kit.honest;
      holds = λ db held. kit.holds db (subst (λ i. HoldsDatabase i db) (sym same) held);
      reads = inl (subst (λ i. AreFoundIn i trees) same kit.reads);
    }

pub returns-in-Ok-open_files-clause-plain : goal.returns-in-Ok-open_files-clause-plain
returns-in-Ok-open_files-clause-plain g c clean nothing =
    let read = c.is_unmade.ensures in
    let kit = c.in-Ok-open_files.ensures in
    elim nothing [
      | inl unmade ↦ absurd (iff_false (c.in-Ok.ensures.ok (kit.found clean).honest) (search rules) unmade)
      | inr blank ↦ kit.plain clean (subst (IsBlankAs false) (sym (same_image read.log read.db)) blank)
    ]

pub returns-in-Err-open_files-clause-cause : goal.returns-in-Err-open_files-clause-cause
returns-in-Err-open_files-clause-cause g c clean =
    let read = c.is_unmade.ensures in
    let now = c.is_unmade.new.files in
    let same = same_image read.log read.db in (
      now,
      read.log,
      read.db,
      (
        named (tally_of_files g.D.Disk (now.log, now.db)) (tally_left c.in-Err-open_files.failed.1),
        name_is_fault (tally_of_files g.D.Disk (now.log, now.db)) (tally_left c.in-Err-open_files.failed.1),
        fails_wider _ _ _ _ _ _ _ _ read.counts
            (λ wanted. elim wanted [
              | inl held ↦ inl (held.0, subst (λ i. HoldsDatabase i held.0) (sym same) held.1)
              | inr none ↦ elim none [
                | inl nothing ↦ inr (subst IsNothing (sym same) nothing)
                | inr unmade ↦ absurd (iff_false (c.in-Ok.ensures.ok unmade.0) (search rules) unmade.1)
              ]
            ])
            (c.in-Err-open_files.ensures.cause clean),
      ),
    )

pub returns-in-Err-open_files-clause-unharmed : goal.returns-in-Err-open_files-clause-unharmed
returns-in-Err-open_files-clause-unharmed g c clean =
    let read = c.is_unmade.ensures in
    left_by_kit read.log read.db _ (c.in-Err-open_files.ensures.unharmed clean)

pub new_database-requires-clause-unmade : goal.new_database-requires-clause-unmade
new_database-requires-clause-unmade g c clean =
    let read = c.is_unmade.ensures in
    subst IsUnmade (sym (same_image read.log read.db)) ((c.in-Ok.ensures.ok clean).0 (search rules))

pub returns-in-Ok-new_database-clause-found : goal.returns-in-Ok-new_database-clause-found
returns-in-Ok-new_database-clause-found g c clean =
    let read = c.is_unmade.ensures in
    let made = c.in-Ok-new_database.ensures in
    let unmade = (c.in-Ok.ensures.ok (made.honest clean)).0 (search rules) in
    record {
      honest = both_clean _ _ _ _ read.log.clean read.db.clean (made.honest clean);
      holds = λ db held. absurd (made_is_not_unmade _ db held unmade);
      reads = inr (unmade, made.empty clean);
    }

pub returns-in-Err-new_database-clause-cause : goal.returns-in-Err-new_database-clause-cause
returns-in-Err-new_database-clause-cause g c clean =
    let read = c.is_unmade.ensures in
    let failed = c.in-Err-new_database.ensures in (
      c.is_unmade.new.files,
      read.log,
      read.db,
      (
        named c.tally-before.result c.tally_of-now.result,
        name_is_fault c.tally-before.result c.tally_of-now.result,
        rw c.named_error-in-Err-new_database.ensures.value
            (fails_wider _ _ _ _ _ _ _ _ read.counts (λ _. tt)
            (once_named _ _ _ _ _ c.in-Err-new_database.error (failed.cause clean))),
      ),
    )

pub returns-in-Err-new_database-clause-unharmed : goal.returns-in-Err-new_database-clause-unharmed
returns-in-Err-new_database-clause-unharmed g c clean =
    let read = c.is_unmade.ensures in
    let failed = c.in-Err-new_database.ensures in
    left_unmade read.log read.db _ ((c.in-Ok.ensures.ok (failed.falls clean)).0 (search rules)) (failed.unharmed clean)
