use Rattle.std.proofs.Common.{◌≡◌, ◌⊎◌, inl, inr, refl, subst, false, true}
use Rattle.std.proofs.lemmas.Result.{IfErr-weaker}
use Rattle.std.proofs.KnownBytes.{Keeps-refl}
use Rattle.std.specs.Io.KnownBytes.{Appends}
use Rattle.desk_types.specs.declared.refusal.Refusal.TheVariants as refusals
use Rattle.desk_frames.specs.Received.{HasNoFrame}
use Rattle.desk_frames.specs.Stream.{BeginsNone}
use Rattle.sqlite.specs.State.{HasCleanDisk}
use Rattle.sqlite.specs.Held.{state}
use Rattle.desk_types.specs.declared.owner.Owner.{Owner}
use Rattle.desk_saved.specs.File.{IsFileOf}
use Rattle.desk_saved.specs.OldFile.{IsOldFileOf}
use Rattle.desk_types.specs.Refusal.{HasStored}
use Rattle.desk_answer.specs.AnswerRun.{KeepsState, IsUntouched}
use Rattle.desk_output.specs.Prefixes.{AppendsPrefix}
use Rattle.desk_answer.proofs.DatabaseRuns.{state_preserved, state_left, served_whole, served_before, served_part}
use Rattle.desk_answer.proofs.DatabaseRuns.{no_frame_in_store, no_read_in_store, no_frame_at_open, no_read_at_open}
use Rattle.desk_answer.proofs.DatabaseRuns.{memory_at_open, fault_at_open, no_stop_at_open, run_ended, run_unbegun}
use Rattle.desk_answer.proofs.database.answer_database.Goals as goal

pub returns-in-Ok-open-clause-ok : goal.returns-in-Ok-open-clause-ok
returns-in-Ok-open-clause-ok g c =
    let said = c.in-Ok-open.ensures in
    let run = c.answer_from_last-result in
    let opened : Owner = c.in-Ok.preserved in
    let owner_is : opened ≡ c.args.owner = c.in-Ok.ensures in
    served_whole g.S.Store c.args.owner c.args.connection c.into_connection.result c.in-Ok-open.file.last
    run.new.file.last (g.R.Read.remaining c.args.reader.now) (g.R.Read.remaining run.new.reader)
    (Appends (g.W.Write.contents c.args.writer.now) (g.W.Write.contents run.new.writer)) run.result
    (λ stored. state_preserved g.S.Store c.args.owner opened c.args.connection c.into_connection.result
    c.in-Ok-open.file run.new.file owner_is c.into_connection.ensures said.opened run.ensures.same_owner
    run.ensures.clean
    (run.ensures.rows stored)) run.ensures.ok

pub returns-in-Ok-open-clause-err : goal.returns-in-Ok-open-clause-err
returns-in-Ok-open-clause-err g c =
    let said = c.in-Ok-open.ensures in
    let run = c.answer_from_last-result in
    let opened : Owner = c.in-Ok.preserved in
    let owner_is : opened ≡ c.args.owner = c.in-Ok.ensures in
    let keeps : HasStored run.result → KeepsState g.S.Store c.args.owner c.args.connection c.into_connection.result
    c.in-Ok-open.file.last run.new.file.last =
    λ stored. state_preserved g.S.Store c.args.owner opened c.args.connection c.into_connection.result
    c.in-Ok-open.file run.new.file owner_is c.into_connection.ensures said.opened run.ensures.same_owner
    run.ensures.clean (run.ensures.rows stored) in
    run_ended g.S.Store c.args.owner c.args.connection c.into_connection.result
    (g.R.Read.remaining c.args.reader.now) (g.R.Read.remaining run.new.reader)
    (g.W.Write.contents c.args.writer.now) (g.W.Write.contents run.new.writer) run.result run.ensures.fault
    run.ensures.running
    (served_before g.S.Store c.args.owner c.args.connection c.into_connection.result c.in-Ok-open.file.last
    run.new.file.last (g.R.Read.remaining c.args.reader.now) (g.R.Read.remaining run.new.reader)
    (Appends (g.W.Write.contents c.args.writer.now) (g.W.Write.contents run.new.writer)) run.result
    keeps BeginsNone (λ r. r ≡ refusals.FrameFault)
    no_frame_in_store run.ensures.frame_fault)
    (served_before g.S.Store c.args.owner c.args.connection c.into_connection.result c.in-Ok-open.file.last
    run.new.file.last (g.R.Read.remaining c.args.reader.now) (g.R.Read.remaining run.new.reader)
    (Appends (g.W.Write.contents c.args.writer.now) (g.W.Write.contents run.new.writer)) run.result
    keeps HasNoFrame (λ r. r ≡ refusals.ReadFault)
    no_read_in_store run.ensures.read_fault)
    (IfErr-weaker run.result _ _
    (λ r h e.
    let it = h e in
    record {
      first = c.in-Ok-open.file.last;
      between = it.0;
      last = it.1;
      rest = it.2;
      answers = it.3;
      leaves = state_left g.S.Store c.args.owner opened c.args.connection c.into_connection.result
          c.in-Ok-open.file run.new.file owner_is c.into_connection.ensures said.opened run.ensures.same_owner
          run.ensures.clean it.0 it.1 it.4;
    })
    run.ensures.unsaved)
    (served_part g.S.Store c.args.owner c.args.connection c.into_connection.result c.in-Ok-open.file.last
    run.new.file.last (g.R.Read.remaining c.args.reader.now) (g.R.Read.remaining run.new.reader)
    (AppendsPrefix (g.W.Write.contents c.args.writer.now) (g.W.Write.contents run.new.writer)) run.result
    keeps _ run.ensures.cut_short)

pub returns-in-Err-clause-err : goal.returns-in-Err-clause-err
returns-in-Err-clause-err g c =
    let said = c.in-Err.ensures.refused in
    let untouched : IsUntouched (g.R.Read.remaining c.args.reader.now) (g.R.Read.remaining c.args.reader.now)
    (g.W.Write.contents c.args.writer.now) (g.W.Write.contents c.args.writer.now) =
    (Keeps-refl (g.R.Read.remaining c.args.reader.now), Keeps-refl (g.W.Write.contents c.args.writer.now)) in
    record {
      fault = inr said.fault;
      frame_fault = λ e. absurd (no_frame_at_open _ said.fault e);
      read_fault = λ e. absurd (no_read_at_open _ said.fault e);
      unsaved = λ e. inl (untouched, said.store_fault (fault_at_open _ said.fault e));
      cut_short = λ e.
          let memory = memory_at_open _ said.fault e in
          inl (
            memory,
            untouched,
            λ clean. elim (said.want_of_memory memory clean) [
              | inl same ↦ inl same.1
              | inr unchanged ↦ inr unchanged
            ],
          );
      wrong_file = λ _. (untouched, rw c.in-Ok.ensures at said);
      running = no_stop_at_open _ said.fault;
    }

none_opened : {R : Type 0} (A B : Type 0) → ¬ A → ¬ B → A ⊎ B → R
none_opened A B a b (inl it) = absurd (a it)
none_opened A B a b (inr it) = absurd (b it)

pub returns-in-Ok-open-clause-refused : goal.returns-in-Ok-open-clause-refused
returns-in-Ok-open-clause-refused g c some none no_old clean =
    let said = c.in-Ok-open.ensures in
    let run = c.answer_from_last-result in
    let opened : Owner = c.in-Ok.preserved in
    let owner_is : opened ≡ c.args.owner = c.in-Ok.ensures in
    let last = c.in-Ok-open.file.last in
    let now = (state g.S.Store c.args.connection).now in
    none_opened (IsFileOf c.args.owner now last) (IsOldFileOf c.args.owner now last) (none last) (no_old last)
    (subst (λ o. IsFileOf o now last ⊎ IsOldFileOf o now last) owner_is
    (said.opened.only some (run.ensures.clean
    (subst (λ conn. HasCleanDisk (state g.S.Store conn)) c.into_connection.ensures clean))))

-- an open that was taken was not refused
not_refused : false ≡ true → ⊥
not_refused e = cc

pub returns-in-Ok-open-clause-other : goal.returns-in-Ok-open-clause-other
returns-in-Ok-open-clause-other g c some none no_old =
    absurd (not_refused (c.in-Ok-open.ensures.other some none no_old))

pub returns-in-Err-clause-other : goal.returns-in-Err-clause-other
returns-in-Err-clause-other g c some none no_old =
    let said = c.in-Err.ensures.refused.schema.other some none no_old in
    (refl, inr said.0, said.1)

pub returns-in-Err-clause-referred : goal.returns-in-Err-clause-referred
returns-in-Err-clause-referred g c referred =
    let said = c.in-Err.ensures.refused.schema.referred referred in
    (refl, inr said.0, said.1)

pub returns-in-Err-clause-room : goal.returns-in-Err-clause-room
returns-in-Err-clause-room g c neither none =
    let said = c.in-Err.ensures.refused.schema.room neither none in
    (refl, inr said.0, said.1)

pub returns-in-Err-clause-refused : goal.returns-in-Err-clause-refused
returns-in-Err-clause-refused g c some none no_old clean = (
  refl,
  c.in-Err.ensures.refused.fault,
  (Keeps-refl (g.R.Read.remaining c.args.reader.now), Keeps-refl (g.W.Write.contents c.args.writer.now)),
)

pub returns-in-Ok-open-clause-end : goal.returns-in-Ok-open-clause-end
returns-in-Ok-open-clause-end g c = c.answer_from_last-result.ensures.end

pub returns-in-Ok-open-clause-room : goal.returns-in-Ok-open-clause-room
returns-in-Ok-open-clause-room g c = λ none room. absurd (not_refused (c.in-Ok-open.ensures.room none room))

pub returns-in-Ok-open-clause-referred : goal.returns-in-Ok-open-clause-referred
returns-in-Ok-open-clause-referred g c = λ referred. absurd (not_refused (c.in-Ok-open.ensures.referred referred))

pub returns-in-Err-clause-end : goal.returns-in-Err-clause-end
returns-in-Err-clause-end g c = tt

pub returns-in-Err-clause-ok : goal.returns-in-Err-clause-ok
returns-in-Err-clause-ok g c = tt

pub returns-in_default-clause-end : goal.returns-in_default-clause-end
returns-in_default-clause-end g c = tt

pub returns-in_default-clause-ok : goal.returns-in_default-clause-ok
returns-in_default-clause-ok g c = tt

pub returns-in_default-clause-err : goal.returns-in_default-clause-err
returns-in_default-clause-err g c =
    run_unbegun g.S.Store c.args.owner c.args.connection (g.R.Read.remaining c.args.reader.now)
    (g.W.Write.contents c.args.writer.now)

pub returns-in_default-clause-refused : goal.returns-in_default-clause-refused
returns-in_default-clause-refused g c = λ some none no_old clean. (
  refl,
  inl refl,
  (Keeps-refl (g.R.Read.remaining c.args.reader.now), Keeps-refl (g.W.Write.contents c.args.writer.now)),
)

pub returns-in_default-clause-other : goal.returns-in_default-clause-other
returns-in_default-clause-other g c = λ some none no_old. (refl, inl refl, refl)

pub returns-in_default-clause-referred : goal.returns-in_default-clause-referred
returns-in_default-clause-referred g c = λ referred. (refl, inl refl, refl)

pub returns-in_default-clause-room : goal.returns-in_default-clause-room
returns-in_default-clause-room g c = λ none room. (refl, inl refl, refl)
