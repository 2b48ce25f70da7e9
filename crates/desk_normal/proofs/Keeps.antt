-- The rules of the normal case undo nothing.
use Rattle.std.proofs.Common.{ℕ, ◌+◌, not, ◌&&◌, List, length, eqb, leb, ltb, refl}
use Rattle.desk_types.specs.declared.command.Entry.{Entry}
use Rattle.desk_log.specs.declared.admission.Admission.{Admission}
use Rattle.desk_log.specs.declared.admission.Admission.TheVariants.{Append, Retry, Stale, Full}
use Rattle.desk_log.specs.Admission.{admission}
use Rattle.desk_log.specs.Change.{leads, commit_up_to}
use Rattle.desk_log.specs.SavedValue.{SavedValue, with_entry}
use Rattle.desk_normal.specs.Laws.{RequestKeeps, PrepareKeeps, PrepareOkKeeps, CommitKeeps, ResendKeeps}
use Rattle.desk_normal.specs.Rules.{append_request, retry_request, admitted_request, on_request, is_stray, is_ahead}
use Rattle.desk_normal.specs.Rules.{on_prepare, commit_acknowledged, on_prepare_ok, on_commit, normal_resend}
use Rattle.desk_log.proofs.NeverFalls.{falls_trans, falls_commit, falls_entry, UndoesNothing, keeps_if, keeps_same}
use Rattle.desk_log.proofs.NeverFalls.{keeps_nothing}

keeps_request : (i n : ℕ) (s : SavedValue) (e : Entry) → UndoesNothing s (on_request i n s e)
unfolding on_request admitted_request append_request retry_request
keeps_request i n s e =
    keeps_if (leads i n s) (λ _. by_admission (admission s.log e.client e.number)) (λ _. keeps_same s _ refl)
  where
    by_admission : (a : Admission) → UndoesNothing s (admitted_request i n s e a)
    by_admission Append = record { preserved = falls_entry e s }
    by_admission (Retry place) = keeps_if (leb place s.commit) (λ _. keeps_same s _ refl) (λ _. keeps_nothing s)
    by_admission (Stale number) = keeps_same s _ refl
    by_admission Full = keeps_same s _ refl

pub request_keeps : RequestKeeps
request_keeps i n s e = (keeps_request i n s e).preserved

keeps_prepare : (i n : ℕ) (s : SavedValue) (from w m c : ℕ) (e : Entry) →
    UndoesNothing s (on_prepare i n s from w m c e)
unfolding on_prepare
keeps_prepare i n s from w m c e =
    keeps_if (is_stray i n s from w) (λ _. keeps_nothing s) (λ _.
    keeps_if (is_ahead s w) (λ _. keeps_same s _ refl) (λ _.
    keeps_if (eqb m (length s.log + 1))
    (λ _. record {
      preserved = falls_trans s (with_entry e s) (commit_up_to c (with_entry e s)) (falls_entry e s)
          (falls_commit c (with_entry e s));
    })
    (λ _.
    keeps_if (leb m (length s.log)) (λ _. record { preserved = falls_commit c s }) (λ _. keeps_same s _ refl))))

pub prepare_keeps : PrepareKeeps
prepare_keeps i n s from w m c e = (keeps_prepare i n s from w m c e).preserved

keeps_prepare_ok : (i n : ℕ) (s : SavedValue) (places : List ℕ) (from w m : ℕ) →
    UndoesNothing s (on_prepare_ok i n s places from w m)
unfolding on_prepare_ok commit_acknowledged
keeps_prepare_ok i n s places from w m =
    keeps_if (leads i n s && eqb w s.view && not (eqb from i)) (λ _. record { preserved = falls_commit _ s })
    (λ _. keeps_nothing s)

pub prepare_ok_keeps : PrepareOkKeeps
prepare_ok_keeps i n s places from w m = (keeps_prepare_ok i n s places from w m).preserved

keeps_commit : (i n : ℕ) (s : SavedValue) (from w c : ℕ) → UndoesNothing s (on_commit i n s from w c)
unfolding on_commit
keeps_commit i n s from w c =
    keeps_if (is_stray i n s from w) (λ _. keeps_nothing s) (λ _.
    keeps_if (is_ahead s w) (λ _. keeps_same s _ refl) (λ _.
    keeps_if (ltb (length s.log) c) (λ _. record { preserved = falls_commit c s })
    (λ _. record { preserved = falls_commit c s })))

pub commit_keeps : CommitKeeps
commit_keeps i n s from w c = (keeps_commit i n s from w c).preserved

keeps_resend : (i n : ℕ) (s : SavedValue) → UndoesNothing s (normal_resend i n s)
unfolding normal_resend
keeps_resend i n s = keeps_if (leads i n s) (λ _. keeps_same s _ refl) (λ _. keeps_same s _ refl)

pub resend_keeps : ResendKeeps
resend_keeps i n s = (keeps_resend i n s).preserved
