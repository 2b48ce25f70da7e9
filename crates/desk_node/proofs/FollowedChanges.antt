-- The board that follows the committed entries follows them after each rule that changes the saved state.
use Rattle.std.proofs.Common.{◌≡◌, ◌≤◌, ℕ, List, take, sym, subst, Option}
use Rattle.desk_types.specs.declared.command.Entry.{Entry}
use Rattle.desk_types.specs.declared.packet.Message.{Message}
use Rattle.desk_log.specs.Change.{Change}
use Rattle.desk_log.specs.declared.answers.Answers.{Answers}
use Rattle.desk_log.specs.Makes.{Makes}
use Rattle.desk_log.specs.NeverFalls.{NeverFalls}
use Rattle.desk_log.specs.SavedValue.{SavedValue}
use Rattle.desk_board.specs.BoardValue.{BoardValue}
use Rattle.desk_normal.specs.Rules.{on_request, on_prepare, on_commit}
use Rattle.desk_transfer.specs.Rules.{on_new_state}
use Rattle.desk_view_change.specs.Rules.{on_start_view, on_suspect}
use Rattle.desk_node.specs.PrefixBoard.{FollowsLog}
use Rattle.desk_normal.proofs.Keeps as normal
use Rattle.desk_transfer.proofs.Keeps as transfer
use Rattle.desk_view_change.proofs.Keeps as view_change
use Rattle.desk_node.proofs.FollowedLogs.{follows_preserved}

follows_made : (domain : List ℕ) (o : Option BoardValue) (s t : SavedValue) (c : Change) (packets : List (ℕ × Message))
    (reported : Answers) → NeverFalls s c.saved → Makes c t packets reported →
    FollowsLog domain o (take s.commit s.log) →
    FollowsLog domain o (take t.commit t.log)
follows_made domain o s t c packets reported k made f =
    follows_preserved domain o s t (subst (λ (x : SavedValue). NeverFalls s x) (sym made.saved_is) k) f

pub follows_request : (domain : List ℕ) (o : Option BoardValue) (i n : ℕ) (s t : SavedValue) (e : Entry)
    (packets : List (ℕ × Message)) (reported : Answers) (commit : ℕ) (log : List Entry) → commit ≡ t.commit →
    log ≡ t.log → Makes (on_request i n s e) t packets reported → FollowsLog domain o (take s.commit s.log) →
    FollowsLog domain o (take commit log)
follows_request domain o i n s t e packets reported commit log commit_is log_is made f = rw (commit_is, log_is)
    (follows_made domain o s t _ packets reported (normal.request_keeps i n s e) made f)

pub follows_prepare : (domain : List ℕ) (o : Option BoardValue) (i n : ℕ) (s t : SavedValue) (from w m c : ℕ)
    (e : Entry) (packets : List (ℕ × Message)) (reported : Answers) →
    Makes (on_prepare i n s from w m c e) t packets reported →
    FollowsLog domain o (take s.commit s.log) → FollowsLog domain o (take t.commit t.log)
follows_prepare domain o i n s t from w m c e packets reported made f =
    follows_made domain o s t _ packets reported (normal.prepare_keeps i n s from w m c e) made f

pub follows_commit : (domain : List ℕ) (o : Option BoardValue) (i n : ℕ) (s t : SavedValue) (from w k : ℕ)
    (packets : List (ℕ × Message)) (reported : Answers) → Makes (on_commit i n s from w k) t packets reported →
    FollowsLog domain o (take s.commit s.log) → FollowsLog domain o (take t.commit t.log)
follows_commit domain o i n s t from w k packets reported made f =
    follows_made domain o s t _ packets reported (normal.commit_keeps i n s from w k) made f

pub follows_start_view : (domain : List ℕ) (o : Option BoardValue) (i n : ℕ) (s t : SavedValue) (from w c : ℕ)
    (l : List Entry) (packets : List (ℕ × Message)) (reported : Answers) → s.normal ≤ s.view →
    Makes (on_start_view i n s from w c l) t packets reported →
    FollowsLog domain o (take s.commit s.log) → FollowsLog domain o (take t.commit t.log)
follows_start_view domain o i n s t from w c l packets reported order made f =
    follows_made domain o s t _ packets reported (view_change.start_view_keeps i n s from w c l order) made f

pub follows_suspect : (domain : List ℕ) (o : Option BoardValue) (i n : ℕ) (s t : SavedValue)
    (packets : List (ℕ × Message)) (reported : Answers) → Makes (on_suspect i n s) t packets reported →
    FollowsLog domain o (take s.commit s.log) → FollowsLog domain o (take t.commit t.log)
follows_suspect domain o i n s t packets reported made f =
    follows_made domain o s t _ packets reported (view_change.suspect_keeps i n s) made f

pub follows_new_state : (domain : List ℕ) (o : Option BoardValue) (i n : ℕ) (s t : SavedValue) (w b c : ℕ)
    (es : List Entry) (packets : List (ℕ × Message)) (reported : Answers) → s.normal ≤ s.view →
    Makes (on_new_state i n s w b c es) t packets reported →
    FollowsLog domain o (take s.commit s.log) → FollowsLog domain o (take t.commit t.log)
follows_new_state domain o i n s t w b c es packets reported order made f =
    follows_made domain o s t _ packets reported (transfer.new_state_keeps i n s w b c es order) made f

pub ruleset follows_rules = (follows_prepare, follows_commit, follows_start_view, follows_suspect, follows_new_state)
