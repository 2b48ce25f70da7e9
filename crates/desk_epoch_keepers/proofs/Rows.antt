-- The rows of boards that are published are replies at places.
use Rattle.std.proofs.Common.{◌≡◌, ℕ, List, Option, Some, None, refl, sym, ◌∙◌, subst}
use Rattle.std.proofs.lemmas.Option.{same_Some, none-some}
use Rattle.desk_types.specs.declared.command.Entry.{Entry}
use Rattle.desk_types.specs.declared.reply.Reply.{Reply}
use Rattle.desk_log.specs.Entries.{entry_at, latest}
use Rattle.desk_log.specs.SavedValue.{SavedValue}
use Rattle.desk_log.specs.declared.state_store.StateStore.{Ghosts}
use Rattle.desk_log.proofs.Latest.{latest_is_last}
use Rattle.desk_board.specs.declared.row.Row.{Row}
use Rattle.desk_board.specs.Execute.{execute, row_for, row_of, request_at}
use Rattle.desk_board.specs.Log.{board_before, board_of, reply_at, row, row_at_latest, row_at}
use Rattle.desk_board.proofs.LogRows.{rows_are_latest}
use Rattle.desk_world.specs.Agreement.{IsReplyAt}
use Rattle.desk_epoch_keepers.specs.Agreement.{HistoryRowsAreReplies, ReadHistoryRepliesAgree}
use Rattle.desk_epoch_keepers.proofs.AgreeingLogs.{AgreeAndRise, replies_same}
use Rattle.desk_epoch_keepers.proofs.Published.{two_published}

-- the reply of an entry at its place
reply_here : List ℕ → List Entry → ℕ → Entry → Reply
reply_here domain log place e = (execute (board_before domain log place) place e).1

made_row : (domain : List ℕ) (log : List Entry) (client place : ℕ) (r : Row) (e : Entry) →
    entry_at log place ≡ Some e → e.client ≡ client → row_at domain log place ≡ Some r →
    IsReplyAt domain log client r.number r.place r.reply
unfolding reply_here
made_row domain log client place r e there is made =
    let mine : row_at domain log place ≡ Some (row_for (request_at place e) (reply_here domain log place e)) =
    rw there refl in
    let same : row_for (request_at place e) (reply_here domain log place e) ≡ r =
    same_Some _ r (sym mine ∙ made) in
    let reply : reply_at domain log place ≡ Some (reply_here domain log place e) = rw there refl in
    subst (λ (x : Row). IsReplyAt domain log client x.number x.place x.reply) same
    (record { entry = e; stands = there; client_is = is; number_is = refl; reply_is = reply })

row_reply : (domain : List ℕ) (log : List Entry) (client : ℕ) (r : Row) → row domain client log ≡ Some r →
    IsReplyAt domain log client r.number r.place r.reply
row_reply domain log client r made = by_latest (latest client log) refl made
  where
    by_latest : (o : Option ℕ) → latest client log ≡ o → row_at_latest domain log o ≡ Some r →
        IsReplyAt domain log client r.number r.place r.reply
    by_latest None is none = absurd (none-some r none)
    by_latest (Some place) is some =
        let last = latest_is_last client log place is in
        made_row domain log client place r last.entry last.there last.client_is some

pub read_reply : (domain : List ℕ) (log : List Entry) (client : ℕ) (r : Row) →
    row_of client (board_of domain log) ≡ Some r → IsReplyAt domain log client r.number r.place r.reply
read_reply domain log client r read = row_reply domain log client r (sym (rows_are_latest domain log client) ∙ read)

-- Two rows that are read of two logs that agree, and are of one number, are of one place, with one reply.
pub read_same : (domain : List ℕ) (one other : List Entry) → AgreeAndRise one other → (client : ℕ) (r t : Row) →
    row_of client (board_of domain one) ≡ Some r → row_of client (board_of domain other) ≡ Some t →
    r.number ≡ t.number → (r.place ≡ t.place) × (r.reply ≡ t.reply)
read_same domain one other two client r t a b number =
    replies_same domain one other two client r.number r.place t.place r.reply t.reply
    (read_reply domain one client r a)
    (subst (λ (k : ℕ). IsReplyAt domain other client k t.place t.reply) (sym number)
    (read_reply domain other client t b))

pub rows_are_replies : {T S : Type 0} (may_hold : T → ℕ → SavedValue → Type 0) (h : Ghosts S) →
    HistoryRowsAreReplies may_hold h
rows_are_replies may_hold h domain n most acts start k i list size is l p = read_reply domain list

pub read_replies_agree : {T S : Type 0} (may_hold : T → ℕ → SavedValue → Type 0) (h : Ghosts S) →
    ReadHistoryRepliesAgree may_hold h
read_replies_agree may_hold h domain n most first more start early late i j one other size is l m p q =
    read_same domain one other
    (two_published may_hold h domain n most first more start early late i j one other size is l m p q)
