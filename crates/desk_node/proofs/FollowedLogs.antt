-- Boards of the first entries of a log, and the replies in them.
use Rattle.std.proofs.Common.{◌≡◌, ◌≤◌, ℕ, zero, suc, List, [], ◌∷◌, ◌++◌, length, take, drop, Option, Some, None}
use Rattle.std.proofs.Common.{arith, refl, sym, ap, ◌∙◌, subst}
use Rattle.std.proofs.lemmas.List.{length-take-le, take-append-drop}
use Rattle.std.proofs.lemmas.Option.{same_Some}
use Rattle.desk_types.specs.declared.command.Entry.{Entry}
use Rattle.desk_log.specs.Entries.{entry_at, latest, IsLogPrefix}
use Rattle.desk_log.specs.Laws.{IsLatest}
use Rattle.desk_log.specs.NeverFalls.{NeverFalls}
use Rattle.desk_log.specs.SavedValue.{SavedValue}
use Rattle.desk_log.proofs.Latest.{latest_is_last, latest_is_none}
use Rattle.desk_log.proofs.Places.{entry_at-append, entry_at_within}
use Rattle.desk_log.proofs.Prefixes.{prefix_take, prefix_refl, length-prefix, take_take-prefix}
use Rattle.desk_board.specs.BoardValue.{BoardValue}
use Rattle.desk_board.specs.Execute.{row_of}
use Rattle.desk_board.specs.Log.{board_of}
use Rattle.desk_board.specs.PrefixBoard.{IsPrefixBoard}
use Rattle.desk_board.proofs.LogBoards.{board_before-append}
use Rattle.desk_board.proofs.LogRows.{rows_are_latest}
use Rattle.desk_node.specs.Answers.{IsCommittedLatest, answer_at}
use Rattle.desk_node.specs.PrefixBoard.{FollowsLog, row_answer}

-- as many first entries of a prefix, which is long enough, as of the log
take_prefix : (xs ys : List Entry) (k : ℕ) → IsLogPrefix xs ys → k ≤ length xs → take k xs ≡ take k ys
take_prefix xs ys zero h l = refl
take_prefix [] ys (suc k) h l = absurd (omega (arith, l))
take_prefix (x ∷ xs) [] (suc k) h l = absurd h
take_prefix (x ∷ xs) (y ∷ ys) (suc k) h l =
    ap (λ e. e ∷ take k xs) h.0 ∙ ap (λ es. y ∷ es) (take_prefix xs ys k h.1 (omega (arith, l)))

prefix_board : (domain : List ℕ) (b : BoardValue) (xs ys : List Entry) → IsLogPrefix xs ys → IsPrefixBoard domain b xs →
    IsPrefixBoard domain b ys
prefix_board domain b xs ys h f = record {
  domain_is = f.domain_is;
  within = omega (arith, f.within, length-prefix xs ys h);
  board_is = f.board_is ∙ ap (board_of domain) (take_prefix xs ys b.count h f.within);
}

-- A board that follows a prefix follows the log.
pub follows_prefix : (domain : List ℕ) (o : Option BoardValue) (xs ys : List Entry) → IsLogPrefix xs ys →
    FollowsLog domain o xs → FollowsLog domain o ys
follows_prefix domain None xs ys h f = tt
follows_prefix domain (Some b) xs ys h f = prefix_board domain b xs ys h f

pub follows_none : (domain : List ℕ) (o : Option BoardValue) (log : List Entry) → o ≡ None → FollowsLog domain o log
follows_none domain o log e = subst (λ (x : Option BoardValue). FollowsLog domain x log) (sym e) tt

pub follows_whole : (domain : List ℕ) (o : Option BoardValue) (k : ℕ) (xs : List Entry) →
    FollowsLog domain o (take k xs) → FollowsLog domain o xs
follows_whole domain o k xs f = follows_prefix domain o (take k xs) xs (prefix_take k xs) f

pub follows_more : (domain : List ℕ) (o : Option BoardValue) (j k : ℕ) (xs : List Entry) → j ≤ k →
    FollowsLog domain o (take j xs) → FollowsLog domain o (take k xs)
follows_more domain o j k xs l f =
    follows_prefix domain o (take j xs) (take k xs) (take_take-prefix j k xs xs l (prefix_refl xs)) f

-- A board that follows the committed entries does so after a step that undoes nothing.
pub follows_preserved : (domain : List ℕ) (o : Option BoardValue) (s t : SavedValue) → NeverFalls s t →
    FollowsLog domain o (take s.commit s.log) → FollowsLog domain o (take t.commit t.log)
follows_preserved domain o s t k f =
    follows_prefix domain o (take s.commit s.log) (take t.commit t.log) k.committed f

-- A board that has executed so many entries of a log follows these.
pub follows_first : (domain : List ℕ) (b : BoardValue) (k : ℕ) (xs : List Entry) → b.count ≡ k →
    IsPrefixBoard domain b xs → IsPrefixBoard domain b (take k xs)
follows_first domain b k xs e f =
    let within : k ≤ length xs = omega (arith, e, f.within) in
    let count : length (take k xs) ≡ k = length-take-le k xs within in
    record {
      domain_is = f.domain_is;
      within = omega (arith, e, count);
      board_is = f.board_is
          ∙ ap (board_of domain)
          (sym (take_prefix (take k xs) xs b.count (prefix_take k xs) (omega (arith, e, count))));
    }

-- a client's latest place among the first entries

entry_at_prefix : (xs ys : List Entry) (place : ℕ) (e : Entry) → place ≤ length xs →
    entry_at (xs ++ ys) place ≡ Some e → entry_at xs place ≡ Some e
entry_at_prefix xs ys zero e within h = h
entry_at_prefix [] ys (suc k) e within h = absurd (omega (arith, within))
entry_at_prefix (x ∷ xs) ys (suc zero) e within h = h
entry_at_prefix (x ∷ xs) ys (suc (suc k)) e within h = entry_at_prefix xs ys (suc k) e (omega (arith, within)) h

latest_prefix_case : (client : ℕ) (xs ys : List Entry) (place : ℕ) → IsLatest client (xs ++ ys) place →
    place ≤ length xs → (o : Option ℕ) → latest client xs ≡ o → o ≡ Some place
latest_prefix_case client xs ys place h within None q =
    absurd (latest_is_none client xs q place h.entry (entry_at_prefix xs ys place h.entry within h.there) h.client_is)
latest_prefix_case client xs ys place h within (Some p) q =
    let l : IsLatest client xs p = latest_is_last client xs p q in
    let low : place ≤ p = l.last place h.entry (entry_at_prefix xs ys place h.entry within h.there) h.client_is in
    let high : p ≤ place = h.last p l.entry (entry_at-append xs ys p l.entry l.there) l.client_is in
    let same : p ≡ place = omega (arith, low, high) in
    ap Some same

latest_prefix : (client : ℕ) (xs ys : List Entry) (place : ℕ) → latest client (xs ++ ys) ≡ Some place →
    place ≤ length xs → latest client xs ≡ Some place
latest_prefix client xs ys place h within =
    latest_prefix_case client xs ys place (latest_is_last client (xs ++ ys) place h) within (latest client xs) refl

-- The row of the client tells the answer to its latest entry.
row_answer_parts : (domain : List ℕ) (client : ℕ) (xs ys : List Entry) (place : ℕ) →
    latest client (xs ++ ys) ≡ Some place → place ≤ length xs →
    row_answer client (row_of client (board_of domain xs)) ≡ answer_at domain (xs ++ ys) place
row_answer_parts domain client xs ys place h within =
    let there : latest client xs ≡ Some place = latest_prefix client xs ys place h within in
    let l : IsLatest client xs place = latest_is_last client xs place there in
    let low : (1 ≤ place) × (place ≤ length xs) = entry_at_within xs place l.entry l.there in
    rw (
      rows_are_latest domain xs client,
      there,
      l.there,
      entry_at-append xs ys place l.entry l.there,
      board_before-append domain xs ys place (omega (arith, low.1)),
      l.client_is,
    ) refl

pub row_answer_is : (domain : List ℕ) (client : ℕ) (log : List Entry) (place commit : ℕ) →
    latest client log ≡ Some place → place ≤ commit → commit ≤ length log →
    row_answer client (row_of client (board_of domain (take commit log))) ≡ answer_at domain log place
row_answer_is domain client log place commit h le within =
    let whole : take commit log ++ drop commit log ≡ log = take-append-drop commit log in
    let count : length (take commit log) ≡ commit = length-take-le commit log within in
    subst (λ (l : List Entry). row_answer client (row_of client (board_of domain (take commit log))) ≡ answer_at
    domain l place) whole
    (row_answer_parts domain client (take commit log) (drop commit log) place (ap (latest client) whole ∙ h)
    (omega (arith, count, le)))

-- At the place of a client's latest entry there is one of the client.
latest_within : (log : List Entry) (commit place : ℕ) → IsCommittedLatest log commit place →
    (1 ≤ place) × (place ≤ length log)
latest_within log commit place h =
    let l : IsLatest h.client log place = latest_is_last h.client log place h.latest_is in
    entry_at_within log place l.entry l.there

pub latest_least : (log : List Entry) (commit place : ℕ) → IsCommittedLatest log commit place → 1 ≤ place
latest_least log commit place h = (latest_within log commit place h).0

pub latest_most : (log : List Entry) (commit place : ℕ) → IsCommittedLatest log commit place → place ≤ length log
latest_most log commit place h = (latest_within log commit place h).1

-- The row of the client of the entry at the place tells the answer to it.
pub repeated : (domain : List ℕ) (log : List Entry) (commit place : ℕ) (e : Entry) →
    IsCommittedLatest log commit place → commit ≤ length log → entry_at log place ≡ Some e →
    row_answer e.client (row_of e.client (board_of domain (take commit log))) ≡ answer_at domain log place
repeated domain log commit place e h within there =
    let l : IsLatest h.client log place = latest_is_last h.client log place h.latest_is in
    let client : e.client ≡ h.client =
    ap (λ (x : Entry). x.client) (same_Some e l.entry (sym there ∙ l.there)) ∙ l.client_is in
    row_answer_is domain e.client log place commit (ap (λ c. latest c log) client ∙ h.latest_is) h.within within
