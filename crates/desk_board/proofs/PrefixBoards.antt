-- Boards of the first entries of a log.
use Rattle.std.proofs.Common.{◌≡◌, ◌≤◌, ◌<◌, ◌+◌, ℕ, zero, suc, List, [], ◌∷◌, ◌++◌, length, take, Result, Ok, Err}
use Rattle.std.proofs.Common.{IfOk, OnOk, OnErr, Some, arith, refl, sym, ap, ◌∙◌}
use Rattle.std.specs.List.{slice_get}
use Rattle.std.proofs.lemmas.List.{length-take-le, take-append-le, length_push}
use Rattle.std.proofs.lemmas.Option.{none-some, same_Some}
use Rattle.desk_types.specs.declared.command.Entry.{Entry}
use Rattle.desk_types.specs.declared.reply.Reply.{Reply}
use Rattle.desk_log.specs.Entries.{entry_at}
use Rattle.desk_board.specs.BoardValue.{BoardValue, empty_board}
use Rattle.desk_board.specs.Execute.{execute}
use Rattle.desk_board.specs.Log.{board_of}
use Rattle.desk_board.specs.PrefixBoard.{IsPrefixBoard}
use Rattle.desk_board.proofs.LogBoards.{execute-domain, execute-count, board_of-push}

-- the board that has executed nothing
pub IsPrefixBoard-empty : (domain : List ℕ) (log : List Entry) → IsPrefixBoard domain (empty_board domain) log
IsPrefixBoard-empty domain log = record { domain_is = refl; within = omega arith; board_is = refl }

-- a longer log begins with the same entries
pub IsPrefixBoard-push : (domain : List ℕ) (board : BoardValue) (log : List Entry) (e : Entry) →
    IsPrefixBoard domain board log → IsPrefixBoard domain board (log ++ e ∷ [])
IsPrefixBoard-push domain board log e f = record {
  domain_is = f.domain_is;
  within = omega (arith, f.within, length_push log e);
  board_is = rw (take-append-le board.count log (e ∷ []) f.within) f.board_is;
}

-- the next entry executed

take_next : (log : List Entry) (k : ℕ) (e : Entry) → slice_get log k ≡ Some e → take (suc k) log ≡ take k log ++ e ∷ []
take_next [] k e h = absurd (none-some e h)
take_next (x ∷ xs) zero e h = ap (λ y. y ∷ []) (same_Some _ _ h)
take_next (x ∷ xs) (suc k) e h = ap (λ ys. x ∷ ys) (take_next xs k e h)

take_at : (log : List Entry) (k : ℕ) (e : Entry) → entry_at log (k + 1) ≡ Some e →
    take (k + 1) log ≡ take k log ++ e ∷ []
take_at log k e h =
    let n : k + 1 ≡ suc k = omega arith in
    rw n (take_next log k e (rw n at h))

next_board : (domain : List ℕ) (log : List Entry) (e : Entry) (k : ℕ) → k ≤ length log → entry_at log (k + 1) ≡ Some e →
    board_of domain (take (k + 1) log) ≡ (execute (board_of domain (take k log)) (k + 1) e).0
next_board domain log e k within h =
    rw (take_at log k e h, board_of-push domain (take k log) e, length-take-le k log within) refl

next_prefix : (domain : List ℕ) (board : BoardValue) (log : List Entry) (e : Entry) → IsPrefixBoard domain board log →
    board.count < length log → entry_at log (board.count + 1) ≡ Some e →
    IsPrefixBoard domain (execute board (board.count + 1) e).0 log
next_prefix domain board log e f more h =
    let count : (execute board (board.count + 1) e).0.count ≡ board.count + 1 =
    execute-count board (board.count + 1) e in
    record {
      domain_is = execute-domain board (board.count + 1) e ∙ f.domain_is;
      within = omega (arith, count, more);
      board_is = ap (λ b. (execute b (board.count + 1) e).0) f.board_is
          ∙ (sym (next_board domain log e board.count f.within h) ∙ ap (λ n. board_of domain (take n log)) (sym count));
    }

-- a call that executes an entry, or that wants memory
pub apply-count : {E : Type 0} (old new : BoardValue) (e : Entry) (place : ℕ) → place ≡ old.count + 1 →
    (r : Result Reply E) → IfOk r (λ reply. (new, reply) ≡ execute old place e) → OnOk r (new.count ≡ old.count + 1)
apply-count old new e place next (Ok reply) step =
    ap (λ (s : BoardValue × Reply). s.0.count) step ∙ (execute-count old place e ∙ next)
apply-count old new e place next (Err x) step = tt

-- the same, where that is the next entry of a log
pub apply-prefix : {E : Type 0} (domain : List ℕ) (old new : BoardValue) (log : List Entry) (e : Entry) (place : ℕ) →
    place ≡ old.count + 1 → entry_at log place ≡ Some e → IsPrefixBoard domain old log → old.count < length log →
    (r : Result Reply E) → IfOk r (λ reply. (new, reply) ≡ execute old place e) → OnErr r (new ≡ old) →
    IsPrefixBoard domain new log
apply-prefix domain old new log e place next there f more (Ok reply) step same =
    let is : new ≡ (execute old (old.count + 1) e).0 =
    ap (λ (s : BoardValue × Reply). s.0) step ∙ ap (λ p. (execute old p e).0) next in
    rw is (next_prefix domain old log e f more (ap (entry_at log) (sym next) ∙ there))
apply-prefix domain old new log e place next there f more (Err x) step same = rw same f
