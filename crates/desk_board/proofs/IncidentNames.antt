-- Names of incidents in the boards of all logs.
use Rattle.std.proofs.Common.{◌≡◌, ◌+◌, ℕ, List, [], ◌∷◌, ◌++◌, length, map, Option, Some, None, refl, sym, ap, ◌∙◌}
use Rattle.std.proofs.Common.{append-nil}
use Rattle.std.specs.List.{All}
use Rattle.std.proofs.lemmas.List.Elements.{All-nil, All-cons, All-weaker, All-append}
use Rattle.std.proofs.lemmas.List.{append_assoc, map-append}
use Rattle.desk_types.specs.declared.command.Command.{Command}
use Rattle.desk_types.specs.declared.command.Command.TheVariants.{Open, AddCall, Link, Unlink, Merge, Split, Clear}
use Rattle.desk_types.specs.declared.command.Command.TheVariants.{Reopen, Note, SignOn, SignOff, Assign, SetStatus}
use Rattle.desk_types.specs.declared.command.Command.TheVariants.{Release, StandBy, StandDown, Replace}
use Rattle.desk_types.specs.declared.command.Entry.{Entry}
use Rattle.desk_types.specs.declared.refusal.Refusal.{Refusal}
use Rattle.desk_types.specs.declared.reply.Reply.{Reply}
use Rattle.desk_types.specs.declared.reply.Reply.TheVariants as replies
use Rattle.desk_types.specs.declared.reply.Word.{Word}
use Rattle.desk_types.specs.declared.reply.Word.TheVariants as words
use Rattle.desk_types.specs.declared.show.IncidentState.TheVariants as states
use Rattle.desk_incidents.specs.declared.incident.Incident.{Incident}
use Rattle.desk_board.specs.BoardValue.{BoardValue}
use Rattle.desk_types.specs.Lists.{update_first}
use Rattle.desk_incidents.specs.Checks.{has_id, in_state, with_note}
use Rattle.desk_board.specs.Execute.{refusal, effect, done, reply_of, step_of, execute}
use Rattle.desk_board.specs.Log.{board_of}
use Rattle.desk_board.specs.Laws.{number_and_id, names, NamesStay, IsNamedAt, NumbersArePlaces}
use Rattle.desk_board.proofs.ChangedLists.{map-update_first, by_growth}
use Rattle.desk_board.proofs.LogBoards.{board_of-push}
use Rattle.desk_board.proofs.LogRows.{reply_at-append, reply_at-last}

-- The reply at a place names the incident that opened there.
abbrev IsGivenBy : ℕ → Reply → ℕ × List ℕ → Type 0
IsGivenBy place reply n = (n.0 ≡ place) × ((word : Word) × (reply ≡ replies.Done place word (Some n.1)))

-- what an entry adds to the names: none, or that of the incident which it opened
record AddsNames (board : BoardValue) (place : ℕ) (after : BoardValue) (reply : Reply) : Type 0 where
  pub new : List (ℕ × List ℕ)
  pub is : names after ≡ names board ++ new
  pub given : All (IsGivenBy place reply) new

no_names : (board after : BoardValue) (place : ℕ) (reply : Reply) → names after ≡ names board →
    AddsNames board place after reply
no_names board after place reply e = record {
  new = [];
  is = e ∙ sym (append-nil (names board));
  given = All-nil (IsGivenBy place reply);
}

one_name : (board after : BoardValue) (place : ℕ) (word : Word) (id : List ℕ) (i : Incident) → i.number ≡ place →
    i.id ≡ id → after.incidents ≡ board.incidents ++ i ∷ [] →
    AddsNames board place after (replies.Done place word (Some id))
one_name board after place word id i n e a = record {
  new = (place, id) ∷ [];
  is = rw (a, map-append number_and_id board.incidents (i ∷ []), n, e) refl;
  given = All-cons (IsGivenBy place (replies.Done place word (Some id))) (place, id) [] (refl, (word, refl))
      (All-nil (IsGivenBy place (replies.Done place word (Some id))));
}

changed_names : (incidents : List Incident) (id : List ℕ) (f : Incident → Incident) →
    ((i : Incident) → (f i).number ≡ i.number) → ((i : Incident) → (f i).id ≡ i.id) →
    map number_and_id (update_first (has_id id) f incidents) ≡ map number_and_id incidents
changed_names incidents id f n e = map-update_first number_and_id (has_id id) f (λ i. rw (n i, e i) refl) incidents

effect-names : (board : BoardValue) (place : ℕ) (c : Command) → AddsNames board place (effect place board c)
    (reply_of place (done place board c))
unfolding effect done
effect-names board place (Open at kind site incident call) = one_name board _ place words.Opened _ _ refl refl refl
effect-names board place (AddCall at incident call) = no_names board _ place _ refl
effect-names board place (Link at incident other) = no_names board _ place _ refl
effect-names board place (Unlink at incident other) = no_names board _ place _ refl
effect-names board place (Merge at incident into) =
    no_names board _ place _ (changed_names board.incidents incident (in_state (states.Merged into)) (λ i. refl)
    (λ i. refl))
effect-names board place (Split at incident call kind site) = one_name board _ place words.Split _ _ refl refl refl
effect-names board place (Clear at incident) =
    no_names board _ place _ (changed_names board.incidents incident (in_state states.Cleared) (λ i. refl) (λ i. refl))
effect-names board place (Reopen at incident) =
    no_names board _ place _ (changed_names board.incidents incident (in_state states.Open) (λ i. refl) (λ i. refl))
effect-names board place (Note at incident text) =
    no_names board _ place _ (changed_names board.incidents incident (with_note text) (λ i. refl) (λ i. refl))
effect-names board place (SignOn at unit) = no_names board _ place _ refl
effect-names board place (SignOff at unit) = no_names board _ place _ refl
effect-names board place (Assign at unit incident) = no_names board _ place _ refl
effect-names board place (SetStatus at unit status) = no_names board _ place _ refl
effect-names board place (Release at unit) = no_names board _ place _ refl
effect-names board place (StandBy at unit incident) = no_names board _ place _ refl
effect-names board place (StandDown at unit) = no_names board _ place _ refl
effect-names board place (Replace at node token) = no_names board _ place _ refl

step_of-names : (board : BoardValue) (place : ℕ) (c : Command) (o : Option Refusal) →
    AddsNames board place (step_of place board c o).0 (step_of place board c o).1
step_of-names board place c None = effect-names board place c
step_of-names board place c (Some r) = no_names board board place (replies.Refused place r) refl

execute-names : (board : BoardValue) (place : ℕ) (e : Entry) →
    AddsNames board place (execute board place e).0 (execute board place e).1
unfolding execute
execute-names board place e =
    let a : AddsNames board place (step_of place board e.command (refusal board e.command)).0
    (step_of place board e.command (refusal board e.command)).1 =
    step_of-names board place e.command (refusal board e.command) in
    record { new = a.new; is = a.is; given = a.given }

pub names_stay : NamesStay
names_stay domain log more =
    by_growth (λ l. (rest : List (ℕ × List ℕ)) × (names (board_of domain l) ≡ names (board_of domain log) ++ rest))
    log more
    ([], sym (append-nil (names (board_of domain log))))
    (λ l e h.
    let one : AddsNames (board_of domain l) (length l + 1) (execute (board_of domain l) (length l + 1) e).0
    (execute (board_of domain l) (length l + 1) e).1 =
    execute-names (board_of domain l) (length l + 1) e in (
      h.0 ++ one.new,
      ap names (board_of-push domain l e) ∙
          (one.is ∙ (ap (λ ns. ns ++ one.new) h.1 ∙ append_assoc (names (board_of domain log)) h.0 one.new)),
    ))

named_now : (domain : List ℕ) (log : List Entry) (e : Entry) (n : ℕ × List ℕ) →
    (n.0 ≡ length log + 1) × ((word :
    Word) × ((execute (board_of domain log) (length log + 1) e).1 ≡ replies.Done (length log + 1) word (Some n.1))) →
    IsNamedAt domain (log ++ e ∷ []) n
named_now domain log e n h = (h.1.0, rw (h.0, reply_at-last domain log e, h.1.1) refl)

pub numbers_are_places : NumbersArePlaces
numbers_are_places domain log =
    by_growth (λ l. All (IsNamedAt domain l) (names (board_of domain l))) [] log (All-nil (IsNamedAt domain []))
    (λ l e h.
    let one : AddsNames (board_of domain l) (length l + 1) (execute (board_of domain l) (length l + 1) e).0
    (execute (board_of domain l) (length l + 1) e).1 =
    execute-names (board_of domain l) (length l + 1) e in
    rw (board_of-push domain l e, one.is) (All-append (IsNamedAt domain (l ++ e ∷ [])) (names (board_of domain l))
    one.new
    (All-weaker (IsNamedAt domain l) (IsNamedAt domain (l ++ e ∷ []))
    (λ n k. (k.0, reply_at-append domain l (e ∷ []) n.0 (replies.Done n.0 k.0 (Some n.1)) k.1))
    (names (board_of domain l)) h)
    (All-weaker (IsGivenBy (length l + 1) (execute (board_of domain l) (length l + 1) e).1)
    (IsNamedAt domain (l ++ e ∷ [])) (λ n k. named_now domain l e n k) one.new one.given)))
