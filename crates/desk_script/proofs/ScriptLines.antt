-- The events of a script, line by line.
use Rattle.std.proofs.Common.{◌≡◌, ℕ, ◌+◌, List, [], ◌∷◌, ◌++◌, length, Bool, true, false, not, eqb, Option, None}
use Rattle.std.proofs.Common.{Some, refl, sym, ap, ◌∙◌, append_assoc, append-nil, arith}
use Rattle.std.specs.List.{cons_option, position_from}
use Rattle.std.proofs.lemmas.Bool.{eqb-true}
use Rattle.desk_world.specs.declared.world_event.WorldEvent.{WorldEvent}
use Rattle.desk_lines.specs.Lines.{lines_of}
use Rattle.desk_script.specs.Script.{event_of, is_no_event, first_no_event, events_of}

-- Where a reading stands that took the lines before a number: the events so far, and what is left of the script.
pub record HasRead (script : List ℕ) (events : List WorldEvent) (number : ℕ) (rest : List ℕ) : Type 0 where
  pub events_are : events_of (lines_of script) ≡ events ++ events_of (lines_of rest)
  pub first_is : first_no_event (lines_of script) ≡ position_from is_no_event number (lines_of rest)

not_true : (b : Bool) → not b ≡ true → b ≡ false
not_true false e = refl
not_true true e = sym e

not_false : (b : Bool) → not b ≡ false → b ≡ true
not_false false e = sym e
not_false true e = refl

event_first : (event : Option WorldEvent) (events more : List WorldEvent) →
    events ++ cons_option event more ≡ (events ++ cons_option event []) ++ more
event_first None events more = sym (ap (λ t. t ++ more) (append-nil events))
event_first (Some e) events more = sym (append_assoc events (e ∷ []) more)

pub nothing_read : (script : List ℕ) → HasRead script [] 1 script
nothing_read script = record { events_are = refl; first_is = refl }

pub line_read : (script : List ℕ) (events after : List WorldEvent) (number : ℕ) (rest line beyond : List ℕ) →
    HasRead script events number rest → lines_of rest ≡ line ∷ lines_of beyond → is_no_event line ≡ false →
    after ≡ events ++ events_of (line ∷ []) → HasRead script after (number + 1) beyond
line_read script events after number rest line beyond h cut taken after_is = record {
  events_are = h.events_are ∙ rw (cut, after_is) (event_first (event_of line) events (events_of (lines_of beyond)));
  first_is = h.first_is ∙ rw (cut, taken) refl;
}

pub no_event_read : (script : List ℕ) (events : List WorldEvent) (number : ℕ) (rest line beyond : List ℕ) →
    HasRead script events number rest → lines_of rest ≡ line ∷ lines_of beyond → is_no_event line ≡ true →
    first_no_event (lines_of script) ≡ Some number
no_event_read script events number rest line beyond h cut other = h.first_is ∙ rw (cut, other) refl

pub all_events : (script : List ℕ) (events : List WorldEvent) (number : ℕ) → HasRead script events number [] →
    events ≡ events_of (lines_of script)
all_events script events number h = sym (h.events_are ∙ append-nil events)

pub none_other : (script : List ℕ) (events : List WorldEvent) (number : ℕ) → HasRead script events number [] →
    first_no_event (lines_of script) ≡ None
none_other script events number h = h.first_is

pub was_taken : (line : List ℕ) {taken : Bool} → taken ≡ not (is_no_event line) → taken ≡ true →
    is_no_event line ≡ false
was_taken line {taken} is reported = not_true (is_no_event line) (sym is ∙ reported)

pub was_not_taken : (line : List ℕ) {taken : Bool} → taken ≡ not (is_no_event line) → taken ≡ false →
    is_no_event line ≡ true
was_not_taken line {taken} is reported = not_false (is_no_event line) (sym is ∙ reported)

-- an empty list of bytes
pub nothing_left : (rest : List ℕ) {is_empty : Bool} → is_empty ≡ eqb (length rest) 0 → is_empty ≡ true → rest ≡ []
nothing_left [] is reported = refl
nothing_left (x ∷ xs) is reported = let zero : length (x ∷ xs) ≡ 0 = eqb-true (length (x ∷ xs)) 0 (sym is ∙ reported) in
    absurd (omega (arith, zero))
