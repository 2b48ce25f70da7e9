-- Lines of events, and of counts of those that got none.
use Rattle.std.proofs.Common.{◌≡◌, ◌⊎◌, ℕ, Bool, true, List, [], ◌∷◌, ◌++◌, Option, IfOk, OnOk, Result, Ok, Err}
use Rattle.std.proofs.Common.{Vec, Global, inl, inr, refl, sym, ap, subst, append-nil, append_assoc, ◌∙◌}
use Rattle.std.proofs.KnownBytes.{Appends-trans}
use Rattle.std.proofs.lemmas.Result.{on_ok_weaker}
use Rattle.std.specs.Prelude.{MatchResult}
use Rattle.std.specs.Io.KnownBytes.{Appends}
use Rattle.desk_events.specs.Lines.{event_line, suppressed_line}
use Rattle.desk_events.specs.Written.{HasAnnouncedCounts, HasAnnouncedEvent, count_lines}
use Rattle.desk_events.specs.declared.event.Event.{Event}

-- a count was written, or there was no memory for its line
pub one_count : {E T F : Type 0} (time node count : ℕ) (a b : Option (List ℕ)) (line : Result (Vec ℕ Global) E)
    (r : Result T F) → IfOk line (λ l. l.items ≡ suppressed_line time node count) →
    OnOk r (MatchResult line (λ l. Appends a b l.items) (λ _. Appends a b [])) →
    OnOk r (HasAnnouncedCounts time node a b)
one_count time node count a b (Ok line) r is = on_ok_weaker r (λ wrote.
    (count ∷ [], subst (Appends a b) (is ∙ sym (append-nil (suppressed_line time node count))) wrote))
one_count time node count a b (Err e) r is = on_ok_weaker r (λ wrote. ([], wrote))

both : (time node : ℕ) (counts more : List ℕ) →
    count_lines time node counts ++ count_lines time node more ≡ count_lines time node (counts ++ more)
both time node [] more = refl
both time node (count ∷ counts) more =
    append_assoc (suppressed_line time node count) (count_lines time node counts) (count_lines time node more)
    ∙ ap (λ rest. suppressed_line time node count ++ rest) (both time node counts more)

-- counts were told after counts
pub more_counts : (time node : ℕ) (a b c : Option (List ℕ)) → HasAnnouncedCounts time node a b →
    HasAnnouncedCounts time node b c → HasAnnouncedCounts time node a c
more_counts time node a b c h k = (
  h.0 ++ k.0,
  subst (Appends a c) (both time node h.0 k.0)
      (Appends-trans a b c (count_lines time node h.0) (count_lines time node k.0) h.1 k.1),
)

-- an event was told after counts, or there was no memory for its line
pub event_announced : {E T F : Type 0} (time node is : ℕ) (event : Event) (gets : Bool) (a b c : Option (List ℕ))
    (line : Result (Vec ℕ Global) E) (r : Result T F) → gets ≡ true → is ≡ node → HasAnnouncedCounts time node a b →
    IfOk line (λ l. l.items ≡ event_line time is event) →
    OnOk r (MatchResult line (λ l. Appends b c l.items) (λ _. Appends b c [])) →
    OnOk r (HasAnnouncedEvent time node event gets a c)
event_announced time node is event gets a b c (Ok line) r may same h text = on_ok_weaker r (λ wrote.
    inr (
      may,
      h.0,
      Appends-trans a b c (count_lines time node h.0) (event_line time node event) h.1
          (subst (Appends b c) (text ∙ ap (λ n. event_line time n event) same) wrote),
    ))
event_announced time node is event gets a b c (Err e) r may same h text = on_ok_weaker r (λ wrote.
    inl (more_counts time node a b c h ([], wrote)))
