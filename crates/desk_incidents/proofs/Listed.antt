-- Incidents whose numbers have lists, and calls that are new.
use Rattle.std.proofs.Common.{◌≡◌, ◌∙◌, ◌++◌, ◌∷◌, ℕ, List, [], Bool, true, false, Option, Some, None, All, cond}
use Rattle.std.proofs.Common.{is_some}
use Rattle.std.proofs.Common.{refl, sym, ap, subst}
use Rattle.std.specs.List.{find, list_any}
use Rattle.std.specs.Option.{option_to_list, option_map_or}
use Rattle.std.proofs.lemmas.List.Elements.{All-nil, All-cons, All-head, All-tail, All-append}
use Rattle.std.proofs.lemmas.Bool.{true≢false}
use Rattle.std.proofs.lemmas.Option.{none-some}
use Rattle.desk_types.specs.Checks.{◌or_else◌, when}
use Rattle.desk_types.specs.Lists.{update_first}
use Rattle.desk_types.specs.declared.refusal.Refusal.{Refusal}
use Rattle.desk_incidents.specs.declared.incident.HasCall.{HasCall}
use Rattle.desk_incidents.specs.declared.incident.Incident.{Incident}
use Rattle.desk_incidents.specs.CallTable.{AreListed}
use Rattle.desk_index.specs.Places.{is_listed}
use Rattle.desk_incidents.specs.Calls.{is_call, call_refusal, new_calls}
use Rattle.desk_incidents.specs.Checks.{has_id, incident_of, number_of, not_open_refusal}

-- numbers that keep their lists
pub AreListed-preserved : (old new : List ℕ) → ((n : ℕ) → is_listed n old ≡ true → is_listed n new ≡ true) →
    (is : List Incident) →
    AreListed old is → AreListed new is
AreListed-preserved old new w [] a = All-nil (λ (i : Incident). is_listed i.number new ≡ true)
AreListed-preserved old new w (i ∷ is) a =
    All-cons (λ (j : Incident). is_listed j.number new ≡ true) i is
    (w i.number (All-head (λ (j : Incident). is_listed j.number old ≡ true) i is a))
    (AreListed-preserved old new w is (All-tail (λ (j : Incident). is_listed j.number old ≡ true) i is a))

-- one incident more
pub AreListed-push : (listed : List ℕ) (is : List Incident) (i : Incident) → AreListed listed is →
    is_listed i.number listed ≡ true → AreListed listed (is ++ i ∷ [])
AreListed-push listed is i a h =
    All-append (λ (j : Incident). is_listed j.number listed ≡ true) is (i ∷ []) a
    (All-cons (λ (j : Incident). is_listed j.number listed ≡ true) i [] h
    (All-nil (λ (j : Incident). is_listed j.number listed ≡ true)))

All-either : (P : Incident → Type 0) (t : Bool) (xs ys : List Incident) → All P xs → All P ys → All P (cond t xs ys)
All-either P true xs ys a b = a
All-either P false xs ys a b = b

-- a change that leaves the number
pub AreListed-changed : (listed : List ℕ) (p : Incident → Bool) (f : Incident → Incident) →
    ((i : Incident) → (f i).number ≡ i.number) → (is : List Incident) → AreListed listed is →
    AreListed listed (update_first p f is)
AreListed-changed listed p f w [] a = a
AreListed-changed listed p f w (i ∷ is) a =
    let head : is_listed i.number listed ≡ true =
    All-head (λ (j : Incident). is_listed j.number listed ≡ true) i is a in
    let tail : AreListed listed is = All-tail (λ (j : Incident). is_listed j.number listed ≡ true) i is a in
    All-either (λ (j : Incident). is_listed j.number listed ≡ true) (p i) (f i ∷ is) (i ∷ update_first p f is)
    (All-cons (λ (j : Incident). is_listed j.number listed ≡ true) (f i) is
    (ap (λ n. is_listed n listed) (w i) ∙ head) tail)
    (All-cons (λ (j : Incident). is_listed j.number listed ≡ true) i (update_first p f is) head
    (AreListed-changed listed p f w is tail))

find_step : (listed : List ℕ) (t : Bool) (i : Incident) (r : Option Incident) → is_listed i.number listed ≡ true →
    (is_some r ≡ true → is_listed (option_map_or (λ j. j.number) r 0) listed ≡ true) →
    is_some (cond t (Some i) r) ≡ true →
    is_listed (option_map_or (λ j. j.number) (cond t (Some i) r) 0) listed ≡ true
find_step listed true i r h ih e = h
find_step listed false i r h ih e = ih e

-- the number of an incident that is there has a list
pub AreListed-number : (listed : List ℕ) (id : List ℕ) (is : List Incident) → AreListed listed is →
    is_some (incident_of id is) ≡ true → is_listed (number_of id is) listed ≡ true
AreListed-number listed id [] a h = absurd (true≢false (sym h))
AreListed-number listed id (i ∷ is) a h =
    find_step listed (has_id id i) i (find (has_id id) is)
    (All-head (λ (j : Incident). is_listed j.number listed ≡ true) i is a)
    (AreListed-number listed id is (All-tail (λ (j : Incident). is_listed j.number listed ≡ true) i is a)) h

-- a call that is refused nowhere is new

not_when : (t : Bool) (r : Refusal) → when t r ≡ None → t ≡ false
not_when true r h = absurd (none-some r (sym h))
not_when false r h = refl

-- of two checks that pass, the second passes
pub second-passes : (one other : Option Refusal) → (one or_else other) ≡ None → other ≡ None
second-passes None other h = h
second-passes (Some r) other h = absurd (none-some r (sym h))

pub first-passes : (one other : Option Refusal) → (one or_else other) ≡ None → one ≡ None
first-passes None other h = refl
first-passes (Some r) other h = absurd (none-some r (sym h))

-- two checks that pass, passed
pub both-pass : (one other : Option Refusal) → one ≡ None → other ≡ None → (one or_else other) ≡ None
both-pass None other h g = g
both-pass (Some r) other h g = absurd (none-some r (sym h))

pub new-call : (pairs : List HasCall) (call : List ℕ) → call_refusal pairs (Some call) ≡ None →
    list_any (is_call call) pairs ≡ false
new-call pairs call h = not_when (list_any (is_call call) pairs) _ h

head_of : (d h p : HasCall) → h ∷ [] ≡ p ∷ [] → h ≡ p
head_of d h p e = ap (λ xs. first_or xs) e
  where
    first_or : List HasCall → HasCall
    first_or [] = d
    first_or (x ∷ xs) = x

pub new-pair : (place : ℕ) (call : Option (List ℕ)) (pair : Option HasCall) (pairs : List HasCall) →
    option_to_list pair ≡ new_calls place call → call_refusal pairs call ≡ None → (h : HasCall) → pair ≡ Some h →
    list_any (is_call h.call) pairs ≡ false
new-pair place None pair pairs e r h s =
    absurd (none-some h (sym (nothing (Some h) (sym (ap option_to_list s) ∙ e))))
  where
    nothing : (o : Option HasCall) → option_to_list o ≡ [] → o ≡ None
    nothing None g = refl
    nothing (Some x) g = absurd (cc)
new-pair place (Some call) pair pairs e r h s =
    let same : h ≡ record { incident = place; call = call } = head_of h h _ (sym (ap option_to_list s) ∙ e) in
    subst (λ (p : HasCall). list_any (is_call p.call) pairs ≡ false) (sym same) (new-call pairs call r)

-- an incident that is open is there
pub open-there : (o : Option Incident) → not_open_refusal o ≡ None → is_some o ≡ true
open-there None h = absurd (none-some _ (sym h))
open-there (Some i) h = refl
