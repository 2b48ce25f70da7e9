-- Boards that were told one after the other.
use Rattle.std.proofs.Common.{◌≡◌, ◌∙◌, ℕ, List, [], ◌∷◌, ◌++◌, Bool, true, false, Option, None, Some, option_map}
use Rattle.std.proofs.Common.{refl, sym, ap}
use Rattle.std.specs.Prelude.{nat_lt}
use Rattle.std.proofs.lemmas.Bool.{and_parts, and_from, cond-true, cond-false}
use Rattle.desk_page.specs.Boards.{is_above, is_next, last_of, rises, reported_with}

pub last_of-push : (boards : List (ℕ × List ℕ)) (next : ℕ × List ℕ) → last_of (boards ++ next ∷ []) ≡ Some next
last_of-push [] next = refl
last_of-push (board ∷ []) next = refl
last_of-push (board ∷ second ∷ boards) next = last_of-push (second ∷ boards) next

-- the board, if there is one, is below a place
abbrev pub is_below_last : Option (ℕ × List ℕ) → ℕ → Bool
is_below_last None place = true
is_below_last (Some board) place = nat_lt board.0 place

-- the last of these is below a place
abbrev pub is_below : List (ℕ × List ℕ) → ℕ → Bool
is_below boards place = is_below_last (last_of boards) place

pub rises-push : (boards : List (ℕ × List ℕ)) (next : ℕ × List ℕ) → rises boards ≡ true →
    is_below boards next.0 ≡ true → rises (boards ++ next ∷ []) ≡ true
rises-push [] next rising below = refl
rises-push (board ∷ []) next rising below = and_from _ _ below refl
rises-push (board ∷ second ∷ boards) next rising below =
    and_from _ _ (and_parts _ _ rising).0 (rises-push (second ∷ boards) next (and_parts _ _ rising).1 below)

-- what was told last, where these are the place and the text of the latest
pub below : {X : Type 0} (f : X → ℕ) (g : X → List ℕ) (boards : List (ℕ × List ℕ)) (latest : Option X) (place : ℕ)
    (seen : Option ℕ) → last_of boards ≡ option_map (λ x. (f x, g x)) latest → seen ≡ option_map f latest →
    true ≡ is_above seen place → is_below boards place ≡ true
below f g boards None place seen last is above =
    ap (λ o. is_below_last o place) last ∙ (sym (ap (λ o. is_above o place) is) ∙ sym above)
below f g boards (Some x) place seen last is above =
    ap (λ o. is_below_last o place) last ∙ (sym (ap (λ o. is_above o place) is) ∙ sym above)

place_is : {X : Type 0} (f : X → ℕ) (g : X → List ℕ) (boards : List (ℕ × List ℕ)) (latest : Option X) →
    last_of boards ≡ option_map (λ x. (f x, g x)) latest →
    option_map (λ last. last.0) (last_of boards) ≡ option_map f latest
place_is f g boards None last = ap (option_map (λ (board : ℕ × List ℕ). board.0)) last
place_is f g boards (Some x) last = ap (option_map (λ (board : ℕ × List ℕ). board.0)) last

-- whether a board is the next is seen by the place of the latest
pub next_is : {X : Type 0} (f : X → ℕ) (g : X → List ℕ) (boards : List (ℕ × List ℕ)) (latest : Option X) (place : ℕ)
    (seen : Option ℕ) (above : Bool) → last_of boards ≡ option_map (λ x. (f x, g x)) latest →
    seen ≡ option_map f latest → above ≡ is_above seen place → above ≡ is_next boards place
next_is f g boards latest place seen above last is e =
    e ∙ ap (λ o. is_above o place) (is ∙ sym (place_is f g boards latest last))

-- one more board where it is the next, and the same boards where it is not
pub announced_is : (old new : List (ℕ × List ℕ)) (board : ℕ × List ℕ) (reported : Bool) →
    reported ≡ is_next old board.0 →
    (reported ≡ true → new ≡ old ++ board ∷ []) → (reported ≡ false → new ≡ old) → new ≡ reported_with old board
announced_is old new board true is t k = t refl ∙ sym (cond-true _ _ _ (sym is))
announced_is old new board false is t k = k refl ∙ sym (cond-false _ _ _ (sym is))
