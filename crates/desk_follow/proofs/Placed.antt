-- The place of a board, as it is read of the reply that shows it.
use Rattle.std.proofs.Common.{◌≡◌, ℕ, ◌+◌, ◌*◌, ◌^◌, ◌<◌, ◌≤◌, true, false, List, [], ◌∷◌, ◌++◌, length, get_or}
use Rattle.std.proofs.Common.{take, Some, None, refl, sym, ap, ◌∙◌, append_assoc, arith}
use Rattle.std.specs.Prelude.{codes, decimal}
use Rattle.std.specs.Char.{is_ascii_digit, digit_value}
use Rattle.std.specs.List.{list_all}
use Rattle.std.specs.Str.Parse.{digits_value, AllDigits}
use Rattle.std.proofs.lemmas.Bool.{and_right, and_from, le-ltb, lt-ltb, cond-true, cond-false}
use Rattle.std.proofs.lemmas.Bool.Decides.{nat_tests}
use Rattle.std.proofs.lemmas.Fmt.{decimal_is_IsNumeral}
use Rattle.std.proofs.lemmas.Int.Digits.{digits_value_more}
use Rattle.std.proofs.lemmas.Str.Parse.{digits_value-take-le}
use Rattle.json.specs.Print.{escape_byte}
use Rattle.desk_types.specs.declared.outcome.Outcome.TheVariants as outcomes
use Rattle.desk_types.specs.declared.show.Shown.TheVariants as shows
use Rattle.desk_eido.specs.ReplyLine.{count, line_of}
use Rattle.desk_follow.specs.Places.{are_number_digits, number_of_digits, number_before, place_by_value}
use Rattle.desk_follow.specs.Places.{place_by_members}
use Rattle.desk_follow.specs.Places.{place_by_object, shown_place}
use Rattle.desk_follow.specs.Readings.{after_prefix}
use Rattle.desk_follow.proofs.Prefixes.{after_itself}
use Rattle.desk_follow.proofs.Commas.{split_number}
use Rattle.desk_follow.proofs.Members.{reported}

pub no_number : (ds : List ℕ) → are_number_digits ds ≡ false → None ≡ number_of_digits ds
no_number ds e = sym (cond-false _ _ _ e)

-- where the number of the first digits is too large, that of all is
pub too_large : (ds : List ℕ) (i : ℕ) → i < length ds →
    2 ^ 64 ≤ digits_value 10 (take i ds) * 10 + digit_value (get_or ds i 0) → are_number_digits ds ≡ false
too_large ds i inside large =
    and_right _ _ (and_right _ _ (le-ltb (digits_value 10 ds) (2 ^ 64)
    (omega (arith, digits_value_more 10 ds i inside, digits_value-take-le 10 ds (i + 1) (omega arith)))))

digit : (c : ℕ) → digit_value c < 10 → is_ascii_digit c ≡ true
digit c small = grind (arith, nat_tests)

digits : (text : List ℕ) → AllDigits 10 text → list_all is_ascii_digit text ≡ true
digits [] all = refl
digits (c ∷ cs) all = and_from _ _ (digit c all.0) (digits cs all.1)

-- the digits of a number are read as that number
pub number_is : (n : ℕ) → n < 2 ^ 64 → number_of_digits (decimal n) ≡ Some n
number_is n fits =
    let it = decimal_is_IsNumeral n fits in
    let whole : are_number_digits (decimal n) ≡ true =
    and_from _ _ (lt-ltb _ _ it.0.0) (and_from _ _ (digits _ it.0.1) (lt-ltb _ _ (omega (arith, it.1)))) in
    cond-true _ _ _ whole ∙ ap Some it.1

-- the members of a board after how many incidents it has
abbrev placed : ℕ → ℕ → ℕ → List ℕ
placed client at units =
    codes "\"ok\":\"board\",\"place\":" ++ (decimal at ++ 44 ∷ reported ((codes "session", count client)
    ∷ (codes "units", count units) ∷ []))

reported_board : (client at incidents units : ℕ) →
    line_of (outcomes.Board client (shows.Board at incidents units))
    ≡ codes "{\"incidents\":" ++ (decimal incidents ++ 44 ∷ placed client at units)
unfolding escape_byte
reported_board client at incidents units =
    ap (λ l. codes "{\"incidents\":" ++ l) (append_assoc (decimal incidents) _ (10 ∷ [])
    ∙ ap (λ l. decimal incidents ++ 44 ∷ (codes "\"ok\":\"board\",\"place\":" ++ l)) (append_assoc (decimal at) _
    (10 ∷ [])))

pub board_place : (client at incidents units : ℕ) → at < 2 ^ 64 →
    shown_place (line_of (outcomes.Board client (shows.Board at incidents units))) ≡ Some at
unfolding shown_place
board_place client at incidents units fits =
    let members = placed client at units in
    let rest = reported ((codes "session", count client) ∷ (codes "units", count units) ∷ []) in
    ap (λ l. place_by_object (after_prefix (codes "{\"incidents\":") l)) (reported_board client at incidents units)
    ∙ ap place_by_object (after_itself (codes "{\"incidents\":") (decimal incidents ++ 44 ∷ members))
    ∙ ap place_by_members (split_number incidents members)
    ∙ ap place_by_value (after_itself (codes "\"ok\":\"board\",\"place\":") (decimal at ++ 44 ∷ rest))
    ∙ ap number_before (split_number at rest) ∙ number_is at fits
