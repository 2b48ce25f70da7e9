-- The client's row on a board that begins with what was told.
use Rattle.std.proofs.Common.{◌≡◌, ◌≤◌, ◌<◌, ◌⊎◌, ◌==◌, ◌&&◌, ◌||◌, ℕ, zero, suc, Bool, true, false, List, [], ◌∷◌}
use Rattle.std.proofs.Common.{take, Option, Some, None, refl, sym, ◌∙◌, ap, subst, inl, inr, arith, true≢false}
use Rattle.std.specs.List.{slice_get, list_any}
use Rattle.std.proofs.lemmas.Bool.{eqb-true, cases_order}
use Rattle.std.proofs.lemmas.Option.{same_Some}
use mathlib.Core.List.{IsPrefix}
use Rattle.desk_types.specs.declared.command.Entry.{Entry}
use Rattle.desk_log.specs.Entries.{entry_at, latest, IsRising}
use Rattle.desk_log.specs.Laws.{IsLatest}
use Rattle.desk_log.proofs.Latest.{latest_is_last, latest_is_none}
use Rattle.desk_log.proofs.Places.{entry_at-append}
use Rattle.desk_log.proofs.Rising.{later_is_greater}
use Rattle.desk_board.specs.Execute.{execute, row_for, request_at, row_of}
use Rattle.desk_board.specs.Log.{board_of, board_before}
use Rattle.desk_board.proofs.LogRows.{rows_are_latest}
use Rattle.desk_published.specs.declared.reported.ReportedWord.{ReportedWord}
use Rattle.desk_published.specs.declared.reported.ReportedWord.TheVariants as words
use Rattle.desk_published.specs.Reported.{is_request, stands, IfPublished}
use Rattle.desk_published.specs.Laws.{HasRow, ReportedHasRow}

and_left : (a b : Bool) → (a && b) ≡ true → a ≡ true
and_left true b h = refl
and_left false b h = h

and_right : (a b : Bool) → (a && b) ≡ true → b ≡ true
and_right true b h = h
and_right false b h = absurd (true≢false (sym h))

-- an element that passes the test, and where it stands
abbrev FoundIn : {A : Type 0} → (A → Bool) → List A → Type 0
FoundIn {A} f xs = (k : ℕ) × (e : A) × (slice_get xs k ≡ Some e) × (f e ≡ true)

found_step : {A : Type 0} (f : A → Bool) (x : A) (xs rest : List A) (b : Bool) → f x ≡ b →
    (b || list_any f rest) ≡ true → (list_any f rest ≡ true → FoundIn f xs) → FoundIn f (x ∷ xs)
found_step f x xs rest true is h more = (zero, x, refl, is)
found_step f x xs rest false is h more = let r = more h in (suc r.0, r.1, r.2, r.3)

found : {A : Type 0} (f : A → Bool) (n : ℕ) (xs : List A) → list_any f (take n xs) ≡ true → FoundIn f xs
found f zero xs h = absurd (true≢false (sym h))
found f (suc n) [] h = absurd (true≢false (sym h))
found f (suc n) (x ∷ xs) h = found_step f x xs (take n xs) (f x) refl h (λ k. found f n xs k)

row_there : (domain : List ℕ) (pass : List Entry) (client p : ℕ) (e : Entry) → latest client pass ≡ Some p →
    entry_at pass p ≡ Some e →
    row_of client (board_of domain pass) ≡ Some (row_for (request_at p e) (execute (board_before domain pass p) p e).1)
row_there domain pass client p e last there = rw (rows_are_latest domain pass client, last, there) refl

not_below : (pass : List Entry) (j p : ℕ) (e f : Entry) → IsRising pass → j ≤ p → entry_at pass j ≡ Some e →
    entry_at pass p ≡ Some f → e.client ≡ f.client → e.number ≤ f.number
not_below pass j p e f rising le a b same = by_place (cases_order j p)
  where
    by_place : (j ≡ p) ⊎ ((j < p) ⊎ (p < j)) → e.number ≤ f.number
    by_place (inl at) =
        let one : e ≡ f = same_Some e f (sym a ∙ ap (entry_at pass) at ∙ b) in
        omega (arith, ap (λ (x : Entry). x.number) one)
    by_place (inr (inl before)) = omega (arith, later_is_greater pass j p e f rising before a b same)
    by_place (inr (inr after)) = absurd (omega (arith, le, after))

row_at_place : (domain : List ℕ) (pass : List Entry) (client number j : ℕ) (e : Entry) → entry_at pass j ≡ Some e →
    e.client ≡ client → e.number ≡ number → (o : Option ℕ) → latest client pass ≡ o →
    HasRow domain pass client number
row_at_place domain pass client number j e at mine is None last =
    absurd (latest_is_none client pass last j e at mine)
row_at_place domain pass client number j e at mine is (Some p) last =
    let l : IsLatest client pass p = latest_is_last client pass p last in (
      row_for (request_at p l.entry) (execute (board_before domain pass p) p l.entry).1,
      row_there domain pass client p l.entry last l.there,
      λ rising. omega (
        arith,
        is,
        not_below pass j p e l.entry rising (l.last j e at mine) at l.there (mine ∙ sym l.client_is),
      ),
    )

pub reported_has_row : ReportedHasRow
reported_has_row domain front pass client number count reported pre =
    let r = found (is_request client number) count front (and_right _ _ reported) in
    let e : Entry = r.1 in
    let both : (e.client == client) && (e.number == number) ≡ true = r.3 in
    let at : entry_at pass (suc r.0) ≡ Some e =
    subst (λ (l : List Entry). entry_at l (suc r.0) ≡ Some e) pre.1 (entry_at-append front pre.0 (suc r.0) e r.2) in
    row_at_place domain pass client number (suc r.0) e at (eqb-true e.client client (and_left _ _ both))
    (eqb-true e.number number (and_right _ _ both)) (latest client pass) refl

-- so of what a word says
pub learnt_row : (domain : List ℕ) (reported pass : List Entry) (client number : ℕ) (word : ReportedWord) →
    stands reported client number word ≡ true → IsPrefix reported pass →
    IfPublished word (HasRow domain pass client number)
learnt_row domain reported pass client number (words.Published count) s p =
    reported_has_row domain reported pass client number count s p
learnt_row domain reported pass client number (words.Refused refusal) s p = tt
