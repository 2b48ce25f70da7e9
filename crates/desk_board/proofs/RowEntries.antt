-- Rows of clients as entries of a table.
use Rattle.std.proofs.Common.{◌≡◌, ◌∙◌, ℕ, List, [], ◌∷◌, map, Bool, true, false, Option, Some, None, cond, nat_eq}
use Rattle.std.proofs.Common.{refl, sym, ap, eqb-true}
use Rattle.std.specs.List.{find}
use Rattle.std.specs.Borrow.{Bor}
use Rattle.std.specs.Option.{option_map, option_copied}
use Rattle.std.specs.Map.{lookup}
use Rattle.std.specs.Cmp.{nat_eq_equiv}
use Rattle.indexmap.specs.IndexMap.{insert_entry}
use Rattle.desk_types.specs.declared.reply.Reply.{Reply}
use Rattle.desk_board.specs.declared.row.Row.{Row}
use Rattle.desk_board.specs.declared.row.LatestRow.{LatestRow}
use Rattle.desk_board.specs.Execute.{has_client, with_row}
use Rattle.desk_board.specs.Tables.{row_in, last_in}

-- what is told of a row
abbrev reported : Row → ℕ × ℕ × Reply
reported row = (row.number, row.place, row.reply)

insert_step : (t : Bool) (client : ℕ) (row : LatestRow) (e : ℕ × LatestRow) (es rest : List (ℕ × LatestRow)) →
    (t ≡ true → client ≡ e.0) →
    map row_in rest ≡ with_row (row_in (client, row)) (map row_in es) →
    map row_in (cond t ((e.0, row) ∷ es) (e ∷ rest))
    ≡ cond t (row_in (client, row) ∷ map row_in es) (row_in e ∷ with_row (row_in (client, row)) (map row_in es))
insert_step true client row e es rest same h = ap (λ c. row_in (c, row) ∷ map row_in es) (sym (same refl))
insert_step false client row e es rest same h = ap (λ rows. row_in e ∷ rows) h

-- an inserted entry is the row set
pub insert-with_row : (client : ℕ) (row : LatestRow) (es : List (ℕ × LatestRow)) →
    map row_in (insert_entry nat_eq es client row) ≡ with_row (row_in (client, row)) (map row_in es)
insert-with_row client row [] = refl
insert-with_row client row (e ∷ es) =
    insert_step (nat_eq client e.0) client row e es (insert_entry nat_eq es client row) (eqb-true client e.0)
    (insert-with_row client row es)
    ∙ ap (λ t. cond t (row_in (client, row) ∷ map row_in es)
    (row_in e ∷ with_row (row_in (client, row)) (map row_in es))) (nat_eq_equiv.symm client e.0)

last_step : (t : Bool) (e : ℕ × LatestRow) (found : Option Row) (looked : Option LatestRow) →
    option_map {U = ℕ × ℕ × Reply} last_in looked ≡ option_map reported found →
    option_map {U = ℕ × ℕ × Reply} last_in (cond t (Some e.1) looked) ≡ option_map reported
    (cond t (Some (row_in e)) found)
last_step true e found looked h = refl
last_step false e found looked h = h

-- a look-up finds the client's row
pub lookup-find : (client : ℕ) (es : List (ℕ × LatestRow)) →
    option_map {U = ℕ × ℕ × Reply} last_in (lookup (nat_eq client) es)
    ≡ option_map reported (find (has_client client) (map row_in es))
lookup-find client [] = refl
lookup-find client (e ∷ es) =
    last_step (nat_eq client e.0) e (find (has_client client) (map row_in es)) (lookup (nat_eq client) es)
    (lookup-find client es)
    ∙ ap (λ t. option_map reported (cond t (Some (row_in e)) (find (has_client client) (map row_in es))))
    (nat_eq_equiv.symm client e.0)

-- what is told of a lent entry is told of a copy
pub copied_map : {X Y : Type 0} (f : X → Y) (o : Option (Bor X)) →
    option_map (λ x. f x.now) o ≡ option_map f (option_copied o)
copied_map f None = refl
copied_map f (Some x) = refl
