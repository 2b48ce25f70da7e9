-- What `load` says of the table of clients.
use Rattle.std.proofs.Common.{◌≡◌, ◌↔◌, Bool, List, [], ◌∷◌, map, length, IsTrue, IsPermutation, refl, sym, subst}
use Rattle.std.specs.List.{AllByRecursion}
use Rattle.std.proofs.lemmas.List.Sorted.{IsPermutation-sym, IsPermutation-trans, IsPermutation-map}
use Rattle.sqlite_value.specs.Order.{Row}
use Rattle.sqlite_schema.specs.declared.schema.Schema.{Schema}
use Rattle.sqlite_trees.specs.Tree.{Trees}
use Rattle.sqlite.specs.Listing.{understood}
use Rattle.sqlite.specs.State.{State, Shown}
use Rattle.sqlite.proofs.Callers.{IsPlain}
use Rattle.desk_types.specs.declared.command.Entry.{Entry}
use Rattle.desk_types.specs.declared.owner.Owner.{Owner}
use Rattle.desk_log.specs.declared.clients.ClientRow.{ClientRow}
use Rattle.desk_log.specs.SavedValue.{SavedValue}
use Rattle.desk_naming.specs.Tables.{read_clients}
use Rattle.desk_saved.specs.DeskTables.{Layout, log_tables, shown_client}
use Rattle.desk_saved.specs.File.{row_of_client, AreRisingClients, HasClients, HasLogFile, HasNoState, IsState}
use Rattle.desk_saved.specs.SchemaRefusals.{IsDeskSchema}
use Rattle.desk_naming.proofs.Common.{all_permuted}
use Rattle.desk_saved.proofs.ClientSelecting.{clients_any}
use Rattle.desk_saved.proofs.ClientSelectAnswers.{clients_shown, clients_in_order}
use Rattle.desk_saved.proofs.Restarts.{same_log}

three : (rows : List Row) → AllByRecursion (λ row. length row ≡ 3) (map shown_client rows)
three [] = tt
three (r ∷ rows) = (refl, three rows)

pub plain_clients : (schema : Schema) → IsDeskSchema schema → IsPlain (understood schema read_clients)
plain_clients schema stand =
    let d = stand.0 in
    subst (λ sc. IsPlain (understood sc read_clients)) (sym stand.1)
    (subst IsPlain (sym (clients_any d.schema d.client.tree d.client.at d.client.stands)) (refl, refl))

-- what the code finds of the rows in order
abbrev pub AreFound : List Entry → List Row → Bool → Type 0
AreFound log rows same =
    (cs : List ClientRow) × AreRisingClients log cs × (IsTrue same ↔ (rows ≡ map row_of_client cs))

module _ (d : Layout) (old new : State) (schema : old.now.schema ≡ d.schema) where
  pub clients_wide : (rows : List Row) → Shown read_clients [] old new rows
      → AllByRecursion (λ row. length row ≡ 3) rows
  clients_wide rows h = all_permuted (λ row. length row ≡ 3) _ _
      (IsPermutation-sym _ _ (clients_shown d old new rows schema h)) (three (old.now.trees d.client.tree))

  pub clients_found : (rows : List Row) → Shown read_clients [] old new rows → (log : List Entry) (same : Bool)
      → AreFound log rows same → IsTrue same ↔ HasClients d old.now.trees log
  clients_found rows h log same found = (
    (λ yes'.
        IsPermutation-trans _ _ _ (IsPermutation-map row_of_client _ _ found.1.0)
        (subst (λ l. IsPermutation l (map shown_client (old.now.trees d.client.tree))) (found.2.0 yes')
        (clients_shown d old new rows schema h))),
    (λ has. found.2.1 (clients_in_order d old new rows schema h log found.0 found.1 has)),
  )

-- other rows of clients than those of the log, which the entries have, are those of no saved state
pub other_clients : (d : Layout) (own : Owner) (trees : Trees) (last : SavedValue) → IsState last
    → HasLogFile (log_tables d) 2 own last trees → ¬ HasClients d trees last.log → HasNoState d own trees
other_clients d own trees last is_last has none s is file =
    none (subst (HasClients d trees)
    (same_log (log_tables d) trees s.log last.log is.entries is_last.entries file.1 has.1) file.2)
