-- What making the tables that are missing leaves of the rows that stand there.
use Rattle.std.proofs.Common.{[], map, Ok, Err, Result, OnOk, IsPermutation, refl, sym, ap, subst, ◌∙◌}
use Rattle.std.proofs.lemmas.List.Sorted.{IsPermutation-refl}
use Rattle.sqlite_trees.specs.declared.store.Store.{Ghosts}
use Rattle.sqlite_catalog.specs.Change.{created}
use Rattle.sqlite.specs.declared.error.Error.{Error}
use Rattle.sqlite.specs.State.{HasCleanDisk}
use Rattle.sqlite.specs.Held.{Held, state}
use Rattle.desk_saved.specs.declared.changes.DeskTable.{DeskTable}
use Rattle.desk_saved.specs.declared.changes.Missing.TheVariants as missings
use Rattle.desk_saved.specs.Changes.{effects, SparesMissing, StandsBefore, made_table, making_text}
use Rattle.desk_naming.specs.Contents.{schema_of}
use Rattle.desk_saved.specs.DeskTables.{Keeps, IsInside, shown_entry, shown_client}
use Rattle.desk_naming.specs.Named.{shown_node}
use Rattle.desk_saved.specs.NewTables.{CanTake, MakesTable}
use Rattle.desk_naming.specs.Tables.{node_table, entry_table, client_table}
use Rattle.desk_saved.specs.Transactions.{Quiet, Ran, MakesRows}
use Rattle.desk_saved.proofs.Making.{makes_table, all_made, others_made, made_inside}
use Rattle.desk_saved.proofs.Growing.{others_preserved, entry_preserved, node_preserved, client_empty}

module _ {S : Type 0} (g : Ghosts S) where
  pub made : (old new : Held S) (table : DeskTable) (r : Result (Unit {0}) Error) → Ran g old new
      (making_text table) [] r
      → HasCleanDisk (state g new) → IsInside (state g old) → CanTake (schema_of g old) (made_table table)
      → OnOk r (MakesTable (state g old) (state g new) (made_table table))
  made old new table (Err e) it clean inside can = tt
  made old new table (Ok done) it clean inside can = let h = it.ran clean inside.in_transaction in
      makes_table (state g old) (state g new) table h.0 can h.1

  -- the table of the clients comes into a file of version 1
  pub clients_come : (old new : Held S) (r : Result (Unit {0}) Error) → Quiet g old new r
      → (HasCleanDisk (state g new) → IsInside (state g old) → CanTake (schema_of g old) (client_table 0)
      → OnOk r (MakesTable (state g old) (state g new) (client_table 0)))
      → MakesRows g old new (StandsBefore missings.Clients) (λ _. Unit {0}) r (effects [])
      (SparesMissing missings.Clients)
  clients_come old new (Err e) quiet h = record { rows = λ clean inside d rows stands apt. tt; quiet = quiet }
  clients_come old new (Ok done) quiet h = record {
    rows = λ clean inside d rows comes apt.
        let it = h clean inside comes.0.client_can in
        let entries = entry_preserved d (state g old) (state g new) comes.0 it in (
          record {
            keeps = record {
              schema = it.schema ∙ comes.0.desk;
              rows = (
                ap (map shown_node) (node_preserved d (state g old) (state g new) comes.0 it) ∙ comes.1,
                subst (λ l. IsPermutation rows.entries (map shown_entry l)) (sym entries) comes.2,
                subst (λ l. IsPermutation rows.clients (map shown_client l))
                    (sym (client_empty d (state g old) (state g new) comes.0 it))
                    (subst (λ l. IsPermutation l []) (sym comes.3) (IsPermutation-refl [])),
              );
            };
            others = others_preserved d (state g old) (state g new) comes.0 it;
            sound = it.sound;
            shows = it.shows;
          },
          λ _. entries,
        );
    quiet = quiet;
  }

  -- all three come into a new one
  pub all_come : (a b c e : Held S) (r : Result (Unit {0}) Error) → Quiet g a e r
      → (HasCleanDisk (state g e) → HasCleanDisk (state g c)) → (HasCleanDisk (state g c) → HasCleanDisk (state g b))
      → (HasCleanDisk (state g b) → IsInside (state g a) → CanTake (schema_of g a) (node_table 0)
      → MakesTable (state g a) (state g b) (node_table 0))
      → (HasCleanDisk (state g c) → IsInside (state g b) → CanTake (schema_of g b) (entry_table 0)
      → MakesTable (state g b) (state g c) (entry_table 0))
      → (HasCleanDisk (state g e) → IsInside (state g c) → CanTake (schema_of g c) (client_table 0)
      → OnOk r (MakesTable (state g c) (state g e) (client_table 0)))
      → MakesRows g a e (StandsBefore missings.All) (λ _. Unit {0}) r (effects []) (SparesMissing missings.All)
  all_come a b c e (Err why) quiet low2 low1 h1 h2 h3 =
      record { rows = λ clean inside d rows stands apt. tt; quiet = quiet }
  all_come a b c e (Ok done) quiet low2 low1 h1 h2 h3 = record {
    rows = λ clean inside d rows comes apt.
        let becomes = comes.0 in
        let one = h1 (low1 (low2 clean)) inside becomes.node_can in
        let two = h2 (low2 clean) (made_inside (state g a) (state g b) _ one)
        (subst (λ s. CanTake s (entry_table 0)) (sym one.schema) becomes.entry_can) in
        let three = h3 clean (made_inside (state g b) (state g c) _ two)
        (subst (λ s. CanTake s (client_table 0)) (sym (two.schema ∙ ap (λ s. created s (entry_table 0)) one.schema))
        becomes.client_can) in (
          record {
            keeps = subst (Keeps d (state g e).now) (sym comes.1)
                (all_made d (state g a) (state g b) (state g c) (state g e) becomes one two three);
            others = others_made d (state g a) (state g b) (state g c) (state g e) becomes one two three;
            sound = three.sound;
            shows = record {
              was_open = one.shows.was_open;
              is_open = three.shows.is_open;
              now_is = refl;
              committed_is = three.shows.committed_is ∙ two.shows.committed_is ∙ one.shows.committed_is;
              mode = three.shows.mode;
            };
          },
          λ none. absurd none,
        );
    quiet = quiet;
  }
