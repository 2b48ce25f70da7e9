-- SELECT client, number, place FROM client ORDER BY client
use Rattle.std.proofs.Common.{◌≡◌, ℕ, List, [], ◌∷◌, codes, Some, None, Ok, refl, Bool, true, false}
use Rattle.sqlite_sql.specs.Query.{Query}
use Rattle.sqlite_schema.specs.declared.command.Command.TheVariants.{Select}
use Rattle.sqlite_value.specs.declared.keys.Collation.TheVariants.{Binary}
use Rattle.sqlite_ast.specs.declared.Expr.{Expr}
use Rattle.sqlite_sql.specs.Term.{Term, col}
use Rattle.sqlite_schema.specs.declared.schema.Schema.{Schema}
use Rattle.sqlite_draft.specs.declared.join.Step.TheVariants.{Inner}
use Rattle.sqlite_resolve.specs.Scope.{Context, Name}
use Rattle.sqlite_resolve.specs.Compile.{first, read}
use Rattle.sqlite_resolve.specs.Program.{program}
use Rattle.sqlite.specs.Listing.{understood, reads_listing}
use Rattle.desk_naming.specs.Tables.{client_table, read_clients}
use Rattle.desk_naming.specs.TableInSchema.{StandsAt}
use Rattle.desk_naming.proofs.StandingTables.{by_tree}
use Rattle.desk_naming.proofs.NodeColumns.{over_one}
use Rattle.desk_saved.proofs.Columns.{key_is, latest_number_is, latest_place_is}
use Rattle.sqlite_tied.specs.Compute.{everything}
use Rattle.sqlite_ast.specs.declared.Select as ast
use Rattle.sqlite_ast.specs.declared.Shown.{Shown}
use Rattle.sqlite_ast.specs.declared.Sort.{Sort, roll-Sort}
use Rattle.sqlite_ast.specs.declared.Expr.TheVariants as e
use Rattle.sqlite_resolve.specs.declared.scope.Output.{Output}
use Rattle.sqlite_resolve.specs.Lowering.{Lowering}
use Rattle.sqlite_resolve.specs.Expr.{lower}
use Rattle.std.specs.Prelude.{◌-◌}
use Rattle.sqlite_resolve.specs.Select.{outermost, inside}
use Rattle.sqlite_resolve.specs.Body.{result, matching}
use Rattle.sqlite_resolve.specs.Order.{sorts}
use Rattle.desk_naming.proofs.Common.{all_rowids}
use Rattle.desk_naming.proofs.Selecting.{column_shown, core_of, select_of, out_as, st, read_is, FindsColumns, found_as}
use Rattle.desk_naming.proofs.Selecting.{one_level, one_draft, reads_by, selects, understood_so, unlisted_so}

abbrev pub clients_shown : List Shown
clients_shown = column_shown (codes "client") ∷ column_shown (codes "number") ∷ column_shown (codes "place") ∷ []

abbrev pub clients_order : List Sort
clients_order = roll-Sort (record { key = e.Column None (codes "client"); descending = false; nulls_first = None })
    ∷ []

abbrev pub clients_select : ast.Select
clients_select = select_of (core_of (codes "client") clients_shown) clients_order

parsed_is : first read_clients ≡ Ok (reads_by clients_select 56)
unfolding everything
parsed_is = refl

abbrev pub clients_query : ℕ → Query
clients_query t = record (all_rowids t) {
  project = col 1 0 ∷ col 1 2 ∷ col 1 3 ∷ [];
  order = (col 1 0, record { collation = Binary; descending = false }) ∷ [];
}

abbrev pub clients_names : List Name
clients_names = codes "client" ∷ codes "number" ∷ codes "place" ∷ []

abbrev outputs_of : List Output
outputs_of = out_as (codes "client") 0 None ∷ out_as (codes "number") 2 (Some Binary)
    ∷ out_as (codes "place") 3 (Some Binary) ∷ []

module _ (schema : Schema) (t at : ℕ) (it : StandsAt schema (client_table t) at) where
  module _ (low : Context → Expr → Lowering Term) (places : FindsColumns low) where
    abbrev cx : Bool → List Output → Context
    cx agg sh = over_one schema at (codes "client") sh agg true

    result_is : result low (outermost schema) (one_level (codes "client") at []) (core_of
        (codes "client") clients_shown) (st 100000 None) ≡ Ok (outputs_of, (st 99997 (Some Binary)))
    unfolding everything
    result_is =
        rw (places (cx true []) (codes "client") 0 None (key_is schema t at it.found [] true true) 100000 None refl)
        (rw (places (cx true []) (codes "number") 2 (Some Binary) (latest_number_is schema t at it.found [] true true)
        99999 None refl)
        (rw (places (cx true []) (codes "place") 3 (Some Binary) (latest_place_is schema t at it.found [] true true)
        99998 (Some Binary) refl)
        (rw (it.found) (rw (it.found) refl))))

    matching_is : matching low (outermost schema) (one_level (codes "client") at outputs_of) (core_of
        (codes "client") clients_shown) (st 99997 (Some Binary)) ≡ Ok
        (record { steps = Inner t ∷ []; filter = [] }, (st 99997 (Some Binary)))
    unfolding everything
    matching_is = rw (it.found) refl

    sorts_is : sorts low (inside schema (one_level (codes "client") at outputs_of) false) outputs_of
        clients_order (st 99997 (Some Binary)) ≡ Ok ((clients_query t).order, st 99996 None)
    unfolding everything
    sorts_is = rw (places (cx false outputs_of) (codes "client") 0
        None (key_is schema t at it.found outputs_of false true) 99997 (Some Binary) refl) refl

  program_is : program schema [] (one_draft t outputs_of (clients_query t).order) ≡ Ok
      (record { lets = []; body = clients_query t })
  unfolding everything
  program_is = rw (it.own.small) (rw (by_tree it) refl)

  clients_read : read schema clients_select ≡ Ok (Select (record { lets = []; body = clients_query t }) clients_names)
  clients_read = read_is schema (codes "client") at t clients_shown clients_order outputs_of
      (clients_query t).order 99997 99996 (Some Binary) None it.named
      (result_is lower found_as) (matching_is lower found_as) (sorts_is lower found_as)
      (record { lets = []; body = clients_query t }) program_is

  pub clients_any : understood schema read_clients ≡ Ok (selects (clients_query t) clients_names 56)
  clients_any = understood_so schema read_clients clients_select
      (clients_query t) clients_names 56 parsed_is clients_read

  pub clients_unlisted : reads_listing schema read_clients ≡ false
  clients_unlisted = unlisted_so schema read_clients clients_select
      (clients_query t) clients_names 56 parsed_is clients_read
