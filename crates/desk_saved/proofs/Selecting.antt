-- The SELECT of the entries.
use Rattle.std.proofs.Common.{◌≡◌, ℕ, Bool, List, [], ◌∷◌, codes, Some, None, Ok, refl, true, false}
use Rattle.sqlite_sql.specs.Query.{Query}
use Rattle.sqlite_schema.specs.declared.command.Command.TheVariants.{Select}
use Rattle.sqlite_value.specs.declared.keys.Collation.TheVariants.{Binary}
use Rattle.sqlite_ast.specs.declared.Expr.{Expr}
use Rattle.sqlite_sql.specs.Term.{Term, col}
use Rattle.sqlite_schema.specs.declared.schema.Schema.{Schema}
use Rattle.sqlite_draft.specs.declared.join.Step.TheVariants.{Inner}
use Rattle.sqlite_resolve.specs.Scope.{Context, Name}
use Rattle.sqlite_resolve.specs.Compile.{first, read}
use Rattle.sqlite_resolve.specs.Program.{program}
use Rattle.sqlite.specs.Listing.{understood, reads_listing}
use Rattle.desk_naming.specs.Tables.{entry_table, read_entries}
use Rattle.desk_naming.specs.TableInSchema.{StandsAt}
use Rattle.desk_naming.proofs.StandingTables.{by_tree}
use Rattle.desk_naming.proofs.NodeColumns.{over_one}
use Rattle.desk_saved.proofs.Columns.{place_is, client_is, number_is, body_is}
use Rattle.sqlite_tied.specs.Compute.{everything}
use Rattle.sqlite_ast.specs.declared.Select as ast
use Rattle.sqlite_ast.specs.declared.Shown.{Shown}
use Rattle.sqlite_ast.specs.declared.Expr.TheVariants as e
use Rattle.sqlite_ast.specs.declared.Sort.{Sort, roll-Sort}
use Rattle.sqlite_resolve.specs.declared.scope.Output.{Output}
use Rattle.sqlite_resolve.specs.Lowering.{Lowering}
use Rattle.sqlite_resolve.specs.Expr.{lower}
use Rattle.std.specs.Prelude.{◌-◌}
use Rattle.sqlite_resolve.specs.Select.{outermost, inside, named}
use Rattle.sqlite_resolve.specs.Body.{result, matching, body}
use Rattle.sqlite_resolve.specs.Order.{sorts}
use Rattle.desk_naming.proofs.Common.{all_rowids}
use Rattle.desk_naming.proofs.Selecting.{select_of, column_shown, out_as, read_is, core_of, st, FindsColumns, found_as}
use Rattle.desk_naming.proofs.Selecting.{one_level, one_draft, reads_by, selects, understood_so, unlisted_so}

abbrev pub entries_shown : List Shown
entries_shown = column_shown (codes "place") ∷ column_shown (codes "client") ∷ column_shown (codes "number")
    ∷ column_shown (codes "body") ∷ []

abbrev pub entries_order : List Sort
entries_order = roll-Sort (record { key = e.Column None (codes "place"); descending = false; nulls_first = None })
    ∷ []

abbrev pub entries_select : ast.Select
entries_select = select_of (core_of (codes "entry") entries_shown) entries_order

parsed_is : first read_entries ≡ Ok (reads_by entries_select 60)
unfolding everything
parsed_is = refl

abbrev pub read_query : ℕ → Query
read_query t = record (all_rowids t) {
  project = col 1 0 ∷ col 1 2 ∷ col 1 3 ∷ col 1 4 ∷ [];
  order = (col 1 0, record { collation = Binary; descending = false }) ∷ [];
}

abbrev pub read_names : List Name
read_names = codes "place" ∷ codes "client" ∷ codes "number" ∷ codes "body" ∷ []

abbrev outputs_of : List Output
outputs_of = out_as (codes "place") 0 None ∷ out_as (codes "client") 2 (Some Binary)
    ∷ out_as (codes "number") 3 (Some Binary) ∷ out_as (codes "body") 4 (Some Binary) ∷ []

module _ (schema : Schema) (t at : ℕ) (it : StandsAt schema (entry_table t) at) where
  module _ (low : Context → Expr → Lowering Term) (places : FindsColumns low) where
    abbrev cx : Bool → List Output → Context
    cx agg sh = over_one schema at (codes "entry") sh agg true

    result_is : result low (outermost schema) (one_level (codes "entry") at []) (core_of
        (codes "entry") entries_shown) (st 100000 None) ≡ Ok (outputs_of, (st 99996 (Some Binary)))
    unfolding everything
    result_is =
        rw (places (cx true []) (codes "place") 0 None (place_is schema t at it.found [] true true) 100000 None refl)
        (rw (places (cx true []) (codes "client") 2 (Some Binary) (client_is schema t at it.found [] true true) 99999
        None refl)
        (rw (places (cx true []) (codes "number") 3 (Some Binary) (number_is schema t at it.found [] true true) 99998
        (Some Binary) refl)
        (rw (places (cx true []) (codes "body") 4 (Some Binary) (body_is schema t at it.found [] true true) 99997
        (Some Binary) refl)
        (rw (it.found) (rw (it.found) refl)))))

    matching_is : matching low (outermost schema) (one_level (codes "entry") at outputs_of) (core_of
        (codes "entry") entries_shown) (st 99996 (Some Binary)) ≡ Ok
        (record { steps = Inner t ∷ []; filter = [] }, (st 99996 (Some Binary)))
    unfolding everything
    matching_is = rw (it.found) refl

    sorts_is : sorts low (inside schema (one_level (codes "entry") at outputs_of) false) outputs_of
        entries_order (st 99996 (Some Binary)) ≡ Ok ((read_query t).order, st 99995 None)
    unfolding everything
    sorts_is = rw (places (cx false outputs_of) (codes "place") 0
        None (place_is schema t at it.found outputs_of false true) 99996 (Some Binary) refl) refl

  program_is : program schema [] (one_draft t outputs_of (read_query t).order) ≡ Ok
      (record { lets = []; body = read_query t })
  unfolding everything
  program_is = rw (it.own.small) (rw (by_tree it) refl)

  entries_read : read schema entries_select ≡ Ok (Select (record { lets = []; body = read_query t }) read_names)
  entries_read = read_is schema (codes "entry") at t entries_shown entries_order outputs_of
      (read_query t).order 99996 99995 (Some Binary) None it.named
      (result_is lower found_as) (matching_is lower found_as) (sorts_is lower found_as)
      (record { lets = []; body = read_query t }) program_is

  pub entries_any : understood schema read_entries ≡ Ok (selects (read_query t) read_names 60)
  entries_any = understood_so schema read_entries entries_select (read_query t) read_names 60 parsed_is entries_read

  pub entries_unlisted : reads_listing schema read_entries ≡ false
  entries_unlisted = unlisted_so schema read_entries entries_select (read_query t) read_names 60 parsed_is entries_read
