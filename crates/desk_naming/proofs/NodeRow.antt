-- SELECT of the row of `node`
use Rattle.std.proofs.Common.{◌≡◌, ℕ, List, [], ◌∷◌, codes, Some, None, Ok, refl, true, false}
use Rattle.sqlite_sql.specs.Query.{Query}
use Rattle.sqlite_schema.specs.declared.command.Command.TheVariants.{Select}
use Rattle.sqlite_value.specs.declared.keys.Collation.TheVariants.{Binary}
use Rattle.sqlite_ast.specs.declared.Expr.{Expr}
use Rattle.sqlite_sql.specs.Term.{Term, col}
use Rattle.sqlite_schema.specs.declared.schema.Schema.{Schema}
use Rattle.sqlite_draft.specs.declared.join.Step.TheVariants.{Inner}
use Rattle.sqlite_resolve.specs.Scope.{Context, Name}
use Rattle.sqlite_resolve.specs.Compile.{first, read}
use Rattle.sqlite_resolve.specs.Program.{program}
use Rattle.sqlite.specs.Listing.{understood, reads_listing}
use Rattle.desk_naming.specs.Tables.{node_table, read_node}
use Rattle.desk_naming.specs.TableInSchema.{StandsAt}
use Rattle.desk_naming.proofs.StandingTables.{by_tree}
use Rattle.desk_naming.proofs.NodeColumns.{over_one, slot_is, version_is, id_is, n_is, domain_is, view_is, normal_is}
use Rattle.desk_naming.proofs.NodeColumns.{commit_is}
use Rattle.sqlite_tied.specs.Compute.{everything}
use Rattle.sqlite_ast.specs.declared.Select as ast
use Rattle.sqlite_ast.specs.declared.Shown.{Shown}
use Rattle.sqlite_resolve.specs.declared.scope.Output.{Output}
use Rattle.sqlite_resolve.specs.Lowering.{Lowering}
use Rattle.sqlite_resolve.specs.Expr.{lower}
use Rattle.sqlite_resolve.specs.Select.{outermost, inside}
use Rattle.sqlite_resolve.specs.Body.{result, matching}
use Rattle.sqlite_resolve.specs.Order.{sorts}
use Rattle.desk_naming.proofs.Common.{all_rowids}
use Rattle.desk_naming.proofs.Selecting.{column_shown, core_of, select_of, out_as, st, read_is, FindsColumns, found_as}
use Rattle.desk_naming.proofs.Selecting.{one_level, one_draft, reads_by, selects, understood_so, unlisted_so}

abbrev pub node_shown : List Shown
node_shown = column_shown (codes "slot") ∷ column_shown (codes "version") ∷ column_shown (codes "id")
    ∷ column_shown (codes "n") ∷ column_shown (codes "domain") ∷ column_shown (codes "view_no")
    ∷ column_shown (codes "normal_no") ∷ column_shown (codes "commit_no") ∷ []

abbrev pub node_select : ast.Select
node_select = select_of (core_of (codes "node") node_shown) []

parsed_is : first read_node ≡ Ok (reads_by node_select 76)
unfolding everything
parsed_is = refl

abbrev pub node_query : ℕ → Query
node_query t = record (all_rowids t) {
  project = col 1 0 ∷ col 1 2 ∷ col 1 3 ∷ col 1 4 ∷ col 1 5 ∷ col 1 6 ∷ col 1 7 ∷ col 1 8 ∷ [];
}

abbrev pub node_names : List Name
node_names = codes "slot" ∷ codes "version" ∷ codes "id" ∷ codes "n" ∷ codes "domain" ∷ codes "view_no"
    ∷ codes "normal_no" ∷ codes "commit_no" ∷ []

abbrev outputs_of : List Output
outputs_of = out_as (codes "slot") 0 None ∷ out_as (codes "version") 2 (Some Binary)
    ∷ out_as (codes "id") 3 (Some Binary) ∷ out_as (codes "n") 4 (Some Binary)
    ∷ out_as (codes "domain") 5 (Some Binary) ∷ out_as (codes "view_no") 6 (Some Binary)
    ∷ out_as (codes "normal_no") 7 (Some Binary) ∷ out_as (codes "commit_no") 8 (Some Binary) ∷ []

module _ (schema : Schema) (t at : ℕ) (it : StandsAt schema (node_table t) at) where
  module _ (low : Context → Expr → Lowering Term) (places : FindsColumns low) where
    abbrev cx : Context
    cx = over_one schema at (codes "node") [] true true

    result_is : result low (outermost schema) (one_level (codes "node") at []) (core_of (codes "node") node_shown)
        (st 100000 None) ≡ Ok (outputs_of, st 99992 (Some Binary))
    unfolding everything
    result_is =
        (rw (places cx (codes "slot") 0 None (slot_is schema t at it.found [] true true) 100000 None refl)
        (rw (places cx (codes "version") 2 (Some Binary) (version_is schema t at it.found [] true true) 99999 None
        refl)
        (rw (places cx (codes "id") 3 (Some Binary) (id_is schema t at it.found [] true true) 99998 (Some Binary)
        refl)
        (rw (places cx (codes "n") 4 (Some Binary) (n_is schema t at it.found [] true true) 99997 (Some Binary) refl)
        (rw (places cx (codes "domain") 5 (Some Binary) (domain_is schema t at it.found [] true true) 99996
        (Some Binary) refl)
        (rw (places cx (codes "view_no") 6 (Some Binary) (view_is schema t at it.found [] true true) 99995
        (Some Binary) refl)
        (rw (places cx (codes "normal_no") 7 (Some Binary) (normal_is schema t at it.found [] true true) 99994
        (Some Binary) refl)
        (rw (places cx (codes "commit_no") 8 (Some Binary) (commit_is schema t at it.found [] true true) 99993
        (Some Binary) refl)
        (rw (it.found) (rw (it.found) refl))))))))))

    matching_is : matching low (outermost schema) (one_level (codes "node") at outputs_of) (core_of
        (codes "node") node_shown)
        (st 99992 (Some Binary)) ≡ Ok (record { steps = Inner t ∷ []; filter = [] }, st 99992 (Some Binary))
    unfolding everything
    matching_is = rw (it.found) refl

    sorts_is : sorts low (inside schema (one_level (codes "node") at outputs_of) false) outputs_of
        [] (st 99992 (Some Binary)) ≡ Ok ([], st 99992 (Some Binary))
    unfolding everything
    sorts_is = refl

  program_is : program schema [] (one_draft t outputs_of []) ≡ Ok (record { lets = []; body = node_query t })
  unfolding everything
  program_is = rw (it.own.small) (rw (by_tree it) refl)

  node_read : read schema node_select ≡ Ok (Select (record { lets = []; body = node_query t }) node_names)
  node_read = read_is schema (codes "node") at t node_shown [] outputs_of [] 99992 99992 (Some Binary)
      (Some Binary) it.named
      (result_is lower found_as) (matching_is lower found_as) (sorts_is lower found_as)
      (record { lets = []; body = node_query t }) program_is

  pub node_any : understood schema read_node ≡ Ok (selects (node_query t) node_names 76)
  node_any = understood_so schema read_node node_select (node_query t) node_names 76 parsed_is node_read

  pub node_unlisted : reads_listing schema read_node ≡ false
  node_unlisted = unlisted_so schema read_node node_select (node_query t) node_names 76 parsed_is node_read
