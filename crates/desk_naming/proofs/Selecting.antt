-- A SELECT of columns of one table.
use Rattle.std.proofs.Common.{◌≡◌, ℕ, suc, pos, negsuc, List, [], ◌∷◌, None, Option, Ok, refl, true, false, Some}
use Rattle.sqlite_schema.specs.declared.command.Command.TheVariants.{Select}
use Rattle.sqlite_value.specs.declared.value.Value.TheVariants.{Int}
use Rattle.sqlite_sql.specs.Term.{Term, col, lit}
use Rattle.sqlite_schema.specs.declared.schema.Schema.{Schema}
use Rattle.sqlite_draft.specs.declared.query.Draft.{Draft}
use Rattle.sqlite_draft.specs.declared.join.Step.TheVariants.{Inner}
use Rattle.sqlite_draft.specs.Join.{chain}
use Rattle.sqlite_resolve.specs.declared.state.State.{State}
use Rattle.sqlite_resolve.specs.Scope.{Context, Name}
use Rattle.sqlite_resolve.specs.Compile.{first, read, compiled, planned, meaning, timed, returning, command}
use Rattle.sqlite_resolve.specs.Program.{program, query, Building, Shown as Shown', query_to, level, with, whole, alone}
use Rattle.sqlite_resolve.specs.Program.{single, sources, viewing}
use Rattle.desk_naming.proofs.NodeColumns.{Reads}
use Rattle.sqlite_tied.specs.Compute.{everything}
use Rattle.sqlite_ast.specs.declared.Select as ast
use Rattle.sqlite_schema.specs.declared.program.Program.{Program}
use Rattle.sqlite_value.specs.declared.keys.Key.{Key}
use Rattle.sqlite_resolve.specs.declared.select.Clauses.{Clauses}
use Rattle.sqlite_ast.specs.declared.Core.{Core, out-Core, out-roll-Core, roll-Core}
use Rattle.sqlite_ast.specs.declared.Source.{Source, roll-Source}
use Rattle.sqlite_ast.specs.declared.Origin.TheVariants as origin
use Rattle.sqlite_ast.specs.declared.Shown.{Shown}
use Rattle.sqlite_ast.specs.declared.Shown.TheVariants.{One}
use Rattle.sqlite_ast.specs.declared.Expr.TheVariants as e
use Rattle.sqlite_ast.specs.declared.Sort.{Sort}
use Rattle.sqlite_value.specs.declared.keys.Collation.{Collation}
use Rattle.sqlite_resolve.specs.declared.scope.Output.{Output}
use Rattle.sqlite_resolve.specs.Lowering.{fresh, max_budget, spend, begin, finish, Lowering}
use Rattle.sqlite_resolve.specs.Expr.{lower, lower_to, node, opened, passes}
use Rattle.std.specs.Prelude.{nat_lt, ◌-◌, map}
use Rattle.sqlite_resolve.specs.Select.{outermost, inside, named, parts, having, assembled, ungrouped, paging}
use Rattle.sqlite_resolve.specs.Select.{constant_or}
use Rattle.sqlite_resolve.specs.Body.{bounds, result, matching, body, tests}
use Rattle.sqlite_resolve.specs.Order.{sorts, keys as keys_of}
use Rattle.sqlite_schema.specs.Names.{table_named}
use Rattle.sqlite.specs.Listing.{understood, reads_listing}
use Rattle.sqlite_sql.specs.Query.{Query}
use Rattle.sqlite_resolve.specs.declared.compiled.Compiled.{Compiled}
use Rattle.sqlite_syntax.specs.declared.statement.Parsed.{Parsed}
use Rattle.sqlite_ast.specs.declared.Statement.TheVariants as written
use Rattle.sqlite_ast.specs.declared.Expr.{Expr}
use Rattle.sqlite_resolve.specs.declared.scope.Bound.{Bound}
use Rattle.sqlite_resolve.specs.declared.scope.Level.{Level}

abbrev pub column_shown : Name → Shown
column_shown name = One (e.Column None name) None name

abbrev pub from_one : Name → List Source
from_one name = roll-Source
    (record { is_left = false; origin = origin.Table name; alias = None; on = None; using = [] }) ∷ []

abbrev pub core_of : Name → List Shown → Core
core_of name shown = roll-Core
    (record { distinct = false; shown = shown; from = from_one name; filter = None; group = []; having = None })

abbrev pub select_of : Core → List Sort → ast.Select
select_of core order = ast.roll-Select
    (record { with = []; first = core; others = []; order = order; limit = None; offset = None })

abbrev pub out_as : Name → ℕ → Option Collation → Output
out_as name place collation =
    record {
      name = name;
      is_alias = false;
      is_column = true;
      term = col 1 place;
      carried =
          record { collation = collation; is_written = false };
    }

abbrev pub st : ℕ → Option Collation → State
st budget carried = record {
  next = 2;
  steps = [];
  aggregates = [];
  budget = budget;
  written = None;
  last =
      record { collation = carried; is_written = false };
}

-- a column's name, read by the resolver
abbrev pub FindsColumns : (Context → Expr → Lowering Term) → Type 0
FindsColumns low = (cx : Context) (name : Name) (place : ℕ) (carried : Option Collation) → Reads cx name place carried
    → (budget : ℕ) (before : Option Collation) → nat_lt 1 budget ≡ true
    → low cx (e.Column None name) (st budget before) ≡ Ok (col 1 place, st (budget - 1) carried)

lowers : (depth : ℕ) → FindsColumns (lower_to (suc depth))
unfolding lower_to node opened passes spend begin finish everything
lowers depth cx name place carried reads budget before enough = rw enough (rw reads refl)

pub found_as : FindsColumns lower
found_as = lowers 699

-- the one table of a FROM
abbrev pub one_bound : Name → ℕ → Bound
one_bound name at = record { name = name; table = at; slot = 1; shared = [] }

-- and with what its SELECT shows
abbrev pub one_level : Name → ℕ → List Output → Level
one_level name at outs = record { tables = one_bound name at ∷ []; shown = outs }

-- the query of these outputs in this order
abbrev pub one_draft : ℕ → List Output → List (Term × Key) → Draft
one_draft t outs keys = record {
  from = chain (Inner t ∷ []);
  filter = [];
  group = None;
  project = map (λ o. o.term) outs;
  distinct = false;
  collations = [];
  order = keys;
  limit = lit (Int (negsuc 0));
  offset = lit (Int (pos 0));
}

-- a text of so many bytes that reads
abbrev pub reads_by : ast.Select → ℕ → Parsed
reads_by select end =
    record { statement = written.Select select; names = []; formats = []; start = 0; end = end; tail = end }

-- and the command that it means
abbrev pub selects : Query → List Name → ℕ → Compiled
selects query names end = record {
  command = Select (record { lets = []; body = query }) names;
  returning = None;
  names = [];
  formats = [];
  start = 0;
  end = end;
  tail = end;
}

module _ (schema : Schema) (text : List ℕ) (select : ast.Select) (query : Query) (names : List Name) (end : ℕ)
    (parsed : first text ≡ Ok (reads_by select end))
    (typed : read schema select ≡ Ok (Select (record { lets = []; body = query }) names)) where
  compiled_so : compiled schema text ≡ Ok (selects query names end)
  unfolding compiled planned meaning timed returning command
  compiled_so = rw parsed (rw typed refl)

  pub understood_so : understood schema text ≡ Ok (selects query names end)
  unfolding understood
  understood_so = rw compiled_so refl

  pub unlisted_so : reads_listing schema text ≡ false
  unlisted_so = rw compiled_so refl

-- A SELECT of columns of one table, from what its parts mean.
module _ (schema : Schema) (name : Name) (at t : ℕ) (shown : List Shown) (order : List Sort) (outs : List Output)
    (keys : List (Term × Key)) (n2 n3 : ℕ) (c2 c3 : Option Collation)
    (stands : table_named schema name ≡ Some at)
    (result_is : result lower (outermost schema) (one_level name at [])
    (core_of name shown) (st 100000 None) ≡ Ok (outs, st n2 c2))
    (matching_is : matching lower (outermost schema) (one_level name at outs)
    (core_of name shown) (st n2 c2) ≡ Ok (record { steps = Inner t ∷ []; filter = [] }, st n2 c2))
    (sorts_is : sorts lower (inside schema (one_level name at outs) false) outs
    order (st n2 c2) ≡ Ok (keys, st n3 c3)) where
  abbrev core : Core
  core = core_of name shown

  abbrev whole_select : ast.Select
  whole_select = select_of core order

  bounds_is : bounds schema (from_one name) (fresh 1 max_budget) ≡ Ok (one_bound name at ∷ [], st 100000 None)
  unfolding everything
  bounds_is = rw stands refl

  core_is : out-Core core ≡ record
      { distinct = false; shown = shown; from = from_one name; filter = None; group = []; having = None }
  core_is = out-roll-Core _

  select_is : ast.out-Select whole_select ≡ record
      { with = []; first = core; others = []; order = order; limit = None; offset = None }
  select_is = ast.out-roll-Select _

  abbrev clauses : Clauses
  clauses = record {
    body = record {
      level = one_level name at outs;
      steps = Inner t ∷ [];
      filter = [];
    };
    is_grouped = false;
    keys = [];
    collations = [];
    having = [];
    order = keys;
  }

  whole_body : body lower (outermost schema) core (fresh 1 max_budget) ≡ Ok (clauses.body, st n2 c2)
  unfolding body
  whole_body = rw core_is (rw bounds_is (rw result_is (rw matching_is refl)))

  parts_is : parts schema core order (fresh 1 max_budget) ≡ Ok (clauses, st n3 c3)
  unfolding parts keys_of having tests
  parts_is = rw whole_body (rw core_is (rw sorts_is refl))

  abbrev shown_as : Draft × List Name × List (Option Collation)
  shown_as = (one_draft t outs keys, map (λ o. o.name) outs, map (λ o. o.carried.collation) outs)

  named_is : named schema core order (lit (Int (negsuc 0)), lit (Int (pos 0))) ≡ Ok shown_as
  unfolding named assembled ungrouped
  named_is = rw parts_is (rw core_is refl)

  sources_is : (low : Schema → ast.Select → Building Shown') → sources low schema (from_one name) [] ≡ Ok (schema, [])
  unfolding everything
  sources_is low = refl

  viewing_is : (low : Schema → ast.Select → Building Shown') (n : ℕ)
      → viewing low schema core order (lit (Int (negsuc 0)), lit (Int (pos 0))) (suc n) schema [] ≡ Ok
      ((shown_as, schema), [])
  unfolding viewing
  viewing_is low n = rw named_is refl

  paging_is : paging schema whole_select ≡ Ok (lit (Int (negsuc 0)), lit (Int (pos 0)))
  unfolding paging constant_or
  paging_is = rw select_is refl

  whole_is : (low : Schema → ast.Select → Building Shown') → whole low schema whole_select [] ≡ Ok (shown_as, [])
  unfolding whole alone single
  whole_is low = rw paging_is (rw select_is (rw core_is (rw (sources_is low) (rw (viewing_is low 63) refl))))

  query_is : query schema whole_select ≡ Ok (shown_as, [])
  unfolding query query_to level with
  query_is = rw select_is (rw (whole_is (query_to 15)) refl)

  pub read_is : (p : Program) → program schema [] (one_draft t outs keys) ≡ Ok p
      → read schema whole_select ≡ Ok (Select p (map (λ o. o.name) outs))
  unfolding read
  read_is p typed = rw query_is (rw typed refl)
