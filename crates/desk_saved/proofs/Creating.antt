-- The three CREATEs.
use Rattle.std.proofs.Common.{◌≡◌, [], codes, None, Ok, Err, refl, false}
use Rattle.sqlite_schema.specs.Names.{same_name}
use Rattle.sqlite_schema.specs.declared.command.Command.TheVariants.{CreateTable}
use Rattle.sqlite_resolve.specs.declared.compiled.Compiled.{Compiled}
use Rattle.sqlite_ast.specs.declared.Statement.{Statement}
use Rattle.sqlite_ast.specs.declared.Statement.TheVariants as written
use Rattle.sqlite_schema.specs.declared.schema.Schema.{Schema}
use Rattle.sqlite_syntax.specs.declared.statement.Parsed.{Parsed}
use Rattle.sqlite_resolve.specs.Lowering.{Checked}
use Rattle.sqlite_resolve.specs.Compile.{first, compiled, create_table, table_defined_by, planned, meaning, timed}
use Rattle.sqlite_resolve.specs.Compile.{returning, command, creates, is_attached, is_reserved}
use Rattle.sqlite.specs.Listing.{understood}
use Rattle.desk_naming.specs.Tables.{entry_table, node_table, client_table}
use Rattle.desk_saved.specs.Tables.{make_node, make_entry, make_client}
use Rattle.desk_saved.specs.NewTables.{IsFree}
use Rattle.sqlite_tied.specs.Compute.{everything}
use Rattle.sqlite_ast.specs.declared.CreateTable as ast
use Rattle.sqlite_resolve.specs.Define as define

abbrev pub node_command : Compiled
node_command = record {
  command = CreateTable;
  returning = None;
  names = [];
  formats = [];
  start = 0;
  end =
      238;
  tail = 238;
}

abbrev pub entry_command : Compiled
entry_command = record {
  command = CreateTable;
  returning = None;
  names = [];
  formats = [];
  start = 0;
  end =
      118;
  tail = 118;
}

abbrev pub client_command : Compiled
client_command = record {
  command = CreateTable;
  returning = None;
  names = [];
  formats = [];
  start = 0;
  end =
      97;
  tail = 97;
}

abbrev def_by : ast.CreateTable → Statement → ast.CreateTable
def_by other (written.CreateTable def) = def
def_by other _ = other

abbrev def_in : ast.CreateTable → Checked Parsed → ast.CreateTable
def_in other (Ok p) = def_by other p.statement
def_in other (Err e) = other

abbrev no_def : ast.CreateTable
no_def = record {
  if_missing = false;
  name = [];
  body = record { columns = []; rules = [] };
  is_strict =
      false;
  resolves = false;
}

pub node_def : ast.CreateTable
node_def = def_in no_def (first make_node)

node_parsed : first make_node ≡ Ok
    (record { statement = written.CreateTable node_def; names = []; formats = []; start = 0; end = 238; tail = 238 })
unfolding node_def everything
node_parsed = refl

node_name : (node_def.name ≡ codes "node") × (node_def.if_missing ≡ false) × (node_def.resolves ≡ false)
    × (define.table [] node_def ≡ Ok (node_table 0))
unfolding node_def everything
node_name = (refl, refl, refl, refl)

pub entry_def : ast.CreateTable
entry_def = def_in no_def (first make_entry)

entry_parsed : first make_entry ≡ Ok
    (record { statement = written.CreateTable entry_def; names = []; formats = []; start = 0; end = 118; tail = 118 })
unfolding entry_def everything
entry_parsed = refl

entry_name : (entry_def.name ≡ codes "entry") × (entry_def.if_missing ≡ false) × (entry_def.resolves ≡ false)
    × (define.table [] entry_def ≡ Ok (entry_table 0))
unfolding entry_def everything
entry_name = (refl, refl, refl, refl)

pub client_def : ast.CreateTable
client_def = def_in no_def (first make_client)

client_parsed : first make_client ≡ Ok
    (record { statement = written.CreateTable client_def; names = []; formats = []; start = 0; end = 97; tail = 97 })
unfolding client_def everything
client_parsed = refl

client_name : (client_def.name ≡ codes "client") × (client_def.if_missing ≡ false) × (client_def.resolves ≡ false)
    × (define.table [] client_def ≡ Ok (client_table 0))
unfolding client_def everything
client_name = (refl, refl, refl, refl)

module _ (schema : Schema) (free : IsFree schema (codes "node")) where
  node_made : create_table schema [] node_def ≡ Ok CreateTable
  unfolding create_table creates is_attached is_reserved same_name
  node_made = rw (node_name.3, node_name.2, node_name.0, node_name.1)
      (rw (free.view) (rw (free.table) (rw (free.index) refl)))

  node_compiled : compiled schema make_node ≡ Ok (node_command)
  unfolding compiled planned meaning timed returning command
  node_compiled = rw node_parsed (rw node_made refl)

  pub node_any : understood schema make_node ≡ Ok (node_command)
  unfolding understood
  node_any = rw node_compiled refl

module _ (schema : Schema) (free : IsFree schema (codes "entry")) where
  entry_made : create_table schema [] entry_def ≡ Ok CreateTable
  unfolding create_table creates is_attached is_reserved same_name
  entry_made = rw (entry_name.3, entry_name.2, entry_name.0, entry_name.1)
      (rw (free.view) (rw (free.table) (rw (free.index) refl)))

  entry_compiled : compiled schema make_entry ≡ Ok (entry_command)
  unfolding compiled planned meaning timed returning command
  entry_compiled = rw entry_parsed (rw entry_made refl)

  pub entry_any : understood schema make_entry ≡ Ok (entry_command)
  unfolding understood
  entry_any = rw entry_compiled refl

module _ (schema : Schema) (free : IsFree schema (codes "client")) where
  client_made : create_table schema [] client_def ≡ Ok CreateTable
  unfolding create_table creates is_attached is_reserved same_name
  client_made = rw (client_name.3, client_name.2, client_name.0, client_name.1)
      (rw (free.view) (rw (free.table) (rw (free.index) refl)))

  client_compiled : compiled schema make_client ≡ Ok (client_command)
  unfolding compiled planned meaning timed returning command
  client_compiled = rw client_parsed (rw client_made refl)

  pub client_any : understood schema make_client ≡ Ok (client_command)
  unfolding understood
  client_any = rw client_compiled refl

pub node_defined : table_defined_by make_node ≡ Ok (node_table 0)
unfolding table_defined_by everything
node_defined = refl

pub entry_defined : table_defined_by make_entry ≡ Ok (entry_table 0)
unfolding table_defined_by everything
entry_defined = refl

pub client_defined : table_defined_by make_client ≡ Ok (client_table 0)
unfolding table_defined_by everything
client_defined = refl
