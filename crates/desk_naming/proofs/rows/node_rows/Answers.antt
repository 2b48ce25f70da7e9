use Rattle.std.proofs.Common.{refl, inl}
use Rattle.sqlite.specs.Held.{state}
use Rattle.desk_naming.specs.Named.{HasNodeTable}
use Rattle.desk_naming.specs.Tables.{read_node}
use Rattle.desk_naming.proofs.NodeAnswer.{node_shown, plain_node}
use Rattle.desk_naming.proofs.TableReads.{leaves_none, read_rows, read_refused}
use Rattle.desk_naming.proofs.rows.node_rows.Goals as goal

pub returns-in-Err-clause-crash : goal.returns-in-Err-clause-crash
returns-in-Err-clause-crash g c d schema =
    leaves_none g.S.Store c.args.conn.now c.query_all.new.self HasNodeTable read_node plain_node
    c.query_all.ensures.survives (d, schema)

pub returns-in-Ok-clause-crash : goal.returns-in-Ok-clause-crash
returns-in-Ok-clause-crash g c d schema =
    leaves_none g.S.Store c.args.conn.now c.query_all.new.self HasNodeTable read_node plain_node
    c.query_all.ensures.survives (d, schema)

pub returns-in-Ok-clause-shown : goal.returns-in-Ok-clause-shown
returns-in-Ok-clause-shown g c clean d schema =
    node_shown d (state g.S.Store c.args.conn.now) (state g.S.Store c.query_all.new.self) c.in-Ok.rows.items schema
    (c.in-Ok.ensures.ok clean)

pub returns-in-Err-clause-read : goal.returns-in-Err-clause-read
returns-in-Err-clause-read g c =
    read_refused g.S.Store c.args.conn.now c.query_all.new.self HasNodeTable read_node plain_node
    c.query_all.ensures.survives (inl refl) c.in-Err.field-0 c.in-Err.ensures.err

pub returns-in-Ok-clause-read : goal.returns-in-Ok-clause-read
returns-in-Ok-clause-read g c =
    read_rows g.S.Store c.args.conn.now c.query_all.new.self HasNodeTable read_node plain_node
    c.query_all.ensures.survives c.in-Ok.rows c.in-Ok.rows.items c.in-Ok.ensures.ok
