use Rattle.std.proofs.Common.{◌≡◌, Option, Some, None, ap, sym, ◌∙◌}
use Rattle.std.specs.Option.{option_map_or}
use Rattle.desk_types.specs.declared.command.Entry.{Entry}
use Rattle.desk_log.specs.Entries.{latest, number_at}
use Rattle.desk_saved.specs.DeskTables.{Keeps, StateRows, AreKeyed}
use Rattle.desk_saved.proofs.RowChanges.{makes_then}
use Rattle.desk_saved.proofs.steps.settle.Goals as goal

pub returns-in-None-clause-makes : goal.returns-in-None-clause-makes
returns-in-None-clause-makes g c =
    let none : latest c.args.client c.args.log.now ≡ None = sym c.latest.ensures.value ∙ c.in-None.is in
    rw (none, ← c.get-id.ensures.value) c.in_ok-run.ensures.makes

pub returns-in-Some-clause-makes : goal.returns-in-Some-clause-makes
returns-in-Some-clause-makes g c =
    let log = c.args.log.now in
    let place = c.in-Some.place in
    let found : latest c.args.client log ≡ Some place = sym c.latest.ensures.value ∙ c.in-Some.is in
    let number : number_at log place ≡ c.get-number.result =
    ap (λ (o : Option Entry). option_map_or (λ (e : Entry). e.number) o 0) c.at.ensures
    ∙ sym c.get-number.ensures.value in
    let Keyed : StateRows → Type 0 = λ rows. AreKeyed rows.clients in
    rw (found, number, ← c.get-id.ensures.value)
    (makes_then g.S.Store c.args.tx.now.conn.now c.run.new.tx.conn.now c.run-in-Some.new.tx.conn.now Keeps Keyed Keyed
    (λ _. Unit {0}) _ _ (λ rows keyed. (keyed, tt)) (Unit {0}) (Unit {0}) (Unit {0})
    (λ _. (tt, tt)) c.run-in-Some.result c.in_ok-run.ensures.makes
    c.run-in-Some.ensures.makes)
