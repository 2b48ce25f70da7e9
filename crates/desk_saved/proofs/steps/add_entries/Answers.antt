use Rattle.std.proofs.Math.Seq.{take-length}
use Rattle.std.proofs.Common.{Ok, ap, sym, length, append-nil, ◌+◌, ◌≡◌, ◌∷◌, ◌++◌, ◌∙◌, take, arith, subst, refl}
use Rattle.desk_saved.specs.DeskTables.{Keeps, StateRows}
use Rattle.desk_saved.specs.File.{entry_row_at, rows_from}
use Rattle.desk_saved.specs.Transactions.{MakesRows}
use Rattle.desk_saved.proofs.Reading.{fit_next}
use Rattle.desk_saved.proofs.SeveralStatements.{one_more}
use Rattle.desk_saved.proofs.RowChanges.{makes_then, makes_entries, makes_same}
use Rattle.desk_saved.proofs.steps.add_entries.Goals as goal

pub loop-entry-preserved : goal.loop-entry-preserved
loop-entry-preserved g c =
    let inv = c.loop-entry.invariant in
    let k = c.loop-entry.entry-index in
    let e = c.entry-item.result in
    let more = c.args.more.now in
    let front = c.args.front in
    let before = c.args.tx.now.conn.now in
    let mid = c.loop-entry.tx.conn.now in
    let after = c.run.new.tx.conn.now in
    let Unasked : StateRows → Type 0 = λ _. Unit {0} in
    record {
      place = omega (arith, inv.place);
      same = c.run.ensures.same_reference ∙ inv.same;
      fits = fit_next k more e c.loop-entry-test.true c.entry-item.is inv.fits c.in_ok-run.ensures.fits;
      makes = makes_entries g.S.Store before after Unasked
          (λ rows. record rows {
            entries = entry_row_at (front + k + 1) e ∷ (rows.entries ++ rows_from front (take k more));
          }) ⊥
          (λ rows. rows.entries ++ rows_from front (take (k + 1) more))
          (λ rows. one_more front k more e rows.entries c.loop-entry-test.true c.entry-item.is)
          (subst (λ p. MakesRows g.S.Store before after Keeps Unasked (Ok tt)
          (λ rows. record rows {
            entries = entry_row_at (p + 1) e ∷ (rows.entries ++ rows_from front (take k more));
          }) ⊥)
          inv.place
          (makes_then g.S.Store before mid after Keeps Unasked Unasked Unasked
          (λ rows. record rows { entries = rows.entries ++ rows_from front (take k more) }) _
          (λ rows _. (tt, tt)) ⊥ ⊥ ⊥ (λ none. absurd none) (Ok tt)
          inv.makes c.in_ok-run.ensures.makes));
    }

pub loop-entry-init : goal.loop-entry-init
loop-entry-init g c = record {
  place = omega arith;
  same = refl;
  fits = tt;
  makes = makes_same g.S.Store c.args.tx.now.conn.now (λ _. Unit {0}) _ ⊥
      (λ rows _. ap (λ l. record rows { entries = l }) (sym (append-nil rows.entries)));
}

pub returns-clause-makes : goal.returns-clause-makes
returns-clause-makes g c =
    let all : c.loop-entry.entry-index ≡ length c.args.more.now =
    omega (arith, c.loop-entry-test.false, c.loop-entry.auto.entry-index-end) in
    let whole = ap (λ k. take k c.args.more.now) all ∙ take-length c.args.more.now in
    subst (λ l. MakesRows g.S.Store c.args.tx.now.conn.now c.loop-entry.tx.conn.now Keeps (λ _. Unit {0}) (Ok tt)
    (λ rows. record rows { entries = rows.entries ++ rows_from c.args.front l }) ⊥) whole c.loop-entry.invariant.makes
