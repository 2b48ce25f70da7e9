use Rattle.std.proofs.Common.{rules, ◌≡◌, ◌∷◌, [], ◌++◌, ◌∙◌, ◌+◌, ap, length, subst, sym}
use Rattle.desk_codec.specs.Ranges.{FitsEntry, FitsEntries}
use Rattle.desk_saved.specs.File.{entry_row_at, rows_from, IsNoEntryAt}
use Rattle.desk_saved.proofs.Reading.{grown, no_log, wide, fit_more}
use Rattle.desk_saved.proofs.rows.log_in.Goals as goal

pub returns-in_default : goal.returns-in_default
returns-in_default c all =
    let row = c.index-rows-index.result in
    let width : length row ≡ 4 =
    wide c.args.rows.now c.loop-index.index row c.loop-index-test.true c.index-rows-index.is all in
    let none : IsNoEntryAt (c.loop-index.index + 1) row = search (rules, c.in_ok-entry.ensures width) in
    no_log c.args.rows.now c.loop-index.index row c.loop-index-test.true c.index-rows-index.is none

pub loop-index-preserved : goal.loop-index-preserved
loop-index-preserved c all =
    let row = c.index-rows-index.result in
    let e = c.in-Some.entry in
    let inv = c.loop-index.invariant all in
    let width : length row ≡ 4 =
    wide c.args.rows.now c.loop-index.index row c.loop-index-test.true c.index-rows-index.is all in
    let items : c.push.new.self.items ≡ c.loop-index.log.items ++ e ∷ [] = search rules in
    let found : FitsEntry e × (row ≡ entry_row_at (c.loop-index.index + 1) e) =
    rw c.in-Some.is at (c.in_ok-entry.ensures width) in (
      subst FitsEntries (sym items) (fit_more c.loop-index.log.items e inv.0 found.0),
      ap (rows_from 0) items
          ∙ grown c.args.rows.now c.loop-index.index row c.loop-index.log.items e inv.1 c.loop-index-test.true
          c.index-rows-index.is found.1,
    )
