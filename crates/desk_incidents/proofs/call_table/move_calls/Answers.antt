use Rattle.std.proofs.Common.{◌≡◌, ◌∙◌, ℕ, List, length, map, sym, ap, arith}
use Rattle.desk_index.specs.Places.{at_in}
use Rattle.desk_incidents.specs.CallTable.{pair_of}
use Rattle.desk_incidents.proofs.MovedCalls.{none-given}
use Rattle.desk_incidents.proofs.call_table.move_calls.Goals as goal

pub move_first-requires-clause-some : goal.move_first-requires-clause-some
move_first-requires-clause-some c =
    let count : length c.at-count.result.now ≡ length (at_in c.args.from c.args.index.now.lists.entries) =
    ap (λ (ks : List ℕ). length ks) c.at-count.ensures in
    omega (arith, c.loop-done.invariant.left, c.loop-done-test.true, count)

pub loop-done-preserved : goal.loop-done-preserved
loop-done-preserved c = record {
  table = c.move_first.ensures.table;
  same = c.move_first.ensures.same ∙ c.loop-done.invariant.same;
  left = omega (arith, c.move_first.ensures.fewer, c.loop-done.invariant.left);
  room = omega (
    arith,
    c.move_first.ensures.fewer,
    c.move_first.ensures.more,
    c.move_first.ensures.room,
    c.loop-done.invariant.room,
  );
  preserved = λ n. c.move_first.ensures.preserved n ∙ c.loop-done.invariant.preserved n;
}

pub returns-clause-calls : goal.returns-clause-calls
returns-clause-calls c =
    let count : length c.at-count.result.now ≡ length (at_in c.args.from c.args.index.now.lists.entries) =
    ap (λ (ks : List ℕ). length ks) c.at-count.ensures in
    let none : length (at_in c.args.from c.loop-done.index.lists.entries) ≡ 0 =
    omega (arith, c.loop-done.invariant.left, c.loop-done-test.false, count) in
    sym (none-given c.args.from c.args.to 0 (map pair_of c.loop-done.table.entries)
    (ap (λ (ks : List ℕ). length ks) (sym (c.loop-done.invariant.table c.args.from)) ∙ none))
    ∙ c.loop-done.invariant.same
