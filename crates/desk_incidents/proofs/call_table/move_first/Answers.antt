use Rattle.std.proofs.Common.{◌≡◌, ◌∙◌, ◌+◌, ℕ, List, Some, slice_get, length, map, sym, ap}
use Rattle.std.proofs.Common.{arith}
use Rattle.std.specs.Option.{option_map}
use Rattle.desk_index.specs.Places.{at_in}
use Rattle.desk_index.proofs.ChangedPlaces.{places-head}
use Rattle.desk_incidents.specs.Calls.{is_of, call_after_merge}
use Rattle.desk_incidents.specs.CallTable.{pair_of}
use Rattle.desk_incidents.proofs.MovedCalls.{number-there, pair-there, calls-given, fewer-given, more-given}
use Rattle.desk_incidents.proofs.MovedCalls.{none-first}
use Rattle.desk_incidents.proofs.call_table.move_first.Goals as goal

pub give_at-requires-clause-there : goal.give_at-requires-clause-there
give_at-requires-clause-there c =
    let at : slice_get (at_in c.args.from c.args.index.now.lists.entries) 0 ≡ Some c.in-Some.place =
    ap (λ (ks : List ℕ). slice_get ks 0) (sym c.at.ensures) ∙ sym c.first_of.ensures ∙ c.in-Some.is in
    let plain : c.in-Some.place ≡ 0 + c.in-Some.place = omega arith in
    number-there c.args.from c.in-Some.place c.args.table.now.entries
    (places-head (is_of c.args.from) 0 c.in-Some.place (map pair_of c.args.table.now.entries)
    (ap (λ (ks : List ℕ). slice_get ks 0) (sym (c.requires.table c.args.from)) ∙ at ∙ ap Some plain))

pub give_at-requires-clause-room : goal.give_at-requires-clause-room
give_at-requires-clause-room c = omega (arith, c.requires.some, c.requires.room)

pub returns-in-Some : goal.returns-in-Some
returns-in-Some c =
    let at : slice_get (at_in c.args.from c.args.index.now.lists.entries) 0 ≡ Some c.in-Some.place =
    ap (λ (ks : List ℕ). slice_get ks 0) (sym c.at.ensures) ∙ sym c.first_of.ensures ∙ c.in-Some.is in
    let plain : c.in-Some.place ≡ 0 + c.in-Some.place = omega arith in
    let there : option_map (λ e. e.1) (slice_get c.args.table.now.entries c.in-Some.place) ≡ Some c.args.from =
    number-there c.args.from c.in-Some.place c.args.table.now.entries
    (places-head (is_of c.args.from) 0 c.in-Some.place (map pair_of c.args.table.now.entries)
    (ap (λ (ks : List ℕ). slice_get ks 0) (sym (c.requires.table c.args.from)) ∙ at ∙ ap Some plain)) in
    record {
      table = c.give_at.ensures.table;
      same = ap (map (call_after_merge c.args.from c.args.to)) c.give_at.ensures.calls
          ∙ calls-given c.args.from c.args.to c.in-Some.place (map pair_of c.args.table.now.entries)
          (pair-there c.args.from c.in-Some.place c.args.table.now.entries there);
      fewer = fewer-given c.args.from c.args.to c.in-Some.place _ _ c.requires.apart
          (c.give_at.ensures.lists c.args.from) at;
      more = omega (
        arith,
        more-given c.args.from c.args.to c.in-Some.place _ _ c.requires.apart
            (c.give_at.ensures.lists c.args.to),
      );
      room = c.give_at.ensures.room c.args.to;
      preserved = c.give_at.ensures.listed;
    }

pub returns-in_default : goal.returns-in_default
returns-in_default c =
    let none : length (at_in c.args.from c.args.index.now.lists.entries) ≡ 0 =
    none-first (at_in c.args.from c.args.index.now.lists.entries)
    (ap (λ (ks : List ℕ). slice_get ks 0) (sym c.at.ensures) ∙ sym c.first_of.ensures ∙ c.in_default.is) in
    absurd (omega (arith, none, c.requires.some))
