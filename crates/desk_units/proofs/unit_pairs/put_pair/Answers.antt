use Rattle.std.proofs.Common.{◌≡◌, ◌∙◌, ◌++◌, ◌∷◌, ◌==◌, [], List, Option, Some, length, cond, sym, ap, subst}
use Rattle.std.specs.Map.{lookup}
use Rattle.std.specs.Str.{bytes_eq}
use Rattle.desk_index.specs.Places.{at_in}
use Rattle.desk_index.specs.Slots.{live}
use Rattle.desk_index.proofs.Slots.{live-push}
use Rattle.desk_units.specs.declared.unit.UnitPair.{UnitPair}
use Rattle.desk_units.specs.PairTable.{IsPairTable}
use Rattle.desk_units.proofs.NameTables.{name-new, IsNameTable-pushed}
use Rattle.desk_units.proofs.PairTables.{placed-pushed}
use Rattle.desk_units.proofs.unit_pairs.put_pair.Goals as goal

pub put_name-requires-clause-new : goal.put_name-requires-clause-new
put_name-requires-clause-new c =
    ap (λ n. lookup (bytes_eq n) c.args.by_unit.now.entries) c.requires.named
    ∙ name-new (λ p. p.unit) c.args.slots.now.items c.args.by_unit.now.entries c.args.pair.unit
    c.requires.table.named c.requires.new

pub returns-clause-table : goal.returns-clause-table
returns-clause-table c =
    let slot : c.slot_count-slot.result ≡ length c.args.slots.now.items =
    c.slot_count-slot.ensures ∙ ap (λ (xs : List (Option UnitPair)). length xs) c.deref.ensures.value in
    subst (λ (xs : List (Option UnitPair)). IsPairTable xs c.put_name.new.names.entries c.push.new.self.lists.entries)
    (sym c.push_within.ensures)
    (record {
      named =
          IsNameTable-pushed (λ p. p.unit) c.args.slots.now.items c.args.by_unit.now.entries
          c.put_name.new.names.entries c.args.pair c.requires.table.named c.requires.new
          (λ q. c.put_name.ensures.put q
          ∙ ap (λ k. cond (bytes_eq c.args.name q) (Some k) (lookup (bytes_eq q) c.args.by_unit.now.entries)) slot
          ∙ ap (λ n. cond (bytes_eq n q) (Some (length c.args.slots.now.items))
          (lookup (bytes_eq q) c.args.by_unit.now.entries)) c.requires.named)
          c.put_name.ensures.more;
      placed =
          placed-pushed c.args.slots.now.items c.args.of_incident.now.lists.entries c.push.new.self.lists.entries
          c.args.pair c.requires.table.placed
          (λ n. c.push.ensures.lists n
          ∙ ap (λ k. cond (c.args.pair.incident == n) (at_in n c.args.of_incident.now.lists.entries ++ k ∷ [])
          (at_in n c.args.of_incident.now.lists.entries)) slot);
    })

pub returns-clause-pairs : goal.returns-clause-pairs
returns-clause-pairs c = ap live c.push_within.ensures ∙ live-push c.args.slots.now.items c.args.pair
