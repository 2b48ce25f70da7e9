use Rattle.std.proofs.Common.{◌≡◌, ◌∙◌, ◌++◌, ◌∷◌, [], ℕ, List, Option, Some, false, length, cond, sym, ap}
use Rattle.std.proofs.Common.{subst, arith}
use Rattle.std.specs.List.{list_any}
use Rattle.std.specs.Map.{lookup}
use Rattle.std.specs.Str.{bytes_eq}
use Rattle.desk_index.specs.Slots.{live}
use Rattle.desk_index.proofs.Slots.{live-push}
use Rattle.desk_units.specs.declared.unit.Unit.{Unit}
use Rattle.desk_units.specs.Checks.{has_name}
use Rattle.desk_units.specs.NameTable.{IsNameTable}
use Rattle.desk_units.proofs.NameTables.{name-new, IsNameTable-pushed}
use Rattle.desk_units.proofs.on_duty.OnDuty.push.Goals as goal

pub put_name-requires-clause-new : goal.put_name-requires-clause-new
put_name-requires-clause-new c =
    let new : list_any (has_name c.args.unit.name) (live c.self.inside.slots.items) ≡ false =
    ap (λ (us : List Unit). list_any (has_name c.args.unit.name) us) c.self.view_is ∙ c.requires in
    ap (λ n. lookup (bytes_eq n) c.reserve-2.new.self.entries) c.in_ok-name.ensures
    ∙ ap (lookup (bytes_eq c.args.unit.name)) c.in_ok-reserve-2.ensures.entries
    ∙ name-new (λ u. u.name) c.self.inside.slots.items c.self.inside.names.entries c.args.unit.name c.self.invariant
    new

pub invariant_of-self-2 : goal.invariant_of-self-2
invariant_of-self-2 c =
    let new : list_any (has_name c.args.unit.name) (live c.self.inside.slots.items) ≡ false =
    ap (λ (us : List Unit). list_any (has_name c.args.unit.name) us) c.self.view_is ∙ c.requires in
    let same : c.reserve.new.self.items ≡ c.self.inside.slots.items = c.in_ok-reserve.ensures.items in
    let all : c.push_within.new.items.items ≡ c.self.inside.slots.items ++ Some c.args.unit ∷ [] =
    c.push_within.ensures ∙ ap (λ (xs : List (Option Unit)). xs ++ Some c.args.unit ∷ []) same in
    let slot : c.slot_count-slot.result ≡ length c.self.inside.slots.items =
    c.slot_count-slot.ensures ∙ ap (λ (xs : List (Option Unit)). length xs) (c.deref.ensures.value ∙ same) in
    let count : length c.reserve-2.new.self.entries ≡ length c.self.inside.names.entries =
    ap (λ (es : List (List ℕ × ℕ)). length es) c.in_ok-reserve-2.ensures.entries in
    subst (λ (xs : List (Option Unit)). IsNameTable (λ u. u.name) xs c.put_name.new.names.entries) (sym all)
    (IsNameTable-pushed (λ u. u.name) c.self.inside.slots.items c.self.inside.names.entries
    c.put_name.new.names.entries c.args.unit c.self.invariant new
    (λ q. c.put_name.ensures.put q
    ∙ ap (cond (bytes_eq c.in_ok-name.name q) (Some c.slot_count-slot.result))
    (ap (lookup (bytes_eq q)) c.in_ok-reserve-2.ensures.entries)
    ∙ ap (λ k. cond (bytes_eq c.in_ok-name.name q) (Some k) (lookup (bytes_eq q) c.self.inside.names.entries)) slot
    ∙ ap (λ n. cond (bytes_eq n q) (Some (length c.self.inside.slots.items))
    (lookup (bytes_eq q) c.self.inside.names.entries)) c.in_ok-name.ensures)
    (omega (arith, c.put_name.ensures.more, count)))

pub returns-clause-ok : goal.returns-clause-ok
returns-clause-ok c =
    ap live (c.push_within.ensures
    ∙ ap (λ (xs : List (Option Unit)). xs ++ Some c.args.unit ∷ []) c.in_ok-reserve.ensures.items)
    ∙ live-push c.self.inside.slots.items c.args.unit
    ∙ ap (λ (us : List Unit). us ++ c.args.unit ∷ []) c.self.view_is
