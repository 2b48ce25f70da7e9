use Rattle.std.proofs.Common.{◌≡◌, ◌∙◌, ◌++◌, ◌∷◌, [], List, length, nat_eq, cond, Some, None, is_some}
use Rattle.std.proofs.Common.{sym, ap}
use Rattle.std.specs.Map.{lookup}
use Rattle.std.specs.Str.{bytes_eq}
use Rattle.std.specs.Cmp.{nat_eq_equiv}
use Rattle.std.specs.Cmp.Lexicographic.{nat_list_eq_equiv}
use Rattle.desk_incidents.specs.declared.incident.Incident.{Incident}
use Rattle.desk_incidents.specs.Checks.{has_id, has_number}
use Rattle.desk_index.specs.Slots.{first}
use Rattle.desk_incidents.proofs.RowIndexes.{index-push}
use Rattle.desk_incidents.proofs.rows.Rows.push.Goals as goal

pub invariant_of-self-2 : goal.invariant_of-self-2
invariant_of-self-2 c =
    let xs : List Incident = c.self.inside.list.items in
    let same : c.reserve.new.self.items ≡ c.self.inside.list.items = c.in_ok-reserve.ensures.items in
    let all : c.push_within.new.items.items ≡ c.self.inside.list.items ++ c.args.incident ∷ [] =
    c.push_within.ensures ∙ ap (λ (is : List Incident). is ++ c.args.incident ∷ []) same in
    let place : c.count-place.result ≡ length c.self.inside.list.items = c.count-place.ensures
    ∙ ap (λ (is : List Incident). length is) (c.deref.ensures.value ∙ same) in (
      (λ q.
          index-push (has_id q) c.self.inside.list.items c.args.incident
          (lookup (bytes_eq q) c.reserve-2.new.self.entries)
          (lookup (bytes_eq q) c.put_id.new.map.entries) (bytes_eq q c.args.incident.id)
          (ap (lookup (bytes_eq q)) c.in_ok-reserve-2.ensures.entries ∙ c.self.invariant.0 q)
          (c.put_id.ensures q
          ∙ ap (λ n. cond (is_some (lookup (bytes_eq q) c.reserve-2.new.self.entries))
          (lookup (bytes_eq q) c.reserve-2.new.self.entries) (cond (bytes_eq q c.in_ok-id.id) (Some n) None))
          place
          ∙ ap (λ id. cond (is_some (lookup (bytes_eq q) c.reserve-2.new.self.entries))
          (lookup (bytes_eq q) c.reserve-2.new.self.entries)
          (cond (bytes_eq q id) (Some (length c.self.inside.list.items)) None)) c.in_ok-id.ensures)
          (nat_list_eq_equiv.symm q c.args.incident.id)
          ∙ ap (λ (is : List Incident). first (has_id q) 0 is) (sym all)),
      (λ n.
          index-push (has_number n) c.self.inside.list.items c.args.incident
          (lookup (nat_eq n) c.reserve-3.new.self.entries)
          (lookup (nat_eq n) c.put_number.new.map.entries) (nat_eq n c.args.incident.number)
          (ap (lookup (nat_eq n)) c.in_ok-reserve-3.ensures.entries ∙ c.self.invariant.1 n)
          (c.put_number.ensures n
          ∙ ap (λ k. cond (is_some (lookup (nat_eq n) c.reserve-3.new.self.entries))
          (lookup (nat_eq n) c.reserve-3.new.self.entries)
          (cond (nat_eq n c.args.incident.number) (Some k) None)) place)
          (nat_eq_equiv.symm n c.args.incident.number)
          ∙ ap (λ (is : List Incident). first (has_number n) 0 is) (sym all)),
    )
