-- Each step keeps the rule of the published list.
use Rattle.std.proofs.Common.{◌≡◌, ◌≢◌, ℕ, List, [], ◌++◌, sym, refl, ap, ◌∙◌, subst, ⊎_elim, append_assoc}
use Rattle.std.proofs.Common.{append-nil}
use mathlib.Core.Option.{some}
use mathlib.Core.List.{IsPrefix}
use lib.ListN.{get_elem?}
use Rattle.crossbeam_utils.specs.Register.{Admits, TurnsAt}
use Rattle.atomic_table.proofs.Lists.{at_set, at_snoc}
use Rattle.desk_types.specs.declared.command.Entry.{Entry}
use Rattle.desk_published.specs.declared.rule.SeatView.{SeatView}
use Rattle.desk_published.specs.PrefixRule.{HaveSeenPrefixes, has_seen, Sees}

prefix_of_more : (xs list more : List Entry) → IsPrefix xs list → IsPrefix xs (list ++ more)
prefix_of_more xs list more p = (p.0 ++ more, sym (append_assoc xs p.0 more) ∙ ap (λ w. w ++ more) p.1)

-- a new seat
pub HaveSeenPrefixes-new_seat : Admits HaveSeenPrefixes (has_seen [])
HaveSeenPrefixes-new_seat list views h seat v at =
    ⊎_elim
    (λ (t : get_elem? views seat ≡ some v). h seat v t)
    (λ (t : has_seen [] ≡ v). subst (λ (u : SeatView). IsPrefix u.seen list) t (list, refl))
    (at_snoc views (has_seen []) v seat at)

-- an enter, and a publish of more entries
pub HaveSeenPrefixes-turn : (seat : ℕ) (v : SeatView) (old new : List Entry) (more : List Entry) → new ≡ old ++ more →
    TurnsAt HaveSeenPrefixes seat v old new (λ v old new w. Sees v new w)
HaveSeenPrefixes-turn seat v old new more e views h at =
    let grown = λ (u : SeatView) (p : IsPrefix u.seen old).
    subst (λ (l : List Entry). IsPrefix u.seen l) (sym e) (prefix_of_more u.seen old more p) in
    let now : SeatView = has_seen new in (
      now,
      (λ j u there. ⊎_elim
          (λ (t : (j ≡ seat) × (now ≡ u)). subst (λ (u : SeatView). IsPrefix u.seen new) t.1 ([], append-nil new))
          (λ (t : (j ≢ seat) × (get_elem? views j ≡ some u)). grown u (h j u t.1))
          (at_set views seat j now u there)),
      (refl, grown v (h seat v at)),
    )
