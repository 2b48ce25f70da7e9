-- What is true of links after each change.
use Rattle.std.proofs.Common.{◌≡◌, ◌≤◌, ◌<◌, ℕ, List, [], ◌∷◌, ◌++◌, Bool, true, false, ◌||◌, ◌==◌, leb, arith}
use Rattle.std.proofs.Common.{leb-true, subst}
use Rattle.std.specs.List.{All}
use Rattle.std.proofs.lemmas.List.Elements.{All-nil, All-head, All-tail, All-weaker, All-push, All-filter}
use Rattle.std.proofs.lemmas.List.Kept.{AllPairs-filter}
use Rattle.std.specs.List.{filter}
use Rattle.std.proofs.lemmas.Bool.{cond_both, or_parts, eqb-false, leb-false}
use Rattle.desk_incidents.specs.declared.incident.Incident.{Incident}
use Rattle.desk_incidents.specs.declared.incident.Linked.{Linked}
use Rattle.desk_types.specs.MergedNumber.{number_after_merge}
use Rattle.desk_incidents.specs.Checks.{is_unmerged}
use Rattle.desk_incidents.specs.Links.{same_link, new_link, has_link, link_after_merge, links_after_merge}
use Rattle.desk_incidents.proofs.FirstLinks.{with_link, moved_after, moved_after-none}
use Rattle.desk_board.specs.Consistency.{has_incident, ConsistentLinks}
use Rattle.desk_board.proofs.ChangedLists.{AllPairs-push, none_passes}

-- Incidents may change where those that are there, and are not merged, are so still.
pub ConsistentLinks-grow : (incidents changed : List Incident) (linked : List Linked) →
    ((n : ℕ) → has_incident is_unmerged n incidents ≡ true → has_incident is_unmerged n changed ≡ true) →
    ConsistentLinks incidents linked → ConsistentLinks changed linked
ConsistentLinks-grow incidents changed linked w h = record {
  differ = h.differ;
  ordered = h.ordered;
  on_board =
      All-weaker (λ l. (has_incident is_unmerged l.incident incidents ≡ true) × (has_incident is_unmerged l.other
      incidents ≡ true))
      (λ l. (has_incident is_unmerged l.incident changed ≡ true) × (has_incident is_unmerged l.other changed ≡ true))
      (λ l k. (w l.incident k.0, w l.other k.1)) linked h.on_board;
}

pub ConsistentLinks-empty : (incidents : List Incident) → ConsistentLinks incidents []
ConsistentLinks-empty incidents = record {
  differ = λ i j d before within. absurd (omega (arith, within));
  ordered = All-nil (λ l. l.incident < l.other);
  on_board =
      All-nil (λ l. (has_incident is_unmerged l.incident incidents ≡ true) × (has_incident is_unmerged l.other
      incidents ≡ true));
}

-- the link of two numbers

new_link-ordered : (a b : ℕ) → (new_link a b).incident ≤ (new_link a b).other
new_link-ordered a b =
    cond_both (leb a b) (record { incident = a; other = b }) (record {
      incident = b;
      other = a;
    }) (λ (l : Linked). l.incident ≤ l.other)
    (λ t. leb-true a b t) (λ t. omega (arith, leb-false a b t))

pub new_link-differs : (a b : ℕ) → (a ≡ b → ⊥) → (new_link a b).incident < (new_link a b).other
new_link-differs a b d =
    cond_both (leb a b) (record { incident = a; other = b }) (record {
      incident = b;
      other = a;
    }) (λ (l : Linked). l.incident < l.other)
    (λ t. omega (arith, leb-true a b t, d)) (λ t. omega (arith, leb-false a b t))

pub new_link-has_incident : (incidents : List Incident) (a b : ℕ) → has_incident is_unmerged a incidents ≡ true →
    has_incident is_unmerged b incidents ≡ true →
    (has_incident is_unmerged (new_link a b).incident incidents ≡ true) × (has_incident is_unmerged (new_link a b).other
    incidents ≡ true)
new_link-has_incident incidents a b h k =
    cond_both (leb a b) (record { incident = a; other = b }) (record { incident = b; other = a })
    (λ (l : Linked). (has_incident is_unmerged l.incident incidents ≡ true) × (has_incident is_unmerged l.other
    incidents ≡ true)) (λ t. (h, k)) (λ t. (k, h))

-- one more link, of two incidents that are there
pub ConsistentLinks-push : (incidents : List Incident) (linked : List Linked) (l : Linked) → l.incident < l.other →
    (has_incident is_unmerged l.incident incidents ≡ true) × (has_incident is_unmerged l.other incidents ≡ true) →
    has_link l linked ≡ false → ConsistentLinks incidents linked → ConsistentLinks incidents (linked ++ l ∷ [])
ConsistentLinks-push incidents linked l o s t h = record {
  differ = AllPairs-push (λ m k. same_link m k ≡ false) linked l h.differ (none_passes (λ m. same_link m l) linked t);
  ordered = All-push (λ m. m.incident < m.other) linked l h.ordered o;
  on_board =
      All-push (λ m. (has_incident is_unmerged m.incident incidents ≡ true) × (has_incident is_unmerged m.other
      incidents ≡ true)) linked l h.on_board s;
}

pub ConsistentLinks-filter : (incidents : List Incident) (linked : List Linked) (test : Linked → Bool) →
    ConsistentLinks incidents linked → ConsistentLinks incidents (filter test linked)
ConsistentLinks-filter incidents linked test h = record {
  differ = AllPairs-filter (λ m k. same_link m k ≡ false) test linked h.differ;
  ordered = All-filter test (λ m. m.incident < m.other) linked h.ordered;
  on_board =
      All-filter test (λ m. (has_incident is_unmerged m.incident incidents ≡ true) × (has_incident is_unmerged m.other
      incidents ≡ true)) linked h.on_board;
}

-- links moved from one incident to another

abbrev IsLinkOf : List Incident → Linked → Type 0
IsLinkOf incidents l =
    (has_incident is_unmerged l.incident incidents ≡ true) × (has_incident is_unmerged l.other incidents ≡ true)

with_link-consistent : (incidents : List Incident) (seen : List Linked) (l : Linked) → l.incident ≤ l.other →
    (has_incident is_unmerged l.incident incidents ≡ true) × (has_incident is_unmerged l.other incidents ≡ true) →
    ConsistentLinks incidents seen → ConsistentLinks incidents (with_link seen l)
with_link-consistent incidents seen l o s h =
    cond_both ((l.incident == l.other) || has_link l seen) seen (seen ++ l ∷ []) (ConsistentLinks incidents) (λ _. h)
    (λ t.
    let parts : ((l.incident == l.other) ≡ false) × (has_link l seen ≡ false) = or_parts _ _ t in
    ConsistentLinks-push incidents seen l (omega (arith, o, eqb-false _ _ parts.0)) s parts.1 h)

moved_after-consistent : (a b : ℕ) (incidents changed : List Incident) →
    ((n : ℕ) → has_incident is_unmerged n incidents ≡ true →
    has_incident is_unmerged (number_after_merge a b n) changed ≡ true) →
    (seen linked : List Linked) → All (IsLinkOf incidents) linked →
    ConsistentLinks changed seen → ConsistentLinks changed (moved_after a b seen linked)
moved_after-consistent a b incidents changed w seen [] h k = k
moved_after-consistent a b incidents changed w seen (l ∷ linked) h k =
    let x : ℕ = number_after_merge a b l.incident in
    let y : ℕ = number_after_merge a b l.other in
    let first : IsLinkOf incidents l = All-head (IsLinkOf incidents) l linked h in
    moved_after-consistent a b incidents changed w (with_link seen (link_after_merge a b l)) linked
    (All-tail (IsLinkOf incidents) l linked h)
    (with_link-consistent changed seen (link_after_merge a b l) (new_link-ordered x y)
    (new_link-has_incident changed x y (w l.incident first.0) (w l.other first.1)) k)

pub ConsistentLinks-merge : (a b : ℕ) (incidents changed : List Incident) (linked : List Linked) →
    ((n : ℕ) → has_incident is_unmerged n incidents ≡ true →
    has_incident is_unmerged (number_after_merge a b n) changed ≡ true) →
    ConsistentLinks incidents linked → ConsistentLinks changed (links_after_merge a b linked)
ConsistentLinks-merge a b incidents changed linked w h =
    subst (ConsistentLinks changed) (moved_after-none a b linked)
    (moved_after-consistent a b incidents changed w [] linked h.on_board (ConsistentLinks-empty changed))
