-- Links in slots as a list: room made, and the links of one incident read by its places.
use Rattle.std.proofs.Common.{◌≡◌, ◌∙◌, ◌≢◌, ◌-◌, ◌≤◌, ◌<◌, ◌||◌, ◌==◌, ℕ, suc, List, [], ◌∷◌, ◌++◌}
use Rattle.std.proofs.Common.{Bool, true, false, Option, Some, None, cond, nat_le, refl, sym, ap, arith, subst, All}
use Rattle.std.proofs.Common.{is_some, length}
use Rattle.std.specs.List.{AllByRecursion}
use Rattle.std.specs.declared.vec.Vec.{Vec}
use Rattle.std.proofs.lemmas.Bool.{leb-true, leb-false}
use Rattle.desk_incidents.specs.declared.incident.Incident.{Incident}
use Rattle.desk_incidents.specs.declared.incident.Linked.{Linked}
use Rattle.desk_incidents.specs.Links.{new_link, links_of, linked_id, other_end}
use Rattle.desk_incidents.specs.LinkTable.{touches, IsLinkTable, live_places, ids_at, slot_id}
use Rattle.desk_index.specs.Places.{at_in}
use Rattle.desk_index.specs.Slots.{live, passes, places, standing}
use Rattle.desk_index.proofs.Slots.{from}

-- 1. room made, and the ends of a new link

-- lists with the same places
pub IsLinkTable-reserved : {B : Type 0} (slots : List (Option Linked)) (lists new : List (ℕ × Vec ℕ B)) →
    IsLinkTable slots lists → ((n : ℕ) → at_in n new ≡ at_in n lists) → IsLinkTable slots new
IsLinkTable-reserved slots lists new h a =
    record {
      indexed = λ n. ap (live_places slots) (a n) ∙ h.indexed n;
      within = λ n. subst (All (λ k. k < length slots)) (sym (a n)) (h.within n);
      once = h.once;
      ordered = h.ordered;
    }

ordered_by : (one other : ℕ) (t : Bool) → nat_le one other ≡ t → one ≢ other →
    (cond {A = Linked} t (record { incident = one; other = other })
    (record { incident = other; other = one })).incident
    < (cond {A = Linked} t (record { incident = one; other = other }) (record { incident = other; other = one })).other
ordered_by one other true e d =
    let l : one ≤ other = leb-true one other e in
    less one other d l
  where
    less : (m n : ℕ) → m ≢ n → m ≤ n → m < n
    less m n d l = omega (arith, d, l)
ordered_by one other false e d = let l : other < one = leb-false one other e in l

-- the link of two incidents has the smaller number first
pub new_link-ordered : (one other : ℕ) → one ≢ other → (new_link one other).incident < (new_link one other).other
new_link-ordered one other d = ordered_by one other (nat_le one other) refl d

-- 2. the links of one incident

abbrev each_of : (ℕ → List (List ℕ)) → List ℕ → List (List ℕ)
each_of f [] = []
each_of f (k ∷ ks) = f k ++ each_of f ks

shift : (n i : ℕ) (is : List Incident) (x : Option Linked) (xs : List (Option Linked)) (ks : List ℕ) →
    AllByRecursion (λ k. suc i ≤ k) ks →
    each_of (λ k. slot_id n is (standing (x ∷ xs) (k - i))) ks ≡ each_of
    (λ k. slot_id n is (standing xs (k - suc i))) ks
shift n i is x xs [] h = refl
shift n i is x xs (k ∷ ks) h =
    let e : k - i ≡ suc (k - suc i) = omega (arith, h.0) in
    ap (λ m. slot_id n is (standing (x ∷ xs) m) ++ each_of (λ j. slot_id n is (standing (x ∷ xs) (j - i))) ks) e
    ∙ ap (λ l. slot_id n is (standing xs (k - suc i)) ++ l) (shift n i is x xs ks h.1)

end_of : (t u : Bool) (a b : ℕ) → (t || u) ≡ false → cond t (Some b) (cond u (Some a) None) ≡ None
end_of true u a b h = absurd (cc)
end_of false true a b h = absurd (cc)
end_of false false a b h = refl

id_step : (t : Bool) (n i : ℕ) (is : List Incident) (x : Linked) (xs : List (Option Linked)) (ks : List ℕ)
    (rest : List (List ℕ)) → touches n x ≡ t → AllByRecursion (λ k. suc i ≤ k) ks →
    each_of (λ k. slot_id n is (standing xs (k - suc i))) ks ≡ rest →
    each_of (λ k. slot_id n is (standing (Some x ∷ xs) (k - i))) (cond t (i ∷ ks) ks) ≡ linked_id
    (other_end n x) is ++ rest
id_step true n i is x xs ks rest e h g =
    let z : i - i ≡ 0 = omega arith in
    ap (λ m. slot_id n is (standing (Some x ∷ xs) m) ++ each_of
    (λ j. slot_id n is (standing (Some x ∷ xs) (j - i))) ks) z
    ∙ ap (λ l. linked_id (other_end n x) is ++ l) (shift n i is (Some x) xs ks h ∙ g)
id_step false n i is x xs ks rest e h g =
    shift n i is (Some x) xs ks h ∙ g
    ∙ ap (λ o. linked_id o is ++ rest) (sym (end_of (x.incident == n) (x.other == n) x.incident x.other e))

ids-from : (n i : ℕ) (is : List Incident) (xs : List (Option Linked)) →
    each_of (λ k. slot_id n is (standing xs (k - i))) (places (passes (touches n)) i xs) ≡ links_of n is (live xs)
ids-from n i is [] = refl
ids-from n i is (None ∷ xs) =
    shift n i is None xs (places (passes (touches n)) (suc i) xs) (from (passes (touches n)) (suc i) xs)
    ∙ ids-from n (suc i) is xs
ids-from n i is (Some x ∷ xs) =
    id_step (touches n x) n i is x xs (places (passes (touches n)) (suc i) xs) (links_of n is (live xs)) refl
    (from (passes (touches n)) (suc i) xs) (ids-from n (suc i) is xs)

plain : (n : ℕ) (is : List Incident) (xs : List (Option Linked)) (ks : List ℕ) →
    ids_at n is xs ks ≡ each_of (λ k. slot_id n is (standing xs (k - 0))) ks
plain n is xs [] = refl
plain n is xs (k ∷ ks) =
    let e : k ≡ k - 0 = omega arith in
    ap (λ m. slot_id n is (standing xs m) ++ ids_at n is xs ks) e
    ∙ ap (λ l. slot_id n is (standing xs (k - 0)) ++ l) (plain n is xs ks)

id_of_live : (n k : ℕ) (is : List Incident) (o : Option Linked) (xs : List (Option Linked)) (ls ks : List ℕ) →
    standing xs k ≡ o → ids_at n is xs ls ≡ ids_at n is xs ks →
    ids_at n is xs (cond (is_some o) (k ∷ ls) ls) ≡ ids_at n is xs (k ∷ ks)
id_of_live n k is None xs ls ks e h = h ∙ sym (ap (λ o. slot_id n is o ++ ids_at n is xs ks) e)
id_of_live n k is (Some l) xs ls ks e h = ap (λ ids. slot_id n is (standing xs k) ++ ids) h

-- the places of empty slots give nothing
ids-live : (n : ℕ) (is : List Incident) (xs : List (Option Linked)) (ks : List ℕ) →
    ids_at n is xs (live_places xs ks) ≡ ids_at n is xs ks
ids-live n is xs [] = refl
ids-live n is xs (k ∷ ks) = id_of_live n k is (standing xs k) xs (live_places xs ks) ks refl (ids-live n is xs ks)

-- what the links at the places of a number have beside it, in their order
pub ids-at : (n : ℕ) (is : List Incident) (xs : List (Option Linked)) (ks : List ℕ) →
    live_places xs ks ≡ places (passes (touches n)) 0 xs → ids_at n is xs ks ≡ links_of n is (live xs)
ids-at n is xs ks h =
    sym (ids-live n is xs ks) ∙ plain n is xs (live_places xs ks)
    ∙ ap (each_of (λ k. slot_id n is (standing xs (k - 0)))) h ∙ ids-from n 0 is xs
