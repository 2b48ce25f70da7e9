-- What one node does in a group's run.
use Rattle.std.proofs.Common.{◌≡◌, ◌≢◌, ◌⊎◌, ℕ, true, false, if◌then◌else◌, List, [], ◌∷◌, ◌++◌, sym, inl, inr}
use Rattle.std.proofs.Common.{subst, eqb}
use Rattle.std.proofs.lemmas.Bool.{cases_eq, eq-eqb, ne_eqb}
use Rattle.desk_types.specs.declared.epoch_packet.EpochPacket.{EpochPacket}
use Rattle.desk_mailbox.specs.declared.item.Item.{Item}
use Rattle.desk_threads.specs.OwnedValue.{OwnedValue, DoesItems}
use Rattle.desk_threads.proofs.ItemsInOrder.{keeps_none, keeps_then}
use Rattle.desk_group.specs.Group.{Keepers, Takes, Breaks, Restarts}
use Rattle.desk_group.specs.Turns.{items_of, TurnsAreRun}

-- what a keeper did of a list, with some packets
abbrev Did : OwnedValue → List Item → OwnedValue → Type 0
Did old list new = (packets : List (ℕ × EpochPacket)) × DoesItems old list packets new

did_then : (a b c : OwnedValue) (xs ys : List Item) → Did a xs b → Did b ys c → Did a (xs ++ ys) c
did_then a b c xs ys one other =
    (one.0 ++ other.0, keeps_then a b c xs ys one.0 other.0 one.1 other.1)

pub turns_are_run : TurnsAreRun
turns_are_run domain n i [] old new same up =
    subst (λ (g : Keepers). Did (old.keepers i) [] (g.keepers i)) same ([], keeps_none (old.keepers i))
turns_are_run domain n i (Takes j turn ∷ more) old new (mid, (owned, packets, t, b, handed), rest) up =
    did_then (old.keepers i) (mid.keepers i) (new.keepers i) (if eqb j i then turn else []) (items_of i more)
    (by_node (cases_eq j i)) (turns_are_run domain n i more mid new rest up)
  where
    by_node : (j ≡ i) ⊎ (j ≢ i) → Did (old.keepers i) (if eqb j i then turn else []) (mid.keepers i)
    by_node (inl e) =
        let test : eqb j i ≡ true = eq-eqb j i e in
        rw test (subst (λ (k : ℕ). Did (old.keepers k) turn (mid.keepers k)) e
        (packets, subst (λ (k : OwnedValue). DoesItems (old.keepers j) turn packets k) (sym b.here) t.does))
    by_node (inr ne) =
        let test : eqb j i ≡ false = ne_eqb j i ne in
        rw test (subst (λ (k : OwnedValue). Did (old.keepers i) [] k) (sym (b.there i (λ e. ne (sym e))))
        ([], keeps_none (old.keepers i)))
turns_are_run domain n i (Breaks j turn count ∷ more) old new (mid, (owned, packets, t, b, handed), rest) up =
    let same : mid.keepers i ≡ old.keepers i = b.there i (λ e. up.0 (sym e)) in
    subst (λ (k : OwnedValue). Did k (items_of i more) (new.keepers i)) same
    (turns_are_run domain n i more mid new rest up.1)
turns_are_run domain n i (Restarts j ∷ more) old new (mid, (b, handed), rest) up =
    let same : mid.keepers i ≡ old.keepers i = b.there i (λ e. up.0 (sym e)) in
    subst (λ (k : OwnedValue). Did k (items_of i more) (new.keepers i)) same
    (turns_are_run domain n i more mid new rest up.1)
