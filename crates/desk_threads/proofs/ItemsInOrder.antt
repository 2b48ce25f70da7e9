-- What items make of a keeper: of none, of one, and one list of them after another.
use Rattle.std.proofs.Common.{◌≡◌, ◌++◌, ℕ, List, [], ◌∷◌, refl, sym, ◌∙◌, ap, subst, inl, inr}
use Rattle.std.proofs.Common.{append_assoc, append-nil}
use Rattle.desk_types.specs.declared.epoch_packet.EpochPacket.{EpochPacket}
use Rattle.desk_mailbox.specs.declared.item.Item.{Item}
use Rattle.desk_node.specs.Heard.{Says}
use Rattle.desk_node.specs.NodeValue.{IsSameNode}
use Rattle.desk_threads.specs.Keeper.{KeeperState, KeeperStep, keeper_step, refused_one, TakesItem, TakesItems}
use Rattle.desk_threads.specs.NodeInOrder.{same_refl, same_trans}
use Rattle.desk_threads.specs.OwnedValue.{OwnedValue, state_of, IsStateOf, DoesItem, with_one_refused, DoesItems}

preserved_then : (domain : List ℕ) (i n : ℕ) (k m new : KeeperState) (items more : List Item)
    (packets others : List (ℕ × EpochPacket)) → TakesItems domain i n k items packets m →
    TakesItems domain i n m more others new →
    TakesItems domain i n k (items ++ more) (packets ++ others) new
preserved_then domain i n k m new [] more packets others h t =
    subst (λ (x : KeeperState). TakesItems domain i n x more (packets ++ others) new) h.0
    (subst (λ (w : List (ℕ × EpochPacket)). TakesItems domain i n m more (w ++ others) new) (sym h.1) t)
preserved_then domain i n k m new (x ∷ xs) more packets others (mid, first, rest, t, r, e) u = (
  mid,
  first,
  rest ++ others,
  t,
  preserved_then domain i n mid m new xs more rest others r u,
  ap (λ w. w ++ others) e ∙ append_assoc first rest others,
)

preserved_one : (domain : List ℕ) (i n : ℕ) (k new : KeeperState) (item : Item) (packets : List (ℕ × EpochPacket)) →
    TakesItem domain i n k item packets new → TakesItems domain i n k (item ∷ []) packets new
preserved_one domain i n k new item packets t = (new, packets, [], t, (refl, refl), sym (append-nil packets))

pub keeps_none : (k : OwnedValue) → DoesItems k [] [] k
keeps_none k = record {
  same = same_refl k.node;
  keeps = λ received says. (state_of k received, (refl, refl), record { state_is = refl; says = says });
}

-- the step that leads to a state, with these packets
abbrev step_to : KeeperState → List (ℕ × EpochPacket) → KeeperStep
step_to k packets = record { keeper = k; packets = packets }

pub keeps_one : (k new : OwnedValue) (item : Item) (packets : List (ℕ × EpochPacket)) → DoesItem k item packets new →
    IsSameNode k.node new.node → DoesItems k (item ∷ []) packets new
keeps_one k new item packets does same = record {
  same = same;
  keeps = λ received says.
      let d = does received says in
      let s = keeper_step k.node.domain k.node.id k.node.n (state_of k received) item in (
        s.keeper,
        preserved_one k.node.domain k.node.id k.node.n (state_of k received) s.keeper item packets
            (inl (ap (step_to s.keeper) d.packets_are)),
        d.keeper,
      );
}

pub keeps_refused : (k new : OwnedValue) (item : Item) → new ≡ with_one_refused k → DoesItems k (item ∷ []) [] new
keeps_refused k new item e = subst (λ (x : OwnedValue). DoesItems k (item ∷ []) [] x) (sym e) (record {
  same = same_refl k.node;
  keeps = λ received says. (
    refused_one (state_of k received),
    preserved_one k.node.domain k.node.id k.node.n (state_of k received) (refused_one (state_of k received)) item []
        (inr (refl, refl)),
    record { state_is = refl; says = says },
  );
})

pub keeps_then : (k m new : OwnedValue) (items more : List Item) (packets others : List (ℕ × EpochPacket)) →
    DoesItems k items packets m → DoesItems m more others new → DoesItems k (items ++ more) (packets ++ others) new
keeps_then k m new items more packets others a b = record {
  same = same_trans k.node m.node new.node a.same b.same;
  keeps = λ received says.
      let one = a.keeps received says in
      let mid : KeeperState = one.0 in
      let at = one.2 in
      let two = b.keeps mid.node.received
      (subst (λ n. Says n m.node.saved.view mid.node.received m.node.heard) (sym a.same.n_is) at.says) in
      let end : KeeperState = two.0 in
      let rest : TakesItems k.node.domain k.node.id k.node.n mid more others end =
      subst (λ (x : KeeperState). TakesItems k.node.domain k.node.id k.node.n x more others end) (sym at.state_is)
      (subst (λ n. TakesItems k.node.domain k.node.id n (state_of m mid.node.received) more others end) a.same.n_is
      (subst (λ i. TakesItems k.node.domain i m.node.n (state_of m mid.node.received) more others end) a.same.id_is
      (subst (λ d. TakesItems d m.node.id m.node.n (state_of m mid.node.received) more others end) a.same.domain_is
      two.1))) in (
        end,
        preserved_then k.node.domain k.node.id k.node.n (state_of k received) mid end items more packets others one.1
            rest,
        subst (λ n. IsStateOf n new end) a.same.n_is two.2,
      );
}
