-- Items of what a keeper does them to: of none, of one, and one list of them after another. And those of a node.
use Rattle.std.proofs.Common.{◌≡◌, ◌++◌, ℕ, List, [], ◌∷◌, refl, sym, ◌∙◌, ap, subst, inl, inr}
use Rattle.std.proofs.Common.{append_assoc, append-nil}
use Rattle.desk_types.specs.declared.epoch_packet.EpochPacket.{EpochPacket}
use Rattle.desk_mailbox.specs.declared.item.Item.{Item}
use Rattle.desk_replica.specs.declared.answer.Answer.{Answer}
use Rattle.desk_replica.specs.declared.replica.Replica.{Ghosts}
use Rattle.desk_threads.specs.OwnedValue.{OwnedValue, DoesItems, with_one_refused}
use Rattle.desk_threads.specs.NodeInOrder.{node_still}
use Rattle.desk_threads.specs.NodeReplica.{NodeDoes, NodeFollows, NodeRefuses}
use Rattle.desk_threads.specs.Replicas.{MeetsItem, MeetsItems}
use Rattle.desk_threads.specs.Telling.{AnswersItem, AnswersItems}
use Rattle.desk_threads.proofs.ItemsInOrder.{keeps_none, keeps_one, keeps_refused, keeps_then}

pub meets_one : {R : Type 0} (g : Ghosts R) (k new : R) (item : Item) (packets : List (ℕ × EpochPacket))
    (answers : List Answer) → MeetsItem g k item packets answers new →
    MeetsItems g k (item ∷ []) packets answers new
meets_one g k new item packets answers one = (
  new,
  packets,
  [],
  answers,
  [],
  sym (append-nil packets),
  sym (append-nil answers),
  one,
  (refl, refl, refl),
)

pub meets_then : {R : Type 0} (g : Ghosts R) (k m new : R) (xs ys : List Item) (p q : List (ℕ × EpochPacket))
    (a b : List Answer) → MeetsItems g k xs p a m → MeetsItems g m ys q b new →
    MeetsItems g k (xs ++ ys) (p ++ q) (a ++ b) new
meets_then {R} g k m new [] ys p q a b (e, f, same) h =
    subst (λ (x : R). MeetsItems g x ys (p ++ q) (a ++ b) new) same
    (subst (λ (w : List (ℕ × EpochPacket)). MeetsItems g m ys (w ++ q) (a ++ b) new) (sym e)
    (subst (λ (w : List Answer). MeetsItems g m ys q (w ++ b) new) (sym f) h))
meets_then g k m new (x ∷ xs) ys p q a b (mid, first, last, early, late, e, f, one, more) h = (
  mid,
  first,
  last ++ q,
  early,
  late ++ b,
  ap (λ w. w ++ q) e ∙ append_assoc first last q,
  ap (λ w. w ++ b) f ∙ append_assoc early late b,
  one,
  meets_then g mid m new xs ys last q late b more h,
)

pub node_refused : (old new : OwnedValue) → new ≡ with_one_refused old → NodeFollows old new
node_refused old new e = subst (λ (k : OwnedValue). NodeFollows old k) (sym e) (node_still old)

-- what a node is for items
abbrev pub node_replica : Ghosts OwnedValue
node_replica = record { does = NodeDoes; refuses = NodeRefuses; follows = NodeFollows }

node_item : (k new : OwnedValue) (item : Item) (packets : List (ℕ × EpochPacket)) (answers : List Answer) →
    MeetsItem node_replica k item packets answers new →
    DoesItems k (item ∷ []) packets new × AnswersItem k item answers new
node_item k new item packets answers (inl (does, reported, same)) =
    (keeps_one k new item packets does same, inl (packets, does, reported))
node_item k new item packets answers (inr (none, silent, refused)) = (
  subst (λ (w : List (ℕ × EpochPacket)). DoesItems k (item ∷ []) w new) (sym none) (keeps_refused k new item refused),
  inr (silent, refused),
)

-- what items make of a node
pub node_items : (k new : OwnedValue) (items : List Item) (packets : List (ℕ × EpochPacket)) (answers : List Answer) →
    MeetsItems node_replica k items packets answers new →
    DoesItems k items packets new × AnswersItems k items answers new
node_items k new [] packets answers (none, silent, same) = (
  subst (λ (x : OwnedValue). DoesItems k [] packets x) (sym same)
      (subst (λ (w : List (ℕ × EpochPacket)). DoesItems k [] w k) (sym none) (keeps_none k)),
  (silent, same),
)
node_items k new (item ∷ more) packets answers (mid, first, last, early, late, e, f, one, rest) =
    let i = node_item k mid item first early one in
    let r = node_items mid new more last late rest in (
      subst (λ (w : List (ℕ × EpochPacket)). DoesItems k (item ∷ more) w new) (sym e)
          (keeps_then k mid new (item ∷ []) more first last i.0 r.0),
      (mid, early, late, f, i.1, r.1),
    )
