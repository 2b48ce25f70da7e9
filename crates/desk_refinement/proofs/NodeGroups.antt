-- Changes of nodes, as acts of a group.
use Rattle.std.proofs.Common.{◌≡◌, ◌≢◌, ◌⊎◌, ◌<◌, ℕ, true, false, if◌then◌else◌, List, [], ◌∷◌, ◌++◌, take, refl, sym}
use Rattle.std.proofs.Common.{ap, ◌∙◌, inl, inr, ⊎_elim, subst, eqb, append-nil}
use Rattle.std.specs.List.{AllByRecursion, Contains}
use Rattle.std.proofs.lemmas.Bool.{cases_eq, eq-eqb, ne_eqb}
use Rattle.std.proofs.lemmas.List.Elements.{Contains-append_left, Contains-append_right}
use mathlib.Core.List.{IsPrefix}
use Rattle.desk_types.specs.declared.epoch_packet.EpochPacket.{EpochPacket}
use Rattle.desk_log.specs.SavedValue.{committed_entries}
use Rattle.desk_mailbox.specs.declared.item.Item.{Item}
use Rattle.desk_mailbox.specs.declared.item.Item.TheVariants as items
use Rattle.desk_log.specs.declared.state_store.StateStore.{Ghosts as StoreGhosts}
use Rattle.desk_threads.specs.declared.handing.Out.{Ghosts}
use Rattle.desk_threads.specs.OwnedValue.{OwnedValue, DoesItems}
use Rattle.desk_threads.proofs.SavedTurns.{node_turn, node_turn_shown}
use Rattle.desk_network.specs.Queued.{HasQueued}
use Rattle.desk_network.specs.Putting.{QueueEnds, PutsIntoQueues}
use Rattle.desk_world.proofs.Packets.{Contains-none}
use Rattle.desk_group.specs.Group.{Keepers, Act, Takes, Breaks, Restarts, started, started_group, WasHanded}
use Rattle.desk_group.specs.Group.{KeeperBecomes, OneTurn, Happens, Runs}
use Rattle.desk_refinement.specs.Nodes.{WasPut, NodeStand, Nodes, NodeChange, Turns, Ends, OneChanges, EndsIn, RunTo}
use Rattle.desk_refinement.specs.Nodes.{AreNewNodes, ChangesTo}
use Rattle.desk_refinement.specs.Groups.{AreGroup, NodesAreGroups, TurnsPublish}
use Rattle.desk_refinement.proofs.Queued.{queued_was_handed}

-- what was queued was handed out, item by item
handed_too : (ps qs : List (ℕ × EpochPacket)) (i : ℕ) (item : Item) →
    ((s : ℕ × EpochPacket) → Contains ps s → Contains qs s) → WasHanded ps i item → WasHanded qs i item
handed_too ps qs i (items.Request session entry) f h = tt
handed_too ps qs i (items.Packet p) f h = f (i, p) h
handed_too ps qs i items.Tick f h = tt
handed_too ps qs i items.Stop f h = tt

all_handed : (ps qs : List (ℕ × EpochPacket)) (i : ℕ) (turn : List Item) →
    ((s : ℕ × EpochPacket) → Contains ps s → Contains qs s) → AllByRecursion (WasHanded ps i) turn →
    AllByRecursion (WasHanded qs i) turn
all_handed ps qs i [] f h = tt
all_handed ps qs i (item ∷ more) f h = (handed_too ps qs i item f h.0, all_handed ps qs i more f h.1)

-- the group with another keeper of node i, after these packets
abbrev with_keeper : Keepers → ℕ → OwnedValue → List (ℕ × EpochPacket) → Keepers
with_keeper k i owned packets =
    record { keepers = λ j. if eqb j i then owned else k.keepers j; handed = k.handed ++ packets }

becomes : (n i : ℕ) (k : Keepers) (owned : OwnedValue) (packets : List (ℕ × EpochPacket)) → i < n →
    KeeperBecomes n i k owned (with_keeper k i owned packets)
becomes n i k owned packets small =
    let here : eqb i i ≡ true = eq-eqb i i refl in
    record {
      is_node = small;
      here = rw here refl;
      there = λ j ne. let other : eqb j i ≡ false = ne_eqb j i ne in rw other refl;
    }

module _ {O S : Type 0} (g : Ghosts O) (s : StoreGhosts S) (ends : O → QueueEnds) (puts : PutsIntoQueues g ends)
    (most : ℕ) (domain : List ℕ) (n : ℕ) where
  put_was_handed : (old new : O) (handed packets : List (ℕ × EpochPacket)) → handed ≡ packets → g.takes old handed new →
      (sent : ℕ × EpochPacket) → WasPut (ends old) (ends new) sent → Contains packets sent
  put_was_handed old new handed packets same gave sent put =
      queued_was_handed (ends old) (ends new) packets sent
      (subst (λ (ps : List (ℕ × EpochPacket)). HasQueued (ends old) ps (ends new)) same (puts old new handed gave)) put

  follows : (i : ℕ) (old new : Nodes O S) (out : O) (k : Keepers) (owned : OwnedValue)
      (packets : List (ℕ × EpochPacket)) → AreGroup old k → OneChanges ends n i old out new →
      (new.stands i).replica.owned ≡ owned →
      ((sent : ℕ × EpochPacket) → WasPut (ends (old.stands i).out) (ends out) sent → Contains packets sent) →
      AreGroup new (with_keeper k i owned packets)
  follows i old new out k owned packets are one is put = record {
    keepers = λ j. by_node j (cases_eq j i);
    handed = λ sent c. ⊎_elim
        (λ a. Contains-append_left k.handed packets sent (are.handed sent a))
        (λ a. Contains-append_right k.handed packets sent (put sent a))
        (one.queued sent c);
  }
    where
      by_node : (j : ℕ) → (j ≡ i) ⊎ (j ≢ i) → (with_keeper k i owned packets).keepers j ≡ (new.stands j).replica.owned
      by_node j (inl e) =
          let test : eqb j i ≡ true = eq-eqb j i e in
          rw test (subst (λ (l : ℕ). owned ≡ (new.stands l).replica.owned) (sym e) (sym is))
      by_node j (inr ne) =
          let test : eqb j i ≡ false = ne_eqb j i ne in
          rw test (are.keepers j ∙ ap (λ (x : NodeStand O S). x.replica.owned) (sym (one.there j ne)))

  one_turn : (i : ℕ) (old : Nodes O S) (k : Keepers) (turn : List Item) (packets : List (ℕ × EpochPacket))
      (owned : OwnedValue) → AreGroup old k → AllByRecursion (WasHanded old.queued i) turn →
      DoesItems (old.stands i).replica.owned turn packets owned → OneTurn i k turn packets owned
  one_turn i old k turn packets owned are brought does = record {
    handed = all_handed old.queued k.handed i turn are.handed brought;
    does = subst (λ (x : OwnedValue). DoesItems x turn packets owned) (sym (are.keepers i)) does;
  }

  -- one act leads to a group with the keepers of these nodes
  record OneAct (k : Keepers) (new : Nodes O S) : Type 0 where
    act : Act
    group : Keepers
    happens : Happens domain n k act group
    are : AreGroup new group

  -- acts lead to one
  record Acts (k : Keepers) (new : Nodes O S) : Type 0 where
    acts : List Act
    group : Keepers
    runs : Runs domain n k acts group
    are : AreGroup new group

  ended : (i : ℕ) (turn : List Item) (count : ℕ) (old new : Nodes O S) (out : O) (k : Keepers) → AreGroup old k →
      AllByRecursion (WasHanded old.queued i) turn →
      (e : EndsIn g domain n i turn count (old.stands i) out (new.stands i)) → OneChanges ends n i old out new →
      OneAct k new
  ended i turn count old new out k are brought e one = ⊎_elim before after e.saved
    where
      before : (e.found ≡ (old.stands i).replica.owned.node.saved) × (e.handed ≡ []) → OneAct k new
      before is =
          let owned : OwnedValue = started domain n i (k.keepers i).node.saved in
          let found : e.found ≡ (k.keepers i).node.saved =
          is.0 ∙ ap (λ (x : OwnedValue). x.node.saved) (sym (are.keepers i)) in
          record {
            act = Restarts i;
            group = with_keeper k i owned [];
            happens = (becomes n i k owned [] one.is_node, append-nil k.handed);
            are = follows i old new out k owned [] are one (e.starts ∙ ap (started domain n i) found)
                (put_was_handed (old.stands i).out out e.handed [] is.1 e.gave);
          }

      after : (e.found ≡ e.owned.node.saved) × (e.handed ≡ take count e.packets) → OneAct k new
      after is =
          let owned : OwnedValue = started domain n i e.owned.node.saved in
          let some : List (ℕ × EpochPacket) = take count e.packets in
          record {
            act = Breaks i turn count;
            group = with_keeper k i owned some;
            happens = (
              e.owned,
              e.packets,
              one_turn i old k turn e.packets e.owned are brought e.does,
              becomes n i k owned some one.is_node,
              refl,
            );
            are = follows i old new out k owned some are one (e.starts ∙ ap (started domain n i) is.0)
                (put_was_handed (old.stands i).out out e.handed some is.1 e.gave);
          }

  changes_act : (old new : Nodes O S) (change : NodeChange) (k : Keepers) → AreGroup old k →
      ChangesTo g s ends most domain n old change new → OneAct k new
  changes_act old new (Turns i turn) k are (brought, took, one) =
      let owned : OwnedValue = (new.stands i).replica.owned in
      record {
        act = Takes i turn;
        group = with_keeper k i owned took.packets;
        happens = (
          owned,
          took.packets,
          one_turn i old k turn took.packets owned are brought
              (node_turn g s most turn (old.stands i) (new.stands i) took).0,
          becomes n i k owned took.packets one.is_node,
          refl,
        );
        are = follows i old new (new.stands i).out k owned took.packets are one refl
            (put_was_handed (old.stands i).out (new.stands i).out took.packets took.packets refl took.gave);
      }
  changes_act old new (Ends i turn count) k are (out, brought, e, one) =
      ended i turn count old new out k are brought e one

  runs_act : (old new : Nodes O S) (changes : List NodeChange) (k : Keepers) → AreGroup old k →
      RunTo g s ends most domain n old changes new → Acts k new
  runs_act old new [] k are same =
      record { acts = []; group = k; runs = refl; are = subst (λ (x : Nodes O S). AreGroup x k) same are }
  runs_act old new (change ∷ more) k are (mid, one, rest) =
      let a : OneAct k mid = changes_act old mid change k are one in
      let b : Acts a.group new = runs_act mid new more a.group a.are rest in
      record { acts = a.act ∷ b.acts; group = b.group; runs = (a.group, a.happens, b.runs); are = b.are }

  new_are : (new : Nodes O S) → AreNewNodes domain n new → AreGroup new (started_group domain n)
  new_are new fresh = record {
    keepers = λ i. sym (fresh.owned i);
    handed = λ sent c. absurd (Contains-none sent
        (subst (λ (ps : List (ℕ × EpochPacket)). Contains ps sent) fresh.none c));
  }

pub nodes_are_groups : {O S : Type 0} (g : Ghosts O) (s : StoreGhosts S) → NodesAreGroups g s
nodes_are_groups g s ends puts most domain n changes more new early late fresh run later =
    let a = runs_act g s ends puts most domain n new early changes (started_group domain n)
    (new_are g s ends puts most domain n new fresh) run in
    let b = runs_act g s ends puts most domain n early late more a.group a.are later in
    (a.acts, b.acts, a.group, b.group, a.runs, b.runs, a.are, b.are)

pub turns_publish : {O S : Type 0} (g : Ghosts O) (s : StoreGhosts S) → TurnsPublish g s
turns_publish g s most i turn old new one are t =
    subst (λ (x : OwnedValue). IsPrefix (new.stands i).published (committed_entries x.node.saved))
    (sym (are.keepers i)) (node_turn_shown g s most turn (old.stands i) (new.stands i) t).0
