-- The definition of a group's run at work, so that what is said of all runs is not said of nothing.
use Rattle.std.proofs.Common.{◌≡◌, ◌<◌, ℕ, true, false, if◌then◌else◌, List, [], ◌∷◌, ◌++◌, refl, eqb, arith}
use Rattle.std.proofs.lemmas.Bool.{eq-eqb, ne_eqb}
use Rattle.desk_types.specs.declared.epoch_packet.EpochPacket.{EpochPacket}
use Rattle.desk_types.specs.declared.epoch_packet.Purpose.TheVariants.{Step}
use Rattle.desk_types.specs.declared.packet.Message.TheVariants.{Prepare, PrepareOk}
use Rattle.desk_mailbox.specs.declared.item.Item.{Item}
use Rattle.desk_mailbox.specs.declared.item.Item.TheVariants as items
use Rattle.desk_log.specs.Change.{to_others}
use Rattle.desk_normal.specs.Rules.{on_request, admitted_request, append_request, retry_request, on_prepare}
use Rattle.desk_normal.specs.Rules.{on_prepare_ok, commit_acknowledged}
use Rattle.desk_node.specs.HeldStep.{held_step}
use Rattle.desk_node.specs.Rules.{on_packet_within, on_packet}
use Rattle.desk_types.specs.EpochPackets.{packet_under}
use Rattle.desk_threads.specs.OwnedValue.{OwnedValue}
use Rattle.desk_threads.proofs.ItemsInOrder.{keeps_one}
use Rattle.desk_group.specs.Group.{Keepers, Takes, WasHanded, Happens, started_group}
use Rattle.desk_group.specs.Serves.{EachItemIsTaken, Serves}
use Rattle.desk_group.proofs.Split.{Done, item_done, packet_done}

-- the group after node i took an item
abbrev with_keeper : Keepers → ℕ → OwnedValue → List (ℕ × EpochPacket) → Keepers
with_keeper g i k packets =
    record { keepers = λ j. if eqb j i then k else g.keepers j; handed = g.handed ++ packets }

abbrev after : Keepers → ℕ → Item → Keepers
after g i item = with_keeper g i (item_done (g.keepers i) item).new (item_done (g.keepers i) item).packets

takes : (domain : List ℕ) (n i : ℕ) (g : Keepers) (item : Item) → i < n → WasHanded g.handed i item →
    Happens domain n g (Takes i (item ∷ [])) (after g i item)
takes domain n i g item small handed =
    let d : Done (g.keepers i) item = item_done (g.keepers i) item in
    let here : eqb i i ≡ true = eq-eqb i i refl in (
      d.new,
      d.packets,
      record { handed = (handed, tt); does = keeps_one (g.keepers i) d.new item d.packets d.does d.same },
      record {
        is_node = small;
        here = rw here refl;
        there = λ j ne. let other : eqb j i ≡ false = ne_eqb j i ne in rw other refl;
      },
      refl,
    )

pub each_item_is_taken : EachItemIsTaken
each_item_is_taken domain n i g item small handed = (after g i item, takes domain n i g item small handed)

pub serves : Serves
unfolding item_done packet_done held_step on_packet on_packet_within on_request admitted_request append_request
    retry_request on_prepare on_prepare_ok commit_acknowledged to_others
serves domain e =
    let first : Keepers = started_group domain 3 in
    let ask : Item = items.Request 0 e in
    let prepare : Item = items.Packet (packet_under 0 Step (Prepare 0 0 1 0 e)) in
    let ok : Item = items.Packet (packet_under 0 Step (PrepareOk 1 0 1)) in
    let one : Keepers = after first 0 ask in
    let two : Keepers = after one 1 prepare in
    let three : Keepers = after two 0 ok in (
      Takes 0 (ask ∷ []) ∷ Takes 1 (prepare ∷ []) ∷ Takes 0 (ok ∷ []) ∷ [],
      three,
      (
        one,
        takes domain 3 0 first ask (omega arith) tt,
        (
          two,
          takes domain 3 1 one prepare (omega arith) (1, omega arith, refl),
          (three, takes domain 3 0 two ok (omega arith) (3, omega arith, refl), refl),
        ),
      ),
      refl,
    )
