use Rattle.std.proofs.Common.{◌≡◌, List, [], Option, take, sym, subst, rules}
use Rattle.desk_types.specs.declared.packet.Message.{Message}
use Rattle.desk_frames.specs.Frame.{GoesOn, PreservedWith, Moved, position}
use Rattle.desk_frames.specs.Whole.{log_in}
use Rattle.desk_frames.proofs.Feeds.{goes_none, goes_some, still_back}
use Rattle.desk_frames.proofs.cutter.step.Goals as goal

pub returns-in_default-push-clause-ok : goal.returns-in_default-push-clause-ok
returns-in_default-push-clause-ok c =
    let f = c.args.frame.now in
    let g = c.step.new.self in
    let n = c.in-Some.count in
    let ms = c.args.packets.now.items in
    let m = c.in-Some-packet.packet in
    let x = take n c.args.bytes.now in
    let t = rw c.in-Some.is at c.in_ok-count.ensures.ok in (
      t.within,
      t.some,
      subst (λ (ns : List Message). GoesOn f ms x g ns) (sym c.in_default-push.ensures.items)
          (goes_some f g ms m x
          (subst (λ (p : Option Message). Moved (position f []) x p (position g [])) c.in-Some-packet.is t.moved)
          (λ ds k. subst (λ (p : Option Message). PreservedWith ds p g) c.in-Some-packet.is (t.keeps ds k))),
      t.covers,
    )

pub returns-in_default-packet-clause-ok : goal.returns-in_default-packet-clause-ok
returns-in_default-packet-clause-ok c =
    let f = c.args.frame.now in
    let g = c.step.new.self in
    let n = c.in-Some.count in
    let x = take n c.args.bytes.now in
    let t = rw c.in-Some.is at c.in_ok-count.ensures.ok in (
      t.within,
      t.some,
      goes_none f g c.args.packets.now.items x
          (subst (λ (p : Option Message). Moved (position f []) x p (position g [])) c.in_default-packet.is t.moved)
          (λ ds k. subst (λ (p : Option Message). PreservedWith ds p g) c.in_default-packet.is (t.keeps ds k)),
      t.covers,
    )

pub returns-in-Err-clause-err : goal.returns-in-Err-clause-err
returns-in-Err-clause-err c =
    let g = c.step.new.self in
    let t = rw c.in-Some.is at c.in_ok-count.ensures.ok in
    let taken : c.take_back.new.self.entries ≡ log_in c.in-Some-packet.packet = search rules in
    let same : c.push.new.self.items ≡ c.args.packets.now.items = search rules in
    still_back c.args.frame.now g c.take_back.new.self c.args.packets.now.items c.push.new.self.items
    c.in-Some-packet.packet
    (λ ds k. subst (λ (p : Option Message). PreservedWith ds p g) c.in-Some-packet.is (t.keeps ds k)) taken same
