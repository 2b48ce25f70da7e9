use Rattle.std.proofs.Common.{◌≡◌, ℕ, ◌+◌, ◌≤◌, [], length, refl, ap, ◌∙◌, sym, subst, arith}
use Rattle.std.proofs.lemmas.List.{length_push}
use Rattle.std.proofs.lemmas.List.Elements.{All-nil, All-push}
use Rattle.crossbeam_channel.specs.Claims.{IsSeatAt}
use Rattle.crossbeam_channel.specs.Ends.{sends_on, receives_on, ruled_capacity}
use Rattle.desk_mailbox.specs.Ends.{put_by}
use Rattle.desk_mailbox.specs.Rule.{with_one_sender_more}
use Rattle.desk_mailbox.proofs.SenderNumbers.{one_number_more}
use Rattle.desk_mailbox.proofs.DeliverySteps.{Delivers-empty, Delivers-new_sender}
use Rattle.desk_mailbox.proofs.opening.open_mailbox.Goals as goal

pub bounded_with-requires-clause-rule : goal.bounded_with-requires-clause-rule
bounded_with-requires-clause-rule g c = Delivers-empty

-- A capacity with room for all beside what is there is one for all.
all_fit : (n all room : ℕ) → n + all ≤ room → all ≤ room
all_fit n all room le = omega arith

pub loop-k-init : goal.loop-k-init
loop-k-init g c =
    let made = c.in_ok-sending.ensures in
    let was = c.reserve.ensures.items in
    let none = c.new-all.ensures.items in record {
      seated = subst (λ r. IsSeatAt r c.in_ok-sending.pass) (sym made.0) made.2;
      same = made.0;
      capacity = ap ruled_capacity made.0 ∙ made.1;
      viewed = made.3;
      count = ap length was ∙ ap length none;
      room = all_fit _ _ _ c.in_ok-reserve.ensures.ok;
      numbers = rw (was, none) refl;
      each = rw (was, none) (All-nil _);
    }

pub another-own-requires-clause-rule : goal.another-own-requires-clause-rule
another-own-requires-clause-rule g c = Delivers-new_sender _ _ (ap (λ v. v.takes) c.loop-k.invariant.viewed)

pub loop-k-preserved : goal.loop-k-preserved
loop-k-preserved g c =
    let seats = c.loop-k.invariant in
    let same = c.in_ok-channel.ensures ∙ sym seats.same in
    let more = c.push_reserved.ensures.items in record {
      seated = subst (λ r. IsSeatAt r c.another-own.new.pass) same c.another-own.ensures.channel.0;
      same = seats.same;
      capacity = seats.capacity;
      viewed = c.another-own.ensures.rule.0 ∙ ap with_one_sender_more seats.viewed;
      count = ap length more ∙ length_push _ _ ∙ ap (λ n. n + 1) seats.count;
      room = subst (λ n. c.args.senders ≤ n) (sym c.push_reserved.ensures.capacity) seats.room;
      numbers = one_number_more _ _ _ _ more seats.numbers refl;
      each = rw more
          (All-push (λ s. (sends_on s.channel ≡ receives_on c.in_ok-sending.channel) × (put_by s ≡ [])) _ _ seats.each
          (same, ap (λ v. v.put) c.another-own.ensures.rule.1));
    }
