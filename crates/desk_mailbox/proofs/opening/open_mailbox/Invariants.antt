use Rattle.std.proofs.Common.{◌≡◌, [], length, ◌≤◌, vec_capacity, All}
use Rattle.crossbeam_channel.specs.Claims.{view, IsSeatAt}
use Rattle.crossbeam_channel.specs.Ends.{sends_on, receives_on, ruled_capacity}
use Rattle.desk_mailbox.specs.Rule.{first_view}
use Rattle.desk_mailbox.specs.Ends.{put_by, first_numbers, numbers_of}
use Rattle.desk_mailbox.proofs.opening.open_mailbox.Given as goal

abbrev pub invariant-loop-k : goal.invariant-loop-k
invariant-loop-k g l = record {
  seated : IsSeatAt (receives_on l.channel) l.pass;
  same : receives_on l.channel ≡ sends_on l.sending;
  capacity : ruled_capacity (receives_on l.channel) ≡ l.fn.capacity;
  viewed : view l.pass ≡ record first_view { senders = l.k };
  count : length l.all.items ≡ l.k;
  room : l.fn.senders ≤ vec_capacity l.all;
  numbers : numbers_of l.all.items ≡ first_numbers l.k;
  each : All (λ s. (sends_on s.channel ≡ receives_on l.channel) × (put_by s ≡ [])) l.all.items;
}
