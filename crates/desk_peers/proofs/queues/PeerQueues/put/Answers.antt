use Rattle.std.proofs.Common.{◌≡◌, None, length, set, ap, ◌∙◌, sym, length-set}
use Rattle.std.proofs.lemmas.List.{get_or-set_same, get_or-set_other}
use Rattle.desk_peers.specs.Queues.{end_to, put_in, put_to}
use Rattle.desk_peers.proofs.Ends.{same_self}
use Rattle.desk_peers.proofs.queues.PeerQueues.put.Goals as goal

pub returns-then-not-is_admitted : goal.returns-then-not-is_admitted
returns-then-not-is_admitted g c =
    let are = c.self.view_is in
    record {
      put = ap (λ ends. put_to ends c.args.to) are;
      same = rw are (same_self _);
      others = λ node other. ap (λ ends. end_to ends node) are;
      count = ap length are;
    }

pub returns-in-Some : goal.returns-in-Some
returns-in-Some g c =
    let are = c.self.view_is in
    let ends = c.self.inside.ends.items in
    let to = c.args.to in
    let at = c.in-Some.ensures.item.3 in
    let put = c.put_in_end in
    let was : end_to c.args.self.now to ≡ c.in-Some.end.now = ap (λ l. end_to l to) (sym are) ∙ sym (at.1 None) in
    let is : end_to (set ends to put.new.end) to ≡ put.new.end = get_or-set_same ends to put.new.end None at.0 in
    record {
      put = ap put_in is ∙ (rw (← was) at put.ensures.put);
      same = rw (is, was) put.ensures.same;
      others = λ node other. get_or-set_other ends to node put.new.end None other ∙ ap (λ l. end_to l node) are;
      count = length-set ends to put.new.end ∙ ap length are;
    }

pub returns : goal.returns
returns g c =
    let are = c.self.view_is in
    record {
      put = ap (λ ends. put_to ends c.args.to) are;
      same = rw are (same_self _);
      others = λ node other. ap (λ ends. end_to ends node) are;
      count = ap length are;
    }
