use Rattle.std.proofs.Common.{◌≡◌, ℕ, ◌+◌, ◌<◌, ◌≤◌, false, List, [], ◌∷◌, ◌++◌, refl, ap, ◌∙◌, sym}
use Rattle.std.proofs.Common.{append_assoc, append-nil, Result, Ok, Err, OnOk, arith}
use Rattle.std.specs.Result.{is_err}
use Rattle.crossbeam_channel.specs.Claims.{view}
use Rattle.desk_mailbox.proofs.ItemsOf.{taken_more, all_taken}
use Rattle.desk_mailbox.proofs.DeliverySteps.{Delivers-take, Delivers-balance}
use Rattle.desk_mailbox.proofs.gathered.take_all.Goals as goal

pub loop-init : goal.loop-init
loop-init g c = (
  c.requires.seat,
  (
    [],
    ap (λ l. record (view c.args.pass) { taken = l }) (sym (append-nil (view c.args.pass).taken)),
    sym (append-nil c.args.left.items),
  ),
)

pub try_recv_as-requires-clause-rule : goal.try_recv_as-requires-clause-rule
try_recv_as-requires-clause-rule g c =
    (Delivers-take _ _ (ap (λ v. v.takes) c.loop.invariant.1.1 ∙ c.requires.takes), Delivers-balance _ _)

-- Where the room was reserved there is room for one.
room_for_one : {A E : Type 0} (result : Result A E) (len room : ℕ) → false ≡ is_err result →
    OnOk result (len + 1 ≤ room) → len < room
room_for_one (Ok x) len room is le = omega arith
room_for_one (Err e) len room is le = absurd (cc)

pub push_reserved-requires : goal.push_reserved-requires
push_reserved-requires g c = room_for_one c.reserve.result _ _ c.if-is_err.ensures.value c.reserve.ensures.ok

-- What was left is what was there before, and then what was taken since; so it is with one item more.
one_more_left : {A : Type 0} (before more old mid new : List A) (x : A) → old ≡ before ++ more → mid ≡ old →
    new ≡ mid ++ x ∷ [] → new ≡ before ++ (more ++ x ∷ [])
one_more_left before more old mid new x was same is = rw (is, same, was, append_assoc) refl

pub loop-preserved : goal.loop-preserved
loop-preserved g c =
    let t = c.loop.invariant.1 in
    let more = t.0 in
    let sent = c.in-Ok.sent in (
      c.in-Ok.ensures.channel.0,
      (
        more ++ sent ∷ [],
        taken_more _ _ _ more sent t.1 c.in-Ok.ensures.rule,
        one_more_left c.args.left.items more c.loop.left.items c.reserve.new.self.items c.push_reserved.new.self.items
            sent t.2 c.reserve.ensures.items c.push_reserved.ensures.items,
      ),
    )

pub returns-in-Err : goal.returns-in-Err
returns-in-Err g c =
    let t = c.loop.invariant.1 in
    let none = c.in-Err.ensures.rule in
    record {
      seat = c.in-Err.ensures.channel.0;
      view = (t.0, rw none.0 t.1, rw c.reserve.ensures.items t.2);
      empty = all_taken _ _ _ t.0 none.1.0 c.requires.sends c.requires.takes t.1 none.0 none.1.1 none.1.2;
    }
