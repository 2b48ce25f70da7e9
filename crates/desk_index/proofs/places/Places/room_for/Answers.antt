use Rattle.std.proofs.Common.{◌≡◌, ℕ, List, length, ap, arith}
use Rattle.std.proofs.lemmas.Result.{IfOk-weaker}
use Rattle.desk_index.specs.Places.{at_in}
use Rattle.desk_index.proofs.places.Places.room_for.Goals as goal

pub returns : goal.returns
returns c =
    let of_one : length c.at.result.now ≡ length (at_in c.args.one c.args.self.now.lists.entries) =
    ap (λ (ks : List ℕ). length ks) c.at.ensures in
    let of_other : length c.at-2.result.now ≡ length (at_in c.args.other c.args.self.now.lists.entries) =
    ap (λ (ks : List ℕ). length ks) c.at-2.ensures in
    IfOk-weaker c.with_room.result _ _ (λ list h. omega (arith, of_one, of_other, h)) c.with_room.ensures.room
