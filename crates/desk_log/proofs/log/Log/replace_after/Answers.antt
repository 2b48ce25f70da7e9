use Rattle.std.proofs.Common.{◌≡◌, ◌++◌, take, get_or, rules}
use Rattle.std.proofs.lemmas.List.Elements.{All-append, All-take}
use Rattle.desk_log.specs.LatestPlaces.{HasRoom, HasRoomFor}
use Rattle.desk_log.proofs.LatestPlaces.{room_of_latest}
use Rattle.desk_log.proofs.log.Log.replace_after.Goals as goal

pub set_all-requires-clause-room : goal.set_all-requires-clause-room
set_all-requires-clause-room c =
    let log = c.self.inside.entries.items in
    let places = c.forget_all.new.self in
    let is : c.as_slice-3.result.now ≡ take c.args.k log ++ c.args.entries.items = search rules in
    let own : HasRoomFor log c.self.inside.latest_places =
    room_of_latest log c.self.inside.latest_places c.self.invariant.1 in
    let made : HasRoomFor c.args.entries.items c.reserve_all.new.self = search rules in
    let old : HasRoomFor log places =
    λ k d lt. c.forget_all.ensures.preserved (get_or log k d).client
    (c.reserve_all.ensures.preserved (get_or log k d).client (own k d lt)) in
    let new : HasRoomFor c.args.entries.items places =
    λ k d lt. c.forget_all.ensures.preserved (get_or c.args.entries.items k d).client (made k d lt) in
    rw is (All-append (λ e. HasRoom places e.client) (take c.args.k log) c.args.entries.items
    (All-take (λ e. HasRoom places e.client) c.args.k log old) new)
