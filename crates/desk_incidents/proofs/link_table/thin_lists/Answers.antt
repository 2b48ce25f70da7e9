use Rattle.std.proofs.Common.{◌≡◌, ◌∙◌, ◌+◌, ◌∷◌, ℕ, List, drop, length, slice_index_or, refl, ap, arith}
use Rattle.std.proofs.lemmas.List.{drop_more}
use Rattle.desk_incidents.proofs.link_table.thin_lists.Goals as goal

pub loop-place-init : goal.loop-place-init
loop-place-init c = record {
  table = c.requires.table;
  preserved = λ n. refl;
  room = c.requires.room;
  all = omega arith;
}

pub thin_far_end-requires-clause-room : goal.thin_far_end-requires-clause-room
thin_far_end-requires-clause-room c =
    let more : length (drop c.loop-place.place-index c.args.among.now)
    ≡ length (slice_index_or c.args.among.now c.loop-place.place-index 0
    ∷ drop (c.loop-place.place-index + 1) c.args.among.now) =
    ap (λ (ks : List ℕ). length ks)
    (drop_more c.args.among.now c.loop-place.place-index 0 (omega (arith, c.loop-place-test.true))) in
    omega (arith, more, c.loop-place.invariant.room)

pub loop-place-preserved : goal.loop-place-preserved
loop-place-preserved c =
    let more : length (drop c.loop-place.place-index c.args.among.now)
    ≡ length (slice_index_or c.args.among.now c.loop-place.place-index 0
    ∷ drop (c.loop-place.place-index + 1) c.args.among.now) =
    ap (λ (ks : List ℕ). length ks)
    (drop_more c.args.among.now c.loop-place.place-index 0 (omega (arith, c.loop-place-test.true))) in
    record {
      table = c.thin_far_end.ensures.table;
      preserved = λ n. c.thin_far_end.ensures.preserved n ∙ c.loop-place.invariant.preserved n;
      room = omega (arith, more, c.loop-place.invariant.room, c.thin_far_end.ensures.room);
      all = omega (arith, c.loop-place.invariant.all, c.thin_far_end.ensures.all);
    }
