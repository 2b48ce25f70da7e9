use Rattle.std.proofs.Common.{◌≡◌, ◌≤◌, ◌+◌, ◌∙◌, ◌++◌, ◌∷◌, ℕ, List, [], length, sym, ap, arith, append-nil}
use Rattle.std.proofs.Common.{append_assoc, length-append, vec_capacity, refl}
use Rattle.desk_index.specs.MergedList.{merged}
use Rattle.desk_index.proofs.two_lists.merged_list.Goals as goal

-- all is made where nothing is left
all_made : (items rest left whole : List ℕ) (n done : ℕ) → length rest + length left + done ≤ n → n ≤ done →
    items ++ merged rest left ≡ whole → items ≡ whole
all_made items [] [] whole n done h k made = sym (append-nil items) ∙ made
all_made items (r ∷ rest) left whole n done h k made = absurd (omega (arith, h, k))
all_made items [] (l ∷ left) whole n done h k made = absurd (omega (arith, h, k))

-- a place more is made of what is left
made_more : (items new rest left of_one of_other whole : List ℕ) (place : ℕ) → new ≡ items ++ place ∷ [] →
    merged rest left ≡ place ∷ merged of_one of_other → items ++ merged rest left ≡ whole →
    new ++ merged of_one of_other ≡ whole
made_more items new rest left of_one of_other whole place e h made =
    ap (λ xs. xs ++ merged of_one of_other) e
    ∙ (append_assoc items (place ∷ []) (merged of_one of_other) ∙ (ap (λ xs. items ++ xs) (sym h) ∙ made))

pub loop-done-preserved : goal.loop-done-preserved
loop-done-preserved c =
    let inv = c.loop-done.invariant in let next = c.match-least_of in
    elim c.match-least_of.branch [
      | goal.in-Some w ↦
          let items_is : next.list.items ≡ c.loop-done.list.items ++ w.in-Some.place ∷ [] =
          ap (λ v. v.items) w.list-is ∙ w.push_place.ensures.items in
          let one = ap (λ r. length r.now) w.rest-is in let other = ap (λ r. length r.now) w.left-is in
          let room = ap vec_capacity w.list-is in
          record {
            made =
                made_more c.loop-done.list.items next.list.items c.loop-done.rest.now c.loop-done.left.now
                next.rest.now next.left.now _ w.in-Some.place items_is
                (w.in-Some.ensures.least ∙ (ap (λ r. w.in-Some.place ∷ merged r.now w.in-Some.of_other.now)
                (sym w.rest-is) ∙ ap (λ l. w.in-Some.place ∷ merged next.rest.now l.now) (sym w.left-is))) inv.made;
            left = omega (arith, inv.left, w.in-Some.ensures.fewer, one, other);
            room =
                omega (
                  arith,
                  inv.room,
                  w.in-Some.ensures.fewer,
                  one,
                  other,
                  room,
                  w.push_place.ensures.room,
                  ap length items_is,
                  length-append c.loop-done.list.items (w.in-Some.place ∷ []),
                );
          }
      | goal.in_default w ↦
          let one = ap (λ r. length r.now) w.rest-is in let other = ap (λ r. length r.now) w.left-is in
          let none = w.in_default.ensures.none refl in
          record {
            made =
                ap (λ v. v.items ++ merged next.rest.now next.left.now) w.list-is
                ∙ (ap (λ r. c.loop-done.list.items ++ merged r.now next.left.now) w.rest-is
                ∙ (ap (λ l. c.loop-done.list.items ++ merged c.loop-done.rest.now l.now) w.left-is ∙ inv.made));
            left = omega (arith, none, one, other, c.loop-done-test.true);
            room =
                omega (arith, inv.room, one, other, ap vec_capacity w.list-is, ap (λ v. length v.items) w.list-is);
          }
    ]

pub push_place-requires : goal.push_place-requires
push_place-requires c = omega (arith, c.loop-done.invariant.room, c.in-Some.ensures.fewer)

pub returns : goal.returns
returns c =
    all_made c.loop-done.list.items c.loop-done.rest.now c.loop-done.left.now (merged c.args.one.now c.args.other.now)
    (length c.args.one.now + length c.args.other.now) c.loop-done._done c.loop-done.invariant.left
    c.loop-done-test.false c.loop-done.invariant.made
