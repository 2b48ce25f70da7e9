use Rattle.desk_eido.proofs.shown.with_board.Goals as goal

pub returns : goal.returns
returns c =
    rw (
      c.in_ok-count-3.ensures,
      c.get.ensures.value,
      c.in_ok-count-2.ensures,
      c.in_ok-text.ensures,
      c.in_ok-count.ensures,
    ) at c.count-4.ensures
