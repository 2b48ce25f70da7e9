use Rattle.std.proofs.Common.{◌≡◌, ◌∙◌, arith, sym, ap, subst}
use Rattle.sqlite_trees.proofs.Doubt.{clean_of as sure, no_doubt}
use Rattle.sqlite_store.specs.FileStore.{view as shown}
use Rattle.sqlite_store.specs.Laws.{settled_at}
use Rattle.sqlite.specs.Files.{IsEmpty}
use Rattle.sqlite.proofs.FileLemmas.{from_connection}
use Rattle.sqlite.proofs.ListingLemmas.{empty_is_sound}
use Rattle.desk_database.proofs.making.new_database.Goals as goal

pub over-requires : goal.over-requires
over-requires g c none = (c.in-Ok.ensures.ok (sure _ none)).fresh

pub returns-in-Ok-over-clause-opened : goal.returns-in-Ok-over-clause-opened
returns-in-Ok-over-clause-opened g c now = c.in-Ok-over.ensures.opens now

pub returns-in-Ok-over-clause-honest : goal.returns-in-Ok-over-clause-honest
returns-in-Ok-over-clause-honest g c now =
    let was = sure (shown c.in-Ok.store).is_clean (omega (arith, c.in-Ok-over.ensures.clean)) in
    (c.in-Ok.ensures.ok was).honest

pub returns-in-Ok-over-clause-empty : goal.returns-in-Ok-over-clause-empty
returns-in-Ok-over-clause-empty g c now =
    let was = sure (shown c.in-Ok.store).is_clean (omega (arith, c.in-Ok-over.ensures.clean)) in
    let made = c.in-Ok.ensures.ok was in
    let trees = sym (ap (λ d. d.trees) (c.in-Ok-over.ensures.opens now).0.clean) ∙ c.in-Ok-over.ensures.trees now in
    subst IsEmpty (sym trees) made.empty

pub returns-in-Ok-over-clause-plain : goal.returns-in-Ok-over-clause-plain
returns-in-Ok-over-clause-plain g c now =
    let was = sure (shown c.in-Ok.store).is_clean (omega (arith, c.in-Ok-over.ensures.clean)) in
    c.in-Ok-over.ensures.sums now ∙ c.in-Ok.ensures.plain was

pub returns-in-Ok-over-clause-guarded : goal.returns-in-Ok-over-clause-guarded
returns-in-Ok-over-clause-guarded g c now =
    let was = sure (shown c.in-Ok.store).is_clean (omega (arith, c.in-Ok-over.ensures.clean)) in
    c.in-Ok-over.ensures.shield (c.in-Ok.ensures.guarded was)

pub returns-in-Err-over-clause-falls : goal.returns-in-Err-over-clause-falls
returns-in-Err-over-clause-falls g c late =
    let now = no_doubt _ late in
    let was = sure (shown c.in-Ok.store).is_clean (omega (arith, c.in-Err-over.ensures.unharmed.clean)) in
    (c.in-Ok.ensures.ok was).honest

pub returns-in-Err-over-clause-cause : goal.returns-in-Err-over-clause-cause
returns-in-Err-over-clause-cause g c late =
    let now = no_doubt _ late in
    let was = sure (shown c.in-Ok.store).is_clean (omega (arith, c.in-Err-over.ensures.unharmed.clean)) in
    let made = c.in-Ok.ensures.ok was in
    let counts = c.in-Err-over.ensures.unharmed.counts in
    rw c.blurred.ensures.value (from_connection _ _ _ _ _ c.in-Err-over.error made.counts counts
    (λ _. (_, empty_is_sound _ made.empty.1)) (c.in-Err-over.ensures.err now))

pub returns-in-Err-over-clause-unharmed : goal.returns-in-Err-over-clause-unharmed
returns-in-Err-over-clause-unharmed g c late =
    let now = no_doubt _ late in
    let was = sure (shown c.in-Ok.store).is_clean (omega (arith, c.in-Err-over.ensures.unharmed.clean)) in
    let made = c.in-Ok.ensures.ok was in
    λ found may.
    let old = c.in-Err-over.ensures.unharmed.outcomes found may in
    let is = settled_at c.in-Ok.store g.met.D.Disk.seen_may_stay found made.is_open old ∙ sym made.fresh.clean in
    subst IsEmpty (sym is) made.empty
