use Rattle.std.proofs.Common.{◌≡◌, ◌+◌, ◌≤◌, ◌∙◌, [], refl, sym, ap, subst, subst₂, inl, inr, arith}
use Rattle.std.proofs.Math.Logic.{∥∥₁_map}
use Rattle.std.proofs.lemmas.List.Elements.{All-nil}
use Rattle.sqlite_wal.specs.Files.{seen_image, outcomes}
use Rattle.sqlite_wal.specs.Reads.{are_clean}
use Rattle.sqlite_pool.specs.Opening.{IsBlankFile}
use Rattle.sqlite_pool.specs.Stored.{is_summed}
use Rattle.sqlite_trees.proofs.Doubt.{no_doubt}
use Rattle.sqlite_store.specs.Build.{CanBuild}
use Rattle.sqlite_store.specs.Listed.{catalog_rows}
use Rattle.sqlite_store.specs.Listing.{listed_from}
use Rattle.sqlite_store.specs.Unopened.{state_of, image}
use Rattle.sqlite_store.proofs.StoreLemmas.{limit_wider}
use Rattle.sqlite.specs.Files.{faults_of, image_of}
use Rattle.sqlite.proofs.FileLemmas.{from_store}
use Rattle.sqlite.proofs.OpenLemmas.{pool_files}
use Rattle.desk_database.proofs.MakingLemmas.{on_the_way}
use Rattle.desk_database.proofs.making.new_store.Goals as goal

pub returns-in-Ok-create-clause-ok : goal.returns-in-Ok-create-clause-ok
returns-in-Ok-create-clause-ok g c clean =
    let fresh = c.in-Ok.fresh in
    let made = c.in-Ok.ensures in
    let e = c.in-Ok-create.ensures in
    let preserved = e.kept clean in
    let cleanness = (pool_files fresh.pool).1 ∙ ap (λ f. are_clean g.D.Disk f.0 f.1) made.files in
    let faults = ap (λ f. g.D.Disk.faults f.0 + g.D.Disk.faults f.1) made.files in
    record {
      honest = sym cleanness ∙ e.honest clean;
      fresh = record {
        sound = e.ready.sound (no_doubt _ clean);
        numbered = e.numbered;
        clean = e.ready.clean;
        unmarked = e.ready.unmarked;
      };
      is_open = e.ready.is_open (no_doubt _ clean);
      counts = omega (arith, (pool_files fresh.pool).0, faults, preserved.counts, e.counted);
      empty = (
        λ tree low. ap (λ d. d tree) e.ready.clean ∙ e.empty clean tree low,
        rw clean (catalog_rows _ _ _ ∙ ap (listed_from 0) (e.schema ∙ made.none)),
      );
      pages = preserved.size ∙ made.pages;
    }

pub returns-in-Ok-create-clause-plain : goal.returns-in-Ok-create-clause-plain
returns-in-Ok-create-clause-plain g c clean =
    ap is_summed ((c.in-Ok-create.ensures.kept clean).size ∙ c.in-Ok.ensures.pages)

pub returns-in-Err-create-clause-falls : goal.returns-in-Err-create-clause-falls
returns-in-Err-create-clause-falls g c clean =
    let cleanness = (pool_files c.in-Ok.fresh.pool).1 ∙ ap (λ f. are_clean g.D.Disk f.0 f.1) c.in-Ok.ensures.files in
    sym cleanness ∙ c.in-Err-create.ensures.falls clean

pub returns-in-Err-create-clause-cause : goal.returns-in-Err-create-clause-cause
returns-in-Err-create-clause-cause g c clean =
    let files = c.args.files in
    let fresh = c.in-Ok.fresh in
    let made = c.in-Ok.ensures in
    let failed = c.in-Err-create.ensures in
    let none = made.none in
    let cleanness = (pool_files fresh.pool).1 ∙ ap (λ f. are_clean g.D.Disk f.0 f.1) made.files in
    let unmade = c.requires.unmade (sym cleanness ∙ failed.falls clean) in
    let seen : image fresh ≡ image_of g.D.Disk files = ap (λ f. seen_image g.D.Disk f.0 f.1) made.files in
    let blank : IsBlankFile (state_of fresh).page_size (image fresh) =
    subst₂ IsBlankFile (sym made.pages) (sym seen) unmade in
    let faults = ap (λ f. g.D.Disk.faults f.0 + g.D.Disk.faults f.1) made.files in
    let counts : faults_of g.D.Disk files ≤ (state_of fresh).faults =
    omega (arith, (pool_files fresh.pool).0, faults) in
    let nothing : CanBuild [] = record { distinct = refl; shaped = All-nil _; short = All-nil _ } in
    rw c.making_error.ensures.value
    (from_store _ _ _ _ _ _ c.in-Err-create.error counts (failed.unharmed clean).counts
    (λ _. record { few = rw none (omega arith); files = inl blank; schema = subst CanBuild (sym none) nothing })
    (limit_wider _ _ _ _ _ c.in-Err-create.error
    (λ stop. ∥∥₁_map stop
    (λ why. elim why [ inl full ↦ full | inr deep ↦ absurd (deep.0 (failed.back ∙ none)) ]))
    (failed.cause clean)))

pub returns-in-Err-create-clause-unharmed : goal.returns-in-Err-create-clause-unharmed
returns-in-Err-create-clause-unharmed g c clean =
    let files = c.args.files in
    let fresh = c.in-Ok.fresh in
    let made = c.in-Ok.ensures in
    let failed = c.in-Err-create.ensures in
    let cleanness = (pool_files fresh.pool).1 ∙ ap (λ f. are_clean g.D.Disk f.0 f.1) made.files in
    let unmade = c.requires.unmade (sym cleanness ∙ failed.falls clean) in
    let seen : image fresh ≡ image_of g.D.Disk files = ap (λ f. seen_image g.D.Disk f.0 f.1) made.files in
    let blank : IsBlankFile (state_of fresh).page_size (image fresh) =
    subst₂ IsBlankFile (sym made.pages) (sym seen) unmade in
    λ left may. elim ((failed.unharmed clean).blank blank left may) [
      | inl was ↦
          inl (subst (λ f. outcomes g.D.Disk f.0 f.1 left) made.files ((pool_files fresh.pool).2 left was))
      | inr way ↦ inr (on_the_way left (rw (made.pages, made.none) at way))
    ]
