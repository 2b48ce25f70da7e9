-- What a new file is while it is made.
use Rattle.std.proofs.Common.{◌≡◌, ◌⊎◌, ◌<◌, ◌≤◌, ◌∙◌, ℕ, true, [], refl, subst, inl, inr, arith}
use Rattle.std.proofs.Math.Logic.{∥∥₁_map}
use Rattle.sqlite_wal.specs.PageSize.{IsPageSize}
use Rattle.sqlite_wal.specs.Recovery.{Image, AreWhole}
use Rattle.sqlite_pages.specs.PageMap.{PageMap}
use Rattle.sqlite_pool.specs.File.{version_in, in_use}
use Rattle.sqlite_pool.specs.Opening.{IsNew}
use Rattle.sqlite_pool.specs.Stored.{reserved, stored_size, Recovers}
use Rattle.sqlite_pool.specs.StoredLaws.{trimmed_whole}
use Rattle.sqlite_pool.proofs.ProbeLemmas.{not_blank}
use Rattle.sqlite_pool.proofs.ResealLemmas.{adopts_of}
use Rattle.sqlite_trees.specs.Tree.{Trees}
use Rattle.sqlite_store.specs.Db.{trees_in}
use Rattle.sqlite_store.specs.Listing.{all_trees, file_trees, IsOurs}
use Rattle.sqlite_store.specs.Listed.{catalog_rows}
use Rattle.sqlite_store.specs.Opening as store
use Rattle.sqlite_store.proofs.BuildLemmas.{new_is_empty}
use Rattle.sqlite_store.proofs.ListingLemmas.{past_version, named_tree}
use Rattle.sqlite.specs.Files.{HoldsDatabase, IsEmpty}
use Rattle.sqlite.proofs.ListingLemmas.{empty_is_sound}
use Rattle.desk_database.specs.NewFile.{new_page_bytes, IsUnmade}

-- files that hold a database are not made anew
pub made_is_not_unmade : (image : Image) (db : Trees) → HoldsDatabase image db → ¬ IsUnmade image
made_is_not_unmade image db held =
    let large : 504 ≤ held.0 = (let few : reserved held.0 ≤ 8 = grind arith in omega (arith, held.1.0)) in
    not_blank held.0 image held.2.pages held.2.found large held.2.ours.file.sound new_page_bytes (omega arith)

-- a sound file with no table is an empty database
empty_database : (image : Image) (pages : PageMap) → Recovers new_page_bytes image pages
    → IsOurs new_page_bytes true [] pages → (db : Trees) × HoldsDatabase image db × IsEmpty db
unfolding trees_in
empty_database image pages found ours =
    let size = new_page_bytes in
    let db = file_trees size [] pages in
    let unlisted = catalog_rows size [] (in_use size pages) in
    let valid : IsPageSize (stored_size size) = (omega arith, omega arith, refl, refl) in (
      db,
      (
        size,
        valid,
        record {
          pages = pages;
          wanted = [];
          schema = _;
          found = adopts_of size image pages found;
          ours = ours;
          reads = refl;
          sound = empty_is_sound db unlisted;
        },
      ),
      (
        λ tree low. past_version tree low (all_trees size [] (in_use size pages)) (version_in pages)
            ∙ named_tree tree low size [] (in_use size pages),
        unlisted,
      ),
    )

-- what the making of a database leaves on its way is for the next open to take
pub on_the_way : (image : Image)
    → IsUnmade image ⊎ ((pages : PageMap) × Recovers new_page_bytes image pages
    × (IsNew new_page_bytes pages ⊎ ∥ store.IsFresh new_page_bytes [] pages ∥₁))
    → IsUnmade image ⊎ ∥ ((db : Trees) × HoldsDatabase image db × IsEmpty db) ∥₁
on_the_way image (inl unmade) = inl unmade
on_the_way image (inr made) =
    let size = new_page_bytes in
    inr (elim made.2 [
      | inl new ↦
          let trimmed = trimmed_whole size made.1.stored made.1.whole in
          let whole : AreWhole size made.0 = subst (AreWhole size) made.1.shows trimmed in
          let empty = new_is_empty size made.0 whole new in
          ∣ empty_database image made.0 made.1 (record {
            file = empty.0;
            numbered = λ _. record { listed = empty.1; spaced = refl; ordered = refl };
          }) ∣₁
      | inr fresh ↦ ∥∥₁_map fresh (λ it. empty_database image made.0 made.1 it.0)
    ])
