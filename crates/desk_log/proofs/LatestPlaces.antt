-- The kept places, when an entry is put last, and when places are taken away.
use Rattle.std.proofs.Common.{◌≡◌, ◌≤◌, ◌+◌, ◌⊎◌, inl, inr, ℕ, suc, refl, ap, sym, ◌∙◌, Bool, true, false, cond}
use Rattle.std.proofs.Common.{eqb, List, [], ◌∷◌, ◌++◌, length, get_or, Option, Some, None}
use Rattle.std.specs.BTreeMap.{get}
use Rattle.std.specs.Option.{IfSome, IsSome, option_flatten}
use Rattle.std.specs.Ordering.{nat_cmp}
use Rattle.std.proofs.lemmas.Option.{none-some, slice_get-get_or}
use Rattle.std.proofs.lemmas.List.Elements.{All-push}
use Rattle.desk_types.specs.declared.command.Entry.{Entry}
use Rattle.desk_log.specs.declared.latest_places.LatestPlaces.{LatestPlaces}
use Rattle.desk_log.specs.Entries.{latest}
use Rattle.desk_log.specs.LatestPlaces.{place_of, HasRoom, HasRoomFor, HasLatest, KeepsRoom}
use Rattle.desk_log.proofs.Latest.{latest_push, latest_is_none, latest_within}

-- the entry's place is set for its client
pub has_latest_push : (log more : List Entry) (e : Entry) (place : ℕ) (old new : LatestPlaces) → HasLatest log old →
    more ≡ log ++ e ∷ [] → place ≡ length log + 1 →
    ((c : ℕ) → place_of new c ≡ cond (eqb e.client c) (Some place) (place_of old c)) → HasLatest more new
has_latest_push log more e place old new h is at set c =
    let placed : place_of new c ≡ cond (eqb e.client c) (Some (length log + 1)) (place_of old c) =
    set c ∙ ap (λ p. cond (eqb e.client c) (Some p) (place_of old c)) at in
    let followed : place_of new c ≡ cond (eqb e.client c) (Some (length log + 1)) (latest c log) =
    placed ∙ ap (λ o. cond (eqb e.client c) (Some (length log + 1)) o) (h c) in
    rw is (followed ∙ sym (latest_push c log e))

-- a client's place is one of the log
pub place_within : (client : ℕ) (log : List Entry) (o : Option ℕ) → o ≡ latest client log →
    IfSome o (λ place. (1 ≤ place) × (place ≤ length log))
place_within client log None h = tt
place_within client log (Some place) h = latest_within client log place (sym h)

pub room_push : (xs more : List Entry) (e : Entry) (old new : LatestPlaces) → HasRoomFor xs old →
    more ≡ xs ++ e ∷ [] → KeepsRoom old new → HasRoom new e.client → HasRoomFor more new
room_push xs more e old new h is preserved here =
    rw is (All-push (λ x. HasRoom new x.client) xs e (λ k d lt. preserved _ (h k d lt)) here)

-- The clients of these entries have no place any more, and the others keep theirs.
abbrev pub Forgets : List Entry → LatestPlaces → LatestPlaces → Type 0
Forgets log old new = (c : ℕ) → (place_of new c ≡ None) ⊎ ((place_of new c ≡ place_of old c) × (latest c log ≡ None))

pub forgets_push : (log more : List Entry) (e : Entry) (first old new : LatestPlaces) → Forgets log first old →
    more ≡ log ++ e ∷ [] → ((c : ℕ) → place_of new c ≡ cond (eqb e.client c) None (place_of old c)) →
    Forgets more first new
forgets_push log more e first old new h is forget c =
    rw is (by_client (eqb e.client c) (forget c) (latest_push c log e) (h c))
  where
    by_client : (t : Bool) → place_of new c ≡ cond t None (place_of old c) →
        latest c (log ++ e ∷ []) ≡ cond t (Some (length log + 1)) (latest c log) →
        (place_of old c ≡ None) ⊎ ((place_of old c ≡ place_of first c) × (latest c log ≡ None)) →
        (place_of new c ≡ None) ⊎ ((place_of new c ≡ place_of first c) × (latest c (log ++ e ∷ []) ≡ None))
    by_client true gone found o = inl gone
    by_client false same found (inl none) = inl (same ∙ none)
    by_client false same found (inr preserved) = inr (same ∙ preserved.0, found ∙ preserved.1)

some_within : (o : Option (Option ℕ)) (place : ℕ) → option_flatten o ≡ Some place → IsSome o
some_within None place h = absurd (none-some place h)
some_within (Some p) place h = refl

-- there is room for each client that has a place
pub room_of_latest : (log : List Entry) (p : LatestPlaces) → HasLatest log p → HasRoomFor log p
room_of_latest log p h k d lt = by_latest (latest e.client log) refl
  where
    e : Entry
    e = get_or log k d

    by_latest : (found : Option ℕ) → latest e.client log ≡ found → HasRoom p e.client
    by_latest None none = absurd (latest_is_none e.client log none (suc k) e (slice_get-get_or log k d lt) refl)
    by_latest (Some place) found = some_within (get nat_cmp p.places e.client) place (h e.client ∙ found)
