-- What `load_state` answers.
use Rattle.std.proofs.Common.{◌≡◌, ◌≤◌, ℕ, List, [], ◌∷◌, length, false, sym, ap, subst, ◌∙◌, arith, map}
use Rattle.std.proofs.lemmas.List.Sorted.{length_permutation}
use Rattle.sqlite_trees.specs.Tree.{Trees}
use Rattle.sqlite_catalog.specs.Listing.{IsSound}
use Rattle.sqlite.specs.Effect.{Database}
use Rattle.sqlite.specs.State.{State, IsUnchanged}
use Rattle.desk_types.specs.declared.command.Entry.{Entry}
use Rattle.desk_types.specs.declared.limits.TheConstants.{LAST_VIEW, LOG_ENTRIES}
use Rattle.desk_log.specs.SavedValue.{SavedValue}
use Rattle.desk_types.specs.declared.owner.Owner.{Owner}
use Rattle.desk_saved.specs.DeskTables.{Layout, LogTables, Saves, versioned_row, shown_entry}
use Rattle.desk_saved.specs.File.{rows_from, HasLog, HasOwn, HasFile, IsState, HasNoLogFile, state_rows}
use Rattle.desk_codec.specs.Ranges.{FitsEntries}
use Rattle.desk_saved.proofs.Reading.{count}

pub same_view : {version id n v u c v' u' c' : ℕ} {domain : List ℕ}
    → versioned_row version id n domain v u c ∷ [] ≡ versioned_row version id n domain v' u' c' ∷ []
    → (v ≡ v') × (u ≡ u') × (c ≡ c')
same_view e = (cc, cc, cc)

-- two logs with the same rows are as long
as_long : (d : LogTables) (trees : Trees) (a b : List Entry) → HasLog d trees a → HasLog d trees b → length a ≡ length b
as_long d trees a b p q =
    sym (count 0 a) ∙ sym (length_permutation (rows_from 0 a) (map shown_entry (trees d.entry.tree)) p)
    ∙ length_permutation (rows_from 0 b) (map shown_entry (trees d.entry.tree)) q ∙ count 0 b

pub misfits : (d : LogTables) (version : ℕ) (own : Owner) (trees : Trees) (v u c : ℕ) (log : List Entry)
    → HasOwn d trees version own.id own.n own.domain v u c → HasLog d trees log
    → ¬ ((u ≤ v) × (v ≤ LAST_VIEW) × (c ≤ length log) × (length log ≤ LOG_ENTRIES)) → HasNoLogFile d version own trees
misfits d version own trees v u c log own_is log_is none s is file =
    let same = same_view {version = version} {id = own.id} {n = own.n} {domain = own.domain} (sym own_is ∙ file.0) in
    let long = as_long d trees log s.log log_is file.1 in
    let saved = is.saved in
    let in_view : v ≤ LAST_VIEW = subst (λ x. x ≤ LAST_VIEW) (sym same.0) saved.view_within in
    let in_normal : u ≤ v = omega (arith, same.0, same.1, saved.normal_within) in
    let in_log : length log ≤ LOG_ENTRIES = subst (λ x. x ≤ LOG_ENTRIES) (sym long) saved.log_within in
    let in_commit : c ≤ length log = omega (arith, long, same.2, saved.commit_within) in
    none (in_normal, in_view, in_commit, in_log)

pub fits_together : (s : SavedValue) → FitsEntries s.log
    → (s.normal ≤ s.view) × (s.view ≤ LAST_VIEW) × (s.commit ≤ length s.log) × (length s.log ≤ LOG_ENTRIES)
    → IsState s
fits_together s entries h = record {
  saved = record { normal_within = h.0; view_within = h.1; commit_within = h.2; log_within = h.3 };
  entries = entries;
}

pub still_saved : (old new : State) (d : Layout) (own : Owner) (s : SavedValue) → IsUnchanged old new
    → old.now.schema ≡ d.schema → HasFile d own s old.now.trees → IsSound d.schema old.now.trees
    → old.now ≡ old.committed → old.in_transaction ≡ false
    → Saves d new (state_rows own s)
still_saved old new d own s same schema file sound settled free =
    let now = same.0.now_is in
    record {
      keeps = record {
        schema = ap (λ (db : Database). db.schema) now ∙ schema;
        rows =
            subst (λ (db : Database). HasFile d own s db.trees) (sym now) file;
      };
      sound = subst (λ (db : Database). IsSound d.schema db.trees) (sym now) sound;
      committed = same.0.committed_is ∙ sym settled ∙ sym now;
      is_open = same.0.is_open;
      autocommit = same.0.mode ∙ free;
    }
