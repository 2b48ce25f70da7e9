-- What answers do to the file, one after the other.
use Rattle.std.proofs.Common.{◌≡◌, ◌⊎◌, inl, inr, IfErr, Bool, false, Result, Ok, Err, IsTrue, refl, sym, subst, ◌∙◌}
use Rattle.std.proofs.lemmas.Bool.{cases_Bool}
use Rattle.sqlite_trees.specs.Tree.{Trees}
use Rattle.sqlite_trees.specs.declared.store.Store.{Ghosts}
use Rattle.sqlite.specs.State.{State, HasCleanDisk}
use Rattle.sqlite.specs.Held.{Held, state}
use Rattle.desk_types.specs.declared.refusal.Refusal.{Refusal}
use Rattle.desk_types.specs.declared.refusal.Refusal.TheVariants as refusals
use Rattle.desk_log.specs.SavedValue.{SavedValue}
use Rattle.desk_naming.specs.Contents.{trees_of}
use Rattle.desk_saved.specs.DeskTables.{Layout, KeepsOthers}
use Rattle.desk_saved.specs.File.{HasFile, HoldsFile}
use Rattle.desk_saved.specs.Saving.{WhereHeld, StopLeaves, KeepsFile}
use Rattle.desk_saved.specs.Store.{StoreValue}
use Rattle.desk_log.proofs.KnownPrefix.{memory_no_store}
use Rattle.desk_saved.proofs.SameFile.{preserved_still, preserved_further}
use Rattle.desk_saved.proofs.SeveralStatements.{others_same, others_then}
use Rattle.desk_saved.proofs.SavedRows.{left_alone, others_alone, sound_alone}
use Rattle.desk_types.specs.Refusal.{IsStoreRefusal}
use Rattle.desk_answer.specs.AnswerFile.{LeavesFile, IsEither, HasFollowed}

-- A database that was closed well leaves what is committed.
abbrev pub LeavesCommitted : {S : Type 0} → Ghosts S → Held S → Type 0
LeavesCommitted g held = IsTrue (state g held).is_open → (trees : Trees) → (state g held).may_leave trees
    → trees ≡ (state g held).committed.trees

-- rows that are kept are what a crash leaves
pub preserved_alone : {S : Type 0} (g : Ghosts S) (old new : StoreValue S) (saved : SavedValue) →
    LeavesCommitted g new.connection → KeepsFile g old new → new.owner ≡ old.owner → new.last ≡ saved →
    LeavesFile g old new (λ s. s ≡ saved)
preserved_alone g old new saved settled keeps owner last d holds clean trees leaves =
    let preserved = keeps d holds in
    let now : HoldsFile g d new.connection old.owner saved = rw (← owner, ← last) preserved.0 in (
      (saved, refl, left_alone g new.connection d old.owner saved now settled clean trees leaves),
      others_alone g new.connection d old.owner saved now settled clean trees leaves
          (trees_of g old.connection) (preserved.1 clean),
      sound_alone g new.connection d old.owner saved now settled clean trees leaves,
    )

-- what refuses a save
pub store_refusal : (stopped : Bool) (r : Refusal) → (IsTrue stopped → r ≡ refusals.NodeStopped) →
    (stopped ≡ false → r ≡ refusals.StoreFault) → IsStoreRefusal r
store_refusal stopped r closed fault = elim (cases_Bool stopped) [
  | inl t ↦ inr (closed t)
  | inr f ↦ inl (fault f)
]

pub unsaved_never : {T : Type 0} (result : Result T Refusal) (Unsaved : Type 0) (r : Refusal) → result ≡ Err r →
    r ≡ refusals.WantOfMemory → IfErr result (λ r. IsStoreRefusal r → Unsaved)
unsaved_never result Unsaved r is want = rw is (λ store. absurd (memory_no_store r want store))

pub closed_never : {T : Type 0} (result : Result T Refusal) (Closed : Type 0) (r : Refusal) → result ≡ Err r →
    r ≡ refusals.WantOfMemory → IfErr result (λ r. r ≡ refusals.NodeStopped → Closed)
closed_never result Closed r is want = rw is (λ closed. absurd (memory_no_store r want (inr closed)))

pub stopped_never : {T : Type 0} (result : Result T Refusal) (Stopped : Type 0) (r : Refusal) → result ≡ Err r →
    r ≡ refusals.WantOfMemory → IfErr result (λ r. r ≡ refusals.StoreFault → Stopped)
stopped_never result Stopped r is want = rw is (λ fault. absurd (memory_no_store r want (inl fault)))

-- one save
module _ {S : Type 0} (g : Ghosts S) (old new : StoreValue S) (before saved : SavedValue)
    (owner : new.owner ≡ old.owner)
    (clean_was : HasCleanDisk (state g new.connection) → HasCleanDisk (state g old.connection)) where
  pub saved_once : {T : Type 0} (x : T) →
      (new.last ≡ saved) × (new.stopped ≡ false) × (old.stopped ≡ false) → KeepsFile g old new →
      HasFollowed g old new saved (Ok x)
  saved_once x h keeps = record {
    owner_is = owner;
    clean = clean_was;
    closed = tt;
    stopped = tt;
    running = λ _. h.1 ∙ sym h.2;
    last = λ _. h.0;
    rows = λ _. keeps;
  }

  pub refused_once : {T : Type 0} (r : Refusal) → (IsTrue old.stopped → r ≡ refusals.NodeStopped) →
      (old.stopped ≡ false → (r ≡ refusals.StoreFault) × IsTrue new.stopped) →
      HasFollowed {T = T} g old new saved (Err r)
  refused_once r closed fault =
      let which : IsStoreRefusal r = elim (cases_Bool old.stopped) [
        | inl t ↦ inr (closed t)
        | inr f ↦ inl (fault f).0
      ] in
      record {
        owner_is = owner;
        clean = clean_was;
        closed = λ is. elim (cases_Bool old.stopped) [
          | inl t ↦ t
          | inr f ↦ let other = (fault f).0 in absurd (let none : ⊥ = cc in none)
        ];
        stopped = λ is. elim (cases_Bool old.stopped) [
          | inl t ↦ let other = closed t in absurd (let none : ⊥ = cc in none)
          | inr f ↦ (fault f).1
        ];
        running = λ stored. absurd (stored which);
        last = λ stored. absurd (stored which);
        rows = λ stored. absurd (stored which);
      }

  -- what a crash leaves of it
  pub left_by_save : LeavesCommitted g old.connection → old.last ≡ before → (IsTrue old.stopped → new ≡ old) →
      WhereHeld g old (λ d. HasCleanDisk (state g new.connection) →
      StopLeaves g d old.connection new.connection
      (λ trees. HasFile d old.owner old.last trees ⊎ HasFile d old.owner saved trees)) →
      LeavesFile g old new (IsEither before saved)
  left_by_save settled last closed stop d holds clean trees leaves =
      elim (cases_Bool old.stopped) [
        | inl t ↦
            let same = closed t in
            let was = subst (λ (v : StoreValue S). HasCleanDisk (state g v.connection)) same clean in
            let left = subst (λ (v : StoreValue S). (state g v.connection).may_leave trees) same leaves in (
              (old.last, inl last, left_alone g old.connection d old.owner old.last holds settled was trees left),
              others_alone g old.connection d old.owner old.last holds settled was trees left
                  (trees_of g old.connection) (others_same d (trees_of g old.connection)),
              sound_alone g old.connection d old.owner old.last holds settled was trees left,
            )
        | inr f ↦
            let it = stop f d holds clean trees leaves in (
              elim it.0 [ inl h ↦ (old.last, inl last, h) | inr h ↦ (saved, inr refl, h) ],
              it.1,
              it.2,
            )
      ]

-- the tables of others after two changes, the second of which a crash may have cut short
pub others_left : (d : Layout) (a b : State) (trees : Trees) → KeepsOthers d a.now.trees b.now.trees →
    KeepsOthers d b.now.trees trees → KeepsOthers d a.now.trees trees
others_left d a b trees = others_then d a b (record b { now = record { schema = d.schema; trees = trees } })

-- one after the other
pub followed_nothing : {S T : Type 0} (g : Ghosts S) (old : StoreValue S) (saved : SavedValue) (x : T) →
    old.last ≡ saved → HasFollowed g old old saved (Ok x)
followed_nothing g old saved x last = record {
  owner_is = refl;
  clean = λ late. late;
  closed = tt;
  stopped = tt;
  running = λ _. refl;
  last = λ _. last;
  rows = λ _. preserved_still g old;
}

module _ {S T : Type 0} (g : Ghosts S) (old mid new : StoreValue S) (first saved : SavedValue) (x : T)
    (h : HasFollowed g old mid first (Ok x)) where
  pub followed_more : {U : Type 0} (result : Result U Refusal) → HasFollowed g mid new saved result →
      HasFollowed g old new saved result
  followed_more (Ok y) k = record {
    owner_is = k.owner_is ∙ h.owner_is;
    clean = λ late. h.clean (k.clean late);
    closed = tt;
    stopped = tt;
    running = λ _. k.running tt ∙ h.running tt;
    last = k.last;
    rows = λ _. preserved_further g old mid new k.clean (h.rows tt) (k.rows tt);
  }
  followed_more (Err r) k = record {
    owner_is = k.owner_is ∙ h.owner_is;
    clean = λ late. h.clean (k.clean late);
    closed = λ is. sym (h.running tt) ∙ k.closed is;
    stopped = k.stopped;
    running = λ stored. k.running stored ∙ h.running tt;
    last = k.last;
    rows = λ stored. preserved_further g old mid new k.clean (h.rows tt) (k.rows stored);
  }

  pub left_more : (Left : SavedValue → Type 0) →
      (HasCleanDisk (state g new.connection) → HasCleanDisk (state g mid.connection)) → LeavesFile g mid new Left →
      LeavesFile g old new Left
  left_more Left clean k d holds late trees leaves =
      let preserved = h.rows tt d holds in
      let it = k d preserved.0 late trees leaves in (
        (it.0.0, it.0.1, subst (λ own. HasFile d own it.0.0 trees) h.owner_is it.0.2),
        others_left d (state g old.connection) (state g mid.connection) trees (preserved.1 (clean late)) it.1,
        it.2,
      )

-- a result that is refused as another one
pub followed_refused : {S T U : Type 0} (g : Ghosts S) (old new : StoreValue S) (saved : SavedValue) (r : Refusal) →
    HasFollowed {T = T} g old new saved (Err r) → HasFollowed {T = U} g old new saved (Err r)
followed_refused g old new saved r h = record {
  owner_is = h.owner_is;
  clean = h.clean;
  closed = h.closed;
  stopped = h.stopped;
  running = h.running;
  last = h.last;
  rows = h.rows;
}

-- A fault of something else than the store leaves the file as it is.
pub followed_still : {S T U : Type 0} (g : Ghosts S) (old new : StoreValue S) (saved : SavedValue) (x : T) →
    HasFollowed g old new saved (Ok x) → (result : Result U Refusal) → IfErr result (λ r. IsStoreRefusal r → ⊥) →
    HasFollowed g old new saved result
followed_still g old new saved x h (Ok y) other = record {
  owner_is = h.owner_is;
  clean = h.clean;
  closed = tt;
  stopped = tt;
  running = h.running;
  last = h.last;
  rows = h.rows;
}
followed_still g old new saved x h (Err r) other = record {
  owner_is = h.owner_is;
  clean = h.clean;
  closed = λ is. absurd (other (inr is));
  stopped = λ is. absurd (other (inl is));
  running = λ _. h.running tt;
  last = λ _. h.last tt;
  rows = λ _. h.rows tt;
}
