-- What a query that is refused leaves of the connection.
use Rattle.std.proofs.Common.{◌⊎◌, inl, inr, ◌≤◌, ℕ, List, Option, Some, None, sym, ◌∙◌, arith}
use Rattle.sqlite_value.specs.Order.{Row}
use Rattle.sqlite_trees.specs.Tree.{Trees}
use Rattle.sqlite_resolve.specs.declared.compiled.Compiled.{Compiled}
use Rattle.sqlite_schema.specs.declared.command.Returning.{Returning}
use Rattle.sqlite.specs.declared.error.Error.{Error}
use Rattle.sqlite.specs.State.{State, HasCleanDisk, IsUnchanged, IsRolledBack, IsNotRun, Survives, FailsToQuery}
use Rattle.sqlite.specs.State.{FailsToShow}
use Rattle.desk_naming.specs.AfterRefusal.{IsSettled, ShowsAsBefore}

module _ (old new : State) where
  not_shown : (sql : List ℕ) (c : Compiled) (params : Row) (e : Error) (returning : Option Returning)
      → FailsToShow old new sql c params e returning → IsUnchanged old new ⊎ IsRolledBack old new
  not_shown sql c params e None h = inl h.3
  not_shown sql c params e (Some what) (inl h) = inl h.1
  not_shown sql c params e (Some what) (inr h) = inr h.3

  -- a query that is refused changes nothing, or the transaction is undone
  query_refused : (sql : List ℕ) (params : Row) (e : Error) → FailsToQuery sql params old new e
      → IsUnchanged old new ⊎ IsRolledBack old new
  unfolding FailsToQuery IsNotRun
  query_refused sql params e (inl (inl h)) = inl h.1
  query_refused sql params e (inl (inr h)) = inr h.3
  query_refused sql params e (inr h) = not_shown sql h.0 _ e h.0.returning h.2

  pub unchanged_shows : IsUnchanged old new → ShowsAsBefore old new
  unchanged_shows same = record {
    was_open = λ _. same.0.was_open;
    now = λ _. same.0.now_is;
    committed = λ _. same.0.committed_is;
    mode = same.0.mode;
    closes = λ _. inl same.0.is_open;
  }

  undone_shows : {Commits : Trees → Type 0} → IsSettled old → HasCleanDisk new → Survives old new Commits
      → IsRolledBack old new → ShowsAsBefore old new
  undone_shows settled clean survives undone = record {
    was_open = undone.was_open;
    now = λ open_. (undone.undone open_).0 ∙ sym (settled.committed (undone.was_open open_));
    committed = λ open_. (undone.undone open_).1;
    mode = undone.autocommit ∙ sym settled.autocommit;
    closes = survives.closes clean;
  }

  pub query_shows : {Commits : Trees → Type 0} (sql : List ℕ) (params : Row) (e : Error) → IsSettled old
      → HasCleanDisk new → Survives old new Commits → FailsToQuery sql params old new e → ShowsAsBefore old new
  query_shows sql params e settled clean survives h = elim (query_refused sql params e h) [
    | inl same ↦ unchanged_shows same
    | inr undone ↦ undone_shows settled clean survives undone
  ]

pub settled_stays : (old new : State) → IsSettled old → IsUnchanged old new → IsSettled new
settled_stays old new settled same = record {
  autocommit = same.0.mode ∙ settled.autocommit;
  committed = λ _. same.0.now_is ∙ settled.committed same.0.was_open ∙ sym same.0.committed_is;
}

pub shows_then : (a b c : State) → IsUnchanged a b → a.faults ≤ b.faults → ShowsAsBefore b c → ShowsAsBefore a c
shows_then a b c same up shows = record {
  was_open = λ _. same.0.was_open;
  now = λ open_. shows.now open_ ∙ same.0.now_is;
  committed = λ open_. shows.committed open_ ∙ same.0.committed_is;
  mode = shows.mode ∙ same.0.mode;
  closes = λ _. elim (shows.closes same.0.is_open) [
    | inl open_ ↦ inl open_
    | inr more ↦ inr (omega (arith, more, up))
  ];
}
