-- What a call that is refused leaves of the connection.
use Rattle.std.proofs.Common.{◌≡◌, ◌⊎◌, inl, inr, ℕ, List, Bool, true, false, Result, Ok, Err, IsTrue, OnOk, OnErr}
use Rattle.std.proofs.Common.{IfOk, refl, sym, ◌∙◌, subst}
use Rattle.std.proofs.lemmas.Bool.{cases_Bool}
use Rattle.sqlite_value.specs.Order.{Row}
use Rattle.sqlite_trees.specs.declared.store.Store.{Ghosts}
use Rattle.sqlite.specs.declared.error.Error.{Error}
use Rattle.sqlite.specs.declared.error.Error.TheVariants.{SqliteFailure}
use Rattle.sqlite.specs.declared.error.ErrorCode.TheVariants.{TransactionState}
use Rattle.sqlite.specs.State.{State, IsUnchanged, IsRolledBack, KeepsCommit, ExecutesInside}
use Rattle.sqlite.specs.Held.{Held, state}

module _ (old new : State) where
  unchanged_keeps : IsUnchanged old new → KeepsCommit old new
  unchanged_keeps same = record { was_open = λ _. same.0.was_open; committed = λ _. same.0.committed_is }

  undone_keeps : IsRolledBack old new → KeepsCommit old new
  undone_keeps undone = record { was_open = undone.was_open; committed = λ open_. (undone.undone open_).1 }

  -- a statement inside a transaction commits nothing
  pub inside_keeps : (sql : List ℕ) (params : Row) (r : Result ℕ Error) → ExecutesInside 0 sql params old new r
      → KeepsCommit old new
  inside_keeps sql params (Ok count) h =
      record { was_open = λ _. h.1.was_open; committed = λ _. h.1.committed_is }
  inside_keeps sql params (Err e) (inl (h, inl same)) = unchanged_keeps same
  inside_keeps sql params (Err e) (inl (h, inr undone)) = undone_keeps undone
  inside_keeps sql params (Err e) (inr h) = unchanged_keeps h.2

pub keeps_none : (a : State) → KeepsCommit a a
keeps_none a = record { was_open = λ open_. open_; committed = λ _. refl }

pub keeps_then : (a b c : State) → KeepsCommit a b → KeepsCommit b c → KeepsCommit a c
keeps_then a b c p q = record {
  was_open = λ open_. p.was_open (q.was_open open_);
  committed = λ open_. q.committed open_ ∙ p.committed (q.was_open open_);
}

-- the answer of a `Transaction` that has ended
abbrev over : Error
over = SqliteFailure TransactionState

-- What a statement of a `Transaction` does, by the clauses of `execute`: nothing where the transaction has ended.
module _ {S : Type 0} (g : Ghosts S) (old new : Held S) (sql : List ℕ) (params : Row) where
  pub statement_keeps : (r : Result ℕ Error) → (old.in_transaction ≡ false → (r ≡ Err over) × (new ≡ old))
      → (IsTrue old.in_transaction → ExecutesInside 0 sql params (state g old) (state g new) r)
      → KeepsCommit (state g old) (state g new)
  statement_keeps r ended runs = elim (cases_Bool old.in_transaction) [
    | inl inside ↦ inside_keeps (state g old) (state g new) sql params r (runs inside)
    | inr outside ↦ subst (λ h. KeepsCommit (state g old) (state g h)) (sym (ended outside).1)
        (record { was_open = λ open_. open_; committed = λ _. refl })
  ]

  pub statement_stays : (r : Result ℕ Error) → (old.in_transaction ≡ false → (r ≡ Err over) × (new ≡ old))
      → (IsTrue old.in_transaction → ExecutesInside 0 sql params (state g old) (state g new) r)
      → OnOk r (IsTrue new.in_transaction)
  statement_stays (Ok count) ended runs = elim (cases_Bool old.in_transaction) [
    | inl inside ↦ (runs inside).1.mode
    | inr outside ↦ absurd (let e = (ended outside).0 in cc)
  ]
  statement_stays (Err e) ended runs = tt

-- what was not done had one cause or the other
pub one_cause : {E P Q : Type 0} (done : Result Bool E) → (done ≡ Ok true → ⊥) → OnErr done P
    → IfOk done (λ it. it ≡ false → Q) → Q ⊎ P
one_cause (Err e) not ended busy = inr ended
one_cause (Ok true) not ended busy = absurd (not refl)
one_cause (Ok false) not ended busy = inl (busy refl)
