-- The steps of a save make the rows those of the state.
use denote.Ref.{Bor}
use Rattle.std.proofs.Common.{◌≡◌, ◌++◌, [], ◌∷◌, ℕ, List, drop, length, subst, refl}
use Rattle.std.specs.List.{AllByRecursion}
use Rattle.desk_types.specs.declared.command.Entry.{Entry}
use Rattle.desk_types.specs.declared.owner.Owner.{Owner}
use Rattle.desk_log.specs.SavedValue.{SavedValue}
use Rattle.desk_codec.specs.Ranges.{FitsEntries}
use Rattle.desk_saved.specs.DeskTables.{StateRows, own_rows, versioned_row, up_to}
use Rattle.desk_saved.specs.Clients.{settle_all, changed_clients}
use Rattle.desk_saved.specs.File.{state_rows, log_of, rows_from, client_rows}
use Rattle.desk_saved.specs.declared.steps.RowStep.{RowStep}
use Rattle.desk_saved.specs.declared.steps.RowStep.TheVariants as steps
use Rattle.desk_saved.specs.declared.transactions.Numbers.{Numbers}
use Rattle.desk_saved.specs.Changes.{effects, IsOwnRow, IsFitStep, AreApt}
use Rattle.desk_saved.proofs.Fronts.{are_within}
use Rattle.desk_saved.proofs.Settling.{keyed_clients}

-- a row of a node is one
pub own_is : (version id n : ℕ) (domain : List ℕ) (view normal commit : ℕ)
    → IsOwnRow version (versioned_row version id n domain view normal commit ∷ [])
own_is version id n domain view normal commit = record {
  id = id;
  n = n;
  domain = domain;
  view = view;
  normal = normal;
  commit = commit;
  is = refl;
}

-- the numbers of a state
abbrev pub saved_numbers : SavedValue → Numbers
saved_numbers s = record { view = s.view; normal = s.normal; commit = s.commit }

-- the rows of a state that becomes another, whose log it has in common up to a front
abbrev pub rows_after : Owner → SavedValue → SavedValue → ℕ → StateRows
rows_after own last new front = own_rows own.id own.n own.domain new.view new.normal new.commit
    (up_to front (log_of last) ++ rows_from front (drop front new.log))
    (settle_all new.log (changed_clients front last.log new.log) (client_rows last.log))

-- steps make the rows of a state those of another
pub record AreOfSave (own : Owner) (last new : SavedValue) (front : ℕ) (all : List RowStep) : Type 0 where
  pub apt : AreApt all (state_rows own last)
  pub made : effects all (state_rows own last) ≡ rows_after own last new front
  pub fits : AllByRecursion IsFitStep all → FitsEntries (drop front new.log)

pub of_save : (own : Owner) (last new : SavedValue) (front held : ℕ) (before numbers : Numbers)
    (more : Bor (List Entry)) (log : Bor (List Entry)) (clients : Bor (List ℕ)) → held ≡ length last.log
    → before ≡ saved_numbers last → numbers ≡ saved_numbers new → more.now ≡ drop front new.log
    → log.now ≡ new.log → clients.now ≡ changed_clients front last.log new.log
    → AreOfSave own last new front (steps.CutPast front held ∷ steps.AddEntries front more ∷ steps.Settle log clients
    ∷ steps.SetChanged before numbers ∷ [])
of_save own last new front held before numbers more log clients held_is before_is numbers_is more_is log_is clients_is =
    record {
      apt = rw (held_is, before_is) (
        are_within last.log,
        (
          tt,
          (
            keyed_clients last.log,
            ((own_is 2 own.id own.n own.domain last.view last.normal last.commit, refl), tt),
          ),
        ),
      );
      made = rw (numbers_is, more_is, log_is, clients_is) refl;
      fits = λ h. subst FitsEntries more_is h.1.0;
    }
