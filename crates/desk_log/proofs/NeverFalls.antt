-- What no rule undoes of a saved state, for the changes of which rules are made.
use Rattle.std.proofs.Common.{◌≡◌, ◌≤◌, ℕ, Bool, true, false, cond, List, [], ◌∷◌, ◌++◌, length, take, max, min, arith}
use Rattle.std.proofs.lemmas.Bool.{cond_both}
use Rattle.desk_types.specs.declared.command.Entry.{Entry}
use Rattle.desk_types.specs.declared.packet.Message.{Message}
use Rattle.desk_log.specs.Change.{Change, nothing, change_after, commit_up_to, with_log, keeps_committed, adoption}
use Rattle.desk_log.specs.NeverFalls.{NeverFalls}
use Rattle.desk_log.specs.SavedValue.{SavedValue, in_view, with_entry}
use Rattle.desk_log.proofs.Prefixes.{prefix_refl, prefix_trans, prefix_append, take_take-prefix}
use Rattle.desk_log.proofs.KeepsCommitted.{keeps_committed-Decides}

pub falls_same : (s : SavedValue) → NeverFalls s s
falls_same s = record {
  numbers = record { view = omega arith; normal = omega arith; commit = omega arith };
  committed = prefix_refl (take s.commit s.log);
}

pub falls_trans : (s t u : SavedValue) → NeverFalls s t → NeverFalls t u → NeverFalls s u
falls_trans s t u a b = record {
  numbers = record {
    view = omega (arith, a.numbers.view, b.numbers.view);
    normal = omega (arith, a.numbers.normal, b.numbers.normal);
    commit = omega (arith, a.numbers.commit, b.numbers.commit);
  };
  committed = prefix_trans _ _ _ a.committed b.committed;
}

pub falls_commit : (k : ℕ) (s : SavedValue) → NeverFalls s (commit_up_to k s)
falls_commit k s = record {
  numbers = record { view = omega arith; normal = omega arith; commit = omega arith };
  committed = take_take-prefix s.commit (max s.commit (min k (length s.log))) s.log s.log (omega arith)
      (prefix_refl s.log);
}

pub falls_entry : (e : Entry) (s : SavedValue) → NeverFalls s (with_entry e s)
falls_entry e s = record {
  numbers = record { view = omega arith; normal = omega arith; commit = omega arith };
  committed = take_take-prefix s.commit s.commit s.log (s.log ++ e ∷ []) (omega arith) (prefix_append s.log (e ∷ []));
}

pub falls_view : (view : ℕ) (s : SavedValue) → s.view ≤ view → NeverFalls s (in_view view s)
falls_view view s fresh = record {
  numbers = record { view = fresh; normal = omega arith; commit = omega arith };
  committed = prefix_refl (take s.commit s.log);
}

-- A log that keeps what is committed, in a view that is not below the node's.
pub falls_log : (view : ℕ) (log : List Entry) (k : ℕ) (s : SavedValue) → s.normal ≤ s.view → s.view ≤ view →
    keeps_committed s log ≡ true → NeverFalls s (with_log view log k s)
falls_log view log k s order fresh fit =
    let keeps = (keeps_committed-Decides s log).0 fit in
    let more : s.commit ≤ max s.commit (min k (length log)) = omega arith in
    record {
      numbers = record { view = fresh; normal = omega (arith, order, fresh); commit = more };
      committed = rw keeps.1 (take_take-prefix s.commit (max s.commit (min k (length log))) log log more
          (prefix_refl log));
    }

-- a change that undoes nothing
pub record UndoesNothing (s : SavedValue) (c : Change) : Type 0 where
  pub preserved : NeverFalls s c.saved

pub keeps_if : {s : SavedValue} (b : Bool) {x y : Change} → (b ≡ true → UndoesNothing s x) →
    (b ≡ false → UndoesNothing s y) → UndoesNothing s (cond b x y)
keeps_if {s} b {x} {y} h k = cond_both b x y (UndoesNothing s) h k

pub keeps_same : (s : SavedValue) (c : Change) → c.saved ≡ s → UndoesNothing s c
keeps_same s c e = record { preserved = rw e (falls_same s) }

pub keeps_nothing : (s : SavedValue) → UndoesNothing s (nothing s)
keeps_nothing s = record { preserved = falls_same s }

pub keeps_after : (s : SavedValue) (taken : List Message) (packets : List (ℕ × Message)) (c : Change) →
    UndoesNothing s c → UndoesNothing s (change_after taken packets c)
keeps_after s taken packets c k = record { preserved = k.preserved }

-- from another view
pub keeps_from : (view : ℕ) (s : SavedValue) (c : Change) → s.view ≤ view → UndoesNothing (in_view view s) c →
    UndoesNothing s c
keeps_from view s c fresh k = record
    { preserved = falls_trans s (in_view view s) c.saved (falls_view view s fresh) k.preserved }

pub keeps_adoption : (i n : ℕ) (s : SavedValue) (view commit : ℕ) (log : List Entry) → s.normal ≤ s.view →
    s.view ≤ view → keeps_committed s log ≡ true → UndoesNothing s (adoption i n s view commit log)
unfolding adoption
keeps_adoption i n s view commit log order fresh fit =
    record { preserved = falls_log view log commit s order fresh fit }
