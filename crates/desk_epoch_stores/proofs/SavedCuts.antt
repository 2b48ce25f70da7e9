-- What is committed of an epoch that was saved, as the cut beside it counts that.
use Rattle.std.proofs.Common.{◌≡◌, ◌≤◌, ◌∙◌, ℕ, length, take, sym, arith}
use Rattle.std.proofs.lemmas.List.{take-take}
use Rattle.desk_log.specs.SavedValue.{SavedValue, committed_entries}
use Rattle.desk_epoch_node.specs.declared.cut.Cut.{Cut}
use Rattle.desk_epoch_node.specs.Ends.{IsCut}
use Rattle.desk_epoch_node.proofs.Cuts.{count_first, cut_commits, cut_within_log}
use Rattle.desk_epoch_stores.specs.Starting.{saved_cut}

-- as many first entries of the log as the cut has
pub count_is_saved : (most : ℕ) (s : SavedValue) (c : Cut) → IsCut most (committed_entries s) c →
    take c.count s.log ≡ saved_cut most s
count_is_saved most s c is =
    sym (take-take c.count s.commit s.log (cut_commits most s c is))
    ∙ count_first most (committed_entries s) c is

pub count_within : (most : ℕ) (s : SavedValue) (c : Cut) → IsCut most (committed_entries s) c →
    c.count ≤ length s.log
count_within most s c is = omega (arith, is.count_is, cut_within_log most s)
