-- Entries that stand in the log that was saved last and in the one that is to be saved.
use Rattle.std.proofs.Common.{◌≡◌, ◌≤◌, ℕ, List, length, take, sym, ap, subst, ◌∙◌, arith}
use Rattle.desk_types.specs.declared.command.Entry.{Entry}
use Rattle.desk_log.specs.Entries.{IsLogPrefix}
use Rattle.desk_log.specs.SavedValue.{committed_entries}
use Rattle.desk_log.proofs.Prefixes.{length-prefix, prefix_take, prefix_trans, take-prefix}
use Rattle.desk_epochs.proofs.RisingHistories.{cut_is_prefix}
use Rattle.desk_epoch_node.specs.EpochValue.{EpochValue, committed_cut}
use Rattle.desk_epoch_node.specs.Replacements.{ends_epoch}

-- So many entries stand in both logs.
abbrev pub IsKnownIn : ℕ → List Entry → List Entry → Type 0
IsKnownIn known last log = ((known ≤ length last) × (known ≤ length log)) × (take known last ≡ take known log)

front_known : (known : ℕ) (front last log : List Entry) → known ≡ length front → IsLogPrefix front last →
    IsLogPrefix front log → IsKnownIn known last log
front_known known front last log is f g =
    subst (λ (k : ℕ). IsKnownIn k last log) (sym is) (
      (length-prefix front last f, length-prefix front log g),
      take-prefix front last f ∙ sym (take-prefix front log g),
    )

-- what is committed of an epoch stands in its log
pub cut_in_log : (e : EpochValue) → IsLogPrefix (committed_cut e) e.node.saved.log
cut_in_log e =
    prefix_trans (committed_cut e) (committed_entries e.node.saved) e.node.saved.log
    (cut_is_prefix ends_epoch e.most (committed_entries e.node.saved))
    (prefix_take e.node.saved.commit e.node.saved.log)

-- What was committed when the replica was saved last stands in each log that begins with it.
pub cut_known : (known : ℕ) (e : EpochValue) (last log : List Entry) → known ≡ length (committed_cut e) →
    last ≡ e.node.saved.log → IsLogPrefix (committed_entries e.node.saved) log → IsKnownIn known last log
cut_known known e last log is saved f =
    front_known known (committed_cut e) last log is
    (subst (λ (l : List Entry). IsLogPrefix (committed_cut e) l) (sym saved) (cut_in_log e))
    (prefix_trans (committed_cut e) (committed_entries e.node.saved) log
    (cut_is_prefix ends_epoch e.most (committed_entries e.node.saved)) f)

-- as many entries as are committed, up to the epoch's end, are those
pub cut_is : (e : EpochValue) (count : ℕ) → count ≡ length (committed_cut e) →
    take count e.node.saved.log ≡ committed_cut e
cut_is e count is =
    ap (λ (k : ℕ). take k e.node.saved.log) is
    ∙ take-prefix (committed_cut e) e.node.saved.log (cut_in_log e)

pub cut_within : (e : EpochValue) (count : ℕ) → count ≡ length (committed_cut e) →
    count ≤ length e.node.saved.log
cut_within e count is = omega (arith, is, length-prefix (committed_cut e) e.node.saved.log (cut_in_log e))
