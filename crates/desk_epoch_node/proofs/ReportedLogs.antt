-- A node that is told its epoch's log after what it has committed has that log whole.
use Rattle.std.proofs.Common.{◌≡◌, ◌≤◌, ℕ, true, List, ◌++◌, length, take, drop, sym, ap, subst, ◌∙◌, arith}
use Rattle.std.proofs.lemmas.Bool.{and_from, le-leb}
use Rattle.std.proofs.lemmas.List.{length-take-le, take-append-drop}
use Rattle.desk_types.specs.declared.command.Entry.{Entry}
use Rattle.desk_log.specs.Change.{keeps_committed}
use Rattle.desk_log.specs.Entries.{IsLogPrefix}
use Rattle.desk_log.proofs.KeepsCommitted.{keeps_committed-Decides}
use Rattle.desk_log.proofs.Prefixes.{length-prefix, prefix_take, prefix_trans, take-prefix}
use Rattle.desk_epoch_node.specs.Does.{whole_log}
use Rattle.desk_epochs.proofs.RisingHistories.{cut_is_prefix}
use Rattle.desk_epoch_node.specs.Ends.{is_whole}
use Rattle.desk_epoch_node.specs.EpochValue.{committed_cut}
use Rattle.desk_epoch_node.specs.Laws.{TellingServes}
use Rattle.desk_epoch_node.specs.Replacements.{ends_epoch}

pub telling_serves : TellingServes
telling_serves e log saved next long f =
    let own : List Entry = e.node.saved.log in
    let commit : ℕ = e.node.saved.commit in
    let cut : List Entry = committed_cut e in
    let count : ℕ = length cut in
    let rest : List Entry = drop count log in
    let cut_first : IsLogPrefix cut (take commit own) = cut_is_prefix ends_epoch e.most (take commit own) in
    let cut_own : IsLogPrefix cut own =
    prefix_trans cut (take commit own) own cut_first (prefix_take commit own) in
    let cut_log : IsLogPrefix cut log = prefix_trans cut (take commit own) log cut_first f in
    let whole : whole_log e count rest ≡ log =
    ap (λ es. es ++ rest) (take-prefix cut own cut_own ∙ sym (take-prefix cut log cut_log))
    ∙ take-append-drop count log in
    let is : is_whole e.most (whole_log e count rest) ≡ true =
    subst (λ es. is_whole e.most es ≡ true) (sym whole) long in
    let all : length (take commit own) ≡ commit = length-take-le commit own saved.commit_within in
    let enough : commit ≤ length log = omega (arith, all, length-prefix (take commit own) log f) in
    let same : take commit own ≡ take commit log =
    sym (take-prefix (take commit own) log f) ∙ ap (λ k. take k log) all in
    let preserved : keeps_committed e.node.saved (whole_log e count rest) ≡ true =
    subst (λ es. keeps_committed e.node.saved es ≡ true) (sym whole)
    ((keeps_committed-Decides e.node.saved log).1 (enough, same)) in (
      and_from _ _ (and_from _ _ (and_from _ _ next (le-leb count count (omega arith))) is) preserved,
      whole,
    )
