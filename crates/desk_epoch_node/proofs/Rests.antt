-- A log that a node takes: it has places for it, and the node begins after it.
use Rattle.std.proofs.Common.{◌≡◌, ◌≤◌, ℕ, ◌+◌, true, ◌&&◌, List, length, take, arith, leb, length-append}
use Rattle.std.proofs.lemmas.Bool.{and_parts, leb-true}
use Rattle.std.proofs.lemmas.List.{length-take-le}
use Rattle.desk_types.specs.declared.command.Entry.{Entry}
use Rattle.desk_log.specs.Change.{keeps_committed}
use Rattle.desk_epoch_node.specs.Does.{is_rest, whole_log}
use Rattle.desk_epoch_node.specs.Ends.{is_whole}
use Rattle.desk_epoch_node.specs.EpochValue.{EpochValue, committed_cut, has_next}
use Rattle.desk_epoch_node.proofs.Cuts.{cut_within_log, whole_least, whole_most}

-- the entries that a node takes, where they are the rest of its epoch's log
pub record IsTakenRest (e : EpochValue) (base : ℕ) (entries : List Entry) : Type 0 where
  pub next : has_next e ≡ true
  pub within : base ≤ length e.node.saved.log
  pub most : base + length entries ≤ e.most
  pub least : 1 ≤ e.most → 1 ≤ base + length entries
  pub long : length (whole_log e base entries) ≡ base + length entries

pub rest_taken : (e : EpochValue) (base : ℕ) (entries : List Entry) → is_rest e base entries ≡ true →
    IsTakenRest e base entries
rest_taken e base entries h =
    let whole : List Entry = whole_log e base entries in
    let p =
    and_parts (has_next e && leb base (length (committed_cut e)) && is_whole e.most whole)
    (keeps_committed e.node.saved whole) h in
    let q = and_parts (has_next e && leb base (length (committed_cut e))) (is_whole e.most whole) p.0 in
    let r = and_parts (has_next e) (leb base (length (committed_cut e))) q.0 in
    let in_log : base ≤ length e.node.saved.log =
    omega (arith, leb-true base (length (committed_cut e)) r.1, cut_within_log e.most e.node.saved) in
    let first : length (take base e.node.saved.log) ≡ base = length-take-le base e.node.saved.log in_log in
    let all : length whole ≡ base + length entries =
    omega (arith, length-append (take base e.node.saved.log) entries, first) in
    record {
      next = r.0;
      within = in_log;
      most = omega (arith, whole_most e.most whole q.1, all);
      least = λ some. omega (arith, whole_least e.most whole some q.1, all);
      long = all;
    }
