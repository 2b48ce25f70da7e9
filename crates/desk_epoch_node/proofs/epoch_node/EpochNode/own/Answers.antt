use Rattle.std.proofs.Common.{◌≡◌, ◌∙◌, ℕ, List, rules, sym, ap, subst, take}
use Rattle.desk_types.specs.declared.command.Entry.{Entry}
use Rattle.desk_types.specs.Group.{IsGroup}
use Rattle.desk_log.specs.SavedValue.{committed_entries}
use Rattle.desk_epoch_node.specs.Ends.{IsCut}
use Rattle.desk_epoch_node.specs.Replacements.{standing_after}
use Rattle.desk_epoch_node.proofs.Cuts.{known_stay}
use Rattle.desk_epoch_node.proofs.epoch_node.EpochNode.own.Goals as goal

pub invariant_of-self-2 : goal.invariant_of-self-2
invariant_of-self-2 c =
    let e = c.self.inside in
    let old = e.node in
    let new = c.step.new.self in
    let kept = c.self.invariant in
    let known = c.commit-known.result in
    let at : known ≡ old.saved.commit = search rules in
    let first : take old.saved.commit new.saved.log ≡ committed_entries old.saved =
    known_stay old.saved new.saved c.in_ok-step.ensures.committed (search rules) c.in_ok-step.ensures.commit in
    let before : take known new.saved.log ≡ committed_entries old.saved =
    ap (λ (k : ℕ). take k new.saved.log) at ∙ first in
    record {
      place = record {
        epoch_within = kept.place.epoch_within;
        places_within = kept.place.places_within;
        least = kept.place.least;
        most_within = kept.place.most_within;
        group = subst (λ (n : ℕ). IsGroup n) (sym c.in_ok-step.ensures.same.n_is) kept.place.group;
      };
      cut_is = search (
        rules,
        c.cut_at_commit-self-inside.ensures.cut,
        subst (λ (es : List Entry). IsCut e.most es e.cut) (sym before) kept.cut_is,
      );
      standing_is = kept.standing_is
          ∙ ap (λ (i : ℕ). standing_after e.past.replacements i e.token) (sym c.in_ok-step.ensures.same.id_is);
    }
