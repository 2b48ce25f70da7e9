use Rattle.std.proofs.Common.{List, subst, append-nil, [], ap, arith, length}
use Rattle.desk_types.specs.declared.command.Entry.{Entry}
use Rattle.desk_published.specs.Writer.{EqualsPrefix, published}
use Rattle.desk_published.proofs.PrefixEquations.{is_front, length_followed}
use Rattle.desk_replica.specs.Saving.{after_base}
use Rattle.desk_threads.proofs.opening.open_replica.Goals as goal

pub invariant_of-keeper : goal.invariant_of-keeper
invariant_of-keeper g c =
    let s = g.R.SavedReplica.saving in
    let shown = published c.args.writer.inner in
    record {
      past_noted = c.requires.noted.past_noted;
      past_shown = omega (
        arith,
        ap length c.requires.whole,
        length_followed (s.base c.args.replica) c.args.writer.noted (after_base s c.args.replica)
            c.requires.noted.past_noted,
      );
      past_is = c.requires.noted.past_is;
      next = c.requires.noted.next;
      noted = c.requires.noted.begins;
      held = c.requires.held;
      shown = subst (λ (w : List Entry). EqualsPrefix shown w) c.requires.whole
          (is_front shown shown ([], append-nil shown));
      domain_is = c.requires.domain;
      last = λ _. c.requires.saved;
      whole = λ _ _. c.requires.whole;
      partial = λ _ is. absurd (let none : ⊥ = cc is in none);
    }
