use Rattle.std.proofs.Common.{[], ◌∙◌, append-nil, ap, sym, inl}
use Rattle.desk_published.proofs.PrefixEquations.{is_prefix}
use Rattle.desk_published.specs.Writer.{published}
use Rattle.desk_threads.proofs.keeper.Keeper.handle.Goals as goal

pub returns-then-self-clause-shown : goal.returns-then-self-clause-shown
returns-then-self-clause-shown g c = is_prefix _ _ c.refuse-keeper.result.shown

pub returns-then-self-clause-grows : goal.returns-then-self-clause-grows
returns-then-self-clause-grows g c = (
  [],
  append-nil (published c.args.self.writer.inner)
      ∙ ap (λ (p : _). published p.inner) (sym c.refuse-keeper.ensures.writer),
)

pub returns-then-self-clause-same : goal.returns-then-self-clause-same
returns-then-self-clause-same g c = (
  c.args.self.replica,
  g.met.R.SavedReplica.followed_on c.args.self.replica c.args.self.replica
      (g.met.R.Replica.follows_still c.args.self.replica),
  inl c.refuse-keeper.ensures.replica,
)
