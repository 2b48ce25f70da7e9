use Rattle.std.proofs.Common.{◌≡◌, ◌∙◌, ap, sym, subst, false}
use Rattle.desk_node.specs.NodeValue.{NodeValue}
use Rattle.desk_threads.proofs.SavedTurns.{known_stands}
use Rattle.desk_threads.proofs.saved_node.SavedNodeSavedReplica.save.Goals as goal

pub save_state-requires-clause-running : goal.save_state-requires-clause-running
save_state-requires-clause-running g c =
    subst (λ s. g.S.StateStore.stopped s ≡ false) (sym c.requires.2.1) c.requires.1.1

pub save_state-requires-clause-within : goal.save_state-requires-clause-within
save_state-requires-clause-within g c =
    (known_stands c.args.known c.requires.0.owned.node.saved c.args.self.now.owned.node.saved
    (g.S.StateStore.last c.args.self.now.store) c.saved.result.now
    (ap g.S.StateStore.last c.requires.2.1 ∙ c.requires.1.0)
    (c.saved.ensures ∙ ap (λ (n : NodeValue). n.saved) c.node.ensures) c.requires.3 c.requires.2.0.1).0

pub save_state-requires-clause-same : goal.save_state-requires-clause-same
save_state-requires-clause-same g c =
    (known_stands c.args.known c.requires.0.owned.node.saved c.args.self.now.owned.node.saved
    (g.S.StateStore.last c.args.self.now.store) c.saved.result.now
    (ap g.S.StateStore.last c.requires.2.1 ∙ c.requires.1.0)
    (c.saved.ensures ∙ ap (λ (n : NodeValue). n.saved) c.node.ensures) c.requires.3 c.requires.2.0.1).1
