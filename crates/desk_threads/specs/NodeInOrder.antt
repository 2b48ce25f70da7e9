-- A node follows what it was where nothing is done, and over two parts of a time.
use Rattle.std.proofs.Common.{refl, ◌∙◌}
use Rattle.desk_log.specs.SavedValue.{committed_entries}
use Rattle.desk_log.proofs.Prefixes.{prefix_refl, prefix_trans}
use Rattle.desk_node.specs.NodeValue.{NodeValue, IsSameNode}
use Rattle.desk_threads.specs.OwnedValue.{OwnedValue}
use Rattle.desk_threads.specs.NodeReplica.{NodeFollows}

pub same_refl : (a : NodeValue) → IsSameNode a a
same_refl a = record { domain_is = refl; id_is = refl; n_is = refl }

pub same_trans : (a b c : NodeValue) → IsSameNode a b → IsSameNode b c → IsSameNode a c
same_trans a b c h k = record {
  domain_is = k.domain_is ∙ h.domain_is;
  id_is = k.id_is ∙ h.id_is;
  n_is = k.n_is ∙ h.n_is;
}

pub node_still : (k : OwnedValue) → NodeFollows k k
node_still k = (same_refl k.node, prefix_refl (committed_entries k.node.saved))

pub node_further : (old mid new : OwnedValue) → NodeFollows old mid → NodeFollows mid new → NodeFollows old new
node_further old mid new a b = (
  same_trans old.node mid.node new.node a.0 b.0,
  prefix_trans (committed_entries old.node.saved) (committed_entries mid.node.saved)
      (committed_entries new.node.saved) a.1 b.1,
)
