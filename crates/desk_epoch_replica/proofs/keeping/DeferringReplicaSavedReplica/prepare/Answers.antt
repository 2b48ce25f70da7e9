use Rattle.std.proofs.Common.{◌≡◌, ◌∙◌, inr, refl, subst, sym}
use Rattle.desk_replica.specs.Endings.{IsEndingRefusal}
use Rattle.desk_epoch_replica.proofs.Preparations.{ends_by_fault, refused_preparation, unprepared}
use Rattle.desk_epoch_replica.proofs.keeping.DeferringReplicaSavedReplica.prepare.Goals as goal

pub returns-then-is_want_of_memory-clause-refused : goal.returns-then-is_want_of_memory-clause-refused
returns-then-is_want_of_memory-clause-refused g c =
    unprepared g.T.EpochStores.may_hold g.T.Store.StateStore c.args.self.now
    (record { replica = c.prepare_unless_replaced.new.self; deferred = c.args.self.now.deferred }) c.in-Err.refusal
    (c.in-Err.ensures.prepares, refl) (sym c.is_want_of_memory.ensures ∙ c.if-is_want_of_memory.true)

pub returns-else-is_want_of_memory-clause-refused : goal.returns-else-is_want_of_memory-clause-refused
returns-else-is_want_of_memory-clause-refused g c =
    refused_preparation g.T.EpochStores.may_hold g.T.Store.StateStore c.args.self.now
    (record { replica = c.prepare_unless_replaced.new.self; deferred = c.args.self.now.deferred })
    c.preparation_fault.result c.preparation_fault.ensures (c.in-Err.ensures.prepares, refl)
    c.in-Err.ensures.refused

pub returns-else-is_want_of_memory-clause-fault : goal.returns-else-is_want_of_memory-clause-fault
returns-else-is_want_of_memory-clause-fault g c =
    inr (subst IsEndingRefusal (sym c.preparation_fault.ensures) (ends_by_fault c.prepare_unless_replaced.new.self))
