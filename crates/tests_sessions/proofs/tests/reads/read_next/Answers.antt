use Rattle.tests_sessions.proofs.Noted.{noted_before}
use Rattle.tests_sessions.proofs.tests.reads.read_next.Goals as goal

pub publish_after-writer-requires-clause-noted : goal.publish_after-writer-requires-clause-noted
publish_after-writer-requires-clause-noted g c = noted_before _ _ _ c.noted_len-noted.ensures
