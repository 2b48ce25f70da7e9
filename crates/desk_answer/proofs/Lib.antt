pub mod StepsInOrder
pub mod SentInOrder
pub mod DatabaseRuns
pub mod FileAfterAnswers
pub mod UnansweredPackets
pub mod EarlyEnds
