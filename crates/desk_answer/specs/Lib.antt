pub mod AnswerFile
pub mod AnswerStream
pub mod AnswerRun
