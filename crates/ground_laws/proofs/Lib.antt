pub mod AxisWrong
pub mod Desks
pub mod OctetsExamples
pub mod OctetsWrong
pub mod ScalesExamples
pub mod ScalesWrong
pub mod MarksWrong
pub mod AnswersWrong
