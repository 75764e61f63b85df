pub mod Judgement
pub mod Judged
pub mod JudgementLaws
pub mod NoMoves
pub mod JudgedLaws
pub mod Fronts
