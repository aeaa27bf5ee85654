pub mod FinishLaws
pub mod RankOrder
pub mod Words
pub mod Longs
