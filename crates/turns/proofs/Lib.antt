pub mod Positions
pub mod PartLaws
pub mod DueLaws
pub mod TurnLaws
