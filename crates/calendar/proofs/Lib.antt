pub mod Whole
pub mod Shift
pub mod Bits
pub mod Unit
pub mod EntryLaws
pub mod OtherKinds
pub mod Theorems
pub mod Examples
