pub mod CutLaws
pub mod HeldLaws
pub mod LineLaws
