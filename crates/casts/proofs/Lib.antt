pub mod CastLaws
pub mod FloatLaws
