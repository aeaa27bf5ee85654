pub mod SoundParts
pub mod DefaultLaws
