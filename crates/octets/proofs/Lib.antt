pub mod ContentLaws
pub mod DecimalLaws
