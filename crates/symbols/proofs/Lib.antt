pub mod SymbolLaws
pub mod RoundLaws
pub mod EnumLaws
