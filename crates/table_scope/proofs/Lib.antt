-- What well laid out words give of rules and names.
pub mod RuledLaw
pub mod Seen
pub mod Levels
pub mod NodeScopes
pub mod Once
pub mod LexicalLaw
