-- What laid out words give.
pub mod Tiles
pub mod Facts
pub mod PartLaws
pub mod Tilings
pub mod RuleLaws
pub mod Owners
pub mod StaticLaw
pub mod Binding
pub mod Agreement
pub mod NodeFacts
pub mod Inside
