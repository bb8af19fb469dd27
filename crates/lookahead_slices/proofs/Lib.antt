pub mod WriteLaws
pub mod FamilyLaws
pub mod NarrowLaws
