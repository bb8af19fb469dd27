-- The form of rules said of the syntax tree. Classified: tokens as terminals. Rests, Words, Parts, Leading: what a token leads back to. Reading, Skips, Traced,
-- Told: a tree's spelling is read as that tree. Right, Ahead, Places: the claims, in Formed.
pub mod Classified
pub mod Rests
pub mod Words
pub mod Parts
pub mod Leading
pub mod Reading
pub mod Skips
pub mod Traced
pub mod Told
pub mod Right
pub mod Ahead
pub mod Places
pub mod Formed
pub mod Examples
