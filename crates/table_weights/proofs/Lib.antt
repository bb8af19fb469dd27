-- Laws of weight and room.
pub mod Parts
pub mod SweepLaws
pub mod Totals
pub mod Depths
pub mod Children
pub mod Congruence
pub mod Settling
pub mod Heights
pub mod Rooms
pub mod Theorems
pub mod Sample
