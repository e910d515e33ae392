pub mod Arriving
pub mod Beginning
pub mod Calling
pub mod StartingWhole
pub mod Turning
