pub mod Arriving
pub mod Beginning
