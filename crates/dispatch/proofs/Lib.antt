pub mod GoingOn
pub mod Making
pub mod Telling
