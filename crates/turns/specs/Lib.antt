pub mod Dispatcher
pub mod Turning
