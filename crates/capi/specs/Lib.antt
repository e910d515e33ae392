pub mod Dispatcher
pub mod DispatcherRuns
pub mod Exports
pub mod Runs
