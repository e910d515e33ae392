pub mod WeightsTable
