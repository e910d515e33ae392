pub mod DivisionSteps
pub mod GeneratorBuilding
pub mod GeneratorOnly
