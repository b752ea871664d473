mod Holding
pub mod Admitting
pub mod Refusing
pub mod Stepping
pub mod Describing
pub mod Losing
pub mod Outliving
