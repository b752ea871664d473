pub mod RelatedStores
pub mod PlansOverStores
pub mod MoreOverStores
