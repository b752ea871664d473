pub mod RelatedStores
pub mod StoresApart
pub mod PlansOverStores
pub mod MoreOverStores
