pub mod Exchanges
pub mod ServedTenants
pub mod Saying
pub mod SaidTenants
pub mod ServedApart
pub mod AskedAlike
