pub mod Firsts
pub mod Lasts
