pub mod Regions
pub mod Laws
