pub mod Admitted
pub mod Below
pub mod Cached
pub mod Layers
pub mod PartOf
pub mod StoredAll
