pub mod ByteImage
pub mod Cells
pub mod Lagging
pub mod Power
