pub mod HeadsDecide
pub mod SidesDecide
