pub mod Blank
pub mod Small
pub mod Filling
pub mod Times
pub mod Grants
pub mod Releases
pub mod Serving
