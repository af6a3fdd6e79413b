pub mod Passes
pub mod ServeWords
pub mod Served
pub mod Laws
pub mod NineLaws
pub mod Healthy
pub mod DiskEnds
