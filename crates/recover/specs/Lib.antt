pub mod AreaDamage
pub mod Laws
pub mod Opening
pub mod Reading
