pub mod Standing
pub mod Rising
pub mod Outermost
pub mod Vacant
pub mod Tails
pub mod Landed
