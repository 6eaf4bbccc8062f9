pub mod ClauseLaws
pub mod Drawn
pub mod FunLaws
pub mod Given
pub mod Leading
