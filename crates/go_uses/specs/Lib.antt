pub mod Uses
pub mod Views
