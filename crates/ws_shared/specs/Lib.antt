pub mod Counts
pub mod Workers
pub use Rattle.ws_board.specs.Ends
pub use Rattle.ws_board.specs.Work
