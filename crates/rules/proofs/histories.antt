-- Machines and histories, which know no module.
pub mod Joining
pub mod Swapping
-- The cabinet's histories.
pub mod Places
pub mod Struck
pub mod KindOf
pub mod Gate
pub mod Swap
pub mod Inside
pub mod Moved
pub mod Unbroken
pub mod Honest
pub mod Order
pub mod Turn
pub mod Again
pub mod Pieces
pub mod Stage
pub mod Due
pub mod Waits
-- Demand 3.
pub mod Demand3
