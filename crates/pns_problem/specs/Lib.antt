pub mod Built
pub mod Fault
pub mod Kind
pub mod Marks
pub mod Printing
pub mod Unfolded
