-- Why what is made of a play's end is its final heap.
pub mod Loops
pub mod Closing
pub mod Objects
pub mod Reached
pub mod Told
pub mod Legal
pub mod Made
pub mod One
pub mod Referring
