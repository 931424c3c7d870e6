mod Counted
mod Sames
mod Turns
mod Widened
